-- A slot owns its room, which names no thread, or what lies there, which may go from thread to thread.
use Rattle.std.proofs.Common.{Option, Some, None}
use base.Fraction.{full_share}
use base.Shift.{Keyless}
use denote.Exit.{Exit, unchanged, leaves, hidden, under}
use denote.Param.Send.{IsSend, AllSend, Quiet, owning_send, struct_send, part_keyless, sendable}
use denote.RawPtr.{Ptr, block_ptr, null_ptr}
use denote.Struct.Owning.{shape, fields, to}
use denote.Struct.Struct.{exits_of}
use Rattle.clip_engine.specs.Slot.{lies_in}
use Rattle.clip_engine.specs.contracts.kept.Kept as kept
use Rattle.clip_engine.proofs.Sent.{kept_send}
use Rattle.clip_engine.specs.contracts.slot.Slot.{the_row, the_type}

there : (at : Ptr) (m : Option kept.the_row.Denot) → Keyless (lies_in at m)
there (block_ptr b o) None = tt
there (block_ptr b o) (Some k) = part_keyless kept.the_row kept_send full_share k b o
there null_ptr None = tt
there null_ptr (Some k) = tt

still : {A B : Type 0} (f : A → B) (e : Exit B) → Quiet e → Quiet (hidden (under f e))
still f unchanged q = λ a w. tt
still f (leaves L l S s r) q = λ a. q (f a)

pub send : IsSend the_row
send =
    let all : AllSend (fields the_type) = (search sendable, tt) in
    owning_send the_type all (λ s. there s.at s.kept)
    (λ k. still (to the_type) (exits_of k (fields the_type)) ((struct_send (shape the_type) all).leaving k))
