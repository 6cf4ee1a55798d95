use mathlib.Core.List.{[], ◌∷◌}
use lib.Chars.{codes}
use mir.Syntax.{Sym, named}
use Rattle.std.proofs.Common.{rules}
use denote.RattleType.{RattleType}
use denote.Exit.{no}
use denote.Param.Send.{IsSend, IsSync, param_send, param_sync, arg_send, shr_send, shr_slice_send, sendable}
use denote.Param.SendFields.{declared_send, as_row_send}
use denote.Struct.Field.{row_field, shr_ref_field, shr_slice_field}
use denote.Param.{param}
use denote.Struct.Tuple.{TupleAt, type_at}
use Rattle.std.specs.contracts.alloc.Global as global
use Rattle.std.specs.contracts.impls.GlobalAllocator.TheImpl as global_allocator
use Rattle.std.proofs.alloc.Global.TheSendSync as global_sent
use Rattle.std.below.std_heap.proofs.GlobalAllocator.TheSendSync as allocator_sent
use Rattle.std.proofs.result.Result.TheSendSync as result_sent
use Rattle.std.proofs.vec.Vec.TheSendSync as vec_sent
use Rattle.clip_words.proofs.NoMemory.TheSendSync as no_memory_sent
use Rattle.clip_standing.specs.contracts.alert.Alerts as alerts
use Rattle.clip_meaning.specs.contracts.article.Article as article
use Rattle.clip_meaning.proofs.article.Article.TheSendSync as article_sent
use Rattle.clip_standing.proofs.Sent.{alerts_send}
use Rattle.clip_match.specs.contracts.pieces.Pieces as pieces
use Rattle.clip_match.proofs.Sent.{view_row, view_sync}
use Rattle.clip_match.proofs.pieces.+pieces.Goals as goal

-- a closure of six captures
captures_send : (name : Sym) (A B C D E F : RattleType) → IsSend A → IsSend B → IsSend C → IsSend D → IsSend E
    → IsSend F → IsSend (TupleAt name (A ∷ B ∷ C ∷ D ∷ E ∷ F ∷ []))
captures_send name A B C D E F a b c d e f =
    declared_send (type_at name (A ∷ B ∷ C ∷ D ∷ E ∷ F ∷ [])) (
      as_row_send (row_field A) a,
      (
        as_row_send (row_field B) b,
        (
          as_row_send (row_field C) c,
          (as_row_send (row_field D) d, (as_row_send (row_field E) e, (as_row_send (row_field F) f, tt))),
        ),
      ),
    )

pieces_send : IsSend pieces.the_row
pieces_send = declared_send pieces.the_type (search sendable, (search sendable, (search sendable, tt)))

pub join-first-requires-send-F : goal.join-first-requires-send-F
join-first-requires-send-F g t c κs within =
    let r : IsSync g.row.R = search rules in
    let s : IsSync g.row.G = search rules in
    let rt = (shr_ref_field (record { mir = named 6; lft = κs.1.1.1.1.1.1.0 }) (param 0 g.row.R) tt).row in
    let looked = (shr_ref_field (record { mir = named 7; lft = κs.1.1.1.1.1.1.1.0 }) view_row tt).row in
    let front = (shr_slice_field (record { mir = named 8; lft = κs.1.1.1.1.1.1.1.1.0 }) article.the_row tt).row in
    let gate = (shr_ref_field (record { mir = named 9; lft = κs.1.1.1.1.1.1.1.1.1.0 }) (param 1 g.row.G) tt).row in
    let captured = rt ∷ global.the_row ∷ looked ∷ front ∷ pieces.the_row ∷ gate ∷ [] in
    let name = codes "clip_match::pieces::fn::match_from::join+arg2+Self" in
    param_send 1 _ (arg_send _ no (TupleAt name captured)
    (captures_send name rt global.the_row looked front pieces.the_row gate
    (shr_send _ _ _ (param_sync 0 _ r)) global_sent.the_send (shr_send _ _ _ view_sync)
    (shr_slice_send _ _ _ article_sent.the_sync)
    pieces_send (shr_send _ _ _ (param_sync 1 _ s))))

pub join-first-requires-send-A : goal.join-first-requires-send-A
join-first-requires-send-A g t c κs within =
    let found = vec_sent.the_send alerts.the_row global.the_row global_allocator.ghosts alerts_send
    global_sent.the_send allocator_sent.the_frees in
    param_send 3 _ (arg_send _ no _ (result_sent.the_send _ _ found no_memory_sent.the_send))
