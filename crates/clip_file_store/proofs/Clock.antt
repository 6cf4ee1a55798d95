-- What a stop may leave behind a call.
use Rattle.std.proofs.Common.{◌≡◌, ◌⊎◌, inl, inr, ℕ, ◌+◌, ◌-◌, ◌≤◌, List, [], ◌++◌, length, take, sym, ap}
use Rattle.std.proofs.Common.{◌∙◌, arith, append_assoc, append-nil, Some, None}
use Rattle.std.proofs.lemmas.Bool.{cases_lt}
use Rattle.std.proofs.lemmas.List.{take_all, take-append-le}
use Rattle.std.proofs.Math.Seq.{take-append-add, take-nil}
use Rattle.clip_journal.specs.Stop.{IsLeft}
use Rattle.clip_file_store.specs.Calls.{Content, MayLeave, all_of}

pub left_behind : (there more bytes left : List ℕ) → IsLeft there (more ++ bytes) left
    → IsLeft there more left ⊎ IsLeft (there ++ more) bytes left
left_behind there more bytes left l = elim (cases_lt l.0 (length more)) [
  | inl short ↦ inl (l.0, l.1 ∙ ap (λ x. there ++ x) (take-append-le l.0 more bytes (omega (arith, short))))
  | inr long ↦ inr (
    l.0 - length more,
    l.1 ∙ ap (λ k. there ++ take k (more ++ bytes)) (rest_of long)
        ∙ ap (λ x. there ++ x) (take-append-add more bytes (l.0 - length more))
        ∙ sym (append_assoc there more (take (l.0 - length more) bytes)),
  )
]
  where
    rest_of : length more ≤ l.0 → l.0 ≡ length more + (l.0 - length more)
    rest_of long = omega (arith, long)

-- bytes were added, or a front of them
pub left_added : (c : Content) (bytes left : List ℕ) → MayLeave (record c { added = c.added ++ bytes }) left
    → MayLeave c left ⊎ IsLeft (all_of c) bytes left
left_added c bytes left (inl l) = elim (left_behind c.synced c.added bytes left l) [
  | inl before ↦ inl (inl before)
  | inr behind ↦ inr behind
]
left_added c bytes left (inr other) = inl (inr other)

-- only what is there
pub left_whole : (bytes left : List ℕ) → MayLeave (record { synced = bytes; added = []; other = None }) left
    → left ≡ bytes
left_whole bytes left (inl l) = l.1 ∙ ap (λ x. bytes ++ x) (take-nil l.0) ∙ append-nil bytes
left_whole bytes left (inr other) = absurd (none_some other)
  where
    none_some : None ≡ Some left → ⊥
    none_some e = cc

-- all that was added is one of its fronts
pub left_all : (c : Content) (left : List ℕ) → left ≡ all_of c → MayLeave c left
left_all c left e = inl (
  length c.added,
  e ∙ ap (λ x. c.synced ++ x) (sym (take_all (length c.added) c.added (omega arith))),
)
