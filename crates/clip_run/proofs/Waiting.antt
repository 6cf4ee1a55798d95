-- How many batches wait among what is owed.
use Rattle.std.proofs.Common.{◌≡◌, ℕ, ◌+◌, ◌≤◌, List, [], ◌∷◌, ◌++◌, map, ap, ◌∙◌, arith}
use Rattle.std.proofs.lemmas.List.{map-append}
use Rattle.clip_run.specs.Owed.{Owed, ready, matched, batches_owed}
use Rattle.clip_run.specs.Pending.{owed_by}
use Rattle.clip_run.specs.declared.batch.Pending.{Pending}

batches_last : (owed : List Owed) (o : Owed)
    → batches_owed (owed ++ o ∷ []) ≡ batches_owed owed + batches_owed (o ∷ [])
batches_last [] o = omega arith
batches_last (ready text ∷ owed) o = batches_last owed o
batches_last (matched n h articles ∷ owed) o = omega (arith, batches_last owed o)

-- One line more adds what it owes.
pub counted_last : (items new : List Pending) (item : Pending) (waiting : ℕ) → new ≡ items ++ item ∷ []
    → batches_owed (map owed_by items) ≤ waiting
    → batches_owed (map owed_by new) ≤ waiting + batches_owed (owed_by item ∷ [])
counted_last items new item waiting is few =
    let same : batches_owed (map owed_by new)
    ≡ batches_owed (map owed_by items) + batches_owed (owed_by item ∷ []) =
    ap (λ ps. batches_owed (map owed_by ps)) is
    ∙ ap batches_owed (map-append owed_by items (item ∷ [])) ∙ batches_last (map owed_by items) (owed_by item) in
    omega (arith, same, few)
