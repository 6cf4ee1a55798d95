-- The entries of segments one after another.
use Rattle.std.proofs.Common.{◌≡◌, List, [], ◌∷◌, ◌++◌, refl, sym, ap, ◌∙◌, append_assoc}
use Rattle.clip_model.specs.History.{Registered}
use Rattle.clip_indexed.specs.Segment.{all_entries}

pub all_entries-append : (segments others : List (List Registered)) → all_entries (segments ++ others)
    ≡ all_entries segments ++ all_entries others
all_entries-append [] others = refl
all_entries-append (segment ∷ segments) others = ap (λ es. segment ++ es) (all_entries-append segments others)
    ∙ sym (append_assoc segment (all_entries segments) (all_entries others))
