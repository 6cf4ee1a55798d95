use Rattle.std.proofs.Common.{◌≡◌, ℕ, ◌<◌, List, length, map, flat_map, take}
use Rattle.clip_extract.specs.Keys.{KeyValue}
use Rattle.clip_terms.specs.Terms.{term_at}
use Rattle.clip_segment.specs.Steps.Parts.{taken}
use Rattle.clip_segment.proofs.index_selecting.taken_lists.Given as goal

abbrev pub invariant-loop-number : goal.invariant-loop-number
invariant-loop-number l =
    (under : KeyValue → List ℕ)
    → ((n : ℕ) → n < length l.terms → flat_map (taken l.second n) l.sources ≡ under (term_at l.terms n))
    → l.lists ≡ map under (take l.number l.terms)
