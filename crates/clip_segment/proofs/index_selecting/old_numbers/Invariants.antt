use Rattle.std.proofs.Common.{◌≡◌, map, take}
use Rattle.std.specs.List.Sorted.{IsStrictlySortedBy}
use Rattle.clip_extract.specs.Keys.{key_cmp}
use Rattle.clip_terms.specs.Terms.{number_of}
use Rattle.clip_segment.proofs.index_selecting.old_numbers.Given as goal

abbrev pub invariant-loop-place : goal.invariant-loop-place
invariant-loop-place l = IsStrictlySortedBy key_cmp l.olds → l.old.items ≡ map (number_of (take l.place l.olds)) l.terms
