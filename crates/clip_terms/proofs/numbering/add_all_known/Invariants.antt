use Rattle.std.proofs.Common.{◌≡◌, ◌++◌, drop}
use Rattle.clip_terms.specs.Steps.Numbers.{known}
use Rattle.clip_terms.proofs.numbering.add_all_known.Given as goal

abbrev pub invariant-loop-number : goal.invariant-loop-number
invariant-loop-number l = l.numbers.items ++ known (drop l.number-index l.by_key)
    ≡ l.fn.numbers.items ++ known l.by_key
