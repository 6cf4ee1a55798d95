use Rattle.std.proofs.Common.{◌≡◌, ◌≤◌, map, max, drop}
use Rattle.clip_syntax.specs.Steps.Sizes.{most_open}
use Rattle.clip_syntax.specs.Steps.TokenOf.{token_of}
use Rattle.clip_syntax.proofs.size.most_open.Given as goal

abbrev pub invariant-loop-token : goal.invariant-loop-token
invariant-loop-token l =
    (max l.most (most_open (map token_of (drop l.token-index l.tokens)) l.open) ≡ most_open (map token_of l.tokens) 0)
    × (l.open ≤ l.most) × (l.open ≤ l.token-index)
