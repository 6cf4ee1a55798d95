use Rattle.std.proofs.Common.{◌≡◌, map, length}
use Rattle.clip_syntax.specs.Steps.Building.{read_all, start, state_of}
use Rattle.clip_syntax.specs.Steps.Items.{items_words}
use Rattle.clip_syntax.specs.Steps.TokenOf.{token_of}
use Rattle.clip_syntax.proofs.build.build.Given as goal

abbrev pub invariant-loop-token : goal.invariant-loop-token
invariant-loop-token l =
    read_all (map token_of l.rest) (state_of l.builder)
    ≡ read_all (map token_of l.tokens) (start (items_words (map token_of l.tokens)))

abbrev pub decreases-loop-token : goal.decreases-loop-token
decreases-loop-token l = length l.rest
