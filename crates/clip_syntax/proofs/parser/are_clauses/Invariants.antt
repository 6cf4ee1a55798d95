use Rattle.std.proofs.Common.{◌≡◌, ◌+◌, ◌≤◌, map, zero, false, length}
use Rattle.clip_grammar.specs.Steps.Parser.{accepts}
use Rattle.clip_syntax.specs.Steps.TokenOf.{token_of}
use Rattle.clip_grammar.specs.declared.stage.Stage.TheVariants.{Fresh}
use Rattle.clip_syntax.proofs.parser.are_clauses.Given as goal

abbrev pub invariant-loop-token : goal.invariant-loop-token
invariant-loop-token l =
    (accepts (map token_of l.rest) l.progress.depth l.progress.may_end l.progress.stage
    ≡ accepts (map token_of l.tokens) zero false Fresh)
    × (l.progress.depth + length l.rest ≤ length l.tokens)

abbrev pub decreases-loop-token : goal.decreases-loop-token
decreases-loop-token l = length l.rest
