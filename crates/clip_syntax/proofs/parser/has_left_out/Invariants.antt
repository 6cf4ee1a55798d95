use Rattle.std.proofs.Common.{◌≡◌, false, length, map}
use Rattle.clip_grammar.specs.Steps.LeftOut.{leaves_out}
use Rattle.clip_syntax.specs.Steps.TokenOf.{token_of}
use Rattle.clip_syntax.proofs.parser.has_left_out.Given as goal

abbrev pub invariant-loop-token : goal.invariant-loop-token
invariant-loop-token l = leaves_out l.after_star l.after_star_colon (map token_of l.rest)
    ≡ leaves_out false false (map token_of l.tokens)

abbrev pub decreases-loop-token : goal.decreases-loop-token
decreases-loop-token l = length l.rest
