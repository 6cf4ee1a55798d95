use Rattle.std.proofs.Common.{map, sym, ap, ◌∙◌}
use Rattle.clip_grammar.specs.Tree.{Tree, clauses_of}
use Rattle.clip_syntax.specs.Steps.Building.{State, state_of}
use Rattle.clip_syntax.specs.Steps.TokenOf.{token_of}
use Rattle.clip_syntax.proofs.Growing.{grown, read_end}
use Rattle.clip_syntax.proofs.build.build.Goals as goal

pub returns : goal.returns
returns c = λ w e.
    let builder = c.loop-token.builder in
    c.into_query.ensures
    ∙ ap (λ (s : State). Tree.Group (clauses_of s.group.clauses))
    (sym (read_end c.loop-token.rest.now (state_of builder) c.in_default.ensures.cases) ∙ c.loop-token.invariant)
    ∙ grown w (map token_of c.args.tokens.now) e
