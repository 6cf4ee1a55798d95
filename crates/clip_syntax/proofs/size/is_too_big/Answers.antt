use Rattle.std.proofs.Common.{inl, inr, arith}
use Rattle.std.proofs.lemmas.Bool.{ltb-true, lt-ltb}
use Rattle.clip_grammar.specs.declared.limits.TheConstants.{MOST_OPEN}
use Rattle.clip_syntax.specs.Steps.TokenOf.{token_of}
use Rattle.clip_syntax.proofs.Sizing.{written_nodes, written_depth}
use Rattle.clip_syntax.proofs.size.is_too_big.Goals as goal

pub returns-then-node_count-gt-MOST_NODES : goal.returns-then-node_count-gt-MOST_NODES
returns-then-node_count-gt-MOST_NODES c = λ w e.
    let nodes = written_nodes w token_of c.args.tokens.now e in
    (λ _. inl (omega arith), λ _. lt-ltb _ _ c.if-node_count-gt-MOST_NODES.true)

pub returns-else-node_count-gt-MOST_NODES : goal.returns-else-node_count-gt-MOST_NODES
returns-else-node_count-gt-MOST_NODES c = λ w e.
    let nodes = written_nodes w token_of c.args.tokens.now e in
    let depth = written_depth w _ e in (
      λ deep. inr (omega (arith, ltb-true MOST_OPEN c.most_open.result deep)),
      λ big. lt-ltb MOST_OPEN c.most_open.result (elim big [
        | inl many ↦ absurd (omega arith)
        | inr deep ↦
            omega arith
      ]),
    )
