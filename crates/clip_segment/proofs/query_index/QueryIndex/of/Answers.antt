use Rattle.std.proofs.Common.{List, map, vec_items, ap, ◌∙◌, subst, rules, arith}
use Rattle.std.proofs.lemmas.List.{length-map}
use Rattle.std.proofs.lemmas.Result.{IfOk-weaker}
use Rattle.clip_grammar.specs.Tree.{Tree, tree_of}
use Rattle.clip_segment.specs.Steps.Parts.{AreListsOf}
use Rattle.clip_segment.proofs.query_index.QueryIndex.of.Goals as goal

pub returns : goal.returns
returns c =
    let trees = map tree_of c.args.queries.now in
    let placed : AreListsOf c.in_ok-terms.terms trees c.in_ok-lists.lists =
    subst (λ (ts : List Tree). AreListsOf c.in_ok-terms.terms ts c.in_ok-lists.lists)
    (ap (map (λ k. tree_of k.query.now)) c.deref-2.ensures.value ∙ c.in_ok-keyed.ensures) c.in_ok-lists.ensures in
    IfOk-weaker c.made_index.result _ _ (λ index made.
    made trees (omega (arith, c.requires, length-map c.args.queries.now tree_of)) (search rules)
    (record {
      positions = c.in_ok-positions.ensures ∙ ap (map vec_items) c.deref-4.ensures.value ∙ placed.positions;
      seconds = c.in_ok-seconds.ensures ∙ ap (map vec_items) c.deref-5.ensures.value ∙ placed.seconds;
      planned = search rules;
    }))
    c.made_index.ensures
