use Rattle.std.proofs.Common.{◌∙◌, ap}
use Rattle.std.specs.List.{flat_map}
use Rattle.clip_grammar.specs.Tree.{tree_of}
use Rattle.clip_meaning.specs.Hits.{hits, hits_in}
use Rattle.clip_meaning.proofs.Marks.{fields_end}
use Rattle.clip_meaning.proofs.hit.hits.Goals as goal

pub returns : goal.returns
unfolding hits
returns c =
    let by_field = hits_in (tree_of c.args.query.now) in
    fields_end by_field c.fields-field-items.result.now c.loop-field.field-index _ _ c.loop-field-test.false
    c.loop-field.invariant ∙ ap (flat_map by_field) c.fields-field-items.ensures
