use Rattle.std.proofs.Common.{◌+◌, [], drop, sym, ap, ◌∙◌}
use Rattle.clip_grammar.specs.Tree.{tree_of}
use Rattle.clip_extract.specs.Extraction.{Extracted, extract}
use Rattle.clip_extract.specs.Steps.Groups.{group_from, next_found}
use Rattle.clip_extract.specs.declared.extraction.FoundInGroup.TheVariants.{Nothing}
use Rattle.clip_extract.proofs.Groups.{extracts_of, group_start, extract_group, skipped, next_extract, next_weight}
use Rattle.clip_extract.proofs.extraction.+weight.Goals as goal

pub loop-occur-init : goal.loop-occur-init
loop-occur-init t c =
    ap (λ (e : Extracted). e.weight)
    (ap (λ cs. group_from Nothing [] (extracts_of cs)) c.deref-occur-items.ensures.value
    ∙ group_start [] (extracts_of c.in-Group.clauses.items)
    ∙ sym (extract_group c.in-Group.clauses) ∙ ap (λ q. extract (tree_of q)) (sym c.in-Group.is))

pub loop-occur-preserved-then-not-counts : goal.loop-occur-preserved-then-not-counts
loop-occur-preserved-then-not-counts t c =
    let cs = c.deref-occur-items.result.now in
    let i = c.loop-occur-item.result in
    let rest = extracts_of (drop (c.loop-occur.occur-index + 1) cs) in
    ap (λ (e : Extracted). e.weight)
    (sym (skipped c.loop-occur.found i.0 [] (extract (tree_of i.1)) rest (sym c.if-not-counts.ensures))
    ∙ ap (group_from c.loop-occur.found [])
    (sym (next_extract cs c.loop-occur.occur-index i c.loop-occur-test.true c.loop-occur-item.is)))
    ∙ c.loop-occur.invariant

pub loop-occur-preserved : goal.loop-occur-preserved
loop-occur-preserved t c =
    let cs = c.deref-occur-items.result.now in
    let i = c.loop-occur-item.result in
    let found = c.loop-occur.found in
    let rest = extracts_of (drop (c.loop-occur.occur-index + 1) cs) in
    ap (λ f. (group_from f [] rest).weight) (c.next_found-found.ensures ∙ ap (next_found found i.0) c.weight.ensures)
    ∙ sym (next_weight found i.0 (extract (tree_of i.1)) [] [] rest (sym c.if-not-counts.ensures))
    ∙ ap (λ cs. (group_from found [] cs).weight)
    (sym (next_extract cs c.loop-occur.occur-index i c.loop-occur-test.true c.loop-occur-item.is))
    ∙ c.loop-occur.invariant
