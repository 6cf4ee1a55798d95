use Rattle.std.proofs.Common.{List, map, vec_items, is_some, sym, ap, ◌∙◌, subst}
use Rattle.std.specs.List.{AllZip}
use Rattle.clip_grammar.specs.Tree.{Tree}
use Rattle.clip_indexed.specs.Selecting.{kept_of}
use Rattle.clip_model.specs.History.{Registered}
use Rattle.clip_segment.specs.Index.{IsIndexOf}
use Rattle.clip_segment.specs.Segment.{trees_of}
use Rattle.clip_segment.proofs.Selected.{flags_of_trees, heard_of_all, ids_of_all, kept_map, queries_of_all}
use Rattle.clip_segment.proofs.labelled_index.LabelledIndexIndex.select.Goals as goal

pub returns : goal.returns
returns c = λ lists are flags_are.
    let sources = c.args.sources.now in
    let flags = map vec_items c.args.kept.now in
    record {
      ids = c.in_ok-kept.ensures.ids ∙ ap (λ ls. kept_of ls flags) (ids_of_all (λ s. s.now) lists sources are)
          ∙ kept_map (λ (r : Registered). r.standing.id) lists flags;
      heard = c.in_ok-kept.ensures.heard ∙ ap (λ ls. kept_of ls flags) (heard_of_all (λ s. s.now) lists sources are)
          ∙ kept_map (λ (r : Registered). is_some r.standing.listener) lists flags;
      queries =
          subst (λ (ts : List Tree). IsIndexOf ts c.in_ok-select.field-0)
          (kept_map (λ (r : Registered). r.standing.tree) lists flags)
          (c.in_ok-select.ensures (map trees_of lists)
          (subst (AllZip IsIndexOf (map trees_of lists)) (sym (ap (map (λ i. i.now)) c.deref.ensures.value
          ∙ c.in_ok-indexes.ensures))
          (queries_of_all (λ s. s.now) lists sources are))
          (flags_of_trees lists flags flags_are));
    }
