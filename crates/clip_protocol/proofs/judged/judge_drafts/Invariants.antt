use Rattle.std.proofs.Common.{◌≡◌, ◌++◌, map}
use Rattle.std.specs.List.{list_all}
use Rattle.std.specs.Vec.Iter.{into_iter_items}
use Rattle.clip_meaning.specs.Article.{may_be}
use Rattle.clip_protocol.specs.LineMeaning.{article_of}
use Rattle.clip_protocol.specs.Steps.Views.{draft_view}
use Rattle.clip_protocol.proofs.judged.judge_drafts.Given as goal

abbrev pub invariant-loop-draft : goal.invariant-loop-draft
invariant-loop-draft l = record {
  fits : list_all (λ d. may_be d.id d.fields) (map draft_view (into_iter_items l.draft-iterator))
      ≡ list_all (λ d. may_be d.id d.fields) (map draft_view l.fn.drafts.items);
  made : l.all.items ++ map article_of (map draft_view (into_iter_items l.draft-iterator))
      ≡ map article_of (map draft_view l.fn.drafts.items);
}
