use Rattle.std.proofs.Common.{false, sym, ap, ◌∙◌}
use Rattle.clip_grammar.specs.Tree.{tree_of}
use Rattle.clip_grammar.proofs.Trees.{tree_of_group}
use Rattle.clip_explain.specs.Certain.{holds_in}
use Rattle.clip_explain.proofs.Groups.{group_from, verdicts_of, group_start}
use Rattle.clip_explain.proofs.certain.+holds_in.Goals as goal

pub loop-occur-init : goal.loop-occur-init
loop-occur-init t c =
    let best = c.args.best in
    ap (λ x. group_from false (verdicts_of best x)) c.deref-occur-items.ensures.value
    ∙ group_start c.in-Group.clauses.items best
    ∙ ap (λ q. holds_in q best) (sym (tree_of_group c.in-Group.clauses))
    ∙ ap (λ q. holds_in (tree_of q) best) (sym c.in-Group.is)
