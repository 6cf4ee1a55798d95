use Rattle.clip_run.specs.Due.{AreDue}
use Rattle.clip_run.proofs.group.Group.take_articles.Given as goal

abbrev pub invariant-loop : goal.invariant-loop
invariant-loop g l = AreDue l.self.settings l.self.items.items l.answers.items
