use Rattle.clip_run.specs.Due.{due_to}
use Rattle.clip_run.proofs.Sharing.{gives_found}
use Rattle.clip_run.proofs.giver.Giver.give.Goals as goal

pub returns-in-Some-clause-gives : goal.returns-in-Some-clause-gives
returns-in-Some-clause-gives g c =
    let turn = c.args.turn.now in
    let due = rw c.in-Some.is at c.requires.turn.due in
    gives_found c.args.self.now.books.settings (due_to turn.batch.now) turn.article _ _ _ _ due c.add.ensures.gives
