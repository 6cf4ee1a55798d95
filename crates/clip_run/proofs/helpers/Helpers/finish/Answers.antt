use Rattle.std.specs.Prelude.{is_ok}
use Rattle.clip_run.proofs.Sharing.{adds_due, asked_due}
use Rattle.clip_run.proofs.helpers.Helpers.finish.Goals as goal

pub returns : goal.returns
returns g c =
    λ settings items asked due.
    adds_due settings items c.args.answers.now.items c.append.new.self.items c.join-helped.result.answers.items
    (is_ok c.append.result) c.append.ensures.items due
    (asked_due c.args.helper settings items c.join-helped.result.answers.items asked c.join-helped.ensures)
