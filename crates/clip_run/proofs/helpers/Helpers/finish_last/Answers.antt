use Rattle.std.proofs.lemmas.List.Elements.{All-pop}
use Rattle.std.specs.Prelude.{Some, None}
use Rattle.clip_run.specs.Due.{IsAskedFor}
use Rattle.clip_run.proofs.helpers.Helpers.finish_last.Goals as goal

pub returns-in_default : goal.returns-in_default
returns-in_default g c =
    λ settings items asked due. (
      (All-pop (IsAskedFor settings items) c.args.helpers.now.items c.pop.new.self.items None c.in_default.ensures.items
          asked).0,
      due,
    )

pub returns : goal.returns
returns g c =
    λ settings items asked due.
    let popped = All-pop (IsAskedFor settings items) c.args.helpers.now.items c.pop.new.self.items
    (Some c.in-Some.helper) c.in-Some.ensures.items asked in
    (popped.0, c.finish.ensures settings items popped.1 due)
