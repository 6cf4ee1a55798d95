use Rattle.std.proofs.Common.{◌≡◌}
use Rattle.clip_protocol.specs.Steps.Putting.{stand}
use Rattle.clip_run.specs.Due.{KeepsDue, due_to}
use Rattle.clip_front.specs.Giving.{giving, unbegun}
use Rattle.clip_front.proofs.Giving.{HasGiven}
use Rattle.clip_run.proofs.giver.Giver.settle_batch.Given as goal

-- the first articles were given
abbrev pub invariant-loop-article : goal.invariant-loop-article
invariant-loop-article g l =
    let hearers = g.A.Audience.hearers in
    let at = stand g.W.Sink.taken g.W.Sink.has_failed in
    record {
      same_reference : l.flow.writer.ghost_name ≡ l.fn.flow.writer.ghost_name;
      well : g.W.Sink.has_failed l.flow.writer.now ≡ g.W.Sink.has_failed l.fn.flow.writer.now;
      given : HasGiven
          (unbegun (hearers l.fn.audience) l.fn.self.books.ledger l.fn.self.books.settings l.batch.number
          (at l.fn.flow.writer.now l.fn.flow.outbox.now))
          (due_to l.batch) l.article
          (giving (hearers l.audience) l.self.books.ledger l.self.books.settings l.reply
          (at l.flow.writer.now l.flow.outbox.now));
      due : KeepsDue l.fn.self.books.settings l.line l.batch l.fn.answers.items l.answers.items;
    }
