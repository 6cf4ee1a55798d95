use Rattle.std.proofs.Common.{◌≡◌, [], ◌∙◌, refl, sym, ap, subst, rules, false}
use Rattle.std.proofs.lemmas.Result.{err_from_is_err_and}
use Rattle.std.specs.Prelude.{Err}
use Rattle.clip_stream.proofs.Faults.{on_err}
use Rattle.clip_front.specs.Devices.{devices_at}
use Rattle.clip_front.proofs.Progress.{Goes, front_at, all_at, goes_first, goes_flowing, goes_to_end, fault_first}
use Rattle.clip_front.proofs.Progress.{breaks_handing, breaks_reading, breaks_flowing, breaks_unfound}
use Rattle.clip_front.proofs.Progress.{lines_at, feed_before}
use Rattle.clip_run.specs.Crews.{course_at}
use Rattle.clip_run.specs.Owed.{TurnsIn, BreaksIn}
use Rattle.clip_run.proofs.serving.serve_crew.Goals as goal

pub lines-init : goal.lines-init
lines-init g c = record {
  same_reference = refl;
  goes =
      subst (λ w. Goes (TurnsIn (course_at g.A.Audience.hearers)) (λ s. s.0.owed
      ≡ []) (c.args.crew.now, c.args.audience.now) (c.args.crew.now, c.args.audience.now)
      (devices_at g.S.Source g.W.Sink c.args.reader.now c.args.writer.now)
      (devices_at g.S.Source g.W.Sink c.args.reader.now w) c.in_ok-lines.lines c.new-flow.result.outbox.now false
      0) (sym c.new-flow.ensures.writer)
      (goes_first (TurnsIn (course_at g.A.Audience.hearers)) (λ s. s.0.owed
      ≡ []) (c.args.crew.now, c.args.audience.now)
      (devices_at g.S.Source g.W.Sink c.args.reader.now c.args.writer.now) c.in_ok-lines.lines
      c.new-flow.result.outbox.now
      c.requires.fresh c.requires.settled c.in_ok-lines.ensures (c.new-flow.ensures.outbox ∙ c.new-outbox.ensures));
}

pub lines-preserved : goal.lines-preserved
lines-preserved g c =
    let handed = c.in_ok-hand_over.ensures in
    let next = c.in_ok-next_line.ensures in
    let answered = c.in_ok-answer.ensures in
    record {
      same_reference = answered.same_reference ∙ handed.same_reference ∙ c.lines.invariant.same_reference;
      goes =
          goes_flowing c.lines.invariant.goes handed.moved handed.well (rw c.if-not-branch.false at next.line)
          next.budget next.ended next.met next.failed (next.fuel c.if-not-branch.false)
          c.has_line-has_more.ensures answered.settled (rw c.deref.ensures.value at answered.ok) answered.well;
    }

pub returns-in_err-lines-clause-front : goal.returns-in_err-lines-clause-front
returns-in_err-lines-clause-front g c =
    on_err _ (fault_first (TurnsIn (course_at g.A.Audience.hearers)) (BreaksIn (course_at g.A.Audience.hearers))
    (c.args.crew.now, c.args.audience.now) (g.S.Source.left c.args.reader.now) (g.S.Source.met_end c.args.reader.now)
    (g.W.Sink.taken c.args.writer.now))

pub returns-in_err-hand_over-clause-front : goal.returns-in_err-hand_over-clause-front
returns-in_err-hand_over-clause-front g c =
    on_err _ (front_at (TurnsIn (course_at g.A.Audience.hearers)) (BreaksIn (course_at g.A.Audience.hearers))
    (c.args.crew.now, c.args.audience.now) (c.lines.crew, c.lines.audience) (g.S.Source.left c.args.reader.now)
    (g.S.Source.left c.lines.reader) (g.S.Source.met_end c.lines.reader) (g.W.Sink.taken c.args.writer.now) {taken =
    g.W.Sink.taken c.hand_over.new.self.writer.now} (search rules)
    (breaks_handing c.lines.invariant.goes c.in_err-hand_over.ensures.front))

pub returns-in_err-next_line-clause-front : goal.returns-in_err-next_line-clause-front
returns-in_err-next_line-clause-front g c =
    on_err _ (front_at (TurnsIn (course_at g.A.Audience.hearers)) (BreaksIn (course_at g.A.Audience.hearers))
    (c.args.crew.now, c.args.audience.now) (c.lines.crew, c.lines.audience) (g.S.Source.left c.args.reader.now)
    (g.S.Source.left c.next_line.new.reader) (g.S.Source.met_end c.next_line.new.reader)
    (g.W.Sink.taken c.args.writer.now) {taken =
    g.W.Sink.taken c.hand_over.new.self.writer.now} (search rules)
    (breaks_reading c.lines.invariant.goes c.in_ok-hand_over.ensures.moved c.in_err-next_line.ensures.given
    c.in_err-next_line.ensures.met))

pub returns-in_err-next_line-clause-none_held : goal.returns-in_err-next_line-clause-none_held
returns-in_err-next_line-clause-none_held g c =
    let handed = c.in_ok-hand_over.ensures in
    let on = err_from_is_err_and c.from_residual-in_err-next_line.result
    c.from_residual-in_err-next_line.ensures.1 in
    λ failed.
    let unfound = c.in_err-next_line.ensures.unfound (ap Err (cc (failed, on.1, on.2))) in
    let none : c.lines.has_more ≡ false =
    c.lines.invariant.goes.pending ∙ feed_before c.lines.lines.pending unfound.reads.bytes unfound.unended in
    let all = breaks_unfound c.lines.invariant.goes handed.moved handed.none_held unfound
    c.in_err-next_line.ensures.met in (
      search (rules, handed.flushed none),
      all.0,
      lines_at (TurnsIn (course_at g.A.Audience.hearers)) (c.args.crew.now, c.args.audience.now)
          (c.lines.crew, c.lines.audience) (g.S.Source.left c.args.reader.now)
          (g.S.Source.left c.next_line.new.reader) (g.S.Source.met_end c.next_line.new.reader)
          (g.W.Sink.taken c.args.writer.now) {taken =
          g.W.Sink.taken c.hand_over.new.self.writer.now} (search rules) all.1,
    )

pub returns-in_err-answer-clause-front : goal.returns-in_err-answer-clause-front
returns-in_err-answer-clause-front g c =
    let found = rw c.if-not-branch.false at c.in_ok-next_line.ensures.line in
    let broken = rw c.deref.ensures.value at c.in_err-answer.ensures.err in
    on_err _ (front_at (TurnsIn (course_at g.A.Audience.hearers)) (BreaksIn (course_at g.A.Audience.hearers))
    (c.args.crew.now, c.args.audience.now) (c.answer.new.self, c.answer.new.audience)
    (g.S.Source.left c.args.reader.now) (g.S.Source.left c.next_line.new.reader)
    (g.S.Source.met_end c.next_line.new.reader) (g.W.Sink.taken c.args.writer.now) {taken =
    g.W.Sink.taken c.answer.new.flow.writer.now} (search rules)
    (breaks_flowing c.lines.invariant.goes c.in_ok-hand_over.ensures.moved found c.in_ok-next_line.ensures.met
    broken))

pub returns-then-not-branch-clause-served : goal.returns-then-not-branch-clause-served
returns-then-not-branch-clause-served g c =
    let found = rw c.if-not-branch.true at c.in_ok-next_line.ensures.line in
    all_at (TurnsIn (course_at g.A.Audience.hearers)) (c.args.crew.now, c.args.audience.now) (
      c.lines.crew,
      c.lines.audience,
    ) (g.S.Source.left c.args.reader.now) (g.W.Sink.taken c.args.writer.now) c.lines.count {taken =
    g.W.Sink.taken c.hand_over.new.self.writer.now} (search rules)
    (goes_to_end c.lines.invariant.goes c.in_ok-hand_over.ensures.moved c.in_ok-hand_over.ensures.none_held found
    c.in_ok-next_line.ensures.ended)

pub returns-then-not-branch-clause-settled : goal.returns-then-not-branch-clause-settled
returns-then-not-branch-clause-settled g c =
    c.lines.invariant.goes.settled (c.lines.invariant.goes.pending
    ∙ c.in_ok-next_line.ensures.none c.if-not-branch.true)
