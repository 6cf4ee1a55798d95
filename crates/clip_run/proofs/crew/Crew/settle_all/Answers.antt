use Rattle.std.proofs.Common.{◌<◌, length, drop, map, ap, subst, ◌∙◌, refl, arith}
use Rattle.clip_stream.proofs.Faults.{on_err}
use Rattle.clip_run.specs.Crews.{course}
use Rattle.clip_run.specs.Due.{AreDue}
use Rattle.clip_run.specs.Owed.{with_owed}
use Rattle.clip_run.specs.Pending.{owed_by}
use Rattle.clip_run.proofs.Owing.{pays_into_none, pays_into_more, pays_into_line, stops_more, stops_line}
use Rattle.clip_run.proofs.crew.Crew.settle_all.Goals as goal

pub loop-line-init : goal.loop-line-init
loop-line-init g c = record {
  same_reference = refl;
  well = refl;
  paid = pays_into_none (with_owed (course c.args.self.now (g.A.Audience.hearers c.args.audience.now))
      (map owed_by c.args.items.now)) (g.W.Sink.taken c.args.flow.now.writer.now) c.args.flow.now.outbox.now;
  settled = c.requires.settled;
  settings = refl;
  due = c.requires.due;
}

pub returns-in_err-settle-clause-err : goal.returns-in_err-settle-clause-err
returns-in_err-settle-clause-err g c =
    let hearers = g.A.Audience.hearers in
    let taken = g.W.Sink.taken in
    let l = c.loop-line in
    let items = c.args.items.now in
    let broken = c.in_err-settle.ensures in
    let within : l.line < length items = omega (arith, c.loop-line-test.true) in
    let left = with_owed (course l.self (hearers l.audience)) (map owed_by (drop l.line items)) in
    let now = course c.settle.new.self (hearers c.settle.new.audience) in
    on_err _
    (stops_more (with_owed (course c.args.self.now (hearers c.args.audience.now)) (map owed_by items)) left now
    (taken c.args.flow.now.writer.now) (taken l.flow.writer.now) (taken c.settle.new.flow.writer.now)
    c.args.flow.now.outbox.now l.flow.outbox.now l.invariant.paid
    (stops_line (course l.self (hearers l.audience)) now items l.line (taken l.flow.writer.now)
    (taken c.settle.new.flow.writer.now) l.flow.outbox.now within broken.err broken.front))

pub loop-line-preserved : goal.loop-line-preserved
loop-line-preserved g c =
    let hearers = g.A.Audience.hearers in
    let taken = g.W.Sink.taken in
    let l = c.loop-line in
    let items = c.args.items.now in
    let settled = c.in_ok-settle.ensures in
    let within : l.line < length items = omega (arith, c.loop-line-test.true) in
    record {
      same_reference = settled.same_reference ∙ l.invariant.same_reference;
      well = settled.well ∙ l.invariant.well;
      paid =
          pays_into_more (with_owed (course c.args.self.now (hearers c.args.audience.now)) (map owed_by items))
          (with_owed (course l.self (hearers l.audience)) (map owed_by (drop l.line items))) _
          (taken c.args.flow.now.writer.now) (taken l.flow.writer.now) (taken c.settle.new.flow.writer.now)
          c.args.flow.now.outbox.now l.flow.outbox.now c.settle.new.flow.outbox.now l.invariant.paid
          (pays_into_line l.self c.settle.new.self (hearers l.audience) (hearers c.settle.new.audience) items l.line
          (taken l.flow.writer.now) (taken c.settle.new.flow.writer.now) l.flow.outbox.now
          c.settle.new.flow.outbox.now within settled.heard settled.crew settled.moved);
      settled = ap (λ crew. crew.owed) settled.crew ∙ l.invariant.settled;
      settings = ap (λ crew. crew.settings) settled.crew ∙ l.invariant.settings;
      due = subst (λ s. AreDue s items c.settle.new.answers.items) l.invariant.settings settled.due;
    }
