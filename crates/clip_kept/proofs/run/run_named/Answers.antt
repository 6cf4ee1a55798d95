use Rattle.std.proofs.Common.{◌≡◌, [], true, refl, sym, subst}
use Rattle.clip_front.specs.Devices.{devices_at}
use Rattle.clip_front.specs.Outcome.{names_in, GivesAllFrom, GivesFrontFrom, GivesLinesFrom}
use Rattle.clip_ahead.specs.Ahead.{Appended}
use Rattle.clip_ahead.specs.Handing.{put_back}
use Rattle.clip_kept.specs.Opened.{kept_lines}
use Rattle.clip_kept.specs.Whose.{IsHonestKept}
use Rattle.clip_kept.proofs.Running.{begins_appended, outcome_of, front_of, none_held_of, honest_kept}
use Rattle.clip_kept.proofs.run.run_named.Goals as goal

pub new-source-requires-clause-appended : goal.new-source-requires-clause-appended
new-source-requires-clause-appended g c =
    let opened = c.args.keeping.opened in
    subst (λ b. Appended g.S.Store b [] [] opened.journal) (sym c.requires.named)
    (begins_appended g.R.Source g.S.Store c.args.reader opened (g.met.S.Store.only_now opened.journal.store)
    c.requires.stands)

pub returns-clause-outcome : goal.returns-clause-outcome
returns-clause-outcome g c =
    outcome_of (λ ended begins. GivesAllFrom begins (g.A.Audience.hearers c.args.audience.now)
    (g.A.Audience.hearers c.run_again-answer.new.audience) c.args.keeping.settings (g.W.Sink.taken c.args.writer.now)
    (g.W.Sink.taken c.run_again-answer.new.writer) ended.lines ended.ledger)
    (names_in (g.A.Audience.hearers c.args.audience.now)) _ (kept_lines c.args.keeping.opened.found) _
    (g.R.Source.left c.args.reader) c.run_again-answer.result c.into_parts-parts.result.fault c.fault_of.result
    c.fault_of.ensures c.into_lines.ensures c.new-source.ensures.left c.run_again-answer.ensures.outcome

pub returns-clause-front : goal.returns-clause-front
returns-clause-front g c =
    let parts = c.into_parts-parts.result in
    front_of (λ begins. GivesFrontFrom begins (g.A.Audience.hearers c.args.audience.now)
    (g.A.Audience.hearers c.run_again-answer.new.audience) c.args.keeping.settings.form
    (g.W.Sink.taken c.args.writer.now) (g.W.Sink.taken c.run_again-answer.new.writer))
    (names_in (g.A.Audience.hearers c.args.audience.now)) _ (kept_lines c.args.keeping.opened.found) _
    (g.R.Source.left c.args.reader) _ (put_back parts.held.items (g.R.Source.left parts.reader)) _ parts.met_end
    c.run_again-answer.result parts.fault c.fault_of.result c.fault_of.ensures c.into_lines.ensures
    c.new-source.ensures.left c.into_parts-parts.ensures.left c.into_parts-parts.ensures.ended
    c.run_again-answer.ensures.front

pub returns-clause-none_held : goal.returns-clause-none_held
returns-clause-none_held g c =
    let parts = c.into_parts-parts.result in
    none_held_of (g.W.Sink.is_flushed c.run_again-answer.new.writer ≡ true)
    (λ begins. GivesLinesFrom begins (g.A.Audience.hearers c.args.audience.now)
    (g.A.Audience.hearers c.run_again-answer.new.audience) c.args.keeping.settings.form
    (g.W.Sink.taken c.args.writer.now) (g.W.Sink.taken c.run_again-answer.new.writer))
    (names_in (g.A.Audience.hearers c.args.audience.now)) _ (kept_lines c.args.keeping.opened.found) _
    (g.R.Source.left c.args.reader) _ (put_back parts.held.items (g.R.Source.left parts.reader)) _ parts.met_end
    c.run_again-answer.result parts.fault c.fault_of.result c.fault_of.ensures c.into_lines.ensures
    c.new-source.ensures.left c.into_parts-parts.ensures.left c.into_parts-parts.ensures.ended
    c.run_again-answer.ensures.none_held

pub returns-clause-honest : goal.returns-clause-honest
returns-clause-honest g c =
    let parts = c.into_parts-parts.result in
    let told = c.into_parts-parts.ensures in
    let outside = devices_at g.R.Source g.W.Sink parts.reader c.run_again-answer.new.writer in
    subst (λ a. IsHonestKept a parts.fault outside parts.reads parts.met_end) (sym c.fault_of.ensures)
    (honest_kept c.run_again-answer.result _ outside parts.fault parts.reads parts.met_end
    c.run_again-answer.ensures.honest (record {
      read_failed = told.failed;
      reads_are = told.reads.0;
      fewer = told.reads.1;
      met_end_is = told.ended;
      flushed = refl;
      write_failed = refl;
    }))
