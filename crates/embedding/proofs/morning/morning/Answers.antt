use Rattle.std.proofs.Common.{map, ap, sym}
use Rattle.clip_model.specs.Alerts.{alerts}
use Rattle.clip_listen.specs.Heard.{note_value}
use Rattle.clip_listen.proofs.Hearing.{told_none}
use Rattle.embedding.proofs.Deliveries.{told_then, notes_then, one_more}
use Rattle.embedding.proofs.morning.morning.Goals as goal

pub loop-place-init : goal.loop-place-init
loop-place-init g c = record { heard = sym (told_none _); notes = ap (map note_value) c.new-notes.ensures.items }

pub loop-place-preserved : goal.loop-place-preserved
loop-place-preserved g c =
    let own = ap (λ found. found.alerts) c.in_ok-alerts.ensures in
    let due = one_more (alerts c.args.view.now.history) c.args.articles.now c.loop-place.place
    c.index-articles-place.result c.loop-place-test.true c.index-articles-place.is in
    record {
      heard = told_then _ _ _ _ _ _ _ own due c.loop-place.invariant.heard c.in_ok-said.ensures.ok;
      notes = notes_then note_value _ _ _ _ _ _ _ _ _ own due c.loop-place.invariant.heard c.loop-place.invariant.notes
          c.in_ok-said.ensures.notes c.in_ok-append.ensures.items;
    }
