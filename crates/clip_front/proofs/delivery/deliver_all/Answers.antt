use Rattle.std.proofs.Common.{◌++◌, ◌+◌, map, refl, sym, ap, ◌∙◌}
use Rattle.std.proofs.lemmas.List.{map-append}
use Rattle.clip_protocol.specs.Found.{found_value}
use Rattle.clip_listen.specs.Heard.{note_value}
use Rattle.clip_listen.proofs.Hearing.{told_none, element}
use Rattle.clip_front.proofs.Delivering.{heard_next, notes_next, posted_next, front_here, heard_front, none_posted}
use Rattle.clip_stream.proofs.Faults.{on_err}
use Rattle.clip_front.proofs.delivery.deliver_all.Goals as goal

pub loop-one-init : goal.loop-one-init
loop-one-init g c = record {
  heard = sym (told_none _);
  notes = ap (map note_value) c.new-notes.ensures.items;
  rows =
      none_posted c.args.books.now.settings.keeps_rows c.args.books.now.ledger;
  settings = refl;
}

pub returns-in_err-said-clause-err : goal.returns-in_err-said-clause-err
returns-in_err-said-clause-err g c =
    let it = element found_value c.args.found.now c.args.found.now c.loop-one.one-index c.one-item.result refl
    c.loop-one-test.true c.one-item.is in
    on_err c.from_residual.result
    (front_here _ c.loop-one.one-index (found_value c.one-item.result) _ _ _ it.0 it.1 c.loop-one.invariant.heard
    c.in_err-said.ensures.err)

pub returns-in_err-append-clause-err : goal.returns-in_err-append-clause-err
returns-in_err-append-clause-err g c =
    let it = element found_value c.args.found.now c.args.found.now c.loop-one.one-index c.one-item.result refl
    c.loop-one-test.true c.one-item.is in
    on_err c.from_residual-in_err-append.result
    (heard_front _ (c.loop-one.one-index + 1) _ _
    (heard_next _ c.loop-one.one-index (found_value c.one-item.result) _ _ _ it.0 it.1 c.loop-one.invariant.heard
    c.in_ok-said.ensures.heard))

pub loop-one-preserved : goal.loop-one-preserved
loop-one-preserved g c =
    let it = element found_value c.args.found.now c.args.found.now c.loop-one.one-index c.one-item.result refl
    c.loop-one-test.true c.one-item.is in
    record {
      heard = heard_next _ c.loop-one.one-index (found_value c.one-item.result) _ _ _ it.0 it.1
          c.loop-one.invariant.heard c.in_ok-said.ensures.heard;
      notes =
          ap (map note_value) {y = c.loop-one.notes.items ++ c.in_ok-said.said.items} c.in_ok-append.ensures.items
          ∙ map-append note_value c.loop-one.notes.items c.in_ok-said.said.items
          ∙ notes_next _ c.loop-one.one-index (found_value c.one-item.result) _ _ _ _ it.0 it.1
          c.loop-one.invariant.heard c.loop-one.invariant.notes c.in_ok-said.ensures.notes;
      rows =
          posted_next _ c.loop-one.one-index c.args.line (found_value c.one-item.result) _ _
          c.args.books.now.settings.keeps_rows c.loop-one.books.settings.keeps_rows c.args.books.now.ledger
          c.loop-one.books.ledger _ it.0 it.1 c.loop-one.invariant.heard
          (ap (λ k. k.keeps_rows) c.loop-one.invariant.settings)
          c.loop-one.invariant.rows c.in_ok-said.ensures.rows;
      settings = c.in_ok-said.ensures.settings ∙ c.loop-one.invariant.settings;
    }
