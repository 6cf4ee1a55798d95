use Rattle.std.proofs.Common.{◌++◌, ◌∙◌, map, refl, ap}
use Rattle.std.proofs.lemmas.List.{map-append}
use Rattle.clip_listen.specs.Heard.{note_value}
use Rattle.clip_stream.proofs.Faults.{on_err, on_ok}
use Rattle.clip_front.proofs.Delivering.{heard_whole}
use Rattle.clip_front.proofs.Giving.{gives_front}
use Rattle.clip_front.proofs.delivery.MatchReply.add.Goals as goal

pub returns-in_err-said-clause-gives : goal.returns-in_err-said-clause-gives
returns-in_err-said-clause-gives g c =
    gives_front _ _ _ _ c.from_residual.ensures.1 refl c.deliver_one.ensures.settings refl c.in_err-said.ensures.err

pub returns-in_err-append-clause-gives : goal.returns-in_err-append-clause-gives
returns-in_err-append-clause-gives g c =
    gives_front _ _ _ _ c.from_residual-in_err-append.ensures.1 refl c.deliver_one.ensures.settings refl
    (heard_whole _ _ _ c.in_ok-said.ensures.heard)

pub returns-clause-gives : goal.returns-clause-gives
returns-clause-gives g c =
    let said = c.in_ok-said.ensures in
    let put = c.put_found.ensures in
    record {
      number = refl;
      settings = said.settings;
      notes = on_ok _
          (ap (map note_value) {y = c.args.self.now.notes.items ++ c.in_ok-said.said.items} c.in_ok-append.ensures.items
          ∙ map-append note_value c.args.self.now.notes.items c.in_ok-said.said.items
          ∙ ap (λ said. map note_value c.args.self.now.notes.items ++ said) said.notes);
      later = on_ok _ refl;
      heard = on_ok _ said.heard;
      rows = on_ok _ said.rows;
      moved = put.moved;
      err = on_err _ (heard_whole _ _ _ said.heard);
      front = put.front;
    }
