-- Answered here, so that a wrong body is refused at once.
use Rattle.clip_run.proofs.own_registrar.OwnRegistrarMerging.have_merged.Goals as goal

pub returns : goal.returns
returns c = record {
  turns = c.merge_all-self.ensures.turns;
  few = c.merge_all-self.ensures.few;
  history = c.merge_all-self.ensures.history;
}
