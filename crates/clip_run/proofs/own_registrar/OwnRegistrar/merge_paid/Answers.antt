-- Answered here, so that a wrong body is refused at once.
use Rattle.std.proofs.Common.{refl}
use Rattle.clip_run.proofs.AnsweredAlone.{both_ok}
use Rattle.clip_run.proofs.own_registrar.OwnRegistrar.merge_paid.Goals as goal

pub returns-then-is_merge_due : goal.returns-then-is_merge_due
returns-then-is_merge_due c =
    let merged = c.merge_all-self.ensures in
    record {
      due = c.is_merge_due.result;
      paid = c.is_merge_due.ensures;
      turns = λ _. (merged.turns, both_ok c.merge_all-self.result (λ one _. one refl) merged.one merged.one);
      stays = λ none. absurd (cc (none, c.if-is_merge_due.true));
      history = merged.history;
    }

pub returns-else-is_merge_due : goal.returns-else-is_merge_due
returns-else-is_merge_due c = record {
  due = c.is_merge_due.result;
  paid = c.is_merge_due.ensures;
  turns = λ due. absurd (cc (due, c.if-is_merge_due.false));
  stays = λ _. refl;
  history = refl;
}
