use Rattle.std.specs.Arc.{arc_str_bytes}
use Rattle.clip_plan.proofs.Leaves.{pair_added, run_added}
use Rattle.clip_plan.proofs.Words.{phrase_words}
use Rattle.clip_plan.proofs.plans.add_phrase.Goals.{in-len2, in_default+in_ok-add_run-in_default}
use Rattle.clip_plan.proofs.plans.add_phrase.Goals as goal

pub returns-clause-added : goal.returns-clause-added
returns-clause-added c = λ queries.
    let field = arc_str_bytes c.args.field.now in
    elim c.if-words-lt2.branch [
      | in-len2 w ↦
          pair_added c.args.planner.now.terms.now c.args.runs.now c.if-words-lt2.runs queries c.args.steps.now.items
          c.push.new.self.items c.args.occur field c.args.words.now w.first-item.result w.second-item.result
          w.number_of.result w.number_of-in-len2.result c.if-words-lt2.step
          w.runs-is w.step-is c.in_ok-push.ensures.items w.in-len2.len_at_least w.in-len2.len_below w.first-item.is
          w.second-item.is w.number_of.ensures w.number_of-in-len2.ensures
      | in_default+in_ok-add_run-in_default w ↦
          run_added c.args.planner.now.terms.now c.args.runs.now w.add_run.new.runs c.if-words-lt2.runs queries
          c.args.steps.now.items c.push.new.self.items c.args.occur w.in_ok-add_run-in_default.field-0
          (phrase_words field c.args.words.now) c.if-words-lt2.step
          w.runs-is w.step-is c.in_ok-push.ensures.items w.in_ok-add_run-in_default.ensures.grows
          w.in_ok-add_run-in_default.ensures.inside w.in_ok-add_run-in_default.ensures.run
    ]
