use Rattle.std.proofs.Common.{◌≡◌, map, take}
use Rattle.std.specs.Arc.{arc_str_bytes}
use Rattle.clip_terms.specs.Terms.{term_at}
use Rattle.clip_plan.proofs.Words.{phrase_words}
use Rattle.clip_plan.proofs.plans.numbers_of.Given as goal

abbrev pub invariant-loop-word : goal.invariant-loop-word
invariant-loop-word l = map (term_at l.planner.terms.now) l.run.items
    ≡ phrase_words (arc_str_bytes l.field) (take l.word-index l.words)
