use Rattle.std.specs.Arc.{arc_str_bytes}
use Rattle.clip_plan.proofs.Numbering.{word_among, next_number}
use Rattle.clip_plan.proofs.plans.numbers_of.Goals as goal

pub number_of-requires : goal.number_of-requires
number_of-requires c = word_among c.args.planner.now.terms.now (arc_str_bytes c.args.field.now) c.args.words.now
    c.loop-word.word-index c.word-item.result c.requires c.loop-word-test.true c.word-item.is

pub loop-word-preserved : goal.loop-word-preserved
loop-word-preserved c =
    next_number c.args.planner.now.terms.now (arc_str_bytes c.args.field.now) c.args.words.now c.loop-word.word-index
    c.word-item.result c.loop-word.run.items c.push.new.self.items c.number_of.result
    c.loop-word-test.true c.word-item.is c.loop-word.invariant c.number_of.ensures c.in_ok-push.ensures.items
