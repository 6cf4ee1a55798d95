use Rattle.clip_plan.proofs.Copies.{copy_added, group_copied}
use Rattle.clip_plan.proofs.copy.+copy_query.Goals as goal

pub loop-occur-preserved : goal.loop-occur-preserved
loop-occur-preserved t c =
    copy_added c.deref-occur-items.result.now c.loop-occur.copies.items c.push.new.self.items c.loop-occur.occur-index
    c.loop-occur-item.result c.in_ok-copy_query-in-Group.field-0
    c.loop-occur-test.true c.loop-occur-item.is c.loop-occur.invariant c.in_ok-copy_query-in-Group.ensures
    c.in_ok-push-in-Group.ensures.items

pub returns-after-loop-occur : goal.returns-after-loop-occur
returns-after-loop-occur t c =
    group_copied c.args.query.now c.in-Group.clauses c.loop-occur.copies c.deref-occur-items.result.now
    c.loop-occur.occur-index
    c.in-Group.is c.deref-occur-items.ensures.value c.loop-occur-test.false c.loop-occur.invariant
