use Rattle.std.proofs.Common.{reverse, ◌++◌, subst}
use Rattle.clip_file_store.specs.Calls.{content, MayLeave}
use Rattle.clip_file_store.proofs.Clock.{left_added}
use Rattle.clip_file_store.proofs.recorded.RecordedStore.append.Goals as goal

pub returns-in-Err-clause-stop : goal.returns-in-Err-clause-stop
returns-in-Err-clause-stop g c =
    let before = content (reverse c.args.self.now.told.items) in
    λ left l. left_added before c.args.bytes.now left
    (subst (λ bytes. MayLeave (record before { added = before.added ++ bytes }) left) c.in-Ok.ensures.items
    (subst (λ calls. MayLeave (content calls) left) c.record.ensures l))

pub returns-clause-stop : goal.returns-clause-stop
returns-clause-stop g c =
    let before = content (reverse c.args.self.now.told.items) in
    λ left l. left_added before c.args.bytes.now left
    (subst (λ bytes. MayLeave (record before { added = before.added ++ bytes }) left) c.in-Ok.ensures.items
    (subst (λ calls. MayLeave (content calls) left) c.record-2.ensures l))
