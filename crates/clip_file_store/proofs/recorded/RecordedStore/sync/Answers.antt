use Rattle.std.proofs.Common.{reverse, subst}
use Rattle.clip_file_store.specs.Calls.{content, all_of, MayLeave}
use Rattle.clip_file_store.proofs.Clock.{left_all, left_whole}
use Rattle.clip_file_store.proofs.recorded.RecordedStore.sync.Goals as goal

pub returns-clause-stop : goal.returns-clause-stop
returns-clause-stop g c =
    let before = content (reverse c.args.self.now.told.items) in
    λ left l. left_all before left
    (left_whole (all_of before) left (subst (λ calls. MayLeave (content calls) left) c.record.ensures l))
