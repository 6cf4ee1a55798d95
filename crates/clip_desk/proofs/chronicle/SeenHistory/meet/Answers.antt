use Rattle.std.proofs.Common.{ap, subst, List}
use mathlib.Core.List.{IsPrefix}
use Rattle.clip_model.specs.History.{HistoryEntry}
use Rattle.clip_desk.proofs.Beginnings.{prefix_shorter}
use Rattle.clip_desk.proofs.chronicle.SeenHistory.meet.Goals as goal

pub returns-clause-shorter : goal.returns-clause-shorter
returns-clause-shorter c le =
    let both = c.learn.new.self.log in
    let this : IsPrefix c.args.self.now.seen.log both =
    subst (λ (l : List HistoryEntry). IsPrefix l both) (ap (λ s. s.log) c.again-both.ensures) c.learn.ensures.2 in
    prefix_shorter c.args.self.now.seen.log c.args.other.now.seen.log both this c.learn.ensures.3 le

pub returns-clause-longer : goal.returns-clause-longer
returns-clause-longer c le =
    let both = c.learn.new.self.log in
    let this : IsPrefix c.args.self.now.seen.log both =
    subst (λ (l : List HistoryEntry). IsPrefix l both) (ap (λ s. s.log) c.again-both.ensures) c.learn.ensures.2 in
    prefix_shorter c.args.other.now.seen.log c.args.self.now.seen.log both c.learn.ensures.3 this le
