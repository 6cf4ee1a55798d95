use Rattle.clip_stream.proofs.Faults.{on_err}
use Rattle.clip_ahead.specs.Ahead.{synced_with}
use Rattle.clip_ahead.specs.Changes.{with_changes}
use Rattle.clip_ahead.proofs.Appending.{appended_moved, fronts_moved, ok_mapped}
use Rattle.clip_ahead.proofs.changes.sync_changes.Goals as goal

pub returns-clause-synced : goal.returns-clause-synced
returns-clause-synced g c =
    λ begun synced lines a. ok_mapped c.sync.result
    (λ stands. appended_moved g.S.Store begun synced lines lines lines c.args.journal.now c.sync.new.self a
    (λ n left f. f) stands c.sync.ensures.time)
    (c.sync.ensures.synced (with_changes begun.kept lines) (synced_with begun synced) a.stands)

pub returns-clause-fronts : goal.returns-clause-fronts
returns-clause-fronts g c =
    λ begun synced lines a. on_err c.sync.result
    (fronts_moved g.S.Store begun synced lines lines c.args.journal.now c.sync.new.self a (λ n left f. f)
    (c.sync.ensures.any_moment (with_changes begun.kept lines) (synced_with begun synced) a.stands)
    c.sync.ensures.time (g.met.S.Store.counts_now c.sync.new.self.store))
