use Rattle.std.proofs.Common.{◌∷◌, [], ◌++◌, sym, ap, ◌∙◌, subst}
use Rattle.clip_stream.proofs.Faults.{on_err}
use Rattle.clip_journal.specs.Stands.{IsFront, Stands}
use Rattle.clip_journal.specs.Stop.{LeavesOnly}
use Rattle.clip_ahead.specs.Ahead.{synced_with}
use Rattle.clip_ahead.specs.Changes.{asks_change, with_changes}
use Rattle.clip_ahead.proofs.Appending.{asks_cut, one_more, fronts_more, fronts_here, fronts_later, fronts_moved}
use Rattle.clip_ahead.proofs.Appending.{appended_none, appended_moved}
use Rattle.clip_ahead.proofs.changes.append_change.Goals as goal

pub returns-in_default-clause-fronts : goal.returns-in_default-clause-fronts
returns-in_default-clause-fronts g c =
    λ begun synced lines whole e a. fronts_later g.S.Store begun synced lines (whole ∷ []) c.args.journal.now.store
    (fronts_here g.S.Store begun synced lines c.args.journal.now a)

pub returns-then-not-asks-clause-asks : goal.returns-then-not-asks-clause-asks
returns-then-not-asks-clause-asks g c =
    λ whole e. sym c.if-not-asks.true ∙ c.in-Ok.ensures ∙ ap asks_change e ∙ asks_cut whole

pub returns-then-not-asks-clause-appended : goal.returns-then-not-asks-clause-appended
returns-then-not-asks-clause-appended g c =
    λ begun synced lines whole e a.
    appended_none g.S.Store begun synced lines whole c.args.journal.now
    (sym (asks_cut whole) ∙ ap asks_change (sym e) ∙ sym c.in-Ok.ensures ∙ c.if-not-asks.true) a

pub returns-in_err-append-clause-fronts : goal.returns-in_err-append-clause-fronts
returns-in_err-append-clause-fronts g c =
    λ begun synced lines whole e a.
    let calls = g.S.Store in
    let asks = sym (asks_cut whole) ∙ ap asks_change (sym e) ∙ sym c.in-Ok.ensures ∙ c.if-not-asks.false in
    on_err _ (fronts_moved calls begun synced lines (lines ++ whole ∷ []) c.args.journal.now c.append.new.self a
    (fronts_more begun.kept lines (whole ∷ []))
    (subst (λ k. LeavesOnly calls.moment calls.left_since c.args.journal.now.store c.append.new.self.store
    (IsFront k (synced_with begun synced))) (one_more begun.kept lines whole c.args.line.now asks e)
    (c.in_err-append.ensures.any_moment (with_changes begun.kept lines) (synced_with begun synced) a.stands))
    c.in_err-append.ensures.time (g.met.S.Store.counts_now c.append.new.self.store))

pub returns-clause-asks : goal.returns-clause-asks
returns-clause-asks g c =
    λ whole e. sym c.if-not-asks.false ∙ c.in-Ok.ensures ∙ ap asks_change e ∙ asks_cut whole

pub returns-clause-appended : goal.returns-clause-appended
returns-clause-appended g c =
    λ begun synced lines whole e a.
    let calls = g.S.Store in
    let asks = sym (asks_cut whole) ∙ ap asks_change (sym e) ∙ sym c.in-Ok.ensures ∙ c.if-not-asks.false in
    appended_moved calls begun synced synced lines (lines ++ whole ∷ []) c.args.journal.now c.append.new.self a
    (fronts_more begun.kept lines (whole ∷ []))
    (subst (λ k. Stands calls.seen calls.may_leave c.append.new.self k (synced_with begun synced))
    (one_more begun.kept lines whole c.args.line.now asks e)
    (c.in_ok-append.ensures.appended (with_changes begun.kept lines) (synced_with begun synced) a.stands))
    c.in_ok-append.ensures.time
