use Rattle.std.proofs.Common.{◌≡◌, ℕ, List, ◌++◌, ◌∷◌, [], length, sym, ◌∙◌, subst}
use Rattle.clip_stream.specs.Lines.{ended_lines, lines_of}
use Rattle.clip_stream.proofs.Faults.{on_err}
use Rattle.clip_ahead.specs.Ahead.{Begun, Appended, LeavesFronts}
use Rattle.clip_ahead.specs.Keeping.{Holds}
use Rattle.clip_ahead.specs.Pieces.{last_piece}
use Rattle.clip_ahead.proofs.Appending.{none_more, synced_too}
use Rattle.clip_ahead.proofs.Keeping.{last_none, last_some, is_zero, is_some}
use Rattle.clip_ahead.proofs.keeper.Keeper.keep_last.Given.{Over}
use Rattle.clip_ahead.proofs.keeper.Keeper.keep_last.Goals as goal
use Rattle.clip_ahead.proofs.keeper.Keeper.keep_last.Goals.{After-append_change, In_ok-append_change}

pub returns-then-is_empty-clause-appended : goal.returns-then-is_empty-clause-appended
returns-then-is_empty-clause-appended g c =
    let piece = c.args.self.now.piece in
    λ begun before h. last_none g.S.Store begun before c.args.self.now h
    (is_zero piece.len (length piece.items) c.is_empty.result c.is_empty.ensures piece.ok.0 c.if-is_empty.true)

-- The piece is one line more.
one_more : (g : Over) (c : After-append_change g) (begun : Begun) (before : List ℕ)
    → Holds g.S.Store begun before before c.args.self.now
    → lines_of before ≡ ended_lines before ++ last_piece before ∷ []
one_more g c begun before h =
    let piece = c.args.self.now.piece in
    last_some g.S.Store begun before c.args.self.now h
    (is_some piece.len (length piece.items) c.is_empty.result c.is_empty.ensures piece.ok.0 c.if-is_empty.false)

-- Its change, where it has one, is in the journal.
appended : (g : Over) (c : In_ok-append_change g) (begun : Begun) (before : List ℕ)
    → Holds g.S.Store begun before before c.args.self.now
    → Appended g.S.Store begun (ended_lines before) (ended_lines before ++ last_piece before ∷ [])
    c.append_change.new.journal
appended g c begun before h =
    c.in_ok-append_change.ensures.appended begun (ended_lines before) (ended_lines before) (last_piece before)
    (c.deref.ensures.value ∙ h.piece) h.appended

pub returns-in_err-append_change-clause-fronts : goal.returns-in_err-append_change-clause-fronts
returns-in_err-append_change-clause-fronts g c =
    let at = goal.at.returns-in_err-append_change-clause-fronts g c in
    λ begun before h.
    let ended = ended_lines before in
    on_err _ (subst (λ ls. LeavesFronts g.S.Store begun ended ls c.append_change.new.journal.store)
    (sym (one_more g at.After-append_change begun before h))
    (c.in_err-append_change.ensures.fronts begun ended ended (last_piece before) (c.deref.ensures.value ∙ h.piece)
    h.appended))

pub returns-in_err-sync_changes-clause-fronts : goal.returns-in_err-sync_changes-clause-fronts
returns-in_err-sync_changes-clause-fronts g c =
    let at = goal.at.returns-in_err-sync_changes-clause-fronts g c in
    λ begun before h.
    let ended = ended_lines before in
    on_err _ (subst (λ ls. LeavesFronts g.S.Store begun ended ls c.sync_changes.new.journal.store)
    (sym (one_more g at.After-append_change begun before h))
    (c.in_err-sync_changes.ensures.fronts begun ended (ended ++ last_piece before ∷ [])
    (appended g at.In_ok-append_change begun before h)))

pub returns-in_ok-sync_changes-clause-appended : goal.returns-in_ok-sync_changes-clause-appended
returns-in_ok-sync_changes-clause-appended g c =
    let at = goal.at.returns-in_ok-sync_changes-clause-appended g c in
    λ begun before h.
    let ended = ended_lines before in
    subst (λ ls. Appended g.S.Store begun ls ls c.sync_changes.new.journal)
    (sym (one_more g at.After-append_change begun before h))
    (c.in_ok-sync_changes.ensures.synced begun ended (ended ++ last_piece before ∷ [])
    (appended g at.In_ok-append_change begun before h))

pub returns-else-branch-clause-appended : goal.returns-else-branch-clause-appended
returns-else-branch-clause-appended g c =
    let at = goal.at.returns-else-branch-clause-appended g c in
    λ begun before h.
    let ended = ended_lines before in
    let asks = c.in_ok-append_change.ensures.asks (last_piece before) (c.deref.ensures.value ∙ h.piece) in
    let none = none_more ended (last_piece before) (sym asks ∙ c.if-branch.false) in
    subst (λ ls. Appended g.S.Store begun ls ls c.append_change.new.journal)
    (sym (one_more g at.After-append_change begun before h))
    (synced_too g.S.Store begun ended (ended ++ last_piece before ∷ []) c.append_change.new.journal none
    (appended g at.In_ok-append_change begun before h))
