use Rattle.std.proofs.Common.{◌++◌, ◌∷◌, [], sym, ap, ◌∙◌, subst}
use Rattle.clip_stream.specs.Lines.{ended_lines}
use Rattle.clip_stream.specs.Steps.Reading.{cut}
use Rattle.clip_stream.proofs.Bytes.{cut_nothing}
use Rattle.clip_stream.proofs.Faults.{on_err}
use Rattle.clip_ahead.specs.Ahead.{Appended, LeavesFronts}
use Rattle.clip_ahead.specs.Changes.{changes_of}
use Rattle.clip_ahead.specs.Pieces.{last_piece}
use Rattle.clip_ahead.proofs.Appending.{none_more, fronts_here, fronts_later}
use Rattle.clip_ahead.proofs.Pieces.{ended_by_feed, piece_ended}
use Rattle.clip_ahead.proofs.keeper.Keeper.end_line.Goals as goal

pub returns-in_err-extend_piece-clause-fronts : goal.returns-in_err-extend_piece-clause-fronts
returns-in_err-extend_piece-clause-fronts g c =
    λ begun synced before h none.
    let store = c.args.self.now.journal.store in
    let line = last_piece before ++ c.args.bytes.now in
    on_err _ (subst (λ ls. LeavesFronts g.S.Store begun (ended_lines synced) ls store)
    (sym (ended_by_feed before c.args.bytes.now none))
    (fronts_later g.S.Store begun (ended_lines synced) (ended_lines before) (line ∷ []) store
    (fronts_here g.S.Store begun (ended_lines synced) (ended_lines before) c.args.self.now.journal h.appended)))

pub returns-in_err-asks-clause-fronts : goal.returns-in_err-asks-clause-fronts
returns-in_err-asks-clause-fronts g c =
    λ begun synced before h none.
    let line = last_piece before ++ c.args.bytes.now in
    let held = c.deref.ensures.value ∙ c.in_ok-extend_piece.ensures.piece (last_piece before) h.piece in
    on_err _ (subst (λ ls. LeavesFronts g.S.Store begun (ended_lines synced) ls c.append_change.new.journal.store)
    (sym (ended_by_feed before c.args.bytes.now none))
    (c.in_err-asks.ensures.fronts begun (ended_lines synced) (ended_lines before) line held h.appended))

pub returns-clause-holds : goal.returns-clause-holds
returns-clause-holds g c =
    λ begun synced before h none.
    let line = last_piece before ++ c.args.bytes.now in
    let held = c.deref.ensures.value ∙ c.in_ok-extend_piece.ensures.piece (last_piece before) h.piece in
    record {
      appended = subst (λ ls. Appended g.S.Store begun (ended_lines synced) ls c.append_change.new.journal)
          (sym (ended_by_feed before c.args.bytes.now none))
          (c.in_ok-asks.ensures.appended begun (ended_lines synced) (ended_lines before) line held h.appended);
      piece = c.clear.ensures.items ∙ sym (ap cut (piece_ended before c.args.bytes.now) ∙ cut_nothing);
    }

pub returns-clause-unchanged : goal.returns-clause-unchanged
returns-clause-unchanged g c =
    λ begun synced before h none no.
    let line = last_piece before ++ c.args.bytes.now in
    let held = c.deref.ensures.value ∙ c.in_ok-extend_piece.ensures.piece (last_piece before) h.piece in
    ap changes_of (ended_by_feed before c.args.bytes.now none)
    ∙ none_more (ended_lines before) line (sym (c.in_ok-asks.ensures.asks line held) ∙ no)
