use Rattle.std.proofs.Common.{◌≡◌, ◌+◌, false, drop, sym, ap, ◌∙◌, refl, true≢false}
use Rattle.std.proofs.lemmas.List.{take_rest, drop-drop}
use Rattle.clip_stream.proofs.Faults.{on_err}
use Rattle.clip_ahead.proofs.Keeping.{takes_none, takes_line, line_failed, piece_failed, all_taken, all_unchanged}
use Rattle.clip_ahead.proofs.keeper.Keeper.append.Goals as goal
use Rattle.clip_ahead.proofs.keeper.Keeper.append.Goals.{then-asks, else-asks}

pub lines-init : goal.lines-init
lines-init g c = takes_none g.S.Store c.args.self.now c.args.bytes.now

pub lines-preserved : goal.lines-preserved
lines-preserved g c =
    let rest = c.lines.rest.now in
    let at = c.in-Some.at in
    let neither : c.if-asks.asks ≡ false → (c.lines.asks ≡ false) × (c.in_ok-asked.asked ≡ false) =
    elim c.if-asks.branch [
      | then-asks w ↦ λ e. absurd (true≢false (sym (w.asks-is ∙ w.if-asks.true) ∙ e))
      | else-asks w ↦ λ e. (w.if-asks.false, sym w.asks-is ∙ e)
    ] in
    takes_line g.S.Store c.args.self.now c.lines.self c.end_line.new.self c.args.bytes.now rest
    c.split_at.result.0.now _ at c.lines.asks c.in_ok-asked.asked c.if-asks.asks c.lines.invariant c.in-Some.ensures
    c.split_at.ensures.front
    (take_rest c.split_at.result.1.now 1 ∙ ap (λ xs. drop 1 xs) c.split_at.ensures.back ∙ drop-drop 1 at rest)
    c.in_ok-asked.ensures.holds c.in_ok-asked.ensures.unchanged c.in_ok-asked.ensures.faults
    c.end_line.ensures.time neither

pub returns-in_err-asked-clause-fronts : goal.returns-in_err-asked-clause-fronts
returns-in_err-asked-clause-fronts g c =
    λ begun before h. on_err _ (line_failed g.S.Store c.args.self.now c.lines.self c.args.bytes.now c.lines.rest.now
    c.split_at.result.0.now (drop (c.in-Some.at + 1) c.lines.rest.now) c.in-Some.at c.lines.asks
    c.end_line.new.self.journal.store c.lines.invariant c.in-Some.ensures c.split_at.ensures.front refl
    c.in_err-asked.ensures.fronts begun before h)

pub returns-in_err-extend_piece-clause-fronts : goal.returns-in_err-extend_piece-clause-fronts
returns-in_err-extend_piece-clause-fronts g c =
    λ begun before h. on_err _ (piece_failed g.S.Store c.args.self.now c.lines.self c.args.bytes.now c.lines.rest.now
    c.lines.asks c.lines.invariant begun before h)

pub returns-clause-holds : goal.returns-clause-holds
returns-clause-holds g c =
    λ begun before h. all_taken g.S.Store c.args.self.now c.lines.self _ c.args.bytes.now c.lines.rest.now c.lines.asks
    c.lines.invariant c.in_default.ensures refl c.in_ok-extend_piece.ensures.piece begun before h

pub returns-clause-unchanged : goal.returns-clause-unchanged
returns-clause-unchanged g c =
    λ begun before h none. all_unchanged g.S.Store c.args.self.now c.lines.self c.args.bytes.now c.lines.rest.now
    c.lines.asks c.lines.invariant c.in_default.ensures begun before h none
