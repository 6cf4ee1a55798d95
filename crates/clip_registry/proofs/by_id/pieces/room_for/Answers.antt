use Rattle.std.proofs.Common.{◌≡◌, ◌∙◌, ◌<◌, ◌≤◌, map, sym, subst, ap, arith}
use Rattle.std.specs.FinMap as finite
use Rattle.std.specs.Arc.{arc_value}
use Rattle.clip_registry.specs.Steps.Pieces.{IsPlaceFor}
use Rattle.clip_registry.specs.declared.by_id.piece.TheConstants.{MOST_IN_PIECE}
use Rattle.clip_registry.proofs.Joining.{IsFilled, Shared, filled_at, place_within, shared_at, shared_within}
use Rattle.clip_registry.proofs.by_id.pieces.room_for.Goals as goal
use Rattle.clip_registry.proofs.by_id.pieces.room_for.Goals.{In-Some}

at : (c : In-Some) → IsPlaceFor c.args.id.now (map arc_value c.args.pieces.now.items) c.in-Some.place
at c = subst (λ (xs : Shared). IsPlaceFor c.args.id.now (map arc_value xs) c.in-Some.place) c.deref.ensures.value
    c.in-Some.ensures.found

pub index-requires : goal.index-requires
index-requires c = rw c.args.pieces.now.ok.0
    (shared_within c.args.id.now c.args.pieces.now.items c.in-Some.place (at c))

pub returns-then-len-lt-MOST_IN_PIECE-clause-room : goal.returns-then-len-lt-MOST_IN_PIECE-clause-room
returns-then-len-lt-MOST_IN_PIECE-clause-room c =
    let xs = c.args.pieces.now.items in
    let here : IsPlaceFor c.args.id.now (map arc_value xs) c.in-Some.place =
    at (goal.at.returns-then-len-lt-MOST_IN_PIECE-clause-room c).In-Some in
    record {
      at = here;
      room = λ d.
          let same = shared_at xs c.in-Some.place c.index.result.now d
          (shared_within c.args.id.now xs c.in-Some.place here) c.index.ensures in
          let few : finite.len (arc_value c.index.result.now) < MOST_IN_PIECE =
          subst (λ m. finite.len m < MOST_IN_PIECE) c.deref-2.ensures
          (subst (λ k. k < MOST_IN_PIECE) c.len.ensures c.if-len-lt-MOST_IN_PIECE.true) in
          subst (λ m. finite.len m < MOST_IN_PIECE) (sym same) few;
    }

pub split-requires-clause-full : goal.split-requires-clause-full
split-requires-clause-full c d =
    let xs = c.args.pieces.now.items in
    let here : IsPlaceFor c.args.id.now (map arc_value xs) c.in-Some.place =
    at (goal.at.split-requires-clause-full c).In-Some in
    let same = shared_at xs c.in-Some.place c.index.result.now d (shared_within c.args.id.now xs c.in-Some.place here)
    c.index.ensures in
    let filled : IsFilled (arc_value c.index.result.now) =
    subst IsFilled same (filled_at (map arc_value xs) c.in-Some.place d c.requires.filled
    (place_within c.args.id.now (map arc_value xs) c.in-Some.place here)) in
    let many : MOST_IN_PIECE ≤ finite.len (arc_value c.index.result.now) =
    subst (λ m. MOST_IN_PIECE ≤ finite.len m) c.deref-2.ensures
    (subst (λ k. MOST_IN_PIECE ≤ k) c.len.ensures c.if-len-lt-MOST_IN_PIECE.false) in
    let most : finite.len (arc_value c.index.result.now) ≤ MOST_IN_PIECE = filled.1 in
    let all : finite.len (arc_value c.index.result.now) ≡ MOST_IN_PIECE = omega arith in
    ap finite.len same ∙ all
