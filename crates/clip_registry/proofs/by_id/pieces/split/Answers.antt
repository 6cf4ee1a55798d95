use Rattle.std.proofs.Common.{◌≡◌, ◌∙◌, map, set, sym, subst, ap, arith, add-one}
use Rattle.std.specs.FinMap as finite
use Rattle.std.specs.Arc.{arc_value}
use Rattle.clip_registry.specs.Steps.Pieces.{AreHalves, HasRoomFor, ends_below}
use Rattle.clip_registry.specs.declared.by_id.piece.TheConstants.{MOST_IN_PIECE}
use Rattle.clip_registry.proofs.Joining.{room_above, room_under, shared_at, shared_within, split_in_order, split_same}
use Rattle.clip_registry.proofs.by_id.pieces.split.Goals as goal
use Rattle.clip_registry.proofs.by_id.pieces.split.Goals.{then-ends_below, else-ends_below}

pub index-requires : goal.index-requires
index-requires c = rw c.args.pieces.now.ok.0
    (shared_within c.args.id.now c.args.pieces.now.items c.args.place c.requires.place)

pub overflow_add-next : goal.overflow_add-next
overflow_add-next c =
    let lt = shared_within c.args.id.now c.args.pieces.now.items c.args.place c.requires.place in
    omega (arith, lt, c.args.pieces.now.ok, c.args.pieces.now.small)

pub overflow_add-place : goal.overflow_add-place
overflow_add-place c =
    let lt = shared_within c.args.id.now c.args.pieces.now.items c.args.place c.requires.place in
    omega (arith, lt, c.args.pieces.now.ok, c.args.pieces.now.small)

pub insert-requires : goal.insert-requires
insert-requires c =
    let lt = shared_within c.args.id.now c.args.pieces.now.items c.args.place c.requires.place in
    rw c.args.pieces.now.ok.0 (omega (arith, lt))

pub index_mut-requires : goal.index_mut-requires
index_mut-requires c =
    let lt = shared_within c.args.id.now c.args.pieces.now.items c.args.place c.requires.place in
    omega (arith, lt, c.args.pieces.now.ok, c.in_ok-insert.ensures.len)

full : (c : goal.After-drop-index_mut) → finite.len (arc_value c.index.result.now) ≡ MOST_IN_PIECE
full c =
    let xs = c.args.pieces.now.items in
    let at = shared_at xs c.args.place c.index.result.now (arc_value c.index.result.now)
    (shared_within c.args.id.now xs c.args.place c.requires.place) c.index.ensures in
    ap finite.len (sym at) ∙ c.requires.full (arc_value c.index.result.now)

cut : (c : goal.After-drop-index_mut)
    → AreHalves (arc_value c.index.result.now) (arc_value c.in_ok-lower-2.lower) (arc_value c.in_ok-upper.upper)
cut c =
    let low : arc_value c.in_ok-lower-2.lower ≡ c.in_ok-lower.lower = c.in_ok-lower-2.ensures.ok in
    let high : arc_value c.in_ok-upper.upper ≡ c.in_ok-lower.upper = c.in_ok-upper.ensures.ok in
    let halves : AreHalves c.deref.result.now c.in_ok-lower.lower c.in_ok-lower.upper = c.in_ok-lower.ensures in
    subst (λ m. AreHalves m (arc_value c.in_ok-lower-2.lower) (arc_value c.in_ok-upper.upper)) c.deref.ensures
    (subst (λ m. AreHalves c.deref.result.now m (arc_value c.in_ok-upper.upper)) (sym low)
    (subst (λ m. AreHalves c.deref.result.now c.in_ok-lower.lower m) (sym high) halves))

pub returns-clause-in_order : goal.returns-clause-in_order
returns-clause-in_order c =
    split_in_order c.args.id.now c.args.pieces.now.items c.insert.new.self.items c.args.place c.index.result.now
    c.in_ok-lower-2.lower c.in_ok-upper.upper c.requires.in_order c.requires.place c.index.ensures
    (full c) (cut c) c.in_ok-insert.ensures.items

pub returns-clause-same : goal.returns-clause-same
returns-clause-same c =
    split_same c.args.id.now c.args.pieces.now.items c.insert.new.self.items c.args.place c.index.result.now
    c.in_ok-lower-2.lower c.in_ok-upper.upper c.requires.in_order c.requires.place c.index.ensures
    (full c) (cut c) c.in_ok-insert.ensures.items

pub returns-clause-room : goal.returns-clause-room
returns-clause-room c =
    let q = c.args.id.now in
    let new = map arc_value (set c.insert.new.self.items c.args.place c.in_ok-lower-2.lower) in
    let low : arc_value c.in_ok-lower-2.lower ≡ c.in_ok-lower.lower = c.in_ok-lower-2.ensures.ok in
    elim c.if-ends_below.branch [
      | then-ends_below w ↦ subst (λ k. HasRoomFor q new k) (sym (w.next-is ∙ add-one c.args.place))
          (room_above q c.args.pieces.now.items c.insert.new.self.items c.args.place c.index.result.now
          c.in_ok-lower-2.lower c.in_ok-upper.upper c.requires.in_order c.requires.place c.index.ensures
          (full c) (cut c) c.in_ok-insert.ensures.items (ap (ends_below q) low ∙ sym w.if-ends_below.ensures))
      | else-ends_below w ↦ subst (λ k. HasRoomFor q new k) (sym w.next-is)
          (room_under q c.args.pieces.now.items c.insert.new.self.items c.args.place c.index.result.now
          c.in_ok-lower-2.lower c.in_ok-upper.upper c.requires.in_order c.requires.place c.index.ensures
          (full c) (cut c) c.in_ok-insert.ensures.items (ap (ends_below q) low ∙ sym w.if-ends_below.ensures))
    ]
