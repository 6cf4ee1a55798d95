use Rattle.std.proofs.Common.{◌≡◌, ◌∙◌, [], map, Ok, sym, subst, ap}
use Rattle.std.proofs.lemmas.Result.{IfOk-weaker, on_err_weaker, on_ok_weaker}
use Rattle.std.specs.Prelude.{Result, Err, OnOk, OnErr}
use Rattle.std.specs.Option.{IfSome}
use Rattle.std.specs.FinMap as finite
use Rattle.std.specs.Arc.{arc_value}
use Rattle.clip_registry.specs.Steps.Pieces.{AreInOrder, HasRoomFor, joined, map_of}
use Rattle.clip_registry.specs.Steps.Roster.{insert_one}
use Rattle.clip_registry.proofs.Joining.{first_in_all, got_from_all, got_from_none, inserted_in_all, kept_in_all}
use Rattle.clip_registry.proofs.Joining.{shared_within}
use Rattle.clip_registry.proofs.by_id.pieces.insert.Goals as goal
use Rattle.clip_registry.proofs.by_id.pieces.insert.Goals.{In-Some, In_ok-push-in-None}

either_way : {A E P Q : Type 0} {C : Type 0} (r : Result A E) → OnOk r P → OnErr r Q → (P → C) → (Q → C) → C
either_way (Ok x) p q f g = f p
either_way (Err e) p q f g = g q

room : (c : In-Some) → HasRoomFor c.args.entry.value.standing.id (map arc_value c.room_for.new.pieces.items)
    c.in-Some.place
room c =
    let ms = map arc_value c.room_for.new.pieces.items in
    subst (λ q. HasRoomFor q ms c.in-Some.place) c.id_of.ensures
    (subst (λ o. IfSome o (HasRoomFor c.id_of.result.now ms)) c.in-Some.is c.in_ok-place.ensures.room)

pub index_mut-requires : goal.index_mut-requires
index_mut-requires c = rw c.room_for.new.pieces.ok.0
    (shared_within c.args.entry.value.standing.id c.room_for.new.pieces.items c.in-Some.place
    (room (goal.at.index_mut-requires c).In-Some).at)

-- the old list amounts to the same as the one with room
was : (c : In-Some) → map_of (map arc_value c.room_for.new.pieces.items)
    ≡ map_of (map arc_value c.args.pieces.now.items)
was c = ap finite.from_sorted c.in_ok-place.ensures.same

pub returns-in-Some-clause-in_order : goal.returns-in-Some-clause-in_order
returns-in-Some-clause-in_order c =
    let here = (goal.at.returns-in-Some-clause-in_order c).In-Some in
    let xs = c.room_for.new.pieces.items in
    either_way c.insert_in.result c.insert_in.ensures.inserted c.insert_in.ensures.unchanged
    (λ e. (inserted_in_all xs c.in-Some.place c.index_mut.result.now c.insert_in.new.piece c.args.entry.value
    c.in_ok-place.ensures.in_order (room here) c.index_mut.ensures.value e).0)
    (λ e. subst AreInOrder (sym
    (kept_in_all xs c.in-Some.place c.index_mut.result.now c.insert_in.new.piece c.index_mut.ensures.value e))
    c.in_ok-place.ensures.in_order)

pub returns-in-Some-clause-inserted : goal.returns-in-Some-clause-inserted
returns-in-Some-clause-inserted c =
    let here = (goal.at.returns-in-Some-clause-inserted c).In-Some in
    on_ok_weaker c.insert_in.result (λ e.
    (inserted_in_all c.room_for.new.pieces.items c.in-Some.place c.index_mut.result.now c.insert_in.new.piece
    c.args.entry.value c.in_ok-place.ensures.in_order (room here) c.index_mut.ensures.value e).1
    ∙ ap (λ m. insert_one m c.args.entry.value) (was here)) c.insert_in.ensures.inserted

pub returns-in-Some-clause-replaced : goal.returns-in-Some-clause-replaced
returns-in-Some-clause-replaced c =
    let here = (goal.at.returns-in-Some-clause-replaced c).In-Some in
    let q = c.args.entry.value.standing.id in
    IfOk-weaker c.insert_in.result _ _ (λ old e.
    e ∙ got_from_all q c.room_for.new.pieces.items c.in-Some.place c.index_mut.result.now
    c.in_ok-place.ensures.in_order.sorted (room here).at c.index_mut.ensures.value
    ∙ ap (λ m. finite.get m q) (was here)) c.insert_in.ensures.replaced

pub returns-in-Some-clause-unchanged : goal.returns-in-Some-clause-unchanged
returns-in-Some-clause-unchanged c =
    let here = (goal.at.returns-in-Some-clause-unchanged c).In-Some in
    on_err_weaker c.insert_in.result (λ e.
    ap map_of (kept_in_all c.room_for.new.pieces.items c.in-Some.place c.index_mut.result.now c.insert_in.new.piece
    c.index_mut.ensures.value e) ∙ was here) c.insert_in.ensures.unchanged

none : (c : In_ok-push-in-None) → map arc_value c.room_for.new.pieces.items ≡ []
none c = c.in_ok-place.ensures.none (ap Ok c.in-None.is)

first : (c : In_ok-push-in-None) → AreInOrder (map arc_value c.push.new.self.items)
    × (map_of (map arc_value c.push.new.self.items)
    ≡ insert_one (map_of (map arc_value c.args.pieces.now.items)) c.args.entry.value)
first c =
    first_in_all (map arc_value c.args.pieces.now.items) c.room_for.new.pieces.items c.push.new.self.items
    c.in_ok-new-in-None.field-0 c.args.entry.value (none c) c.in_ok-place.ensures.same
    c.in_ok-push-in-None.ensures.items (c.in_ok-new-in-None.ensures.ok ∙ c.in_ok-of-in-None.ensures)

pub returns-in_ok-push-in-None-clause-in_order : goal.returns-in_ok-push-in-None-clause-in_order
returns-in_ok-push-in-None-clause-in_order c = (first c).0

pub returns-in_ok-push-in-None-clause-inserted : goal.returns-in_ok-push-in-None-clause-inserted
returns-in_ok-push-in-None-clause-inserted c = (first c).1

pub returns-in_ok-push-in-None-clause-replaced : goal.returns-in_ok-push-in-None-clause-replaced
returns-in_ok-push-in-None-clause-replaced c =
    got_from_none c.args.entry.value.standing.id (map arc_value c.args.pieces.now.items)
    (sym c.in_ok-place.ensures.same ∙ ap joined (none c))
