use Rattle.std.proofs.Common.{◌≡◌, ◌∙◌, ◌<◌, [], map, refl, sym, subst, ap, arith, get_or-set_same, Vec}
use Rattle.std.specs.declared.sync.Arc.{Arc}
use Rattle.std.specs.declared.alloc.Global.{Global}
use Rattle.clip_model.specs.History.{Registry}
use Rattle.std.specs.FinMap as finite
use Rattle.std.specs.Arc.{arc_value}
use Rattle.clip_registry.specs.Steps.Pieces.{AreInOrder, IsPlaceFor, joined, map_of}
use Rattle.clip_registry.proofs.Joining.{Shared, got_from_all, got_from_none, kept_in_all, on_err, removed_from_all}
use Rattle.clip_registry.proofs.Joining.{removed_from_none, removed_last, shared_within}
use Rattle.clip_registry.proofs.by_id.pieces.remove.Goals as goal
use Rattle.clip_registry.proofs.by_id.pieces.remove.Goals.{In-Some, In_default, Joined-len-eq0, then-len-eq0}
use Rattle.clip_registry.proofs.by_id.pieces.remove.Goals.{else-len-eq0}

none : (c : In_default) → joined (map arc_value c.args.pieces.now.items) ≡ []
none c = ap joined (subst (λ (xs : Shared). map arc_value xs
    ≡ []) c.deref.ensures.value (c.in_default.ensures.none refl))

pub returns-in_default-clause-removed : goal.returns-in_default-clause-removed
returns-in_default-clause-removed c = removed_from_none c.args.id.now (map arc_value c.args.pieces.now.items) (none c)

pub returns-in_default-clause-gone : goal.returns-in_default-clause-gone
returns-in_default-clause-gone c = got_from_none c.args.id.now (map arc_value c.args.pieces.now.items) (none c)

at : (c : In-Some) → IsPlaceFor c.args.id.now (map arc_value c.args.pieces.now.items) c.in-Some.place
at c = subst (λ (xs : Shared). IsPlaceFor c.args.id.now (map arc_value xs) c.in-Some.place) c.deref.ensures.value
    c.in-Some.ensures.found

within : (c : In-Some) → c.in-Some.place < c.args.pieces.now.len
within c = rw c.args.pieces.now.ok.0 (shared_within c.args.id.now c.args.pieces.now.items c.in-Some.place (at c))

pub index_mut-requires : goal.index_mut-requires
index_mut-requires c = within (goal.at.index_mut-requires c).In-Some

pub returns-in_err-gone-clause-in_order : goal.returns-in_err-gone-clause-in_order
returns-in_err-gone-clause-in_order c =
    subst AreInOrder (sym (kept_in_all c.args.pieces.now.items c.in-Some.place c.index_mut.result.now
    c.remove_in.new.piece c.index_mut.ensures.value c.in_err-gone.ensures.unchanged)) c.requires

pub returns-in_err-gone-clause-unchanged : goal.returns-in_err-gone-clause-unchanged
returns-in_err-gone-clause-unchanged c =
    on_err c.from_residual.result
    (ap map_of (kept_in_all c.args.pieces.now.items c.in-Some.place c.index_mut.result.now c.remove_in.new.piece
    c.index_mut.ensures.value c.in_err-gone.ensures.unchanged))

pub index-requires : goal.index-requires
index-requires c = within (goal.at.index-requires c).In-Some

pub remove-requires : goal.remove-requires
remove-requires c = within (goal.at.remove-requires c).In-Some

at_last : (c : Joined-len-eq0) → IsPlaceFor c.args.id.now (map arc_value c.args.pieces.now.items) c.in-Some.place
at_last c = subst (λ (xs : Shared). IsPlaceFor c.args.id.now (map arc_value xs) c.in-Some.place) c.deref.ensures.value
    c.in-Some.ensures.found

-- how many entries the piece has left
left_len : (c : Joined-len-eq0) → c.len.result ≡ finite.len (arc_value c.remove_in.new.piece)
left_len c =
    let xs = c.args.pieces.now.items in
    let lt = shared_within c.args.id.now xs c.in-Some.place (at_last c) in
    c.len.ensures ∙ ap finite.len (c.deref-2.ensures
    ∙ ap arc_value (c.index.ensures
    ∙ get_or-set_same xs c.in-Some.place c.remove_in.new.piece c.index.result.now lt))

left : (c : Joined-len-eq0) → AreInOrder (map arc_value c.if-len-eq0.pieces.items)
    × (map_of (map arc_value c.if-len-eq0.pieces.items)
    ≡ finite.remove (map_of (map arc_value c.args.pieces.now.items)) c.args.id.now)
left c =
    let q = c.args.id.now in
    let xs = c.args.pieces.now.items in
    let n = c.in-Some.place in
    let x = c.index_mut.result.now in
    let p = c.remove_in.new.piece in
    let len = left_len c in
    let Kept = λ (ys : Shared). AreInOrder (map arc_value ys)
    × (map_of (map arc_value ys) ≡ finite.remove (map_of (map arc_value xs)) q) in
    elim c.if-len-eq0.branch [
      | then-len-eq0 w ↦ subst Kept (sym (ap (λ (v : Vec (Arc Registry Global) Global). v.items) w.pieces-is
          ∙ w.remove.ensures.items))
          (removed_last q xs n x p c.requires (at_last c) c.index_mut.ensures.value c.in_ok-gone.ensures.removed
          (sym len ∙ w.if-len-eq0.true))
      | else-len-eq0 w ↦ subst Kept (sym (ap (λ (v : Vec (Arc Registry Global) Global). v.items) w.pieces-is))
          (removed_from_all q xs n x p c.requires (at_last c) c.index_mut.ensures.value c.in_ok-gone.ensures.removed
          (omega (arith, len, w.if-len-eq0.false)))
    ]

pub returns-clause-in_order : goal.returns-clause-in_order
returns-clause-in_order c = (left c).0

pub returns-clause-removed : goal.returns-clause-removed
returns-clause-removed c = (left c).1

pub returns-clause-gone : goal.returns-clause-gone
returns-clause-gone c =
    let xs = c.args.pieces.now.items in
    c.in_ok-gone.ensures.gone
    ∙ got_from_all c.args.id.now xs c.in-Some.place c.index_mut.result.now c.requires.sorted
    (at (goal.at.returns-clause-gone c).In-Some) c.index_mut.ensures.value
