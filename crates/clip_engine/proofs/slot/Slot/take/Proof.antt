-- The bits of what lies there go to the result, and there is room then.
use Rattle.std.proofs.Common.{List, [], ◌∷◌, refl, sym, ap, ◌∙◌, Option, None}
use Rattle.std.specs.Prelude.{IsSome}
use Rattle.std.proofs.raw_atomic.Walks.{proved}
use Rattle.std.proofs.VecSteps.Shapes.{after}
use base.Fraction.{full_share}
use base.Logic.{id⊢}
use base.Fml.{ftrue, fat, flft, froom}
use mir.Syntax.{named}
use mir.Val.{Val}
use contract.Monad.{fact}
use contract.Running.{tables}
use types.Kit.{‵, raw, ◌⊛◌, some, at_ret, ◌$◌, ◌∵◌, !, qed, done, move, keep, use1, split, join, fsplit, fsplit3, fjoin}
use types.Kit.{pick, rewrite, suffices, frame, group}
use types.Run.{enter, of_opd, load, look, stop, fld, first, blocks, exec, returns}
use types.ByLocal.{alloc_all, pass_all, free_all, look_at, get, through, sets, sets_last, env}
use types.Part.{whole, sub, look_in}
use borrow.Table.OneValue.{part_out}
use denote.Laws.{Is, shows}
use denote.Memory.{cell_at, lone}
use denote.RawPtr.{Ptr, lies_at, room_at, in_a_block}
use denote.Ref.{MutRef, mut_vals, mut_Tells}
use denote.Signature.{plain}
use denote.Steps.{nothing, opens, closes, heard, peeks}
use denote.Triple.Walked.{Stays, walk_of, says, stay_ref, Goes-ref, ends_at}
use Rattle.clip_engine.specs.Slot.{lies_in}
use Rattle.clip_engine.specs.contracts.kept.Kept.{the_row as K}
use Rattle.clip_engine.proofs.kept.Kept.TheLaws.{the_row_laws as laws}
use Rattle.clip_engine.specs.contracts.slot.Slot.{the_row as R}
use Rattle.clip_engine.proofs.slot.Slot.TheLaws.{lowers}
use Rattle.clip_engine.specs.contracts.slot.Slot.take as f
use Rattle.clip_engine.proofs.Keeping.{the_some}
use Rattle.clip_engine.proofs.slot.Slot.take.Statement.{statement}
use Rattle.clip_engine.proofs.slot.Slot.take.Code as code

abbrev stayed : Stays f.ended.signature.params f.ended.kept
stayed = (stay_ref (0 ∷ []) tt (plain (λ _. R)), tt)

pub take_spec : {M : Type 1} → statement M
take_spec 𝓤 𝓛 𝓜 𝓡 wired =
    let c = f.clauses 𝓛 𝓜.mem 𝓡.returns in let W = walk_of 𝓛 f.ended stayed c in let 𝓣 = tables 𝓤 𝓛.H 𝓜 𝓡 𝓡.env in
    proved 𝓛 f.ended stayed c 𝓜 𝓡 (Goes-ref 𝓛 1 0 tt (plain (λ _. R)), tt)
    f.Key.name code.function (code.unfolded 𝓤 𝓛.H 𝓜 𝓡 wired)
    (λ κs. (mut_vals, tt)) (λ κs. (mut_Tells (named 0) κs.0 R, tt)) (λ κs qs bounds a _ are.
    let b = a.0.ref_ptr.0 in let o = a.0.ref_ptr.1 in let h = a.0.now in let vs = mut_vals a.0 in
    let y : W.Ghost = ((κs, qs, bounds, a, (vs, tt)), tt) in
    qed 𝓛 (((‵ (flft κs.0 qs.0) ⊛ ‵ ftrue) ⊛ ‵ ((MutRef (named 0) κs.0 R).own_val a.0 vs) ⊛ ‵ ftrue)
    ∷ raw (fact 𝓤 (IsSome h.kept)) ∷ []) ∵
    move ! (1 ∷ []) $ heard ! (IsSome h.kept) (λ some_kept.
    let k = (the_some h.kept some_kept).0 in let is_k = (the_some h.kept some_kept).1 in
    split ! $ split ! $ move ! (2 ∷ []) $ split ! $ keep ! (0 ∷ 2 ∷ []) $
    enter ! _ _ _ _ _ $ alloc_all ! (λ l. pass_all ! refl ((tt, tt), tt) $
    fsplit3 ! $ move ! (1 ∷ 2 ∷ 3 ∷ []) $ opens ! tt R b o (λ us.
    move ! (1 ∷ []) $ peeks ! R _ (shows 𝓛 R) h us (λ is. fsplit ! $ move ! (1 ∷ []) $
    rewrite ! 0 (λ (m : Option K.Denot). ‵ (lies_in h.at m)) is_k refl $
    in_a_block ! h.at (λ p. lies_at K full_share p k) (id⊢ 𝓤 _) (λ b' o' e.
    use1 𝓛 (some (λ (v : Val). ‵ (fat full_share (lone K.mir) b' o' v) ⊛ ‵ (K.own_val k (v ∷ []))))
    (part_out 𝓛 K refl full_share k b' o') $ pick ! (λ v. split ! $
    move ! (1 ∷ []) $ peeks ! K (Is K) (shows 𝓛 K) k (v ∷ []) (λ is_v.
    let good = (laws.lawful 𝓛).typed k (v ∷ []) is_v in
    let word = lowers.val_is h us is ∙ ap (λ (p : Ptr). lowers.lowered (record h { at = p }) ∷ []) e in
    let Cell = λ (ws : List Val). ‵ (cell_at full_share R.mir ws b o) in
    -- [what is kept owns; its bits; what the fields own; the slot; the open borrow, in three entries; self's first
    -- part]
    rewrite ! 3 Cell word refl $
    first ! $ blocks ! $
    sets ! (of_opd ! (load ! (through ! refl (fld ! refl (stop !))) (look_in ! 3 (sub ! 0 refl (whole !))))) refl (
      tt,
      tt,
    ) $
    sets ! (of_opd ! (get ! refl)) refl (tt, tt) $
    sets_last ! (of_opd ! (load ! (through ! refl (stop !)) (look ! 1 refl))) refl good.0 $
    exec ! 𝓣.C 𝓣.Λ (env code.Mir.locals l) (after 1 (code.function).body) (at_ret _ (W.post y)) $
    sets ! (of_opd ! (get ! refl)) refl good.0 $
    move ! (1 ∷ []) $ use1 𝓛 (‵ (froom (lone K.mir) b' o')) (𝓛.laws.at_room (lone K.mir) b' o' v) $
    rewrite ! 0 (λ (p : Ptr). ‵ (room_at K p)) (sym e) refl $ rewrite ! 3 Cell (sym word) refl $
    move ! (2 ∷ 0 ∷ []) $ fjoin ! $ move ! (2 ∷ 0 ∷ 3 ∷ 4 ∷ 5 ∷ []) $ closes ! tt R (record h { kept = None }) us b o $
    -- [two parts of self; the token; what is kept; self's first part]
    returns ! (look_at ! 0 refl) $ free_all ! refl $ move ! (4 ∷ []) $
    suffices ! _ (ends_at 𝓛 f.ended stayed c y v k (record h { kept = None }, tt) (tt, tt)) $ says ! (sym is_k, refl) $
    group ! 3 $ nothing ! $ move ! (1 ∷ 0 ∷ []) $ join ! $ nothing ! $ move ! (2 ∷ 0 ∷ []) $ join ! $ frame ! $ frame !
    $ done !))))))))
