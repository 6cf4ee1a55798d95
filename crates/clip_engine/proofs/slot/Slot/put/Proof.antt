-- What is kept goes to where there was room for it.
use Rattle.std.proofs.Common.{◌≡◌, List, [], ◌∷◌, refl, sym, ap, ◌∙◌, subst, Option, Some, None}
use Rattle.std.proofs.alloc.Calls.{Goes-blank}
use Rattle.std.proofs.raw_atomic.Walks.{proved_at}
use Rattle.std.proofs.VecSteps.Shapes.{after}
use base.Fraction.{full_share}
use base.Logic.{ent, id⊢}
use base.Fml.{ftrue, flft}
use mir.Syntax.{named}
use mir.Val.{Val, vunit}
use contract.Monad.{fact}
use contract.Running.{tables}
use prog.Wp.{WpFn}
use types.Kit.{‵, raw, ◌⊛◌, at_ret, ◌$◌, ◌∵◌, !, qed, done, move, keep, use2, split, join, fsplit, fsplit3, fjoin}
use types.Kit.{feq_i, rewrite, suffices, frame, group}
use types.Run.{enter, of_opd, unit_lit, load, init, stop, fld, assigns_last, first, blocks, exec, returns}
use types.ByLocal.{alloc_all, pass_all, free_all, look_at, get, through, sets, env}
use types.Part.{whole, sub, look_in}
use borrow.Table.OneValue.{part_in}
use denote.Exit.{yes}
use denote.Laws.{shows}
use denote.Memory.{cell_at, part_at}
use denote.RawPtr.{Ptr, lies_at, room_at, in_a_block}
use denote.Ref.{MutRef, mut_vals, mut_Tells}
use denote.Signature.{plain}
use denote.Steps.{nothing, opens, closes, heard, peeks}
use denote.Triple.Walked.{Stays, walk_of, says, stay_ref, stay_dropped, Goes-ref, ends_at}
use Rattle.clip_engine.specs.Slot.{lies_in}
use Rattle.clip_engine.specs.contracts.kept.Kept.{the_row as K}
use Rattle.clip_engine.proofs.kept.Kept.TheLaws.{the_row_laws as laws}
use Rattle.clip_engine.specs.contracts.slot.Slot.{the_row as R}
use Rattle.clip_engine.proofs.slot.Slot.TheLaws.{lowers}
use Rattle.clip_engine.specs.contracts.slot.Slot.put as f
use Rattle.clip_engine.proofs.Keeping.{lone_word}
use Rattle.clip_engine.proofs.slot.Slot.put.Statement.{statement}
use Rattle.clip_engine.proofs.slot.Slot.put.Code as code

abbrev stayed : Stays f.ended.signature.params f.ended.kept
stayed = (stay_ref (0 ∷ []) tt (plain (λ _. R)), (stay_dropped (plain (λ _. K)) yes, tt))

pub put_spec : {M : Type 1} → statement M
put_spec 𝓤 𝓛 𝓜 𝓡 wired =
    let c = f.clauses 𝓛 𝓜.mem 𝓡.returns in let W = walk_of 𝓛 f.ended stayed c in let 𝓣 = tables 𝓤 𝓛.H 𝓜 𝓡 𝓡.env in
    proved_at 𝓛 f.ended stayed c 𝓜 𝓡 (
      Goes-ref 𝓛 1 0 tt (plain (λ _. R)),
      (Goes-blank 𝓛 1 (plain (λ _. K)) yes (λ κs x w. tt), tt),
    )
    f.Key.name code.function (code.unfolded 𝓤 𝓛.H 𝓜 𝓡 wired) (λ z are.
    let κ = z.0.0.0 in let q = z.0.1.0 in let a = z.0.3 in let b = a.0.ref_ptr.0 in let o = a.0.ref_ptr.1 in let h =
    a.0.now in let k = a.1.0 in
    let At : List Val → List Val → W.Ghost = λ us vs. ((z.0.0, z.0.1, z.0.2, a, (us, (vs, tt))), z.1) in
    let Goes : List Val → List Val → Type 1 =
    λ us vs. ent 𝓤 (W.pre (At us vs)) (WpFn 𝓤 𝓛.H 𝓣.C 𝓣.Λ code.function (W.args (At us vs)) (W.post (At us vs))) in
    let word_of = lone_word z.0.4.1.0 (laws.single k z.0.4.1.0 are.1.0) in let v = word_of.0 in
    let good = subst (λ (vs : List Val). denote.Laws.Typed K.mir vs) word_of.1
    ((laws.lawful 𝓛).typed k z.0.4.1.0 are.1.0) in
    let y = At (mut_vals a.0) (v ∷ []) in
    let walk : Goes (mut_vals a.0) (v ∷ []) =
    qed 𝓛 (((‵ (flft κ q) ⊛ ‵ ftrue) ⊛ ‵ ((MutRef (named 0) κ R).own_val a.0 (mut_vals a.0)) ⊛ ‵ (K.own_val k (v ∷ []))
    ⊛ ‵ ftrue) ∷ raw (fact 𝓤 (h.kept ≡ None)) ∷ []) ∵
    move ! (1 ∷ []) $ heard ! (h.kept ≡ None) (λ none.
    split ! $ split ! $ move ! (2 ∷ []) $ split ! $ move ! (1 ∷ []) $ split ! $ keep ! (2 ∷ 3 ∷ 0 ∷ []) $
    enter ! _ _ _ _ _ $ alloc_all ! (λ l. pass_all ! refl ((tt, tt), (good.0, tt)) $
    fsplit3 ! $ move ! (1 ∷ 2 ∷ 3 ∷ []) $ opens ! tt R b o (λ us.
    move ! (1 ∷ []) $ peeks ! R _ (shows 𝓛 R) h us (λ is. fsplit ! $ move ! (1 ∷ []) $
    rewrite ! 0 (λ (m : Option K.Denot). ‵ (lies_in h.at m)) none refl $
    in_a_block ! h.at (λ p. room_at K p) (id⊢ 𝓤 _) (λ b' o' e.
    let word = lowers.val_is h us is ∙ ap (λ (p : Ptr). lowers.lowered (record h { at = p }) ∷ []) e in
    let Cell = λ (ws : List Val). ‵ (cell_at full_share R.mir ws b o) in
    -- [the room; what the fields own; the slot; the open borrow, in three entries; self's first part; what is kept
    -- owns]
    rewrite ! 2 Cell word refl $
    first ! $ blocks ! $
    sets ! (of_opd ! (load ! (through ! refl (fld ! refl (stop !))) (look_in ! 2 (sub ! 0 refl (whole !))))) refl (
      tt,
      tt,
    ) $
    sets ! (of_opd ! (get ! refl)) refl (tt, tt) $
    sets ! (of_opd ! (get ! refl)) refl good.0 $
    assigns_last ! (of_opd ! (get ! refl)) (through ! refl (stop !)) (init ! 0 refl good.0) $
    exec ! 𝓣.C 𝓣.Λ (env code.Mir.locals l) (after 1 (code.function).body) (at_ret _ (W.post y)) $
    sets ! (of_opd ! (unit_lit !)) refl (tt, tt) $
    move ! (0 ∷ 7 ∷ []) $ use2 𝓛 (‵ (part_at K full_share k b' o')) (part_in 𝓛 K refl full_share k b' o' v) $
    rewrite ! 0 (λ (p : Ptr). ‵ (lies_at K full_share p k)) (sym e) refl $ rewrite ! 2 Cell (sym word) refl $
    move ! (1 ∷ []) $ fjoin ! $ move ! (1 ∷ []) $ closes ! tt R (record h { kept = Some k }) us b o $
    -- [two parts of self; the token; self's first part]
    returns ! (look_at ! 0 refl) $ free_all ! refl $ move ! (3 ∷ []) $
    suffices ! _ (ends_at 𝓛 f.ended stayed c y vunit tt (record h { kept = Some k }, ((tt, (tt, tt)), tt)) (
      tt,
      (tt, tt),
    )) $ says ! refl $
    group ! 3 $ nothing ! $ nothing ! $ join ! $ move ! (1 ∷ 0 ∷ []) $ join ! $ nothing ! $ move ! (2 ∷ 0 ∷ []) $ join
    ! $ frame ! $ frame ! $
    feq_i ! _ (vunit ∷ []) _ refl $ done !))))) in
    subst (λ (us : List Val). Goes us z.0.4.1.0) (sym (mut_Tells (named 0) κ R a.0 z.0.4.0 are.0))
    (subst (λ (vs : List Val). Goes (mut_vals a.0) vs) (sym word_of.1) walk))
