use Rattle.std.proofs.Common.{◌≡◌, ◌<◌, ◌++◌, ◌∷◌, [], Some, None, length, unwrap_or, refl, ap, sym, ◌∙◌}
use Rattle.std.proofs.Common.{arith}
use Rattle.std.proofs.lemmas.Option.{slice_get-get_or}
use Rattle.clip_segment.proofs.Flagged.{kept_next, left_next, none_next}
use Rattle.clip_segment.proofs.flagged_texts.with_flagged.Goals as goal

none_some : {A : Type 0} {x : A} → None ≡ Some x → ⊥
none_some h = cc

pub loop-place-preserved-then-not-flag_at : goal.loop-place-preserved-then-not-flag_at
loop-place-preserved-then-not-flag_at c =
    left_next (λ texts. texts) (λ text. text ∷ []) (λ x xs. refl) c.args.flags.now c.args.others.now c.loop-place.place
    [] c.loop-place.texts c.loop-place.texts _ (omega arith) (sym c.flag_at.ensures ∙ c.if-not-flag_at.true) refl
    c.loop-place.invariant

pub unreachable-requires : goal.unreachable-requires
unreachable-requires c =
    let within : c.loop-place.place < length c.args.others.now = omega arith in
    none_some (c.in_default.ensures ∙ slice_get-get_or c.args.others.now c.loop-place.place [] within)

pub loop-place-preserved : goal.loop-place-preserved
loop-place-preserved c =
    kept_next (λ texts. texts) (λ text. text ∷ []) (λ x xs. refl) c.args.flags.now c.args.others.now c.loop-place.place
    [] c.loop-place.texts c.in_ok-texts.texts _ (omega arith) (sym c.flag_at.ensures ∙ c.if-not-flag_at.false)
    (c.in_ok-texts.ensures
    ∙ ap (λ text. c.loop-place.texts ++ text ∷ []) (ap (λ o. unwrap_or o []) c.in-Some.ensures))
    c.loop-place.invariant

pub returns : goal.returns
returns c =
    none_next (λ texts. texts) (λ text. text ∷ []) (λ x xs. refl) c.args.flags.now c.args.others.now
    c.loop-place.place c.loop-place.texts _ refl (omega arith) c.loop-place.invariant
