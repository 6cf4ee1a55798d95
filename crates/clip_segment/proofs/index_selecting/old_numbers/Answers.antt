use Rattle.std.proofs.Common.{◌≡◌, ℕ, ◌<◌, Option, length, Some, None, replicate, refl, ap, sym, ◌∙◌, arith}
use Rattle.std.proofs.lemmas.List.{length-map}
use Rattle.std.proofs.lemmas.Grind.{common_steps}
use Rattle.clip_extract.specs.Keys.{key_of}
use Rattle.clip_segment.proofs.OldNumbers.{next_old, none_old}
use Rattle.clip_segment.proofs.index_selecting.old_numbers.Goals as goal
use Rattle.clip_segment.proofs.index_selecting.old_numbers.Goals.{in-Some, in_default}

only_none : (P : Option ℕ → Type 0) → ((x : ℕ) → P (Some x) → ⊥) → (y : Option ℕ) → P y → y ≡ None
only_none P never None h = refl
only_none P never (Some x) h = absurd (never x h)

none_there : (o : Option ℕ) → ((x : ℕ) → o ≡ Some x → ⊥) → o ≡ None
none_there None never = refl
none_there (Some x) never = absurd (never x refl)

pub loop-place-init : goal.loop-place-init
loop-place-init c = λ rise.
    c.in_ok-old.ensures.items_if_clones_equal (only_none _ (λ x h. absurd h))
    ∙ ap (λ n. replicate n None) c.len.ensures ∙ none_old c.args.terms.now

pub loop-place-preserved : goal.loop-place-preserved
loop-place-preserved c = λ rise.
    let terms = c.args.terms.now in
    let olds = c.args.olds.now in
    let place = c.loop-place.place in
    let many : length c.keys-place-end.result.now ≡ length olds = sym (length-map c.keys-place-end.result.now key_of)
    ∙ ap length c.keys-place-end.ensures.terms in
    let lt : place < length olds = omega (arith, many, c.loop-place-test.true) in
    elim c.match-numbers-place.branch [
      | in-Some w ↦
          next_old terms olds place c.args.numbers.now (Some w.in-Some.number) None c.loop-place.old.items
          c.match-numbers-place.old.items c.requires.rising rise lt c.requires.numbers
          (sym w.in-Some.is) (ap (λ v. v.items) w.old-is ∙ w.set_number.ensures) (c.loop-place.invariant rise)
      | in_default w ↦
          next_old terms olds place c.args.numbers.now None None c.loop-place.old.items c.match-numbers-place.old.items
          c.requires.rising rise lt c.requires.numbers
          (sym (none_there _ w.in_default.not-Some)) (ap (λ v. v.items) w.old-is) (c.loop-place.invariant rise)
    ]

-- found by this tactic: it stands here so that no other is tried before it
pub returns : goal.returns
returns c = grind (arith, common_steps)
