use Rattle.std.proofs.Common.{◌≡◌, ◌||◌, ◌&&◌, ℕ, true, false, nat_eq, ltb, length, refl, sym, ap, ◌∙◌, arith}
use Rattle.std.proofs.Math.Bool.{and-false, and-true, or-false}
use Rattle.std.proofs.lemmas.Bool.Decides.{nat_tests}
use Rattle.std.specs.List.{list_any}
use Rattle.clip_segment.specs.Steps.Parts.{flag_at}
use Rattle.clip_segment.proofs.Answering.{list_at}
use Rattle.clip_segment.proofs.Flagged.{set_more}
use Rattle.clip_segment.proofs.kept_terms.set_kept.Goals as goal
use Rattle.clip_segment.proofs.kept_terms.set_kept.Goals.{then-any_flag, else-any_flag}

pub loop-number-init : goal.loop-number-init
loop-number-init c = record {
  long = refl;
  flags = λ n lt.
      let none : ltb n 0 ≡ false = grind (arith, nat_tests) in
      sym (ap (λ b. flag_at c.args.flags.now.items n
      || (b && list_any (flag_at c.args.kept.now) (list_at c.args.lists.now n))) none ∙ or-false _);
}

pub loop-number-preserved : goal.loop-number-preserved
loop-number-preserved c =
    let i = c.loop-number.number in
    let is_kept = λ (n : ℕ). list_any (flag_at c.args.kept.now) (list_at c.args.lists.now n) in
    let here : c.any_flag.result ≡ is_kept i =
    c.any_flag.ensures ∙ ap (list_any (flag_at c.args.kept.now)) c.get.ensures in
    elim c.if-any_flag.branch [
      | then-any_flag w ↦ record {
        long = ap (λ v. length v.items) w.flags-is ∙ w.set_flag.ensures.long ∙ c.loop-number.invariant.long;
        flags = λ n lt.
            set_more n i _ _ _ true (is_kept n) (c.loop-number.invariant.flags n lt)
            (λ e. sym w.if-any_flag.true ∙ here ∙ ap is_kept (sym e))
            (ap (λ v. flag_at v.items n) w.flags-is
            ∙ w.set_flag.ensures.flags n (omega (arith, lt, c.loop-number.invariant.long))
            ∙ ap (λ b. flag_at c.loop-number.flags.items n || b) (sym (and-true (nat_eq n i))));
      }
      | else-any_flag w ↦ record {
        long = ap (λ v. length v.items) w.flags-is ∙ c.loop-number.invariant.long;
        flags = λ n lt.
            set_more n i _ _ _ false (is_kept n) (c.loop-number.invariant.flags n lt)
            (λ e. sym w.if-any_flag.false ∙ here ∙ ap is_kept (sym e))
            (ap (λ v. flag_at v.items n) w.flags-is
            ∙ sym (ap (λ b. flag_at c.loop-number.flags.items n || b) (and-false (nat_eq n i)) ∙ or-false _));
      }
    ]

pub returns-clause-flags : goal.returns-clause-flags
returns-clause-flags c = λ n lt.
    let past : ltb n c.loop-number.number ≡ true = grind (arith, nat_tests) in
    c.loop-number.invariant.flags n lt
    ∙ ap (λ b. flag_at c.args.flags.now.items n
    || (b && list_any (flag_at c.args.kept.now) (list_at c.args.lists.now n))) past
