use Rattle.std.proofs.Common.{◌≡◌, ◌<◌, ℕ, length, nat_eq, ◌||◌, ap, sym, ◌∙◌, subst, arith}
use Rattle.std.specs.List.{list_any}
use Rattle.std.proofs.lemmas.List.{length-replicate}
use Rattle.std.proofs.lemmas.Result.{IfOk-weaker}
use Rattle.clip_extract.specs.Keys.{is_same}
use Rattle.clip_segment.specs.Index.{IsIndexOf}
use Rattle.clip_indexed.specs.Selecting.{flagged}
use Rattle.clip_segment.specs.Steps.IndexView.{index_of}
use Rattle.clip_segment.specs.Steps.Parts.{flag_at}
use Rattle.clip_segment.proofs.Answering.{list_at}
use Rattle.clip_segment.proofs.Flagged.{none_set}
use Rattle.clip_segment.proofs.KeptTerms.{used_terms}
use Rattle.clip_segment.proofs.kept_terms.some_heads.Goals as goal

pub returns-clause-asked : goal.returns-clause-asked
returns-clause-asked c =
    let used = c.set_all.new.flags.items in
    let index = index_of c.index.inside in
    let unset = c.in_ok-used.ensures.items_if_clones_equal (λ y h. h) in
    let long : length c.in_ok-used.used.items ≡ length index.terms = ap length unset ∙ length-replicate c.len.result _
    ∙ c.len.ensures in
    let all : (n : ℕ) → n < length index.terms
    → flag_at used n ≡ ((list_any (flag_at c.args.kept.now) (list_at index.positions n)
    || list_any (flag_at c.args.kept.now) (list_at index.seconds n)) || list_any (nat_eq n) c.deref.result.now)
    = λ n lt.
    c.set_all.ensures.flags n (omega (arith, lt, long, c.set_kept.ensures.long, c.set_kept-2.ensures.long))
    ∙ ap (λ b. b || list_any (nat_eq n) c.deref.result.now)
    (c.set_kept-2.ensures.flags n (omega (arith, lt, long, c.set_kept.ensures.long))
    ∙ ap (λ b. b || list_any (flag_at c.args.kept.now) (list_at index.seconds n))
    (c.set_kept.ensures.flags n (omega (arith, lt, long))
    ∙ ap (λ b. b || list_any (flag_at c.args.kept.now) (list_at index.positions n))
    (ap (λ l. flag_at l n) unset ∙ none_set c.len.result n))) in
    IfOk-weaker c.flagged_heads.result _ _ (λ heads are trees is key.
    let inside : IsIndexOf trees index = subst (IsIndexOf trees) (sym c.index.view_is) is in
    ap (list_any (is_same key)) (are ∙ ap (λ flags. flagged flags index.terms) c.deref-2.ensures.value)
    ∙ used_terms trees index inside c.args.kept.now used c.deref.result.now (c.deref.ensures.value
    ∙ c.in_ok-numbers.ensures) all key)
    c.flagged_heads.ensures.flagged
