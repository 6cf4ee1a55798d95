use Rattle.std.proofs.Common.{◌<◌, take, List, [], ◌∷◌, ◌++◌, length, unwrap_or, ap, ◌∙◌, sym, subst, arith}
use Rattle.std.specs.List.Sorted.{IsStrictlySortedBy}
use Rattle.std.proofs.lemmas.List.{take_all, take_more}
use Rattle.std.proofs.lemmas.Option.{slice_get-get_or}
use Rattle.clip_extract.specs.Keys.{KeyValue, Any, key_cmp}
use Rattle.clip_segment.proofs.kept_terms.all_heads.Goals as goal

pub loop-number-preserved : goal.loop-number-preserved
loop-number-preserved c =
    let terms : List KeyValue = c.args.terms.now in
    let i = c.loop-number.number in
    let inside : i < length terms = omega arith in
    c.in_ok-push.ensures.items
    ∙ ap (λ ks. ks ++ c.head.result ∷ []) c.loop-number.invariant
    ∙ ap (λ (k : KeyValue). take i terms ++ k ∷ [])
    (c.head.ensures ∙ ap (λ o. unwrap_or o Any) (slice_get-get_or terms i Any inside))
    ∙ sym (take_more terms i Any inside)

pub returns-clause-rising : goal.returns-clause-rising
returns-clause-rising c =
    let terms : List KeyValue = c.args.terms.now in
    subst (IsStrictlySortedBy key_cmp)
    (sym (c.loop-number.invariant ∙ take_all c.loop-number.number terms (omega arith))) c.order_law.ensures

pub returns-clause-all : goal.returns-clause-all
returns-clause-all c =
    let terms : List KeyValue = c.args.terms.now in
    c.loop-number.invariant ∙ take_all c.loop-number.number terms (omega arith)
