use Rattle.std.proofs.Common.{◌≡◌, ℕ, List, [], Option, map, sym, ap, ◌∙◌, subst}
use Rattle.std.specs.List.Sorted.{IsStrictlySortedBy}
use Rattle.clip_extract.specs.Keys.{KeyValue, key_cmp}
use Rattle.clip_terms.specs.Terms.{number_of}
use Rattle.clip_terms.proofs.Numbers.{in_order_rises}
use Rattle.clip_plan.specs.Plan.{Mark}
use Rattle.clip_segment.specs.Index.{IndexValue, IsIndexOf}
use Rattle.clip_segment.specs.Steps.IndexView.{index_of}
use Rattle.clip_segment.specs.declared.index_selecting.KeptIndex.{KeptIndex}
use Rattle.clip_segment.proofs.KeptLists.{PlansAdded, next_source, plans_few}
use Rattle.clip_segment.proofs.index_selecting.source_of.Goals as goal

pub returns-clause-few : goal.returns-clause-few
returns-clause-few c = plans_few [] _ c.args.kept.now c.index.inside.plans c.args.plans.now c.add_plans.new.plans
    (c.in_ok-add_plans.ensures [])

pub returns-clause-taken : goal.returns-clause-taken
returns-clause-taken c = λ before trees sources is long among from.
    let index = c.index.inside in
    let terms = c.args.terms.now in
    let kept = c.args.kept.now in
    let numbers = c.in_ok-numbers.numbers.items in
    let source : KeptIndex = record {
      index = c.args.index;
      numbers = c.in_ok-numbers-2.numbers;
      moves =
          c.in_ok-moves.moves;
    } in
    let same_terms : index.terms ≡ c.args.index.now.terms = ap (λ (i : IndexValue). i.terms) c.index.view_is in
    let same_plans : index.plans ≡ c.args.index.now.plans = ap (λ (i : IndexValue). i.plans) c.index.view_is in
    let inside : IsIndexOf trees (index_of index) = subst (IsIndexOf trees) (sym c.index.view_is) is in
    let rise : IsStrictlySortedBy key_cmp index.terms =
    subst (IsStrictlySortedBy key_cmp) (sym inside.terms) (in_order_rises _) in
    next_source terms before trees sources source kept c.len.result numbers c.args.plans.now c.add_plans.new.plans is
    long among c.len.ensures
    (c.in_ok-numbers.ensures ∙ ap (map (number_of terms)) same_terms)
    (c.in_ok-numbers-2.ensures rise ∙ ap (λ (ks : List KeyValue). map (number_of ks) terms) same_terms)
    c.in_ok-moves.ensures
    (subst (λ (ps : List (List (Mark ℕ))). PlansAdded numbers kept ps c.args.plans.now c.add_plans.new.plans) same_plans
    (subst (λ (ns : List (Option ℕ)). PlansAdded ns kept index.plans c.args.plans.now c.add_plans.new.plans)
    c.deref.ensures.value c.in_ok-add_plans.ensures))
    from
