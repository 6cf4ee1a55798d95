use Rattle.std.proofs.Common.{◌+◌, ◌∙◌, [], map, replicate, length, ap, sym, subst, vec_items, refl, arith}
use Rattle.std.proofs.lemmas.List.{length-map}
use Rattle.std.specs.List.Sorted.{IsStrictlySortedBy}
use Rattle.std.proofs.lemmas.Grind.{common_steps}
use Rattle.clip_grammar.specs.Tree.{tree_of}
use Rattle.clip_extract.specs.Extraction.{extract, query_keys, second_extract, second_keys}
use Rattle.std.specs.List.{list_any}
use Rattle.clip_extract.specs.Keys.{key_of, key_cmp, is_same}
use Rattle.clip_extract.proofs.Order.{among_in_order}
use Rattle.clip_terms.proofs.Numbers.{in_order_rises}
use Rattle.clip_segment.proofs.Asked.{had_terms, keys_asked, seconds_asked}
use Rattle.clip_segment.proofs.IndexPositions.{next_query}
use Rattle.clip_segment.proofs.Lists.{added_keys, none_yet}
use Rattle.clip_segment.proofs.building.lists_of.Goals as goal

pub loop-query-init : goal.loop-query-init
loop-query-init c =
    let terms = c.args.terms.now in
    record {
      position = refl;
      lists = record {
        positions = c.in_ok-lists.ensures.positions ∙ ap (λ n. replicate n []) c.len.ensures
            ∙ none_yet query_keys terms;
        seconds = c.in_ok-lists.ensures.seconds ∙ ap (λ n. replicate n []) c.len.ensures ∙ none_yet second_keys terms;
      };
    }

pub add_position-requires-clause-rising : goal.add_position-requires-clause-rising
add_position-requires-clause-rising c = subst (IsStrictlySortedBy key_cmp) (sym c.requires.terms) (in_order_rises _)

pub add_position-requires-clause-terms : goal.add_position-requires-clause-terms
add_position-requires-clause-terms c =
    let query = c.query-item.result in
    had_terms query_keys keys_asked (λ k. tree_of k.query.now) c.args.queries.now
    c.loop-query.query-index query c.args.terms.now _
    c.loop-query-test.true c.query-item.is c.requires.terms
    (λ key. ap (λ ks. list_any (is_same key) ks) (ap (map key_of) c.deref.ensures.value ∙ query.own)
    ∙ sym (among_in_order (extract (tree_of query.query.now)).keys key))

pub add_position-requires-clause-long : goal.add_position-requires-clause-long
add_position-requires-clause-long c =
    sym (length-map c.loop-query.lists.positions.items vec_items) ∙ ap length c.loop-query.invariant.lists.positions
    ∙ length-map c.args.terms.now _

pub add_position-requires-in-loop-query-clause-rising : goal.add_position-requires-in-loop-query-clause-rising
add_position-requires-in-loop-query-clause-rising c =
    subst (IsStrictlySortedBy key_cmp) (sym c.requires.terms) (in_order_rises _)

pub add_position-requires-in-loop-query-clause-terms : goal.add_position-requires-in-loop-query-clause-terms
add_position-requires-in-loop-query-clause-terms c =
    let query = c.query-item.result in
    had_terms second_keys seconds_asked (λ k. tree_of k.query.now) c.args.queries.now
    c.loop-query.query-index query c.args.terms.now _
    c.loop-query-test.true c.query-item.is c.requires.terms
    (λ key. ap (λ ks. list_any (is_same key) ks)
    (ap (map key_of) c.deref-in-loop-query.ensures.value ∙ query.own_seconds)
    ∙ sym (among_in_order (second_extract (tree_of query.query.now)) key))

pub add_position-requires-in-loop-query-clause-long : goal.add_position-requires-in-loop-query-clause-long
add_position-requires-in-loop-query-clause-long c =
    sym (length-map c.loop-query.lists.seconds.items vec_items) ∙ ap length c.loop-query.invariant.lists.seconds
    ∙ length-map c.args.terms.now _

pub loop-query-preserved : goal.loop-query-preserved
loop-query-preserved c =
    let terms = c.args.terms.now in
    let query = c.query-item.result in
    let before = c.loop-query.invariant in
    record {
      position = ap (λ n. n + 1) before.position;
      lists = record {
        positions =
            next_query query_keys (λ k. tree_of k.query.now) terms c.args.queries.now c.loop-query.query-index query
            c.loop-query.position _ _ c.loop-query-test.true c.query-item.is before.position before.lists.positions
            (added_keys terms c.loop-query.position _ (query_keys (tree_of query.query.now)) _ _
            (λ key. ap (λ ks. list_any (is_same key) ks) (ap (map key_of) c.deref.ensures.value ∙ query.own)
            ∙ sym (among_in_order (extract (tree_of query.query.now)).keys key)) c.in_ok-add_position.ensures);
        seconds =
            next_query second_keys (λ k. tree_of k.query.now) terms c.args.queries.now c.loop-query.query-index query
            c.loop-query.position _ _ c.loop-query-test.true c.query-item.is before.position before.lists.seconds
            (added_keys terms c.loop-query.position _ (second_keys (tree_of query.query.now)) _ _
            (λ key. ap (λ ks. list_any (is_same key) ks) (ap (map key_of) c.deref-in-loop-query.ensures.value
            ∙ query.own_seconds)
            ∙ sym (among_in_order (second_extract (tree_of query.query.now)) key)) c.in_ok-add_position-2.ensures);
      };
    }

-- found by this tactic: it stands here so that no other is tried before it
pub returns : goal.returns
returns c = grind (arith, common_steps)
