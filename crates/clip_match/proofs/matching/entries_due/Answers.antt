use Rattle.std.proofs.Common.{◌≡◌, All, List, Vec, Global, true, is_some, map, filter, IsPermutation, sym, subst, ◌∙◌}
use Rattle.std.proofs.Common.{arith, rules}
use Rattle.std.proofs.lemmas.List.Sorted.{All-permutation, IsPermutation-map, length_permutation}
use Rattle.std.proofs.lemmas.List.Sorted.{list_any-IsPermutation}
use Rattle.clip_meaning.specs.Hits.{hit_value}
use Rattle.clip_meaning.specs.Meaning.{holds}
use Rattle.clip_meaning.specs.declared.hit.Hit.{Hit}
use Rattle.clip_model.specs.Alerts.{alerts}
use Rattle.clip_model.specs.History.{Registered}
use Rattle.clip_match.specs.Candidates.{candidates_of}
use Rattle.clip_match.specs.declared.held.Held.{Held}
use Rattle.clip_match.specs.Due.{AreItsHits}
use Rattle.clip_match.specs.Alerts.{alert_due}
use Rattle.clip_match.specs.Steps.Positions.{has_listener}
use Rattle.clip_match.proofs.Due.{alerts_are_due}
use Rattle.clip_match.proofs.matching.entries_due.Goals as goal

abbrev entries : List Held → List Registered
entries = map (λ (h : Held). h.registered.now)

pub invariant_of-result : goal.invariant_of-result
invariant_of-result c =
    let found = c.in_ok-asked.field-0.entries.held.items in
    let sorted = c.sort_by_id.new.held.items in
    record {
      heard = c.in_ok-asked.ensures.heard
          ∙ list_any-IsPermutation has_listener (entries found) (entries sorted)
          (IsPermutation-map (λ (h : Held). h.registered.now) found sorted c.sort_by_id.ensures.moved);
    }

pub returns-clause-hits : goal.returns-clause-hits
returns-clause-hits c =
    let article = c.args.article.now in
    let found = c.in_ok-asked.field-0.entries.all_hits in
    let held = c.in_ok-asked.field-0.entries.held.items in
    let sorted = c.sort_by_id.new.held.items in
    subst (λ (list : Vec Hit Global). All (AreItsHits article (map hit_value list.items)) sorted)
    (sym c.in_ok-all_hits.ensures.ok)
    (All-permutation (AreItsHits article (map hit_value found.items)) held sorted c.sort_by_id.ensures.moved
    (λ k d lt. (c.in_ok-asked.ensures.hits k d lt).right))

pub returns-clause-due : goal.returns-clause-due
returns-clause-due c =
    let state = c.args.view.now in
    let article = c.args.article.now in
    let found = c.in_ok-asked.field-0.entries.held.items in
    let sorted = entries c.sort_by_id.new.held.items in
    let moved : IsPermutation (filter (λ r. holds r.standing.tree article.fields) (candidates_of state article))
    sorted =
    subst (λ xs. IsPermutation xs sorted) c.in_ok-asked.ensures.held
    (IsPermutation-map (λ (h : Held). h.registered.now) found c.sort_by_id.new.held.items
    c.sort_by_id.ensures.moved) in
    let due : map (alert_due article) sorted ≡ alerts state.history article =
    alerts_are_due state article (candidates_of state article) sorted c.in_ok-asked.ensures.registered
    c.in_ok-asked.ensures.misses_none c.in_ok-asked.ensures.rising moved c.sort_by_id.ensures.sorted in
    search (rules, due)

pub returns-clause-there : goal.returns-clause-there
returns-clause-there c = λ at_once.
    All-permutation (λ (h : Held). is_some h.hits ≡ true) c.in_ok-asked.field-0.entries.held.items
    c.sort_by_id.new.held.items c.sort_by_id.ensures.moved
    (λ k d lt. (c.in_ok-asked.ensures.hits k d lt).there at_once)

pub returns-clause-judged : goal.returns-clause-judged
returns-clause-judged c =
    let found = c.in_ok-asked.field-0.entries.held.items in
    let sorted = c.sort_by_id.new.held.items in
    record {
      most = c.in_ok-asked.ensures.most;
      least = omega (
        arith,
        c.in_ok-asked.ensures.least,
        length_permutation found sorted c.sort_by_id.ensures.moved,
      );
    }
