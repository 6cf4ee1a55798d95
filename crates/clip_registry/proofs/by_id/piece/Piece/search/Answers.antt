use Rattle.std.proofs.Common.{length, subst, rules, of_calls}
use Rattle.std.proofs.lemmas.Fn.{always_returns_same}
use Rattle.std.specs.List.Sorted.{IsBinarySearchResult, IsSearchInRange}
use Rattle.clip_words.specs.Order.{bytes_cmp}
use Rattle.clip_registry.proofs.Piecing.{Items, searched_found, searched_missing}
use Rattle.clip_registry.proofs.by_id.piece.Piece.search.Goals as goal

bound : (c : goal.After-binary_search_by)
    → IsSearchInRange c.binary_search_by.result (length c.self.inside.entries.items)
bound c = subst (λ (xs : Items). IsSearchInRange c.binary_search_by.result (length xs)) c.deref.ensures.value
    c.binary_search_by.ensures.bound

at : (c : goal.After-binary_search_by)
    → IsBinarySearchResult (λ a. bytes_cmp a.value.standing.id c.args.id.now) c.self.inside.entries.items
    c.binary_search_by.result
at c =
    subst (λ (xs : Items). IsBinarySearchResult (λ a. bytes_cmp a.value.standing.id c.args.id.now) xs
    c.binary_search_by.result) c.deref.ensures.value
    (c.binary_search_by.ensures.position (λ a. bytes_cmp a.value.standing.id c.args.id.now)
    (always_returns_same _ _ _ (λ a r f k. search (rules, of_calls))))

pub returns-clause-found : goal.returns-clause-found
returns-clause-found c =
    searched_found c.args.id.now c.self.inside.entries.items c.args.self.now c.binary_search_by.result c.self.invariant
    c.self.view_is (bound c) (at c)

pub returns-clause-missing : goal.returns-clause-missing
returns-clause-missing c =
    searched_missing c.args.id.now c.self.inside.entries.items c.args.self.now c.binary_search_by.result
    c.self.invariant c.self.view_is (bound c) (at c)
