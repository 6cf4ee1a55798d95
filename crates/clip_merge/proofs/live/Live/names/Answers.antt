use Rattle.std.proofs.Common.{ℕ, List, subst, nat_cmp, rules}
use Rattle.std.specs.List.Sorted.{IsBinarySearchResult}
use Rattle.clip_merge.proofs.Searching.{found_is_named}
use Rattle.clip_merge.proofs.live.Live.names.Goals as goal

pub returns : goal.returns
returns c =
    let found = subst (λ (seqs : List ℕ). IsBinarySearchResult (λ s. nat_cmp s c.args.seq) seqs c.binary_search.result)
    c.deref.ensures.value c.binary_search.ensures.position in
    let named = found_is_named c.self.inside.seqs.items c.args.seq c.binary_search.result c.self.invariant found in
    search (rules, named)
