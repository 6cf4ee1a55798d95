-- How many candidates there may be.
use Rattle.std.proofs.Common.{◌≡◌, ℕ, ◌+◌, ◌≤◌, List, [], ◌++◌, length, sym, ap, arith, append-nil, length-append, Some}
use Rattle.std.proofs.lemmas.List.Elements.{All-contains}
use Rattle.std.specs.FinMap as finite
use Rattle.clip_meaning.specs.Article.{ArticleValue}
use Rattle.clip_extract.specs.Keys.{KeyValue}
use Rattle.clip_model.specs.declared.limits.TheConstants.{MOST_LIVE}
use Rattle.clip_model.specs.History.{History, IsLegal, Registered, replay}
use Rattle.clip_registry.proofs.Counted.{few_given}
use Rattle.clip_registry.specs.RegistryState.{RegistryState, IsWhole}
use Rattle.clip_match.specs.Candidates.{candidates_of}
use Rattle.clip_match.specs.Steps.Positions.{live_with}
use Rattle.clip_match.proofs.Positions.{live_split}
use Rattle.clip_match.proofs.Whole.{candidates_registered, candidates_rise}

pub few_candidates : (state : RegistryState) (article : ArticleValue) → IsWhole state → IsLegal state.history
    → length (candidates_of state article) ≤ MOST_LIVE
few_candidates state article whole legal =
    let found = candidates_of state article in
    let few = few_given found (replay state.history) (candidates_rise state article whole)
    (λ r h. All-contains (λ (x : Registered). finite.get (replay state.history) x.standing.id
    ≡ Some x) found r (candidates_registered state article whole) h) in
    let small = legal.small state.history [] (sym (append-nil state.history)) in
    omega arith

-- the candidates of one segment more are counted
pub counted_next : (h : History) (ks : List KeyValue) (segment others all : List Registered) (asked found total : ℕ)
    → segment ++ others ≡ all → asked + length (live_with h ks all) ≡ total → found ≡ length (live_with h ks segment)
    → asked + found + length (live_with h ks others) ≡ total
counted_next h ks segment others all asked found total are before is =
    let split = ap length (live_split h ks segment others) in
    let joined = ap (λ es. length (live_with h ks es)) are in
    omega (arith, length-append (live_with h ks segment) (live_with h ks others), split, joined, before, is)
