-- A list of positions for each term, after one more position.
use Rattle.std.proofs.Common.{◌≡◌, ℕ, suc, Bool, true, false, cond, List, [], ◌∷◌, ◌++◌, length, map}
use Rattle.std.proofs.Common.{get_or, set, replicate, Option, Some, None, option_map, refl, sym, ◌∙◌, ap, append-nil}
use Rattle.std.proofs.Common.{subst}
use Rattle.std.specs.Ordering.{is_eq}
use Rattle.std.specs.declared.cmp.Ordering.TheVariants.{Less}
use Rattle.std.specs.List.{list_any, AllByRecursion}
use Rattle.std.specs.List.Sorted.{IsStrictlySortedBy}
use Rattle.clip_extract.proofs.Order.{same_key}
use Rattle.clip_extract.specs.Keys.{KeyValue, key_cmp, is_same}
use Rattle.clip_terms.specs.Terms.{number_of}
use Rattle.clip_grammar.specs.Tree.{Tree}
use Rattle.clip_segment.specs.Index.{positions_by}
use Rattle.clip_segment.specs.Steps.Ends.{with_positions, NoneEnds}

-- what stands under a term, with more where it is the key
abbrev pub with_list : KeyValue → List ℕ → (KeyValue → List ℕ) → KeyValue → List ℕ
with_list key more under term = under term ++ cond (is_same key term) more []

-- nothing comes to terms above the key
untouched : (key : KeyValue) (more : List ℕ) (under : KeyValue → List ℕ) (ts : List KeyValue)
    → AllByRecursion (λ t. key_cmp key t ≡ Less) ts → map under ts ≡ map (with_list key more under) ts
untouched key more under [] above = refl
untouched key more under (t ∷ ts) above =
    let same : under t ≡ with_list key more under t =
    sym (append-nil (under t)) ∙ ap (λ b. under t ++ cond b more []) (sym (ap is_eq above.0)) in
    ap (λ x. x ∷ map under ts) same ∙ ap (λ xs. with_list key more under t ∷ xs) (untouched key more under ts above.1)

-- more in the list of a key's number
pub position_added : (key : KeyValue) (more : List ℕ) (under : KeyValue → List ℕ) (terms : List KeyValue) (n : ℕ)
    → IsStrictlySortedBy key_cmp terms → number_of terms key ≡ Some n
    → set (map under terms) n (get_or (map under terms) n [] ++ more) ≡ map (with_list key more under) terms
unfolding IsStrictlySortedBy
position_added key more under [] n rising e = cc
position_added key more under (t ∷ ts) n rising e =
    at (is_same key t) refl (number_of ts key) (λ m. position_added key more under ts m rising.1) e
  where
    Adds : ℕ → Type 0
    Adds m = set (map under (t ∷ ts)) m (get_or (map under (t ∷ ts)) m [] ++ more)
        ≡ map (with_list key more under) (t ∷ ts)

    at : (b : Bool) → is_same key t ≡ b → (o : Option ℕ)
        → ((m : ℕ) → o ≡ Some m → set (map under ts) m (get_or (map under ts) m [] ++ more)
        ≡ map (with_list key more under) ts)
        → cond b (Some 0) (option_map suc o) ≡ Some n → Adds n
    at true same o rest f =
        let z : 0 ≡ n = cc in
        let above : AllByRecursion (λ l. key_cmp key l ≡ Less) ts =
        subst (λ k. AllByRecursion (λ l. key_cmp k l ≡ Less) ts) (sym (same_key key t same)) rising.0 in
        subst Adds z (ap (λ xs. (under t ++ more) ∷ xs) (untouched key more under ts above)
        ∙ ap (λ b. (under t ++ cond b more []) ∷ map (with_list key more under) ts) (sym same))
    at false other None rest f = cc
    at false other (Some m) rest f =
        let z : suc m ≡ n = cc in
        subst Adds z (ap (λ xs. under t ∷ xs) (rest m refl)
        ∙ ap (λ x. x ∷ map (with_list key more under) ts) (sym (append-nil (under t))
        ∙ ap (λ b. under t ++ cond b more []) (sym other)))

-- no query has any term
pub none_yet : (keys_of : Tree → List KeyValue) (terms : List KeyValue)
    → replicate (length terms) [] ≡ positions_by keys_of terms []
none_yet keys_of [] = refl
none_yet keys_of (t ∷ ts) = ap (λ xs. [] ∷ xs) (none_yet keys_of ts)

-- the same with other keys that have the same members
pub added_keys : (terms : List KeyValue) (position : ℕ) (ks ls : List KeyValue) (old new : List (List ℕ))
    → ((key : KeyValue) → list_any (is_same key) ks ≡ list_any (is_same key) ls)
    → ((f : KeyValue → List ℕ) → NoneEnds f position → old ≡ map f terms
    → new ≡ map (with_positions ks position f) terms)
    → (f : KeyValue → List ℕ) → NoneEnds f position → old ≡ map f terms
    → new ≡ map (with_positions ls position f) terms
added_keys terms position ks ls old new same added f fresh before =
    added f fresh before ∙ ap (λ g. map g terms) (λ i t. f t ++ cond (same t i) (position ∷ []) [])
