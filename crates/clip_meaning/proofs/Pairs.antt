-- Pairs of distinct names, read one after another.
use Rattle.std.proofs.Common.{◌≡◌, ℕ, zero, suc, ◌+◌, ◌<◌, Bool, true, false, cond, not, List, [], ◌∷◌, ◌++◌, length}
use Rattle.std.proofs.Common.{take, map, get_or, Some, None, is_some, String, Global, string_bytes, bytes_eq}
use Rattle.std.proofs.Common.{if◌then◌else◌, nat_lt, refl, sym, ap, ◌∙◌, arith}
use Rattle.std.specs.FinMap as finite
use Rattle.std.specs.FinMap.{find, from_entries_push, get-from_entries}
use Rattle.std.specs.List.{list_any, list_all}
use Rattle.std.specs.Ordering.{eq_by_cmp}
use Rattle.std.specs.Cmp.Lexicographic.{nat_list_cmp_total, nat_list_eq_equiv}
use Rattle.std.proofs.lemmas.Bool.{or_parts}
use Rattle.std.proofs.lemmas.List.{take_more, map-append}
use Rattle.std.proofs.lemmas.Map.Text.{is_eq-slice_cmp}
use Rattle.clip_words.specs.Order.{bytes_cmp}
use Rattle.clip_words.specs.Words.{words_of}
use Rattle.clip_words.specs.Ids.{is_id}
use Rattle.clip_meaning.specs.Article.{fault_of, is_field_name, has_twice, names, pairs_of, read_fields}
use Rattle.clip_meaning.specs.declared.fault.TheConstants.{MOST_FIELDS}
use Rattle.clip_meaning.specs.declared.fault.ArticleFault.TheVariants.{Id, TooMany, Field, Twice}
use Rattle.clip_meaning.proofs.Fields.{bytes_exact}

abbrev pub TextPair : Type 0
TextPair = String Global × String Global

abbrev worded : List (List ℕ × List ℕ) → List (List ℕ × List (List ℕ))
worded pairs = map (λ p. (p.0, words_of p.1)) pairs

-- a test that no name passes
none_passes : (l : List TextPair) (j : ℕ) (x : TextPair) (t : List ℕ → Bool) → list_any t (names (pairs_of l)) ≡ false
    → j < length l → x ≡ get_or l j x → t (string_bytes x.0) ≡ false
none_passes [] j x t e lt is = absurd (omega arith)
none_passes (y ∷ l) zero x t e lt is = ap (λ (z : TextPair). t (string_bytes z.0)) is ∙ (or_parts _ _ e).0
none_passes (y ∷ l) (suc j) x t e lt is = none_passes l j x t (or_parts _ _ e).1 (omega arith) is

-- the next name is not among those before it
unseen : (l : List TextPair) (i : ℕ) (x : TextPair) → has_twice (names (pairs_of l)) ≡ false → i < length l
    → x ≡ get_or l i x → find bytes_cmp (string_bytes x.0) (worded (pairs_of (take i l))) ≡ None
unseen [] i x once lt is = absurd (omega arith)
unseen (y ∷ l) zero x once lt is = refl
unseen (y ∷ l) (suc j) x once lt is =
    let q = string_bytes x.0 in
    let other : bytes_eq (string_bytes y.0) q ≡ false =
    none_passes l j x (bytes_eq (string_bytes y.0)) (or_parts _ _ once).0 (omega arith) is in
    let differs : eq_by_cmp bytes_cmp q (string_bytes y.0) ≡ false = is_eq-slice_cmp q (string_bytes y.0)
    ∙ nat_list_eq_equiv.symm q (string_bytes y.0) ∙ other in
    ap (λ b. cond b (Some (words_of (string_bytes y.1))) (find bytes_cmp q (worded (pairs_of (take j l))))) differs
    ∙ unseen l j x (or_parts _ _ once).1 (omega arith) is

-- no refusal holds, so no name stands twice
pub once_from_fault : (id : List ℕ) (pairs : List (List ℕ × List ℕ)) → fault_of id pairs ≡ None
    → has_twice (names pairs) ≡ false
unfolding fault_of
once_from_fault id pairs =
    last (not (is_id id)) (nat_lt MOST_FIELDS (length pairs)) (not (list_all is_field_name (names pairs)))
    (has_twice (names pairs))
  where
    last : (a b c d : Bool) → (if a then Some Id else
        (if b then Some TooMany else (if c then Some Field else (if d then Some Twice else None)))) ≡ None → d ≡ false
    last true b c d e = absurd cc
    last false true c d e = absurd cc
    last false false true d e = absurd cc
    last false false false true e = absurd cc
    last false false false false e = refl

pub new_name : (l : List TextPair) (i : ℕ) (x : TextPair) (name : List ℕ) → has_twice (names (pairs_of l)) ≡ false
    → i < length l → x ≡ get_or l i x → name ≡ string_bytes x.0
    → finite.contains_key (read_fields (pairs_of (take i l))) name ≡ false
new_name l i x name once lt is named =
    ap (finite.contains_key (read_fields (pairs_of (take i l)))) named
    ∙ ap is_some (get-from_entries nat_list_cmp_total (worded (pairs_of (take i l))) (string_bytes x.0)
    ∙ unseen l i x once lt is)

-- one more pair is read
pub one_more : (l : List TextPair) (i : ℕ) (x : TextPair) → has_twice (names (pairs_of l)) ≡ false → i < length l
    → x ≡ get_or l i x → finite.insert (read_fields (pairs_of (take i l))) (string_bytes x.0)
    (words_of (string_bytes x.1)) ≡ read_fields (pairs_of (take (i + 1) l))
one_more l i x once lt is =
    sym (ap (λ ps. finite.from_entries (worded (pairs_of ps))) (take_more l i x lt
    ∙ ap (λ (z : TextPair). take i l ++ z ∷ []) (sym is))
    ∙ ap (λ ps. finite.from_entries (worded ps))
    (map-append (λ (p : TextPair). (string_bytes p.0, string_bytes p.1)) (take i l) (x ∷ []))
    ∙ ap finite.from_entries
    (map-append (λ (p : List ℕ × List ℕ). (p.0, words_of p.1)) (pairs_of (take i l))
    ((string_bytes x.0, string_bytes x.1) ∷ []))
    ∙ from_entries_push nat_list_cmp_total bytes_exact (worded (pairs_of (take i l))) (string_bytes x.0)
    (words_of (string_bytes x.1)) (unseen l i x once lt is))
