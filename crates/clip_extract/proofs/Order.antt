-- The order of keys, and lists of keys in it.
use Rattle.std.proofs.Common.{◌≡◌, ℕ, Bool, true, List, [], ◌∷◌, refl, sym, ap, ◌∙◌}
use Rattle.std.specs.Ordering.{is_eq}
use Rattle.std.specs.Cmp.{IsTotalOrder, Equal-is, tied_itself, on_total, then_total, nat_cmp_total}
use Rattle.std.specs.Cmp.Lexicographic.{lists_total, nat_list_cmp_total}
use Rattle.std.specs.FinMap.{IsAntisymmetric, slice_cmp-IsAntisymmetric}
use Rattle.std.specs.List.{list_any}
use Rattle.std.specs.List.Sorted.{IsStrictlySortedBy}
use Rattle.std.proofs.lemmas.Bool.{false≢true}
use Rattle.clip_meaning.proofs.Fields.{bytes_exact}
use Rattle.clip_extract.specs.Keys.{KeyValue, Any, Word, Front, rank, texts, key_cmp, is_same, in_order, share}
use Rattle.clip_extract.proofs.Members.{same_members, keys_members, strict_keys}

pub key_cmp_total : IsTotalOrder key_cmp
key_cmp_total = then_total (on_total rank nat_cmp_total) (on_total texts (lists_total nat_list_cmp_total))

-- a word's key again from its texts, and a front's
abbrev word_again : List (List ℕ) → KeyValue
word_again (field ∷ word ∷ []) = Word field word
word_again _ = Any

abbrev front_again : List (List ℕ) → KeyValue
front_again (field ∷ front ∷ []) = Front field front
front_again _ = Any

pub key_cmp_same : IsAntisymmetric key_cmp
key_cmp_same Any Any e = refl
key_cmp_same Any (Word g v) e = absurd (false≢true (ap is_eq e))
key_cmp_same Any (Front g v) e = absurd (false≢true (ap is_eq e))
key_cmp_same (Word f w) Any e = absurd (false≢true (ap is_eq e))
key_cmp_same (Word f w) (Word g v) e = ap word_again (slice_cmp-IsAntisymmetric bytes_exact (f ∷ w ∷ []) (g ∷ v ∷ []) e)
key_cmp_same (Word f w) (Front g v) e = absurd (false≢true (ap is_eq e))
key_cmp_same (Front f w) Any e = absurd (false≢true (ap is_eq e))
key_cmp_same (Front f w) (Word g v) e = absurd (false≢true (ap is_eq e))
key_cmp_same (Front f w) (Front g v) e =
    ap front_again (slice_cmp-IsAntisymmetric bytes_exact (f ∷ w ∷ []) (g ∷ v ∷ []) e)

pub same_key : (k l : KeyValue) → is_same k l ≡ true → k ≡ l
same_key k l e = key_cmp_same k l ((Equal-is (key_cmp k l)).0 e)

pub same_itself : (k : KeyValue) → is_same k k ≡ true
same_itself k = ap is_eq (tied_itself key_cmp_total k)

-- a list in order has its members
pub among_in_order : (ks : List KeyValue) (k : KeyValue) → list_any (is_same k) (in_order ks) ≡ list_any (is_same k) ks
among_in_order ks k = keys_members key_cmp_total key_cmp_same k ks

pub any_in_order : (p : KeyValue → Bool) (ks : List KeyValue) → list_any p (in_order ks) ≡ list_any p ks
any_in_order p ks = same_members key_cmp_total key_cmp_same p (in_order ks) ks (among_in_order ks)

-- order and repetition say nothing of what is in common
pub share_in_order : (ks ls : List KeyValue) → share (in_order ks) (in_order ls) ≡ share ks ls
share_in_order ks ls = any_in_order (λ k. list_any (is_same k) (in_order ls)) ks
    ∙ ap (λ f. list_any f ks) (λ i k. among_in_order ls k i)

-- nothing stays nothing
pub nothing_in_order : in_order [] ≡ []
unfolding IsStrictlySortedBy
nothing_in_order = sym (strict_keys key_cmp_total key_cmp_same [] [] tt (λ k. refl))
