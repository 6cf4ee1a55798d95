-- Words that are terms, and their numbers.
use Rattle.std.proofs.Common.{◌≡◌, ℕ, zero, suc, ◌+◌, ◌<◌, Bool, true, false, cond, ◌||◌, List, [], ◌∷◌, ◌++◌, map}
use Rattle.std.proofs.Common.{length, take, get_or, Option, Some, None, option_map, refl, sym, ap, ◌∙◌, subst, arith}
use Rattle.std.proofs.Common.{IsTrue}
use Rattle.std.specs.List.{list_any}
use Rattle.std.specs.Arc.{arc_str_bytes}
use Rattle.std.specs.declared.alloc.Global.{Global}
use Rattle.std.specs.declared.sync.ArcStr.{ArcStr}
use Rattle.std.proofs.lemmas.Bool.{false≢true, and_parts}
use Rattle.std.proofs.lemmas.List.{map_push, map_more}
use Rattle.std.proofs.lemmas.List.Folds.{list_all-append}
use Rattle.clip_extract.specs.Keys.{KeyValue, Word, is_same}
use Rattle.clip_extract.proofs.Order.{same_key}
use Rattle.clip_terms.specs.Terms.{term_at, number_of}
use Rattle.clip_plan.specs.Plan.{are_terms}
use Rattle.clip_plan.proofs.Words.{phrase_words}

-- the number of a key is that of its term
pub number_term : (terms : List KeyValue) (key : KeyValue) (n : ℕ) → number_of terms key ≡ Some n
    → term_at terms n ≡ key
number_term [] key n e = cc
number_term (t ∷ ts) key n e = at (is_same key t) refl (number_of ts key) (λ m. number_term ts key m) e
  where
    at : (b : Bool) → is_same key t ≡ b → (o : Option ℕ) → ((m : ℕ) → o ≡ Some m → term_at ts m ≡ key)
        → cond b (Some 0) (option_map suc o) ≡ Some n → term_at (t ∷ ts) n ≡ key
    at true same o _ f = let z : n ≡ 0 = cc in ap (term_at (t ∷ ts)) z ∙ sym (same_key key t same)
    at false other None rest f = cc
    at false other (Some m) rest f = let z : n ≡ suc m = cc in ap (term_at (t ∷ ts)) z ∙ rest m refl

numberless : (terms : List KeyValue) (key : KeyValue) → number_of terms key ≡ None → list_any (is_same key) terms
    ≡ false
numberless [] key e = refl
numberless (t ∷ ts) key e = at (is_same key t) refl (number_of ts key) (numberless ts key) e
  where
    at : (b : Bool) → is_same key t ≡ b → (o : Option ℕ) → (o ≡ None → list_any (is_same key) ts ≡ false)
        → cond b (Some 0) (option_map suc o) ≡ None → list_any (is_same key) (t ∷ ts) ≡ false
    at true same o rest f = cc
    at false other None rest f = ap (λ b. b || list_any (is_same key) ts) other ∙ rest refl
    at false other (Some m) rest f = cc

-- a key that is a term has a number
pub term_has_number : (terms : List KeyValue) (key : KeyValue) → IsTrue (are_terms terms (key ∷ []))
    → number_of terms key ≡ None → ⊥
term_has_number terms key among none =
    false≢true (sym (numberless terms key none) ∙ (and_parts (list_any (is_same key) terms) true among).0)

-- ---- words among terms

pub are_parts : (terms xs ys : List KeyValue) → IsTrue (are_terms terms (xs ++ ys))
    → IsTrue (are_terms terms xs) × IsTrue (are_terms terms ys)
are_parts terms xs ys h =
    and_parts (are_terms terms xs) (are_terms terms ys)
    (sym (list_all-append (λ key. list_any (is_same key) terms) xs ys) ∙ h)

pub word_among : (terms : List KeyValue) (field : List ℕ) (words : List (ArcStr Global)) (i : ℕ) (w : ArcStr Global)
    → IsTrue (are_terms terms (phrase_words field words)) → i < length words → w ≡ get_or words i w
    → IsTrue (are_terms terms (Word field (arc_str_bytes w) ∷ []))
word_among terms field [] i w h lt is = absurd (omega arith)
word_among terms field (x ∷ xs) zero w h lt is =
    subst (λ (y : ArcStr Global). IsTrue (are_terms terms (Word field (arc_str_bytes y) ∷ []))) (sym is)
    (are_parts terms (Word field (arc_str_bytes x) ∷ []) (phrase_words field xs) h).0
word_among terms field (x ∷ xs) (suc i) w h lt is =
    word_among terms field xs i w (are_parts terms (Word field (arc_str_bytes x) ∷ []) (phrase_words field xs) h).1
    (omega arith) is

-- one number more
pub next_number : (terms : List KeyValue) (field : List ℕ) (words : List (ArcStr Global)) (i : ℕ) (w : ArcStr Global)
    (run new : List ℕ) (n : ℕ) → i < length words → w ≡ get_or words i w
    → map (term_at terms) run ≡ phrase_words field (take i words) → term_at terms n ≡ Word field (arc_str_bytes w)
    → new ≡ run ++ n ∷ []
    → map (term_at terms) new ≡ phrase_words field (take (i + 1) words)
next_number terms field words i w run new n lt is so number e =
    ap (map (term_at terms)) e ∙ map_push (term_at terms) run n
    ∙ ap (λ ks. ks ++ term_at terms n ∷ []) so
    ∙ ap (λ k. phrase_words field (take i words) ++ k ∷ []) (number ∙ ap (λ x. Word field (arc_str_bytes x)) is)
    ∙ sym (map_push (Word field) (map arc_str_bytes (take i words)) (arc_str_bytes (get_or words i w)))
    ∙ ap (map (Word field)) (sym (map_more arc_str_bytes words i w lt))
