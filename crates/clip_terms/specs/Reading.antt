-- What an article is asked by terms.
use Rattle.std.specs.Prelude.{◌≡◌, ℕ, zero, suc, Bool, false, true, ◌&&◌, ◌||◌, List, [], ◌∷◌, flat_map, refl}
use Rattle.std.specs.Coded.{Coded, code_by, coded×, coded_list, coded_ℕ}
use Rattle.std.specs.FinMap as finite
use Rattle.std.specs.List.{list_any, starts_with}
use Rattle.clip_grammar.specs.TreeCode.{bytes_code}
use Rattle.clip_extract.specs.Keys.{KeyValue, Any, Word, Front, rank, texts, in_order, is_same}
use Rattle.clip_extract.specs.Covering.{article_keys, field_keys}
use Rattle.clip_meaning.specs.Article.{ArticleValue, Fields, article_code}

-- the terms, and the article that is asked by them
pub record ReadingValue : Type 0 where
  pub terms : List KeyValue
  pub article : ArticleValue

-- by these codes a type whose value holds keys, or is a reading, has a model
abbrev pub with_parts : ℕ → List (List ℕ) → KeyValue
with_parts (suc zero) (field ∷ word ∷ []) = Word field word
with_parts (suc (suc zero)) (field ∷ front ∷ []) = Front field front
with_parts _ _ = Any

pub with_its_parts : (key : KeyValue) → with_parts (rank key) (texts key) ≡ key
with_its_parts Any = refl
with_its_parts (Word field word) = refl
with_its_parts (Front field front) = refl

abbrev pub key_code : Coded KeyValue
key_code = code_by (ℕ × List (List ℕ)) (coded× coded_ℕ (coded_list bytes_code)) (λ key. (rank key, texts key))
    (λ parts. with_parts parts.0 parts.1) with_its_parts

abbrev pub reading_code : Coded ReadingValue
reading_code = code_by (List KeyValue × ArticleValue) (coded× (coded_list key_code) article_code)
    (λ r. (r.terms, r.article)) (λ p. record { terms = p.0; article = p.1 }) (λ _. refl)

-- an article's keys but for the fronts: Any, and each word of each field; in order, each once
abbrev pub word_part_keys : Fields → List KeyValue
word_part_keys fields = in_order (Any ∷ flat_map field_keys (finite.entries fields))

-- the article has the key
abbrev pub has_key : Fields → KeyValue → Bool
has_key fields key = list_any (is_same key) (article_keys fields)

-- the keys of the run are somewhere next to each other, in order
abbrev pub stands_in : List KeyValue → List KeyValue → Bool
stands_in run [] = false
stands_in run (k ∷ ks) = starts_with is_same (k ∷ ks) run || stands_in run ks

abbrev pub is_run : List KeyValue → Bool
is_run [] = false
is_run (k ∷ ks) = true

-- the run has a key, and in some field its keys are next to each other, in order
abbrev pub has_run : Fields → List KeyValue → Bool
has_run fields run = is_run run && list_any (λ field. stands_in run (field_keys field)) (finite.entries fields)
