-- The fronts of an article's words among terms: asked for word by word, or front by front of the terms.
use Rattle.std.specs.Prelude.{◌≡◌, ℕ, ◌<◌, ◌≤◌, nat_eq, ◌||◌, List, [], ◌∷◌, ◌++◌, length, cond, slice_index}
use Rattle.std.specs.List.{All, list_any}
use Rattle.std.specs.Str.{bytes_eq}
use Rattle.clip_meaning.specs.Leads.{IsLead}
use Rattle.clip_extract.specs.Keys.{KeyValue, Front, is_same, text_of}
use Rattle.clip_extract.specs.Fronts.{fronts}
use Rattle.clip_terms.specs.Terms.{term_at}
use Rattle.clip_terms.specs.Steps.Leads.{heading}

-- those of a word's fronts that another word does not have at the same place
abbrev pub other_fronts : (lasts fronts : List (List ℕ)) → List (List ℕ)
other_fronts lasts [] = []
other_fronts [] (front ∷ fronts) = front ∷ other_fronts [] fronts
other_fronts (last ∷ lasts) (front ∷ fronts) =
    cond (bytes_eq last front) (other_fronts lasts fronts) (front ∷ other_fronts lasts fronts)

-- of each word the fronts that the word before it does not have
abbrev pub asked_fronts : (last : List ℕ) → List (List ℕ) → List (List ℕ)
asked_fronts last [] = []
asked_fronts last (word ∷ words) = other_fronts (fronts last) (fronts word) ++ asked_fronts word words

-- The new numbers are the old ones and those of the terms that are among some keys, in any order.
pub record AddsNumbersOf (terms keys : List KeyValue) (old new : List ℕ) : Type 0 where
  pub within : All (λ n. n < length terms) old → All (λ n. n < length terms) new
  pub among : (n : ℕ) → n < length terms
      → list_any (nat_eq n) new ≡ (list_any (nat_eq n) old || list_any (is_same (term_at terms n)) keys)

-- The new numbers are the old ones and, of the terms below a number, those that are among some keys, in any order.
pub record AddsNumbersBelow (terms keys : List KeyValue) (upto : ℕ) (old new : List ℕ) : Type 0 where
  pub within : All (λ n. n < length terms) old → All (λ n. n < length terms) new
  pub below : (n : ℕ) → n < upto → n < length terms
      → list_any (nat_eq n) new ≡ (list_any (nat_eq n) old || list_any (is_same (term_at terms n)) keys)
  pub others : (n : ℕ) → upto ≤ n → list_any (nat_eq n) new ≡ list_any (nat_eq n) old

-- All leads before a place are below those of the terms from a number on that are fronts of the field.
abbrev pub AreBelowFronts : (terms : List KeyValue) (field : List ℕ) (leads : List ℕ) (place number : ℕ) → Type 0
AreBelowFronts terms field leads place number = (n m lead : ℕ) → n < place → number ≤ m → m < length terms
    → heading (term_at terms m) ≡ heading (Front field []) → IsLead (text_of (term_at terms m)) lead
    → slice_index leads n < lead
