-- Where two queries are near, both hold.
use Rattle.std.proofs.Common.{◌≡◌, ℕ, ◌+◌, Bool, true, false, not, ◌&&◌, ◌||◌, List, [], ◌∷◌, Option, Some, None}
use Rattle.std.proofs.Common.{refl, sym, ◌∙◌, subst, true≢false, unwrap_or}
use Rattle.std.specs.List.{list_any}
use Rattle.std.proofs.lemmas.Bool.{and_parts}
use Rattle.std.proofs.lemmas.Slice.Eq.{bytes_eq-Decides}
use Rattle.clip_grammar.specs.Tree.{Tree, none, clause, bare}
use Rattle.clip_grammar.specs.declared.query.Occur.TheVariants.{Must, Should}
use Rattle.clip_meaning.specs.Article.{Fields, words_in}
use Rattle.clip_meaning.specs.Index.{numbered}
use Rattle.clip_meaning.specs.Meaning.{holds, group_holds}
use Rattle.clip_near.specs.Near.{field_of, width, stands_at, is_close, stand_close, is_followed, is_one_field}
use Rattle.clip_near.specs.Near.{are_near, stand_near, near_holds, wider_of}
use Rattle.clip_near.proofs.Places.{where_some, standing}

-- ---- groups

must_alone : (held : Bool) → held ≡ group_holds ((Must, held) ∷ [])
unfolding group_holds
must_alone true = refl
must_alone false = refl

should_alone : (held : Bool) → held ≡ group_holds ((Should, held) ∷ [])
unfolding group_holds
should_alone true = refl
should_alone false = refl

both_hold : (a b : Bool) → a ≡ true → b ≡ true → group_holds ((Must, a) ∷ (Must, b) ∷ []) ≡ true
unfolding group_holds
both_hold true true h k = refl
both_hold true false h k = absurd (true≢false (sym k))
both_hold false b h k = absurd (true≢false (sym h))

-- what is left of a query without the groups around it holds where the query does
bare_holds : (tree : Tree) (fields : Fields) → holds (bare tree) fields ≡ holds tree fields
bare_holds (Tree.Group (clause Must child none)) fields = bare_holds child fields ∙ must_alone (holds child fields)
bare_holds (Tree.Group (clause Should child none)) fields = bare_holds child fields ∙ should_alone (holds child fields)
bare_holds tree fields = refl

-- ---- near

record Standing (first second : Tree) (words : List (List ℕ)) : Type 0 where
  i : ℕ
  j : ℕ
  here : stands_at first words i ≡ true
  there : stands_at second words j ≡ true

followed_stand : (n : ℕ) (first second : Tree) (words : List (List ℕ)) → is_followed n first second words ≡ true
    → Standing first second words
followed_stand n first second words h =
    let outer = where_some (λ i. list_any (λ (w : List ℕ × ℕ). stand_close n first second words i w.1)
    (numbered 0 words)) 0 words h in
    let i = outer.position in
    let inner = where_some (stand_close n first second words i) 0 words outer.passes in
    let j = inner.position in
    let parts = and_parts (stands_at first words i && stands_at second words j) (is_close n (i + width first) j)
    inner.passes in
    let both = and_parts (stands_at first words i) (stands_at second words j) parts.0 in
    record { i = i; j = j; here = both.0; there = both.1 }

either_stand : (n : ℕ) (ordered : Bool) (first second : Tree) (words : List (List ℕ))
    → stand_near n ordered first second words ≡ true → Standing first second words
either_stand n ordered first second words h = at (is_followed n first second words) refl h
  where
    at : (b : Bool) → is_followed n first second words ≡ b
        → (b || (not ordered && is_followed n second first words)) ≡ true → Standing first second words
    at true e h = followed_stand n first second words e
    at false e h =
        let turned = followed_stand n second first words
        (and_parts (not ordered) (is_followed n second first words) h).1 in
        record { i = turned.j; j = turned.i; here = turned.there; there = turned.here }

same_field : (a b : Option (List ℕ)) → is_one_field a b ≡ true → unwrap_or a [] ≡ unwrap_or b []
same_field (Some field) (Some other) h = (bytes_eq-Decides field other).0 h
same_field (Some field) None h = absurd (true≢false (sym h))
same_field None b h = absurd (true≢false (sym h))

near_hold : (n : ℕ) (ordered : Bool) (first second : Tree) (fields : Fields)
    → are_near n ordered first second fields ≡ true → (holds first fields ≡ true) × (holds second fields ≡ true)
near_hold n ordered first second fields h =
    let words = words_in fields (unwrap_or (field_of first) []) in
    let parts = and_parts (is_one_field (field_of first) (field_of second))
    (stand_near n ordered first second words) h in
    let stand = either_stand n ordered first second words parts.1 in
    let one = same_field (field_of first) (field_of second) parts.0 in (
      standing first fields stand.i stand.here,
      standing second fields stand.j
          (subst (λ (name : List ℕ). stands_at second (words_in fields name) stand.j ≡ true) one stand.there),
    )

-- The law: the wider query holds of each article in which they are near.
pub near_is_within : (first second : Tree) (between : ℕ) (ordered : Bool) (fields : Fields)
    → near_holds first second between ordered fields ≡ true → holds (wider_of first second) fields ≡ true
unfolding near_holds
near_is_within first second between ordered fields h =
    let hold = near_hold between ordered (bare first) (bare second) fields h in
    both_hold (holds first fields) (holds second fields) (sym (bare_holds first fields) ∙ hold.0)
    (sym (bare_holds second fields) ∙ hold.1)
