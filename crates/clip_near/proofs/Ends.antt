-- The walk over the words: the last end of the first query, and whether the second stands close behind it.
use Rattle.std.proofs.Common.{◌≡◌, ℕ, ◌+◌, ◌-◌, ◌<◌, ◌≤◌, Bool, true, false, ◌&&◌, List, Option, Some, None, length}
use Rattle.std.proofs.Common.{refl, sym, ap, ◌∙◌, arith, true≢false, nat_le, nat_lt}
use Rattle.std.specs.List.{list_any}
use Rattle.std.proofs.lemmas.Bool.{and_parts, and_from}
use Rattle.std.proofs.lemmas.Bool.Decides.{nat_tests}
use Rattle.clip_grammar.specs.Tree.{Tree}
use Rattle.clip_meaning.specs.Index.{numbered}
use Rattle.clip_near.specs.Near.{stands_at, width, is_close, stand_close, is_followed}
use Rattle.clip_near.specs.Steps.Ends.{ends_at, IsLastEnd, stands_behind}
use Rattle.clip_near.proofs.Places.{some_at, none_at, stands_inside}

-- ---- close

close_true : (n end start : ℕ) → end ≤ start → start ≤ end + n → is_close n end start ≡ true
close_true n end start le near =
    and_from (nat_le end start) (nat_le start (end + n)) (grind (arith, nat_tests, le)) (grind (arith, nat_tests, near))

at_least : (a b : ℕ) → nat_le a b ≡ true → a ≤ b
at_least a b h = grind (arith, nat_tests, h)

-- ---- the last end

not_end : (query : Tree) (words : List (List ℕ)) (position : ℕ) → ends_at query words position ≡ false → (k : ℕ)
    → stands_at query words k ≡ true → k + width query ≡ position → ⊥
not_end query words position none k h e =
    let back : k + width query - width query ≡ k = omega arith in
    let least : nat_le (width query) (k + width query) ≡ true = grind (arith, nat_tests) in
    let ends : ends_at query words (k + width query) ≡ true =
    and_from (nat_le (width query) (k + width query)) (stands_at query words (k + width query - width query)) least
    (ap (stands_at query words) back ∙ h) in
    true≢false (sym ends ∙ ap (ends_at query words) e ∙ none)

pub next_end : (query : Tree) (words : List (List ℕ)) (position : ℕ) → ends_at query words position ≡ true
    → IsLastEnd query words (position + 1) (Some position)
next_end query words position h =
    let parts = and_parts (nat_le (width query) position) (stands_at query words (position - width query)) h in
    let le = at_least (width query) position parts.0 in
    record {
      start = position - width query;
      ends = omega (arith, le);
      standing = parts.1;
      low = omega arith;
      last = λ k standing lt. omega (arith, lt);
    }

pub same_end : (query : Tree) (words : List (List ℕ)) (position : ℕ) (before : Option ℕ)
    → IsLastEnd query words position before → ends_at query words position ≡ false
    → IsLastEnd query words (position + 1) before
same_end query words position None last none =
    λ k h. let other = not_end query words position none k h in let least = last k h in omega (arith, other, least)
same_end query words position (Some end) last none =
    record {
      start = last.start;
      ends = last.ends;
      standing = last.standing;
      low = let low = last.low in omega (arith, low);
      last = λ k h lt. let other = not_end query words position none k h in
          last.last k h (omega (arith, other, lt));
    }

pub ends_there : (query : Tree) (words : List (List ℕ)) (position taken : ℕ) (found : Bool) → taken ≡ width query
    → taken ≤ position → found ≡ stands_at query words (position - taken) → found ≡ ends_at query words position
ends_there query words position taken found same le e =
    let least : nat_le (width query) position ≡ true = grind (arith, nat_tests, same, le) in
    e ∙ ap (λ n. stands_at query words (position - n)) same
    ∙ sym (ap (λ b. b && stands_at query words (position - width query)) least)

-- ---- some two positions

pub close_found : (n : ℕ) (first second : Tree) (words : List (List ℕ)) (i j : ℕ)
    → stand_close n first second words i j ≡ true → i < length words → j < length words
    → is_followed n first second words ≡ true
close_found n first second words i j h low high =
    some_at (λ i. list_any (λ (w : List ℕ × ℕ). stand_close n first second words i w.1) (numbered 0 words)) words i low
    (some_at (stand_close n first second words i) words j high h)

pub none_close : (n : ℕ) (first second : Tree) (words : List (List ℕ))
    → ((i j : ℕ) → j < length words → stand_close n first second words i j ≡ false)
    → is_followed n first second words ≡ false
none_close n first second words h =
    none_at (λ i. list_any (λ (w : List ℕ × ℕ). stand_close n first second words i w.1) (numbered 0 words)) words
    (λ i _. none_at (stand_close n first second words i) words (λ j lt. h i j lt))

-- ---- the second query at a position

pub close_behind : (n : ℕ) (last : Option ℕ) (end : ℕ) (query : Tree) (words : List (List ℕ)) (position : ℕ)
    (found : Bool) → last ≡ Some end → end ≤ position → position - end ≤ n → found ≡ stands_at query words position
    → found ≡ stands_behind n last query words position
close_behind n last end query words position found is le near e =
    e ∙ sym (ap (λ b. b && stands_at query words position)
    (close_true n end position le (omega (arith, near, le))))
    ∙ ap (λ o. stands_behind n o query words position) (sym is)

pub found_here : (n : ℕ) (first second : Tree) (words : List (List ℕ)) (position : ℕ) (end : Option ℕ)
    → IsLastEnd first words (position + 1) end → stands_behind n end second words position ≡ true
    → is_followed n first second words ≡ true
found_here n first second words position None last h = absurd (true≢false (sym h))
found_here n first second words position (Some end) last h =
    let parts = and_parts (is_close n end position) (stands_at second words position) h in
    let both = and_from (stands_at first words last.start) (stands_at second words position) last.standing parts.1 in
    let close = ap (λ m. is_close n m position) last.ends ∙ parts.0 in
    close_found n first second words last.start position
    (and_from (stands_at first words last.start && stands_at second words position)
    (is_close n (last.start + width first) position) both close)
    (stands_inside first words last.start last.standing) (stands_inside second words position parts.1)

clash : (n : ℕ) (first second : Tree) (words : List (List ℕ)) (position i : ℕ) (end : Option ℕ)
    → IsLastEnd first words (position + 1) end → stands_behind n end second words position ≡ false
    → stands_at first words i ≡ true → stands_at second words position ≡ true → i + width first ≤ position
    → position ≤ i + width first + n → ⊥
clash n first second words position i None last h here there le near =
    let least = last i here in omega (arith, least, le)
clash n first second words position i (Some end) last h here there le near =
    let low = last.low in
    let late = last.last i here (omega (arith, le)) in
    true≢false (sym (and_from (is_close n end position) (stands_at second words position)
    (close_true n end position (omega (arith, low)) (omega (arith, late, near))) there) ∙ h)

pub not_here : (n : ℕ) (first second : Tree) (words : List (List ℕ)) (position : ℕ) (end : Option ℕ)
    → IsLastEnd first words (position + 1) end → stands_behind n end second words position ≡ false → (i : ℕ)
    → stand_close n first second words i position ≡ false
not_here n first second words position end last h i = at (stand_close n first second words i position) refl
  where
    at : (b : Bool) → stand_close n first second words i position ≡ b → b ≡ false
    at false e = refl
    at true e =
        let parts = and_parts (stands_at first words i && stands_at second words position)
        (is_close n (i + width first) position) e in
        let both = and_parts (stands_at first words i) (stands_at second words position) parts.0 in
        let near = and_parts (nat_le (i + width first) position) (nat_le position (i + width first + n)) parts.1 in
        absurd (clash n first second words position i end last h both.0 both.1
        (at_least (i + width first) position near.0) (at_least position (i + width first + n) near.1))

-- one position more
pub none_upto : (test : ℕ → ℕ → Bool) (position : ℕ) → ((i j : ℕ) → j < position → test i j ≡ false)
    → ((i : ℕ) → test i position ≡ false) → (i j : ℕ) → j < position + 1 → test i j ≡ false
none_upto test position before here i j lt = at (nat_lt j position) refl
  where
    at : (b : Bool) → nat_lt j position ≡ b → test i j ≡ false
    at true e = before i j (grind (arith, nat_tests, e))
    at false e = let same : j ≡ position = grind (arith, nat_tests, e, lt) in ap (test i) same ∙ here i
