-- Lines that end, and the piece behind them.
use Rattle.std.proofs.Common.{◌≡◌, ℕ, ◌==◌, ◌||◌, List, [], ◌∷◌, ◌++◌, Bool, true, false, cond, length, refl, sym, ap}
use Rattle.std.proofs.Common.{◌∙◌}
use Rattle.std.proofs.Common.{append_assoc, arith, true≢false}
use Rattle.std.proofs.lemmas.Bool.Decides.{nat_tests}
use Rattle.clip_stream.specs.Lines.{lines_of, onto_first, ended_lines, onto_ended, lines_read}
use Rattle.clip_stream.specs.Steps.Reading.{has_feed, first_line, after_line}
use Rattle.clip_ahead.specs.Pieces.{last_piece, line_of_piece}

-- ---- line feeds

or_none : (t r : Bool) → (t || r) ≡ false → (t ≡ false) × (r ≡ false)
or_none true r e = absurd (true≢false e)
or_none false r e = (refl, e)

or_later : (t r : Bool) → r ≡ true → (t || r) ≡ true
or_later true r e = refl
or_later false r e = e

feed_later : (xs ys : List ℕ) → has_feed ys ≡ true → has_feed (xs ++ ys) ≡ true
feed_later [] ys e = e
feed_later (x ∷ xs) ys e = or_later (x == 10) (has_feed (xs ++ ys)) (feed_later xs ys e)

feed_same : (xs ys : List ℕ) → has_feed ys ≡ false → has_feed (xs ++ ys) ≡ has_feed xs
feed_same [] ys e = e
feed_same (x ∷ xs) ys e = ap (λ r. (x == 10) || r) (feed_same xs ys e)

-- ---- bytes without a line feed

onto_none : (t : Bool) (b : ℕ) (ls : List (List ℕ)) → t ≡ false → ls ≡ [] → cond t ([] ∷ ls) (onto_ended b ls) ≡ []
onto_none true b ls e none = absurd (true≢false e)
onto_none false b ls e none = ap (onto_ended b) none

none_ended : (bytes : List ℕ) → has_feed bytes ≡ false → ended_lines bytes ≡ []
none_ended [] e = refl
none_ended (b ∷ bytes) e =
    let both = or_none (b == 10) (has_feed bytes) e in
    onto_none (b == 10) b (ended_lines bytes) both.0 (none_ended bytes both.1)

all_piece : (bytes : List ℕ) → has_feed bytes ≡ false → last_piece bytes ≡ bytes
all_piece [] e = refl
all_piece (b ∷ bytes) e = ap (λ t. cond t (last_piece bytes) (b ∷ bytes)) e

-- behind bytes they end no line
pub ended_behind : (xs ys : List ℕ) → has_feed ys ≡ false → ended_lines (xs ++ ys) ≡ ended_lines xs
ended_behind [] ys e = none_ended ys e
ended_behind (x ∷ xs) ys e = ap (λ ls. cond (x == 10) ([] ∷ ls) (onto_ended x ls)) (ended_behind xs ys e)

piece_step : (t : Bool) (x : ℕ) (xs ys p q : List ℕ) → p ≡ q ++ ys
    → cond t p (x ∷ (xs ++ ys)) ≡ cond t q (x ∷ xs) ++ ys
piece_step true x xs ys p q e = e
piece_step false x xs ys p q e = refl

-- and are behind the piece
pub piece_behind : (xs ys : List ℕ) → has_feed ys ≡ false → last_piece (xs ++ ys) ≡ last_piece xs ++ ys
piece_behind [] ys e = all_piece ys e
piece_behind (x ∷ xs) ys e =
    ap (λ t. cond t (last_piece (xs ++ ys)) (x ∷ (xs ++ ys))) (feed_same (x ∷ xs) ys e)
    ∙ piece_step (has_feed (x ∷ xs)) x xs ys (last_piece (xs ++ ys)) (last_piece xs) (piece_behind xs ys e)

-- ---- bytes with one line feed, at their end

one_line : (front : List ℕ) → has_feed front ≡ false → ended_lines (front ++ 10 ∷ []) ≡ front ∷ []
one_line [] e = refl
one_line (b ∷ front) e =
    let both = or_none (b == 10) (has_feed front) e in
    ap (λ t. cond t ([] ∷ ended_lines (front ++ 10 ∷ [])) (onto_ended b (ended_lines (front ++ 10 ∷ [])))) both.0
    ∙ ap (onto_ended b) (one_line front both.1)

-- lines that end, where there is one
some_ended : (bytes : List ℕ) → has_feed bytes ≡ true
    → (first : List ℕ) × (more : List (List ℕ)) × (ended_lines bytes ≡ first ∷ more)
some_ended [] e = absurd (true≢false (sym e))
some_ended (b ∷ bytes) e = first_of (b == 10) (has_feed bytes) e (some_ended bytes)
  where
    first_of : (t r : Bool) → (t || r) ≡ true
        → (r ≡ true → (first : List ℕ) × (more : List (List ℕ)) × (ended_lines bytes ≡ first ∷ more))
        → (first : List ℕ) × (more : List (List ℕ))
        × (cond t ([] ∷ ended_lines bytes) (onto_ended b (ended_lines bytes)) ≡ first ∷ more)
    first_of true r e more = ([], ended_lines bytes, refl)
    first_of false r e more = let m = more e in (b ∷ m.0, m.1, ap (onto_ended b) m.2)

onto_more : (b : ℕ) (ls : List (List ℕ)) (first : List ℕ) (more later : List (List ℕ)) → ls ≡ first ∷ more
    → onto_ended b (ls ++ later) ≡ onto_ended b ls ++ later
onto_more b ls first more later e =
    ap (λ l. onto_ended b (l ++ later)) e ∙ ap (λ l. onto_ended b l ++ later) (sym e)

-- what a byte in front does to the lines that end, and to the last of them
line_step : (t r : Bool) (x : ℕ) (xs front : List ℕ) → has_feed xs ≡ r
    → cond t ([] ∷ (ended_lines xs ++ (last_piece xs ++ front) ∷ []))
    (onto_ended x (ended_lines xs ++ (last_piece xs ++ front) ∷ []))
    ≡ cond t ([] ∷ ended_lines xs) (onto_ended x (ended_lines xs))
    ++ (cond (t || r) (last_piece xs) (x ∷ xs) ++ front) ∷ []
line_step true r x xs front e = refl
line_step false true x xs front e =
    let some = some_ended xs e in
    onto_more x (ended_lines xs) some.0 some.1 ((last_piece xs ++ front) ∷ []) some.2
line_step false false x xs front e =
    ap (λ ls. onto_ended x (ls ++ (last_piece xs ++ front) ∷ [])) (none_ended xs e)
    ∙ ap (λ p. (x ∷ (p ++ front)) ∷ []) (all_piece xs e)
    ∙ ap (λ ls. onto_ended x ls ++ ((x ∷ xs) ++ front) ∷ []) (sym (none_ended xs e))

-- a line feed ends the line that the piece began
pub ended_by_feed : (xs front : List ℕ) → has_feed front ≡ false
    → ended_lines (xs ++ (front ++ 10 ∷ [])) ≡ ended_lines xs ++ (last_piece xs ++ front) ∷ []
ended_by_feed [] front e = one_line front e
ended_by_feed (x ∷ xs) front e =
    ap (λ ls. cond (x == 10) ([] ∷ ls) (onto_ended x ls)) (ended_by_feed xs front e)
    ∙ line_step (x == 10) (has_feed xs) x xs front refl

-- and leaves no piece
no_piece : (xs : List ℕ) → last_piece (xs ++ 10 ∷ []) ≡ []
no_piece [] = refl
no_piece (x ∷ xs) =
    ap (λ t. cond t (last_piece (xs ++ 10 ∷ [])) (x ∷ (xs ++ 10 ∷ []))) (feed_later (x ∷ xs) (10 ∷ []) refl)
    ∙ no_piece xs

pub piece_ended : (xs front : List ℕ) → last_piece (xs ++ (front ++ 10 ∷ [])) ≡ []
piece_ended xs front = ap last_piece (sym (append_assoc xs front (10 ∷ []))) ∙ no_piece (xs ++ front)

-- ---- lines that end come first

ended_step : (t : Bool) (x : ℕ) (all some later : List (List ℕ)) → all ≡ some ++ later
    → (more : List (List ℕ)) × (cond t ([] ∷ all) (onto_ended x all) ≡ cond t ([] ∷ some) (onto_ended x some) ++ more)
ended_step true x all some later e = (later, ap (λ ls. [] ∷ ls) e)
ended_step false x all [] later e = (onto_ended x later, ap (onto_ended x) e)
ended_step false x all (line ∷ some) later e = (later, ap (onto_ended x) e)

pub ended_first : (xs ys : List ℕ) → (later : List (List ℕ)) × (ended_lines (xs ++ ys) ≡ ended_lines xs ++ later)
ended_first [] ys = (ended_lines ys, refl)
ended_first (x ∷ xs) ys =
    let more = ended_first xs ys in
    ended_step (x == 10) x (ended_lines (xs ++ ys)) (ended_lines xs) more.0 more.1

-- ---- where the first line feed stands

feed_here : (t r : Bool) (b : ℕ) (front after bytes : List ℕ) → (t || r) ≡ true → (t ≡ true → b ≡ 10)
    → (r ≡ true → bytes ≡ front ++ 10 ∷ after)
    → b ∷ bytes ≡ cond t [] (b ∷ front) ++ 10 ∷ cond t bytes after
feed_here true r b front after bytes e ten more = ap (λ x. x ∷ bytes) (ten refl)
feed_here false r b front after bytes e ten more = ap (λ xs. b ∷ xs) (more e)

is_ten : (b : ℕ) → (b == 10) ≡ true → b ≡ 10
is_ten b e = grind (arith, nat_tests, e)

pub first_parts : (bytes : List ℕ) → has_feed bytes ≡ true → bytes ≡ first_line bytes ++ 10 ∷ after_line bytes
first_parts [] e = absurd (true≢false (sym e))
first_parts (b ∷ bytes) e =
    feed_here (b == 10) (has_feed bytes) b (first_line bytes) (after_line bytes) bytes e (is_ten b) (first_parts bytes)

none_here : (t : Bool) (b : ℕ) (front : List ℕ) → t ≡ (b == 10) → has_feed front ≡ false
    → has_feed (cond t [] (b ∷ front)) ≡ false
none_here true b front is e = refl
none_here false b front is e = ap (λ t. t || has_feed front) (sym is) ∙ e

pub first_has_none : (bytes : List ℕ) → has_feed (first_line bytes) ≡ false
first_has_none [] = refl
first_has_none (b ∷ bytes) = none_here (b == 10) b (first_line bytes) refl (first_has_none bytes)

-- ---- the end

onto_piece : (b : ℕ) (bytes : List ℕ) → onto_first b (line_of_piece bytes) ≡ (b ∷ bytes) ∷ []
onto_piece b [] = refl
onto_piece b (x ∷ bytes) = refl

onto_first_more : (b : ℕ) (ls : List (List ℕ)) (first : List ℕ) (more later : List (List ℕ)) → ls ≡ first ∷ more
    → onto_first b (ls ++ later) ≡ onto_ended b ls ++ later
onto_first_more b ls first more later e =
    ap (λ l. onto_first b (l ++ later)) e ∙ ap (λ l. onto_ended b l ++ later) (sym e)

end_step : (t r : Bool) (b : ℕ) (bytes : List ℕ) → has_feed bytes ≡ r
    → cond t ([] ∷ (ended_lines bytes ++ line_of_piece (last_piece bytes)))
    (onto_first b (ended_lines bytes ++ line_of_piece (last_piece bytes)))
    ≡ cond t ([] ∷ ended_lines bytes) (onto_ended b (ended_lines bytes))
    ++ line_of_piece (cond (t || r) (last_piece bytes) (b ∷ bytes))
end_step true r b bytes e = refl
end_step false true b bytes e =
    let some = some_ended bytes e in
    onto_first_more b (ended_lines bytes) some.0 some.1 (line_of_piece (last_piece bytes)) some.2
end_step false false b bytes e =
    ap (λ ls. onto_first b (ls ++ line_of_piece (last_piece bytes))) (none_ended bytes e)
    ∙ ap (λ p. onto_first b (line_of_piece p)) (all_piece bytes e) ∙ onto_piece b bytes
    ∙ ap (λ ls. onto_ended b ls ++ (b ∷ bytes) ∷ []) (sym (none_ended bytes e))

-- at the end the piece is the last line
pub all_lines : (bytes : List ℕ) → lines_of bytes ≡ ended_lines bytes ++ line_of_piece (last_piece bytes)
all_lines [] = refl
all_lines (b ∷ bytes) =
    ap (λ ls. cond (b == 10) ([] ∷ ls) (onto_first b ls)) (all_lines bytes)
    ∙ end_step (b == 10) (has_feed bytes) b bytes refl

-- ---- bytes that end with a line, and bytes behind them

whole_step : (t : Bool) (b : ℕ) (bytes : List ℕ) → cond t (last_piece bytes) (b ∷ bytes) ≡ []
    → (t ≡ true) × (last_piece bytes ≡ [])
whole_step true b bytes e = (refl, e)
whole_step false b bytes e = absurd (omega (arith, ap length e))

feed_first : (xs ys : List ℕ) → has_feed xs ≡ true → has_feed (xs ++ ys) ≡ true
feed_first [] ys e = absurd (true≢false (sym e))
feed_first (x ∷ xs) ys e = or_on (x == 10) (has_feed xs) (has_feed (xs ++ ys)) e (feed_first xs ys)
  where
    or_on : (t r s : Bool) → (t || r) ≡ true → (r ≡ true → s ≡ true) → (t || s) ≡ true
    or_on true r s e f = refl
    or_on false r s e f = f e

join_step : (t r : Bool) (x : ℕ) (xs : List ℕ) (later : List (List ℕ)) → (t || r) ≡ true → has_feed xs ≡ r
    → cond t ([] ∷ (ended_lines xs ++ later)) (onto_ended x (ended_lines xs ++ later))
    ≡ cond t ([] ∷ ended_lines xs) (onto_ended x (ended_lines xs)) ++ later
join_step true r x xs later o e = refl
join_step false true x xs later o e =
    let some = some_ended xs e in
    onto_more x (ended_lines xs) some.0 some.1 later some.2
join_step false false x xs later o e = absurd (true≢false (sym o))

pub ended_join : (xs ys : List ℕ) → last_piece xs ≡ [] → ended_lines (xs ++ ys) ≡ ended_lines xs ++ ended_lines ys
ended_join [] ys e = refl
ended_join (x ∷ xs) ys e =
    let whole = whole_step (has_feed (x ∷ xs)) x xs e in
    ap (λ ls. cond (x == 10) ([] ∷ ls) (onto_ended x ls)) (ended_join xs ys whole.1)
    ∙ join_step (x == 10) (has_feed xs) x xs (ended_lines ys) whole.0 refl

pub piece_join : (xs ys : List ℕ) → last_piece xs ≡ [] → last_piece (xs ++ ys) ≡ last_piece ys
piece_join [] ys e = refl
piece_join (x ∷ xs) ys e =
    let whole = whole_step (has_feed (x ∷ xs)) x xs e in
    ap (λ t. cond t (last_piece (xs ++ ys)) (x ∷ (xs ++ ys))) (feed_first (x ∷ xs) ys whole.0)
    ∙ piece_join xs ys whole.1

pub lines_join : (xs ys : List ℕ) → last_piece xs ≡ [] → lines_of (xs ++ ys) ≡ ended_lines xs ++ lines_of ys
lines_join xs ys e =
    all_lines (xs ++ ys) ∙ ap (λ ls. ls ++ line_of_piece (last_piece (xs ++ ys))) (ended_join xs ys e)
    ∙ ap (λ p. (ended_lines xs ++ ended_lines ys) ++ line_of_piece p) (piece_join xs ys e)
    ∙ append_assoc (ended_lines xs) (ended_lines ys) (line_of_piece (last_piece ys))
    ∙ ap (λ ls. ended_lines xs ++ ls) (sym (all_lines ys))

pub read_join : (met_end : Bool) (xs ys : List ℕ) → last_piece xs ≡ []
    → lines_read met_end (xs ++ ys) ≡ ended_lines xs ++ lines_read met_end ys
read_join true xs ys e = lines_join xs ys e
read_join false xs ys e = ended_join xs ys e

-- ---- the piece, and what stands before it

pub piece_none : (bytes : List ℕ) → has_feed (last_piece bytes) ≡ false
piece_none [] = refl
piece_none (b ∷ bytes) = none_step (has_feed (b ∷ bytes)) refl (piece_none bytes)
  where
    none_step : (q : Bool) → has_feed (b ∷ bytes) ≡ q → has_feed (last_piece bytes) ≡ false
        → has_feed (last_piece (b ∷ bytes)) ≡ false
    none_step true e more = ap (λ t. has_feed (cond t (last_piece bytes) (b ∷ bytes))) e ∙ more
    none_step false e more = ap (λ t. has_feed (cond t (last_piece bytes) (b ∷ bytes))) e ∙ e

pub piece_ends_none : (bytes : List ℕ) → ended_lines (last_piece bytes) ≡ []
piece_ends_none bytes = none_ended (last_piece bytes) (piece_none bytes)

pub piece_of_piece : (bytes : List ℕ) → last_piece (last_piece bytes) ≡ last_piece bytes
piece_of_piece bytes = all_piece (last_piece bytes) (piece_none bytes)

pub record PieceParts (bytes : List ℕ) : Type 0 where
  pub front : List ℕ
  pub parts : bytes ≡ front ++ last_piece bytes
  pub feeds : has_feed front ≡ has_feed bytes
  pub whole : last_piece front ≡ []
  pub ended : ended_lines front ≡ ended_lines bytes

parts_more : (b : ℕ) (bytes : List ℕ) (q : Bool) → has_feed (b ∷ bytes) ≡ q → PieceParts bytes
    → PieceParts (b ∷ bytes)
parts_more b bytes true e p = record {
  front = b ∷ p.front;
  parts = ap (λ xs. b ∷ xs) p.parts
      ∙ ap (λ xs. (b ∷ p.front) ++ xs) (sym (ap (λ t. cond t (last_piece bytes) (b ∷ bytes)) e));
  feeds = ap (λ r. (b == 10) || r) p.feeds;
  whole = ap (λ t. cond t (last_piece p.front) (b ∷ p.front)) (ap (λ r. (b == 10) || r) p.feeds ∙ e) ∙ p.whole;
  ended = ap (λ ls. cond (b == 10) ([] ∷ ls) (onto_ended b ls)) p.ended;
}
parts_more b bytes false e p = record {
  front = [];
  parts = sym (ap (λ t. cond t (last_piece bytes) (b ∷ bytes)) e);
  feeds = sym e;
  whole = refl;
  ended = sym (none_ended (b ∷ bytes) e);
}

pub piece_parts : (bytes : List ℕ) → PieceParts bytes
piece_parts [] = record { front = []; parts = refl; feeds = refl; whole = refl; ended = refl }
piece_parts (b ∷ bytes) = parts_more b bytes (has_feed (b ∷ bytes)) refl (piece_parts bytes)
