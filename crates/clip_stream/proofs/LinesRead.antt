-- Lines that were read.
use Rattle.std.proofs.Common.{◌≡◌, ℕ, ◌<◌, ◌==◌, ◌||◌, List, [], ◌∷◌, ◌++◌, length, Bool, true, false, cond, refl, sym}
use Rattle.std.proofs.Common.{ap, ap₂, ◌∙◌, arith, append-nil, true≢false, Option, Some, None, subst, inl, inr}
use Rattle.std.specs.Io.KnownBytes.{Consumes, IsAtEnd}
use Rattle.clip_stream.specs.Lines.{lines_of, onto_first, ended_lines, onto_ended, lines_read, LinesReadComeFirst}
use Rattle.clip_stream.specs.Lines.{OfInput, OfLinesRead}
use Rattle.clip_stream.specs.Steps.Reading.{has_feed, first_line, after_line, HasLine}
use Rattle.clip_stream.proofs.Cuts.{first_line-feed, after_line-feed, some_feed}

-- ---- the first line

onto_step : (t : Bool) (b : ℕ) (bytes : List ℕ)
    → (0 < length bytes → lines_of bytes ≡ first_line bytes ∷ lines_of (after_line bytes))
    → cond t ([] ∷ lines_of bytes) (onto_first b (lines_of bytes)) ≡ cond t [] (b ∷ first_line bytes)
    ∷ lines_of (cond t bytes (after_line bytes))
onto_step true b bytes more = refl
onto_step false b [] more = refl
onto_step false b (x ∷ bytes) more = ap (onto_first b) (more (omega arith))

lines_of-first : (input : List ℕ) → 0 < length input → lines_of input ≡ first_line input ∷ lines_of (after_line input)
lines_of-first [] h = absurd (omega arith)
lines_of-first (b ∷ bytes) h = onto_step (b == 10) b bytes (lines_of-first bytes)

ended_step : (t r : Bool) (b : ℕ) (bytes : List ℕ) → (t || r) ≡ true
    → (r ≡ true → ended_lines bytes ≡ first_line bytes ∷ ended_lines (after_line bytes))
    → cond t ([] ∷ ended_lines bytes) (onto_ended b (ended_lines bytes)) ≡ cond t [] (b ∷ first_line bytes)
    ∷ ended_lines (cond t bytes (after_line bytes))
ended_step true r b bytes h more = refl
ended_step false r b bytes h more = ap (onto_ended b) (more h)

ended_lines-first : (bytes : List ℕ) → has_feed bytes ≡ true
    → ended_lines bytes ≡ first_line bytes ∷ ended_lines (after_line bytes)
ended_lines-first [] h = absurd (true≢false (sym h))
ended_lines-first (b ∷ bytes) h = ended_step (b == 10) (has_feed bytes) b bytes h (ended_lines-first bytes)

ended_none : (t r : Bool) (b : ℕ) (lines : List (List ℕ)) → (t || r) ≡ false → (r ≡ false → lines ≡ [])
    → cond t ([] ∷ lines) (onto_ended b lines) ≡ []
ended_none true r b lines h more = absurd (true≢false h)
ended_none false r b lines h more = ap (onto_ended b) (more h)

pub ended_lines-no_feed : (bytes : List ℕ) → has_feed bytes ≡ false → ended_lines bytes ≡ []
ended_lines-no_feed [] h = refl
ended_lines-no_feed (b ∷ bytes) h =
    ended_none (b == 10) (has_feed bytes) b (ended_lines bytes) h (ended_lines-no_feed bytes)

-- ---- the first line of what was read

feed_in_front : (bytes more : List ℕ) → has_feed bytes ≡ true → has_feed (bytes ++ more) ≡ true
feed_in_front [] more h = absurd (true≢false (sym h))
feed_in_front (b ∷ bytes) more h = or_step (b == 10) (has_feed bytes) _ h (feed_in_front bytes more)
  where
    or_step : (t r s : Bool) → (t || r) ≡ true → (r ≡ true → s ≡ true) → (t || s) ≡ true
    or_step true r s h more = refl
    or_step false r s h more = more h

read_by_feed : (met_end : Bool) (bytes : List ℕ) → has_feed bytes ≡ true
    → lines_read met_end bytes ≡ first_line bytes ∷ lines_read met_end (after_line bytes)
read_by_feed true bytes h = lines_of-first bytes (some_feed bytes h)
read_by_feed false bytes h = ended_lines-first bytes h

read_at_end : (met_end : Bool) (bytes more : List ℕ) → 0 < length bytes → met_end ≡ true → more ≡ []
    → lines_read met_end (bytes ++ more) ≡ first_line bytes ∷ lines_read met_end (after_line bytes ++ more)
read_at_end false bytes more some e none = absurd (true≢false (sym e))
read_at_end true bytes more some e none =
    ap (λ xs. lines_of (bytes ++ xs)) none ∙ ap lines_of (append-nil bytes) ∙ lines_of-first bytes some
    ∙ ap (λ xs. first_line bytes ∷ lines_of xs) (sym (append-nil (after_line bytes)))
    ∙ ap (λ xs. first_line bytes ∷ lines_of (after_line bytes ++ xs)) (sym none)

-- where a line stands whole, it is the first of those that were read, whatever is read behind it
pub lines_read-first : (ended met_end : Bool) (bytes more : List ℕ) → HasLine ended bytes
    → (ended ≡ true → (met_end ≡ true) × (more ≡ [])) → lines_read met_end (bytes ++ more)
    ≡ first_line bytes ∷ lines_read met_end (after_line bytes ++ more)
lines_read-first ended met_end bytes more (inl feed) last =
    read_by_feed met_end (bytes ++ more) (feed_in_front bytes more feed)
    ∙ ap₂ (λ x xs. x ∷ lines_read met_end xs) (first_line-feed bytes more feed) (after_line-feed bytes more feed)
lines_read-first ended met_end bytes more (inr at_end) last =
    let end = last at_end.0 in read_at_end met_end bytes more at_end.1 end.0 end.1

-- ---- the first lines of the input

first_step : (t : Bool) (b : ℕ) (all some later : List (List ℕ)) → all ≡ some ++ later
    → (more : List (List ℕ)) × (cond t ([] ∷ all) (onto_first b all) ≡ cond t ([] ∷ some) (onto_ended b some) ++ more)
first_step true b all some later e = (later, ap (λ ls. [] ∷ ls) e)
first_step false b all [] later e = (onto_first b all, refl)
first_step false b all (line ∷ some) later e = (later, ap (onto_first b) e)

ended_come_first : (bytes rest : List ℕ)
    → (later : List (List ℕ)) × (lines_of (bytes ++ rest) ≡ ended_lines bytes ++ later)
ended_come_first [] rest = (lines_of rest, refl)
ended_come_first (b ∷ bytes) rest = let more = ended_come_first bytes rest in
    first_step (b == 10) b (lines_of (bytes ++ rest)) (ended_lines bytes) more.0 more.1

pub come_first : LinesReadComeFirst
come_first true bytes rest last = (
  [],
  ap (λ xs. lines_of (bytes ++ xs)) (last refl) ∙ ap lines_of (append-nil bytes)
      ∙ sym (append-nil (lines_of bytes)),
)
come_first false bytes rest last = ended_come_first bytes rest

-- ---- by what a reader tells

-- where nothing is left, what was given is the input
pub of_input : (old new : Option (List ℕ)) (bytes : List ℕ) (P : List ℕ → Type 0) → Consumes old new bytes
    → IsAtEnd new → P bytes → OfInput old P
of_input None new bytes P given end p = (bytes, p)
of_input (Some input) None bytes P given end p = absurd given
of_input (Some input) (Some rest) bytes P given end p =
    subst P (sym (given ∙ ap (λ r. bytes ++ r) end ∙ append-nil bytes)) p

pub of_input_weaker : (left : Option (List ℕ)) (P Q : List ℕ → Type 0) → ((input : List ℕ) → P input → Q input)
    → OfInput left P → OfInput left Q
of_input_weaker None P Q f p = (p.0, f p.0 p.1)
of_input_weaker (Some input) P Q f p = f input p

pub of_lines_read_weaker : (old new : Option (List ℕ)) (met_end : Bool) (P Q : List (List ℕ) → Type 0)
    → ((lines : List (List ℕ)) → P lines → Q lines) → OfLinesRead old new met_end P → OfLinesRead old new met_end Q
of_lines_read_weaker old new met_end P Q f p = (p.0, p.1, f (lines_read met_end p.0) p.2)
