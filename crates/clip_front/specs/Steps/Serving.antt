-- How lines are answered one after the other, whatever answers them.
use Rattle.std.specs.Prelude.{◌≡◌, ◌⊎◌, ℕ, suc, List, [], ◌∷◌, ◌++◌, length, Option}
use Rattle.std.specs.Io.KnownBytes.{Appends}
use Rattle.clip_stream.specs.Device.{AppendsFront, HandsOver}
use Rattle.clip_stream.specs.Lines.{lines_of}
use Rattle.clip_stream.specs.Steps.Reading.{cut}

-- from one state to the other by answering the line of this number with this text
abbrev pub Answering : Type 0 → Type 1
Answering S = S → S → ℕ → List ℕ → List ℕ → Type 0

-- from one state to the other by an answering of the line of this number that was broken off, of which this text was
-- on its way
abbrev pub Breaking : Type 0 → Type 1
Breaking S = S → S → ℕ → List ℕ → List ℕ → Type 0

-- The line of this number was answered, and its text is written or gathered behind what was gathered.
pub record AnswersInto {S : Type 0} (answers : Answering S) (old new : S) (n : ℕ) (line : List ℕ)
    (taken_old : Option (List ℕ)) (gathered_old : List ℕ) (taken_new : Option (List ℕ)) (gathered_new : List ℕ) : Type 0
  where
    pub text : List ℕ
    pub answered : answers old new n line text
    pub handed : HandsOver taken_old (gathered_old ++ text) taken_new gathered_new

-- The answering of the line was broken off, or the line was answered and not all of its text was gathered. Of what was
-- gathered and the text a front was written.
pub record BreaksInto {S : Type 0} (answers : Answering S) (breaks : Breaking S) (old new : S) (n : ℕ) (line : List ℕ)
    (taken_old : Option (List ℕ)) (gathered : List ℕ) (taken_new : Option (List ℕ)) : Type 0 where
  pub text : List ℕ
  pub broken : breaks old new n line text ⊎ answers old new n line text
  pub written : AppendsFront taken_old taken_new (gathered ++ text)

-- from one state to the other by answering the lines, of which the first is line n, with this text
abbrev pub Serves : {S : Type 0} → Answering S → S → S → ℕ → List (List ℕ) → List ℕ → Type 0
Serves answers s t n [] text = (t ≡ s) × (text ≡ [])
Serves {S = S} answers s t n (line ∷ lines) text =
    (u : S) × (first : List ℕ) × (rest : List ℕ) × answers s u n (cut line) first × (text ≡ first ++ rest)
    × Serves answers u t (suc n) lines rest

-- nothing more was done, or the answering of the next line, of number n, was broken off, of which this text was on its
-- way
abbrev pub StopsAt : {S : Type 0} → Breaking S → S → S → ℕ → List (List ℕ) → List ℕ → Type 0
StopsAt breaks s t n [] begun = (t ≡ s) × (begun ≡ [])
StopsAt breaks s t n (line ∷ lines) begun = ((t ≡ s) × (begun ≡ [])) ⊎ breaks s t n (cut line) begun

-- All lines of the input were answered, so many, and the answers were written.
pub record ServesAll {S : Type 0} (answers : Answering S) (old new : S) (taken_old taken_new : Option (List ℕ))
    (count : ℕ) (input : List ℕ) : Type 0 where
  pub text : List ℕ
  pub served : Serves answers old new 1 (lines_of input) text
  pub written : Appends taken_old taken_new text
  pub counted : count ≡ length (lines_of input)

-- Just these lines were answered, and their answers were written.
pub record ServesLines {S : Type 0} (answers : Answering S) (old new : S) (taken_old taken_new : Option (List ℕ))
    (lines : List (List ℕ)) : Type 0 where
  pub text : List ℕ
  pub served : Serves answers old new 1 lines text
  pub written : Appends taken_old taken_new text

-- Some first ones of the lines were answered, the next was begun at most, and a front of the answers, and of what was
-- on its way of the next one, was written.
pub record ServesFront {S : Type 0} (answers : Answering S) (breaks : Breaking S) (old new : S)
    (taken_old taken_new : Option (List ℕ)) (lines : List (List ℕ)) : Type 0 where
  pub between : S
  pub front : List (List ℕ)
  pub later : List (List ℕ)
  pub text : List ℕ
  pub begun : List ℕ
  pub parts : lines ≡ front ++ later
  pub served : Serves answers old between 1 front text
  pub stops : StopsAt breaks between new (suc (length front)) later begun
  pub written : AppendsFront taken_old taken_new (text ++ begun)
