-- Lines that were answered one after the other, of which less is said.
use Rattle.std.proofs.Common.{ℕ, suc, List, [], ◌∷◌, Bool, Option}
use Rattle.clip_stream.specs.Lines.{lines_of, OfInput, OfLinesRead}
use Rattle.clip_stream.specs.Steps.Reading.{cut}
use Rattle.clip_stream.proofs.LinesRead.{of_input_weaker, of_lines_read_weaker}
use Rattle.clip_front.specs.Steps.Serving.{Answering, Breaking, Serves, ServesAll, ServesFront}
use Rattle.clip_front.specs.Steps.Serving.{ServesLines}

-- each answer is one of the others
abbrev pub AreAmong : {S : Type 0} → Answering S → Answering S → Type 0
AreAmong {S = S} answers others = (s t : S) (n : ℕ) (line text : List ℕ) → answers s t n line text
    → others s t n line text

serves_weaker : {S : Type 0} (answers others : Answering S) → AreAmong answers others
    → (s t : S) (n : ℕ) (lines : List (List ℕ)) (text : List ℕ) → Serves answers s t n lines text
    → Serves others s t n lines text
serves_weaker answers others among s t n [] text p = p
serves_weaker answers others among s t n (line ∷ lines) text p = (
  p.0,
  p.1,
  p.2,
  among s p.0 n (cut line) p.1 p.3,
  p.4,
  serves_weaker answers others among p.0 t (suc n) lines p.2 p.5,
)

all_weaker : {S : Type 0} (answers others : Answering S) → AreAmong answers others
    → (s t : S) (taken_old taken : Option (List ℕ)) (count : ℕ) (input : List ℕ)
    → ServesAll answers s t taken_old taken count input → ServesAll others s t taken_old taken count input
all_weaker answers others among s t taken_old taken count input p =
    record {
      text = p.text;
      served =
          serves_weaker answers others among s t 1 (lines_of input) p.text p.served;
      written = p.written;
      counted =
          p.counted;
    }

pub serves_all_weaker : {S : Type 0} (answers others : Answering S) → AreAmong answers others
    → (s t : S) (left taken_old taken : Option (List ℕ)) (count : ℕ)
    → OfInput left (ServesAll answers s t taken_old taken count)
    → OfInput left (ServesAll others s t taken_old taken count)
serves_all_weaker answers others among s t left taken_old taken count p =
    of_input_weaker left (ServesAll answers s t taken_old taken count) (ServesAll others s t taken_old taken count)
    (all_weaker answers others among s t taken_old taken count) p

front_weaker : {S : Type 0} (answers others : Answering S) (breaks : Breaking S) → AreAmong answers others
    → (s t : S) (taken_old taken : Option (List ℕ)) (lines : List (List ℕ))
    → ServesFront answers breaks s t taken_old taken lines → ServesFront others breaks s t taken_old taken lines
front_weaker answers others breaks among s t taken_old taken lines p = record {
  between = p.between;
  front = p.front;
  later = p.later;
  text = p.text;
  begun = p.begun;
  parts = p.parts;
  served = serves_weaker answers others among s p.between 1 p.front p.text p.served;
  stops = p.stops;
  written = p.written;
}

pub serves_front_weaker : {S : Type 0} (answers others : Answering S) (breaks : Breaking S) → AreAmong answers others
    → (s t : S) (left left_new : Option (List ℕ)) (met_end : Bool) (taken_old taken : Option (List ℕ))
    → OfLinesRead left left_new met_end (ServesFront answers breaks s t taken_old taken)
    → OfLinesRead left left_new met_end (ServesFront others breaks s t taken_old taken)
serves_front_weaker answers others breaks among s t left left_new met_end taken_old taken p =
    of_lines_read_weaker left left_new met_end (ServesFront answers breaks s t taken_old taken)
    (ServesFront others breaks s t taken_old taken) (front_weaker answers others breaks among s t taken_old taken) p

lines_weaker : {S : Type 0} (answers others : Answering S) → AreAmong answers others
    → (s t : S) (taken_old taken : Option (List ℕ)) (lines : List (List ℕ))
    → ServesLines answers s t taken_old taken lines → ServesLines others s t taken_old taken lines
lines_weaker answers others among s t taken_old taken lines p = record {
  text = p.text;
  served = serves_weaker answers others among s t 1 lines p.text p.served;
  written = p.written;
}

pub serves_lines_weaker : {S : Type 0} (answers others : Answering S) → AreAmong answers others
    → (s t : S) (left left_new : Option (List ℕ)) (met_end : Bool) (taken_old taken : Option (List ℕ))
    → OfLinesRead left left_new met_end (ServesLines answers s t taken_old taken)
    → OfLinesRead left left_new met_end (ServesLines others s t taken_old taken)
serves_lines_weaker answers others among s t left left_new met_end taken_old taken p =
    of_lines_read_weaker left left_new met_end (ServesLines answers s t taken_old taken)
    (ServesLines others s t taken_old taken) (lines_weaker answers others among s t taken_old taken) p
