-- Which tokens are the beginning of clauses: those after which something may follow.
use Rattle.std.proofs.Common.{◌≡◌, ℕ, zero, suc, Bool, true, false, ◌&&◌, List, [], ◌∷◌, ◌++◌, Option, Some, None}
use Rattle.std.proofs.Common.{refl, sym, ap, ◌∙◌, append-nil}
use Rattle.std.specs.Prelude.{reverse, is_some}
use mathlib.Core.List.{reverse_aux}
use Rattle.std.proofs.lemmas.Bool.{false≢true}
use Rattle.std.proofs.lemmas.Grind.{reverse_onto}
use Rattle.clip_grammar.specs.Tokens as token
use Rattle.clip_grammar.specs.Tokens.{Token}
use Rattle.clip_grammar.specs.Shape.{tokens}
use Rattle.clip_grammar.specs.Reading.{begins_colon_star}
use Rattle.clip_grammar.specs.Steps.Parser.{accepts, begins_colon}
use Rattle.clip_grammar.specs.declared.stage.Stage.{Stage}
use Rattle.clip_grammar.specs.declared.stage.Stage.TheVariants.{Fresh, AfterSign, AfterField}
use Rattle.clip_grammar.proofs.Accepting.{lone_star}
use Rattle.clip_grammar.proofs.Parsing.{accepted, parse_again}
use Rattle.clip_grammar.proofs.Refusals.{written_found}
use Rattle.clip_explain.specs.Places.{BeginClauses}
use Rattle.clip_explain.specs.Steps.Fronts.{may_end, after, after_item, after_open, start, after_front, after_all}
use Rattle.clip_explain.specs.declared.fronts.Last.{Last}
use Rattle.clip_explain.specs.declared.fronts.Last.TheVariants.{Joint, Sign, Field, Word, Clause, Star, StarColon}
use Rattle.clip_explain.specs.declared.fronts.ClausesBegun.{ClausesBegun}

-- ---- tokens that end what is begun

abbrev front : ℕ → Last → ClausesBegun
front depth last = record { depth = depth; last = last }

abbrev is_zero : ℕ → Bool
is_zero zero = true
is_zero (suc n) = false

abbrev then : Option ClausesBegun → (ClausesBegun → Bool) → Bool
then None k = false
then (Some f) k = k f

-- clauses are ended by these tokens
abbrev goes : List Token → ClausesBegun → Bool
goes [] f = may_end f.last && is_zero f.depth
goes (t ∷ ts) f = then (after f t) (goes ts)

-- ---- the same as the parser tells it

-- whether a clause stands last, and what is read of the next one
data Read : Type 0 where
  Nothing : Read
  Whole : Read
  FirstSign : Read
  LaterSign : Read
  FirstField : Read
  LaterField : Read

abbrev ends : Read → Bool
ends Nothing = false
ends Whole = true
ends FirstSign = false
ends LaterSign = true
ends FirstField = false
ends LaterField = true

abbrev stage : Read → Stage
stage Nothing = Fresh
stage Whole = Fresh
stage FirstSign = AfterSign
stage LaterSign = AfterSign
stage FirstField = AfterField
stage LaterField = AfterField

abbrev last : Read → Last
last Nothing = Joint
last Whole = Clause
last FirstSign = Sign
last LaterSign = Sign
last FirstField = Field
last LaterField = Field

item_goes : (ts : List Token) (d : ℕ) (r : Read)
    → goes ts (front d Clause) ≡ then (after_item (front d (last r))) (goes ts)
item_goes ts d Nothing = refl
item_goes ts d Whole = refl
item_goes ts d FirstSign = refl
item_goes ts d LaterSign = refl
item_goes ts d FirstField = refl
item_goes ts d LaterField = refl

open_goes : (ts : List Token) (d : ℕ) (r : Read)
    → goes ts (front (suc d) Joint) ≡ then (after_open (front d (last r))) (goes ts)
open_goes ts d Nothing = refl
open_goes ts d Whole = refl
open_goes ts d FirstSign = refl
open_goes ts d LaterSign = refl
open_goes ts d FirstField = refl
open_goes ts d LaterField = refl

-- a plain word that no colon follows is a clause
word_goes : (ts : List Token) (d : ℕ) → begins_colon ts ≡ false → goes ts (front d Clause) ≡ goes ts (front d Word)
word_goes [] d h = refl
word_goes (token.Colon ∷ ts) d h = absurd (false≢true (sym h))
word_goes (_ ∷ ts) d h = refl

-- a star that no colon and star follow
star_stops : (ts : List Token) (d : ℕ) → begins_colon_star ts ≡ false → goes ts (front d Star) ≡ false
star_stops [] d h = refl
star_stops (token.Colon ∷ []) d h = refl
star_stops (token.Colon ∷ token.Star ∷ ts) d h = absurd (false≢true (sym h))
star_stops (token.Colon ∷ _ ∷ ts) d h = refl
star_stops (_ ∷ ts) d h = refl

lone_goes : (ts : List Token) (d : ℕ) (r : Read) → begins_colon_star ts ≡ false
    → goes (token.Star ∷ ts) (front d (last r)) ≡ false
lone_goes ts d Nothing h = star_stops ts d h
lone_goes ts d Whole h = star_stops ts d h
lone_goes ts d FirstSign h = star_stops ts d h
lone_goes ts d LaterSign h = star_stops ts d h
lone_goes ts d FirstField h = refl
lone_goes ts d LaterField h = refl

accepts_goes : (ts : List Token) (d : ℕ) (r : Read) → accepts ts d (ends r) (stage r) ≡ goes ts (front d (last r))
unfolding accepts
accepts_goes [] zero Whole = refl
accepts_goes [] (suc d) Whole = refl
accepts_goes [] d r = refl
accepts_goes (token.And ∷ ts) d Whole = accepts_goes ts d Nothing
accepts_goes (token.Or ∷ ts) d Whole = accepts_goes ts d Nothing
accepts_goes (token.Plus ∷ ts) d Nothing = accepts_goes ts d FirstSign
accepts_goes (token.Plus ∷ ts) d Whole = accepts_goes ts d LaterSign
accepts_goes (token.Minus ∷ ts) d Nothing = accepts_goes ts d FirstSign
accepts_goes (token.Minus ∷ ts) d Whole = accepts_goes ts d LaterSign
accepts_goes (token.Bang ∷ ts) d Nothing = accepts_goes ts d FirstSign
accepts_goes (token.Bang ∷ ts) d Whole = accepts_goes ts d LaterSign
accepts_goes (token.Not ∷ ts) d Nothing = accepts_goes ts d FirstSign
accepts_goes (token.Not ∷ ts) d Whole = accepts_goes ts d LaterSign
accepts_goes (token.Plain field ∷ token.Colon ∷ ts) d Nothing = accepts_goes ts d FirstField
accepts_goes (token.Plain field ∷ token.Colon ∷ ts) d Whole = accepts_goes ts d LaterField
accepts_goes (token.Plain field ∷ token.Colon ∷ ts) d FirstSign = accepts_goes ts d FirstField
accepts_goes (token.Plain field ∷ token.Colon ∷ ts) d LaterSign = accepts_goes ts d LaterField
accepts_goes (token.Plain field ∷ token.Colon ∷ ts) d FirstField = refl
accepts_goes (token.Plain field ∷ token.Colon ∷ ts) d LaterField = refl
accepts_goes (token.Plain text ∷ ts) d FirstField = accepts_goes ts d Whole
accepts_goes (token.Plain text ∷ ts) d LaterField = accepts_goes ts d Whole
accepts_goes (token.Plain text ∷ ts) d Nothing = accepts_goes ts d Whole ∙ word_goes ts d refl
accepts_goes (token.Plain text ∷ ts) d Whole = accepts_goes ts d Whole ∙ word_goes ts d refl
accepts_goes (token.Plain text ∷ ts) d FirstSign = accepts_goes ts d Whole ∙ word_goes ts d refl
accepts_goes (token.Plain text ∷ ts) d LaterSign = accepts_goes ts d Whole ∙ word_goes ts d refl
accepts_goes (token.Front text ∷ ts) d r = accepts_goes ts d Whole ∙ item_goes ts d r
accepts_goes (token.Phrase text ∷ ts) d r = accepts_goes ts d Whole ∙ item_goes ts d r
accepts_goes (token.Range low high ∷ ts) d r = accepts_goes ts d Whole ∙ item_goes ts d r
accepts_goes (token.Star ∷ token.Colon ∷ token.Star ∷ ts) d Nothing = accepts_goes ts d Whole
accepts_goes (token.Star ∷ token.Colon ∷ token.Star ∷ ts) d Whole = accepts_goes ts d Whole
accepts_goes (token.Star ∷ token.Colon ∷ token.Star ∷ ts) d FirstSign = accepts_goes ts d Whole
accepts_goes (token.Star ∷ token.Colon ∷ token.Star ∷ ts) d LaterSign = accepts_goes ts d Whole
accepts_goes (token.Star ∷ token.Colon ∷ token.Star ∷ ts) d FirstField = refl
accepts_goes (token.Star ∷ token.Colon ∷ token.Star ∷ ts) d LaterField = refl
accepts_goes (token.Star ∷ ts) d r = lone_star ts d (ends r) (stage r) refl ∙ sym (lone_goes ts d r refl)
accepts_goes (token.Open ∷ ts) d r = accepts_goes ts (suc d) Nothing ∙ open_goes ts d r
accepts_goes (token.Close ∷ ts) (suc d) Whole = accepts_goes ts d Whole
accepts_goes (token.Close ∷ ts) zero Whole = refl
accepts_goes (token.Colon ∷ ts) d Whole = refl
accepts_goes (_ ∷ ts) d r = refl

-- ---- what is begun can be ended

abbrev closes : ℕ → List Token
closes zero = []
closes (suc n) = token.Close ∷ closes n

-- a clause where one is due, and the parentheses that are open
abbrev ending : ℕ → Last → List Token
ending d Joint = token.Plain [] ∷ closes d
ending d Sign = token.Plain [] ∷ closes d
ending d Field = token.Plain [] ∷ closes d
ending d Word = closes d
ending d Clause = closes d
ending d Star = token.Colon ∷ token.Star ∷ closes d
ending d StarColon = token.Star ∷ closes d

close_clause : (d : ℕ) → goes (closes d) (front d Clause) ≡ true
close_clause zero = refl
close_clause (suc d) = close_clause d

close_word : (d : ℕ) → goes (closes d) (front d Word) ≡ true
close_word zero = refl
close_word (suc d) = close_clause d

ends_so : (d : ℕ) (l : Last) → goes (ending d l) (front d l) ≡ true
ends_so d Joint = close_word d
ends_so d Sign = close_word d
ends_so d Field = close_clause d
ends_so d Word = close_word d
ends_so d Clause = close_clause d
ends_so d Star = close_clause d
ends_so d StarColon = close_clause d

-- ---- after the tokens so far

onto : (earlier others : List Token) → reverse_aux earlier others ≡ reverse earlier ++ others
onto earlier [] = sym (append-nil (reverse earlier))
onto earlier (t ∷ others) = reverse_onto earlier t others

reached : (earlier others : List Token)
    → goes (reverse_aux earlier others) start ≡ then (after_all earlier) (goes others)
reached [] others = refl
reached (t ∷ earlier) others = reached earlier (t ∷ others) ∙ step (after_all earlier)
  where
    step : (o : Option ClausesBegun) → then o (goes (t ∷ others)) ≡ then (after_front o t) (goes others)
    step None = refl
    step (Some f) = refl

-- tokens after which something may follow are the beginning of clauses
pub begun : (earlier : List Token) (f : ClausesBegun) → after_all earlier ≡ Some f → BeginClauses (reverse earlier)
begun earlier f e =
    let others = ending f.depth f.last in
    let ok : accepts (reverse_aux earlier others) zero false Fresh ≡ true =
    accepts_goes (reverse_aux earlier others) zero Nothing ∙ reached earlier others
    ∙ ap (λ o. then o (goes others)) e ∙ ends_so f.depth f.last in
    let found = written_found (reverse_aux earlier others) ok in
    record { written = found.0; others = others; parts = found.1 ∙ onto earlier others }

-- and others are not
pub not_begun : (earlier : List Token) → after_all earlier ≡ None → ¬ (BeginClauses (reverse earlier))
not_begun earlier e b =
    let all : tokens b.written ≡ reverse_aux earlier b.others = b.parts ∙ sym (onto earlier b.others) in
    let ok : accepts (tokens b.written) zero false Fresh ≡ true =
    sym (accepted (tokens b.written)) ∙ ap is_some (parse_again b.written) in
    let none : accepts (reverse_aux earlier b.others) zero false Fresh ≡ false =
    accepts_goes (reverse_aux earlier b.others) zero Nothing ∙ reached earlier b.others
    ∙ ap (λ o. then o (goes b.others)) e in
    false≢true (sym none ∙ ap (λ ts. accepts ts zero false Fresh) (sym all) ∙ ok)
