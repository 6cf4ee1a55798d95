-- `leaves_out` finds the left-out forms, and no others.
use Rattle.std.proofs.Common.{◌≡◌, ℕ, zero, suc, ◌<◌, ◌⊎◌, inl, inr, Bool, true, false, not, ◌&&◌, ◌||◌, List, [], ◌∷◌}
use Rattle.std.proofs.Common.{◌++◌, length, get_or, refl, sym, ap, subst, ◌∙◌, arith, IsTrue}
use Rattle.std.specs.Prelude.{Contains}
use mathlib.Core.List.{reverse_aux}
use Rattle.clip_grammar.specs.Tokens as token
use Rattle.clip_grammar.specs.Tokens.{Token}
use Rattle.clip_grammar.specs.Reading.{begins_colon_star, IsLeftOut}
use Rattle.clip_grammar.specs.Steps.LeftOut.{is_star, is_colon, begins_left_out, leaves_out}
use Rattle.std.proofs.lemmas.Bool.{and_parts, and_from, or_left, or_right}
use Rattle.clip_grammar.proofs.Booleans.{either}

-- the tokens before, last first, begin with a star
abbrev begins_star : List Token → Bool
begins_star [] = false
begins_star (t ∷ ts) = is_star t

-- a star that is no half of `*:*`, with these tokens before, last first
record LoneAfter (earlier ts : List Token) : Type 0 where
  pub before : List Token
  pub after : List Token
  pub parts : ts ≡ before ++ token.Star ∷ after
  pub not_first : IsTrue (not (begins_colon_star after))
  pub not_last : IsTrue (not (begins_colon_star (reverse_aux before earlier)))

abbrev LeftAfter : List Token → List Token → Type 0
LeftAfter earlier ts = Contains ts token.Other ⊎ LoneAfter earlier ts

colon_then_star : (t : Token) (earlier : List Token) → (is_colon t && begins_star earlier)
    ≡ begins_colon_star (t ∷ earlier)
colon_then_star token.Colon (token.Star ∷ earlier) = refl
colon_then_star token.Colon earlier = refl
colon_then_star t earlier = refl

-- ---- what is found is left out

now : (t : Token) (ts earlier : List Token) (b : Bool) → b ≡ begins_colon_star earlier → begins_left_out b t ts ≡ true
    → LeftAfter earlier (t ∷ ts)
now token.Other ts earlier b e h = inl (0, omega arith, refl)
now token.Star ts earlier b e h =
    let parts = and_parts (not b) (not (begins_colon_star ts)) h in
    inr (record { before = []; after = ts; parts = refl; not_first = parts.1; not_last = ap not (sym e) ∙ parts.0 })
now _ ts earlier b e h = cc

later : (t : Token) (ts earlier : List Token) → LeftAfter (t ∷ earlier) ts → LeftAfter earlier (t ∷ ts)
later t ts earlier (inl at) = inl (suc at.0, omega (arith, at.1), at.2)
later t ts earlier (inr lone) =
    inr (record {
      before = t ∷ lone.before;
      after = lone.after;
      parts = ap (λ x. t ∷ x) lone.parts;
      not_first =
          lone.not_first;
      not_last = lone.not_last;
    })

found_after : (ts earlier : List Token) (s b : Bool) → s ≡ begins_star earlier → b ≡ begins_colon_star earlier
    → leaves_out s b ts ≡ true → LeftAfter earlier ts
unfolding leaves_out
found_after [] earlier s b es eb h = cc
found_after (t ∷ ts) earlier s b es eb h =
    either (begins_left_out b t ts) (leaves_out (is_star t) (is_colon t && s) ts) h
    (λ k. now t ts earlier b eb k)
    (λ k. later t ts earlier
    (found_after ts (t ∷ earlier) (is_star t) (is_colon t && s) refl (ap (λ x. is_colon t && x) es
    ∙ colon_then_star t earlier) k))

-- ---- what is left out is found

first_other : (t : Token) (ts : List Token) (b : Bool) → t ≡ token.Other → begins_left_out b t ts ≡ true
first_other t ts b e = ap (λ x. begins_left_out b x ts) e

first_star : (t : Token) (ts : List Token) (b : Bool) → t ≡ token.Star → not b ≡ true
    → not (begins_colon_star ts) ≡ true → begins_left_out b t ts ≡ true
first_star t ts b e h k = ap (λ x. begins_left_out b x ts) e ∙ and_from (not b) (not (begins_colon_star ts)) h k

-- the first token is left out, or one of the others, which gives the second fact
at_place : (t : Token) (ts earlier : List Token) (b r : Bool) → b ≡ begins_colon_star earlier
    → (LeftAfter (t ∷ earlier) ts → r ≡ true) → LeftAfter earlier (t ∷ ts) → (begins_left_out b t ts || r) ≡ true
at_place t ts earlier b r eb more (inl at) = place at.0 at.1 at.2
  where
    place : (k : ℕ) → k < length (t ∷ ts) → get_or (t ∷ ts) k token.Other ≡ token.Other → (begins_left_out b t ts || r)
        ≡ true
    place zero l e = or_left _ _ (first_other t ts b e)
    place (suc k) l e = or_right _ _ (more (inl (k, omega arith, e)))
at_place t ts earlier b r eb more (inr lone) = place lone.before lone.parts lone.not_last
  where
    place : (before : List Token) → t ∷ ts ≡ before ++ token.Star ∷ lone.after
        → IsTrue (not (begins_colon_star (reverse_aux before earlier))) → (begins_left_out b t ts || r) ≡ true
    place [] e k =
        let first : t ≡ token.Star = cc in
        let rest : ts ≡ lone.after = cc in
        or_left _ _ (first_star t ts b first (ap not eb ∙ k) (ap (λ x. not (begins_colon_star x)) rest
        ∙ lone.not_first))
    place (u ∷ before) e k =
        let first : u ≡ t = cc in
        let rest : ts ≡ before ++ token.Star ∷ lone.after = cc in
        or_right _ _ (more (inr (record {
          before = before;
          after = lone.after;
          parts = rest;
          not_first =
              lone.not_first;
          not_last =
              subst (λ x. IsTrue (not (begins_colon_star (reverse_aux before (x ∷ earlier))))) first k;
        })))

nothing_left : (earlier : List Token) → LeftAfter earlier [] → ⊥
nothing_left earlier (inl at) = absurd (omega (arith, at.1))
nothing_left earlier (inr lone) = none lone.before lone.parts
  where
    none : (before : List Token) → [] ≡ before ++ token.Star ∷ lone.after → ⊥
    none [] e = cc
    none (u ∷ before) e = cc

left_after : (ts earlier : List Token) (s b : Bool) → s ≡ begins_star earlier → b ≡ begins_colon_star earlier
    → LeftAfter earlier ts → leaves_out s b ts ≡ true
unfolding leaves_out
left_after [] earlier s b es eb left = absurd (nothing_left earlier left)
left_after (t ∷ ts) earlier s b es eb left =
    at_place t ts earlier b _ eb
    (λ more. left_after ts (t ∷ earlier) (is_star t) (is_colon t && s) refl (ap (λ x. is_colon t && x) es
    ∙ colon_then_star t earlier) more) left

-- ---- both

pub left_out_found : (ts : List Token) → leaves_out false false ts ≡ true → IsLeftOut ts
left_out_found ts h = at (found_after ts [] false false refl refl h)
  where
    at : LeftAfter [] ts → IsLeftOut ts
    at (inl other) = inl other
    at (inr lone) = inr (record {
      before = lone.before;
      after = lone.after;
      parts = lone.parts;
      not_first =
          lone.not_first;
      not_last = lone.not_last;
    })

pub found_left_out : (ts : List Token) → IsLeftOut ts → leaves_out false false ts ≡ true
found_left_out ts (inl other) = left_after ts [] false false refl refl (inl other)
found_left_out ts (inr lone) =
    left_after ts [] false false refl refl
    (inr (record {
      before = lone.before;
      after = lone.after;
      parts = lone.parts;
      not_first = lone.not_first;
      not_last =
          lone.not_last;
    }))
