-- The remarks of some rules on a place.
use Rattle.std.proofs.Common.{◌≡◌, ℕ, ◌+◌, ◌<◌, ◌∙◌, Bool, true, false, cond, List, [], ◌∷◌, ◌++◌, map, filter}
use Rattle.std.proofs.Common.{length, get_or, drop, refl, sym, ap, append_assoc, add-one, drop-cons}
use Rattle.clip_explain.specs.Lexemes.{Placed}
use Rattle.clip_remarks.specs.Remarks.{tells, remark_at, told}
use Rattle.clip_remarks.specs.declared.remark.Remark.{Remark}
use Rattle.clip_remarks.specs.declared.rule.Rule.{Rule}

-- the first of some rules tells before the others
told_cons : (ls : List Placed) (i : ℕ) (at : ℕ) (x : Rule) (rules : List Rule)
    → told ls i at (x ∷ rules) ≡ told ls i at (x ∷ []) ++ told ls i at rules
told_cons ls i at x rules = by (tells x ls i)
  where
    by : (b : Bool)
        → map (remark_at at)
        (cond b (x ∷ filter (λ rule. tells rule ls i) rules) (filter (λ rule. tells rule ls i) rules))
        ≡ map (remark_at at) (cond b (x ∷ []) []) ++ told ls i at rules
    by true = refl
    by false = refl

-- remarks of the rules before a place, those of the rule there, and those of the later ones
pub told_more : (ls : List Placed) (i : ℕ) (at : ℕ) (rules : List Rule) (k : ℕ) (d : Rule) (before : List Remark)
    → k < length rules
    → (before ++ told ls i at (get_or rules k d ∷ [])) ++ told ls i at (drop (k + 1) rules)
    ≡ before ++ told ls i at (drop k rules)
told_more ls i at rules k d before h =
    append_assoc before (told ls i at (get_or rules k d ∷ [])) (told ls i at (drop (k + 1) rules))
    ∙ ap (λ xs. before ++ xs) (sym (told_cons ls i at (get_or rules k d) (drop (k + 1) rules)))
    ∙ ap (λ xs. before ++ told ls i at xs) whole
  where
    whole : get_or rules k d ∷ drop (k + 1) rules ≡ drop k rules
    whole = rw add-one (sym (drop-cons rules k d h))
