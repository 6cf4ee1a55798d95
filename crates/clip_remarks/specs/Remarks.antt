-- The remarks on a query's text.
use Rattle.std.specs.Prelude.{◌≡◌, ℕ, Bool, false, ◌||◌, ◌==◌, List, [], ◌++◌, map, filter, length, zero, suc}
use Rattle.std.specs.Prelude.{if◌then◌else◌}
use Rattle.std.specs.List.{slice_get}
use Rattle.std.specs.Option.{option_map_or}
use Rattle.clip_explain.specs.Lexemes.{Placed, IsCut}
use Rattle.clip_remarks.specs.Kinds.{start_at}
use Rattle.clip_remarks.specs.Places.{tells_of_place}
use Rattle.clip_remarks.specs.Rules.{rules}
use Rattle.clip_remarks.specs.Tokens.{tells_of_token}
use Rattle.clip_remarks.specs.declared.remark.Remark.{Remark}
use Rattle.clip_remarks.specs.declared.rule.Rule.{Rule}

abbrev pub tells_of_placed : Rule → Placed → Bool
tells_of_placed rule l = tells_of_token rule l.token

-- the rule tells of the lexeme at the place, by what it says or by its neighbours
abbrev pub tells : Rule → List Placed → ℕ → Bool
tells rule ls i = option_map_or (tells_of_placed rule) (slice_get ls i) false || tells_of_place rule ls i

abbrev pub remark_at : (at : ℕ) → Rule → Remark
remark_at at rule = record { at = at; rule = rule }

-- of these rules, each that tells of the lexeme at the place, with this byte
abbrev pub told : List Placed → ℕ → (at : ℕ) → List Rule → List Remark
told ls i at some = map (remark_at at) (filter (λ rule. tells rule ls i) some)

-- the rules that tell of the lexeme at a place, each with the byte at which it begins
abbrev pub remarks_at : List Placed → ℕ → List Remark
remarks_at ls i = told ls i (start_at ls i) rules

-- those of the first lexemes, in order
abbrev pub remarks_before : List Placed → ℕ → List Remark
remarks_before ls zero = []
remarks_before ls (suc i) = remarks_before ls i ++ remarks_at ls i

abbrev pub remarks_of : List Placed → List Remark
remarks_of ls = remarks_before ls (length ls)

-- The remarks are those on the lexemes of the text; there are none where lexemes don't reach to its end.
pub record AreRemarks (text : List ℕ) (remarks : List Remark) : Type 0 where
  pub placed : List Placed
  pub end : ℕ
  pub cut : IsCut text placed end
  pub says : remarks ≡ (if end == length text then remarks_of placed else [])
