-- Remarks for which a lexeme's neighbours are asked.
use Rattle.std.specs.Prelude.{ℕ, ◌+◌, ◌-◌, Bool, false, not, ◌&&◌, ◌||◌, ◌==◌, List, [], ◌∷◌, drop, length, zero, suc}
use Rattle.std.specs.Prelude.{if◌then◌else◌}
use Rattle.std.specs.Char.Unicode.Uppercase.{is_uppercase}
use Rattle.std.specs.List.{list_any}
use Rattle.std.specs.Str.{chars}
use Rattle.clip_explain.specs.Lexemes.{Placed}
use Rattle.clip_remarks.specs.Kinds.{starts_clause, ends_clause, excludes, is_sign, is_operator, is_open, is_colon}
use Rattle.clip_remarks.specs.Kinds.{is_and, is_or, is_word, is_text, kinds, kind_at, kind_before, word_at, touches}
use Rattle.clip_remarks.specs.Kinds.{next_joint, wants}
use Rattle.clip_remarks.specs.Tokens.{is_known_field, is_known_in_any_case}
use Rattle.clip_remarks.specs.declared.kind.Kind.{Kind}
use Rattle.clip_remarks.specs.declared.kind.Kind.TheVariants.{Nothing}
use Rattle.clip_remarks.specs.declared.rule.Rule.{Rule}
use Rattle.clip_remarks.specs.declared.rule.Rule.TheVariants as rule

-- a clause without a sign begins at the place, right behind another one
abbrev pub follows_bare : List Placed → ℕ → Bool
follows_bare ls i = starts_clause (kind_at ls i) && ends_clause (kind_before ls i 1)

abbrev pub is_upper_first : List ℕ → Bool
is_upper_first [] = false
is_upper_first (c ∷ _) = is_uppercase c

abbrev pub begins_upper : List ℕ → Bool
begins_upper text = is_upper_first (chars text)

abbrev pub word_before : List Placed → ℕ → List ℕ
word_before ls i = if i == 0 then [] else word_at ls (i - 1)

-- the words at the place and before it begin with a capital
abbrev pub are_names : List Placed → ℕ → Bool
are_names ls i = begins_upper (word_at ls i) && begins_upper (word_before ls i)

-- an operator stands before the clause that is before the place, or behind the lexeme there
abbrev pub beside_operator : List Placed → ℕ → Bool
beside_operator ls i = is_operator (kind_before ls i 2) || is_operator (kind_at ls (i + 1))

-- `Siemens Energy`, `tea AND green leaf`
abbrev pub is_bare_blank : List Placed → ℕ → Bool
is_bare_blank ls i = follows_bare ls i && (are_names ls i || beside_operator ls i)

-- `green tea`
abbrev pub is_blank_as_or : List Placed → ℕ → Bool
is_blank_as_or ls i = follows_bare ls i && not (are_names ls i || beside_operator ls i)

-- the lexeme is the name of a field
abbrev pub is_field : List Placed → ℕ → Bool
is_field ls i = is_word (kind_at ls i) && is_colon (kind_at ls (i + 1))

-- `title:green tea`
abbrev pub is_behind_field : List Placed → ℕ → Bool
is_behind_field ls i =
    follows_bare ls i && is_colon (kind_before ls i 2) && is_word (kind_before ls i 3)
    && not (is_colon (kind_at ls (i + 1)))

-- the kinds of the lexemes behind a place
abbrev pub later_kinds : List Placed → ℕ → List Kind
later_kinds ls i = kinds (drop (i + 1) ls)

-- no clause of the text, or of the group that is opened at the place, is one that doesn't exclude
abbrev pub only_excludes : List Placed → ℕ → Bool
only_excludes ls i =
    (i == 0 && not (wants 0 Nothing (kinds ls)))
    || (is_open (kind_at ls i) && not (wants 0 Nothing (later_kinds ls i)))

-- `tea AND coffee OR milk`: the next operator of the group is the other one
abbrev pub is_and_beside_or : List Placed → ℕ → Bool
is_and_beside_or ls i =
    (is_and (kind_at ls i) && is_or (next_joint 0 (later_kinds ls i)))
    || (is_or (kind_at ls i) && is_and (next_joint 0 (later_kinds ls i)))

-- `tea OR NOT coffee`, `NOT tea OR coffee`
abbrev pub is_or_not : List Placed → ℕ → Bool
is_or_not ls i =
    (excludes (kind_at ls i) && is_or (kind_before ls i 1)) || (is_or (kind_at ls i) && excludes (kind_before ls i 2))

abbrev pub touches_before : List Placed → ℕ → Bool
touches_before ls i = not (i == 0) && touches ls (i - 1)

-- `Yahoo! news`
abbrev pub is_behind_word : List Placed → ℕ → Bool
is_behind_word ls i = is_sign (kind_at ls i) && is_word (kind_before ls i 1) && touches_before ls i

-- `tea - coffee`
abbrev pub is_loose_sign : List Placed → ℕ → Bool
is_loose_sign ls i = is_sign (kind_at ls i) && not (touches ls i) && not (is_behind_word ls i)

-- the lexeme has words that are looked for
abbrev pub is_found : List Placed → ℕ → Bool
is_found ls i = is_text (kind_at ls i) && not (is_field ls i)

-- one of the first lexemes has
abbrev pub any_found : List Placed → ℕ → Bool
any_found ls zero = false
any_found ls (suc i) = any_found ls i || is_found ls i

-- `atleast2(tea coffee)`
abbrev pub is_word_before_parenthesis : List Placed → ℕ → Bool
is_word_before_parenthesis ls i =
    is_open (kind_at ls i) && is_word (kind_before ls i 1) && touches_before ls i

-- `Title:tea`
abbrev pub is_field_in_other_case : List Placed → ℕ → Bool
is_field_in_other_case ls i =
    is_field ls i && not (is_known_field (word_at ls i)) && is_known_in_any_case (word_at ls i)

-- `headline:tea`
abbrev pub is_other_field : List Placed → ℕ → Bool
is_other_field ls i = is_field ls i && not (is_known_in_any_case (word_at ls i))

abbrev pub tells_of_place : Rule → List Placed → ℕ → Bool
tells_of_place rule.OnlyExcludes ls i = only_excludes ls i
tells_of_place rule.BareBlank ls i = is_bare_blank ls i
tells_of_place rule.BlankIsOr ls i = is_blank_as_or ls i
tells_of_place rule.FieldOfOneClause ls i = is_behind_field ls i
tells_of_place rule.AndBesideOr ls i = is_and_beside_or ls i
tells_of_place rule.OrNot ls i = is_or_not ls i
tells_of_place rule.SignBehindWord ls i = is_behind_word ls i
tells_of_place rule.LooseSign ls i = is_loose_sign ls i
tells_of_place rule.WordBeforeParenthesis ls i = is_word_before_parenthesis ls i
tells_of_place rule.FieldCase ls i = is_field_in_other_case ls i
tells_of_place rule.OtherField ls i = is_other_field ls i
tells_of_place rule.TextFieldOnly ls i = i == 0 && not (list_any is_colon (kinds ls))
tells_of_place rule.ExactWords ls i = i == 0 && any_found ls (length ls)
tells_of_place _ ls i = false
