-- Lexemes by their kinds, and their neighbours by place.
use Rattle.std.specs.Prelude.{ℕ, ◌+◌, ◌-◌, Bool, true, false, not, ◌&&◌, ◌||◌, ◌==◌, nat_lt, List, [], ◌∷◌, map}
use Rattle.std.specs.Prelude.{if◌then◌else◌}
use Rattle.std.specs.List.{slice_get}
use Rattle.std.specs.Option.{option_map_or}
use Rattle.clip_grammar.specs.Tokens as token
use Rattle.clip_grammar.specs.Tokens.{Token}
use Rattle.clip_explain.specs.Lexemes.{Placed}
use Rattle.clip_remarks.specs.declared.kind.Kind.{Kind}
use Rattle.clip_remarks.specs.declared.kind.Kind.TheVariants.{Nothing, Plus, Minus, Not, And, Or, Open, Close, Colon}
use Rattle.clip_remarks.specs.declared.kind.Kind.TheVariants.{Star, Word, Front, Phrase, Range, Other}

abbrev pub kind_of : Token → Kind
kind_of token.Plus = Plus
kind_of token.Minus = Minus
kind_of token.Bang = Minus
kind_of token.Not = Not
kind_of token.And = And
kind_of token.Or = Or
kind_of token.Open = Open
kind_of token.Close = Close
kind_of token.Colon = Colon
kind_of token.Star = Star
kind_of (token.Plain text) = Word
kind_of (token.Front text) = Front
kind_of (token.Phrase text) = Phrase
kind_of (token.Range low high) = Range
kind_of token.Other = Other

-- a clause may begin with it, but for a sign
abbrev pub starts_clause : Kind → Bool
starts_clause Open = true
starts_clause Star = true
starts_clause Word = true
starts_clause Front = true
starts_clause Phrase = true
starts_clause Range = true
starts_clause Other = true
starts_clause _ = false

-- a clause may end with it
abbrev pub ends_clause : Kind → Bool
ends_clause Close = true
ends_clause Star = true
ends_clause Word = true
ends_clause Front = true
ends_clause Phrase = true
ends_clause Range = true
ends_clause _ = false

-- a sign by which a clause excludes
abbrev pub excludes : Kind → Bool
excludes Minus = true
excludes Not = true
excludes _ = false

abbrev pub is_sign : Kind → Bool
is_sign Plus = true
is_sign Minus = true
is_sign _ = false

-- a word that counts as an operator
abbrev pub is_operator : Kind → Bool
is_operator And = true
is_operator Or = true
is_operator Not = true
is_operator _ = false

abbrev pub is_open : Kind → Bool
is_open Open = true
is_open _ = false

abbrev pub is_close : Kind → Bool
is_close Close = true
is_close _ = false

abbrev pub is_colon : Kind → Bool
is_colon Colon = true
is_colon _ = false

abbrev pub is_and : Kind → Bool
is_and And = true
is_and _ = false

abbrev pub is_or : Kind → Bool
is_or Or = true
is_or _ = false

abbrev pub is_word : Kind → Bool
is_word Word = true
is_word _ = false

-- a text of words
abbrev pub is_text : Kind → Bool
is_text Word = true
is_text Phrase = true
is_text _ = false

-- ---- by place

abbrev pub kind_of_placed : Placed → Kind
kind_of_placed l = kind_of l.token

abbrev pub kinds : List Placed → List Kind
kinds = map kind_of_placed

-- of the lexeme at a place, or nothing past the last
abbrev pub kind_at : List Placed → ℕ → Kind
kind_at ls i = option_map_or kind_of_placed (slice_get ls i) Nothing

-- of the lexeme so many before a place, or nothing before the first
abbrev pub kind_before : List Placed → ℕ → ℕ → Kind
kind_before ls i n = if nat_lt i n then Nothing else kind_at ls (i - n)

abbrev pub word_of : Token → List ℕ
word_of (token.Plain text) = text
word_of (token.Front text) = text
word_of (token.Phrase text) = text
word_of _ = []

abbrev pub word_of_placed : Placed → List ℕ
word_of_placed l = word_of l.token

-- the text of the word, prefix or phrase at a place, or an empty one
abbrev pub word_at : List Placed → ℕ → List ℕ
word_at ls i = option_map_or word_of_placed (slice_get ls i) []

abbrev pub start_of : Placed → ℕ
start_of l = l.start

abbrev pub end_of : Placed → ℕ
end_of l = l.end

-- where the lexeme at a place begins and ends, or 0 past the last
abbrev pub start_at : List Placed → ℕ → ℕ
start_at ls i = option_map_or start_of (slice_get ls i) 0

abbrev pub end_at : List Placed → ℕ → ℕ
end_at ls i = option_map_or end_of (slice_get ls i) 0

-- the lexeme at the place ends where the next one begins
abbrev pub touches : List Placed → ℕ → Bool
touches ls i = end_at ls i == start_at ls (i + 1)

-- ---- groups

-- how many groups are open behind a lexeme, of those opened since
abbrev pub depth_after : ℕ → Kind → ℕ
depth_after depth Open = depth + 1
depth_after depth Close = depth - 1
depth_after depth _ = depth

-- the next operator AND or OR of the same group, or nothing
abbrev pub next_joint : (depth : ℕ) → List Kind → Kind
next_joint depth [] = Nothing
next_joint depth (k ∷ ks) =
    if depth == 0 && is_close k then Nothing
    else (if depth == 0 && (is_and k || is_or k) then k
    else next_joint (depth_after depth k) ks)

-- in the same group a clause comes that doesn't exclude
abbrev pub wants : (depth : ℕ) → (before : Kind) → List Kind → Bool
wants depth before [] = false
wants depth before (k ∷ ks) =
    if depth == 0 && is_close k then false
    else (if depth == 0 && starts_clause k && not (excludes before) && not (is_colon before) then true
    else wants (depth_after depth k) k ks)
