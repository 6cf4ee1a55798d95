-- An article as contracts see it, and which ids and fields may be one. A text is its bytes.
use Rattle.std.specs.Prelude.{ℕ, Bool, not, ◌&&◌, ◌||◌, ◌==◌, false, List, [], ◌∷◌, map, length, nat_lt, nat_le}
use Rattle.std.specs.Prelude.{if◌then◌else◌, Option, Some, None, is_none, unwrap_or, string_bytes, String, refl}
use Rattle.std.specs.declared.alloc.Global.{Global}
use Rattle.std.specs.Char.{is_ascii_digit, is_ascii_alphanumeric}
use Rattle.std.specs.FinMap as finite
use Rattle.std.specs.List.{list_any, list_all}
use Rattle.std.specs.Str.{bytes_eq}
use Rattle.std.specs.Coded.{Coded, code_by, coded×, coded_list}
use Rattle.clip_words.specs.Ids.{is_id}
use Rattle.clip_words.specs.Order.{bytes_cmp}
use Rattle.clip_words.specs.Words.{words_of}
use Rattle.clip_grammar.specs.TreeCode.{bytes_code}
use Rattle.clip_meaning.specs.declared.fault.TheConstants.{MOST_FIELDS, MOST_NAME_BYTES}
use Rattle.clip_meaning.specs.declared.fault.ArticleFault.{ArticleFault}
use Rattle.clip_meaning.specs.declared.fault.ArticleFault.TheVariants.{Id, TooMany, Field, Twice, NoMemory}

-- ---- what an article is

-- the words of each field, in order, by the field's name
abbrev pub Fields : Type 0
Fields = finite.FinMap bytes_cmp (List (List ℕ))

-- an id, and the words of each field
pub record ArticleValue : Type 0 where
  pub id : List ℕ
  pub fields : Fields

-- the words of a field, none where it is not there
abbrev pub words_in : Fields → List ℕ → List (List ℕ)
words_in fields name = unwrap_or (finite.get fields name) []

-- by these codes a type whose value holds fields, or an article, has a model
abbrev pub fields_code : Coded Fields
fields_code = finite.code bytes_code (coded_list bytes_code)

abbrev pub article_code : Coded ArticleValue
article_code =
    code_by (List ℕ × Fields) (coded× bytes_code fields_code) (λ a. (a.id, a.fields))
    (λ p. record { id = p.0; fields = p.1 }) (λ _. refl)

-- ---- which may be one

-- the byte is an ASCII letter, a digit or `_`
abbrev pub is_name_byte : ℕ → Bool
is_name_byte byte = is_ascii_alphanumeric byte || byte == 95

-- the first byte is an ASCII digit
abbrev pub begins_with_digit : List ℕ → Bool
begins_with_digit [] = false
begins_with_digit (first ∷ _) = is_ascii_digit first

-- the text is 1 to `MOST_NAME_BYTES` ASCII letters, digits and `_`, no digit first
unfoldable pub is_field_name : List ℕ → Bool
is_field_name name = nat_lt 0 (length name) && nat_le (length name) MOST_NAME_BYTES && list_all is_name_byte name
    && not (begins_with_digit name)

-- some name occurs twice
abbrev pub has_twice : List (List ℕ) → Bool
has_twice [] = false
has_twice (name ∷ others) = list_any (bytes_eq name) others || has_twice others

-- the names of the fields, of pairs of a name and a text
abbrev pub names : List (List ℕ × List ℕ) → List (List ℕ)
names pairs = map (λ p. p.0) pairs

-- the first refusal that holds of an id and of pairs of a field's name and its text
unfoldable pub fault_of : List ℕ → List (List ℕ × List ℕ) → Option ArticleFault
fault_of id pairs =
    if not (is_id id) then Some Id
    else (if nat_lt MOST_FIELDS (length pairs) then Some TooMany
    else (if not (list_all is_field_name (names pairs)) then Some Field
    else (if has_twice (names pairs) then Some Twice else None)))

-- why there is no article: the first refusal that holds, and where none does, that an allocation failed
abbrev pub refusal_of : List ℕ → List (List ℕ × List ℕ) → ArticleFault
refusal_of id pairs = unwrap_or (fault_of id pairs) NoMemory

-- an article may have this id and these fields
abbrev pub may_be : List ℕ → List (List ℕ × List ℕ) → Bool
may_be id pairs = is_none (fault_of id pairs)

-- the words of each text, by the name beside it
abbrev pub read_fields : List (List ℕ × List ℕ) → Fields
read_fields pairs = finite.from_entries (map (λ p. (p.0, words_of p.1)) pairs)

-- the article of an id and of pairs of a field's name and its text
abbrev pub article_value : List ℕ → List (List ℕ × List ℕ) → ArticleValue
article_value id pairs = record { id = id; fields = read_fields pairs }

-- pairs of texts, as contracts see them
abbrev pub pairs_of : List (String Global × String Global) → List (List ℕ × List ℕ)
pairs_of pairs = map (λ p. (string_bytes p.0, string_bytes p.1)) pairs
