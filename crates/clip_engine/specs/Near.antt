-- Whether two queries are near in an article, both given by texts.
use Rattle.std.specs.Prelude.{◌≡◌, ◌⊎◌, ◌&&◌, ℕ, Bool, true, false, List, None}
use Rattle.std.specs.List.{All}
use Rattle.std.specs.Str.{IsUtf8}
use Rattle.clip_grammar.specs.Reading.{HasNoFault, IsFault, Reads}
use Rattle.clip_grammar.specs.Tree.{Tree}
use Rattle.clip_grammar.specs.declared.fault.QueryFault.{QueryFault}
use Rattle.clip_grammar.specs.declared.fault.QueryFault.TheVariants.{NoMemory}
use Rattle.clip_meaning.specs.Article.{fault_of, read_fields}
use Rattle.clip_near.specs.Near.{has_places, near_holds}
use Rattle.clip_engine.specs.Texts.{IsField, IsNoText}
use Rattle.clip_engine.specs.declared.code.TheConstants.{LIMIT, QUERY}
use Rattle.clip_engine.specs.declared.pair.TheConstants.{ASKED}
use Rattle.clip_engine.specs.declared.pair.Pair.{Pair}

-- the texts of the queries and of the fields are in UTF-8
abbrev pub AreNearTexts : List (List ℕ × List ℕ) → Pair → Type 0
AreNearTexts fields pair = IsUtf8 pair.first.now × IsUtf8 pair.second.now × All IsField fields

-- Each text is read as these queries; both are words, phrases or prefixes, or not.
pub record AreRead (pair : Pair) (first second : Tree) (have_places : Bool) : Type 0 where
  pub reads_first : Reads pair.first.now first
  pub reads_second : Reads pair.second.now second
  pub places : (has_places first && has_places second) ≡ have_places

-- Nothing is to be refused, and whether the two queries are near in an article of these fields is the answer.
pub record IsNear (fields : List (List ℕ × List ℕ)) (pair : Pair) (answer : Bool) : Type 0 where
  pub texts : AreNearTexts fields pair
  pub may_be : fault_of ASKED.now fields ≡ None
  pub no_fault : HasNoFault pair.first.now × HasNoFault pair.second.now
  pub first : Tree
  pub second : Tree
  pub are_read : AreRead pair first second true
  pub holds : answer ≡ near_holds first second pair.between pair.ordered (read_fields fields)

-- ---- refusals

-- a refusal of the text holds, other than want of memory
abbrev pub IsNoQuery : List ℕ → Type 0
IsNoQuery text = (f : QueryFault) × ¬ (f ≡ NoMemory) × IsFault text f

-- one of the texts is no query, or one of the queries is no word, phrase or prefix
abbrev pub IsNoPair : Pair → Type 0
IsNoPair pair = IsNoQuery pair.first.now ⊎ IsNoQuery pair.second.now
    ⊎ ((first : Tree) × (second : Tree) × AreRead pair first second false)

-- the number of texts that are none, of such a pair, or of fields beyond a limit
abbrev pub IsUntold : List (List ℕ × List ℕ) → Pair → ℕ → Type 0
IsUntold fields pair code = IsNoText (AreNearTexts fields pair) code ⊎ ((code ≡ QUERY) × IsNoPair pair)
    ⊎ ((code ≡ LIMIT) × (fault_of ASKED.now fields ≡ None → ⊥))

-- whether they are near, or the number of what stands against it
abbrev pub NearTo : List (List ℕ × List ℕ) → Pair → ℕ → Bool → Type 0
NearTo fields pair code answer = (code ≡ 0 → IsNear fields pair answer) × ((code ≡ 0 → ⊥) → IsUntold fields pair code)
