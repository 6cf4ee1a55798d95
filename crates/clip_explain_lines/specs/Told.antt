-- What is told of a query's text, as JSON.
use Rattle.std.specs.Prelude.{◌≡◌, ℕ, List, [], ◌∷◌, map, codes}
use Rattle.serde_json.specs.Data.{Data, boolean, string}
use Rattle.serde_json.specs.Written.{compact_text}
use Rattle.clip_grammar.specs.Tree.{tree_of}
use Rattle.clip_grammar.specs.declared.fault.QueryFault.{QueryFault}
use Rattle.clip_grammar.specs.declared.fault.QueryFault.TheVariants as fault
use Rattle.clip_extract.specs.Keys.{KeyValue, Any, Word, Front, key_of}
use Rattle.clip_explain.specs.Explaining.{Explains}
use Rattle.clip_explain.specs.Spelling.{spelling}
use Rattle.clip_explain.specs.declared.explaining.Explanation.{Explanation}
use Rattle.clip_explain.specs.declared.explaining.Explained.{Explained}
use Rattle.clip_explain.specs.declared.explaining.Explained.TheVariants.{Read, Refused}
use Rattle.clip_remarks.specs.Remarks.{AreRemarks}
use Rattle.clip_remarks.specs.Rules.{level_of, name_of, sentence_of}
use Rattle.clip_remarks.specs.declared.remark.Remark.{Remark}
use Rattle.clip_remarks.specs.declared.rule.Level.{Level}
use Rattle.clip_remarks.specs.declared.rule.Level.TheVariants.{Hint, Notice, Warning}
use Rattle.clip_protocol.specs.Reply.{number_of}
use Rattle.clip_protocol.specs.Request.{object_of, array_of}
use Rattle.clip_explain_lines.specs.TreeData.{tree_data, words_in}

-- ---- a text that is no query

-- the word of a fault
abbrev pub fault_word : QueryFault → List ℕ
fault_word fault.TooLong = codes "TooLong"
fault_word (fault.Lexical at) = codes "Lexical"
fault_word fault.LeftOut = codes "LeftOut"
fault_word fault.Structure = codes "Structure"
fault_word fault.NoWords = codes "NoWords"
fault_word fault.TooBig = codes "TooBig"
fault_word fault.NoMemory = codes "NoMemory"

-- the fault at a byte, with a sentence
abbrev pub fault_data : ℕ → QueryFault → List ℕ → Data
fault_data at why says =
    object_of ((codes "at", number_of at) ∷ (codes "fault", string (fault_word why)) ∷ (codes "says", string says) ∷ [])

-- ---- a query

abbrev pub key_data : KeyValue → Data
key_data Any = string (codes "any")
key_data (Word field word) = object_of ((codes "field", string field) ∷ (codes "word", string word) ∷ [])
key_data (Front field front) = object_of ((codes "field", string field) ∷ (codes "front", string front) ∷ [])

-- how much a remark matters
abbrev pub level_word : Level → List ℕ
level_word Hint = codes "hint"
level_word Notice = codes "notice"
level_word Warning = codes "warning"

abbrev pub remark_data : Remark → Data
remark_data remark = object_of ((codes "at", number_of remark.at)
    ∷ (codes "level", string (level_word (level_of remark.rule))) ∷ (codes "rule", string (name_of remark.rule))
    ∷ (codes "says", string (sentence_of remark.rule)) ∷ [])

-- all that is told of a query, with remarks and a sentence
abbrev pub query_data : Explanation → List Remark → List ℕ → Data
query_data told remarks says =
    object_of ((codes "always", boolean told.always)
    ∷ (codes "keys", array_of (map key_data (map key_of told.keys.items)))
    ∷ (codes "never", boolean told.never) ∷ (codes "nodes", number_of told.nodes)
    ∷ (codes "reads", string (spelling (tree_of told.query))) ∷ (codes "remarks", array_of (map remark_data remarks))
    ∷ (codes "says", string says)
    ∷ (codes "tree", tree_data (tree_of told.query)) ∷ (codes "tried_on_all", boolean told.tried_on_all)
    ∷ (codes "weight", number_of told.weight)
    ∷ (codes "words", array_of (map string (words_in (tree_of told.query)))) ∷ [])

-- ---- either

-- the answer tells of the text what was explained: of a query with the remarks on it, and with some sentence
abbrev pub TellsOf : List ℕ → Explained → List ℕ → Type 0
TellsOf text (Read told) answer =
    (remarks : List Remark) × (says : List ℕ) × AreRemarks text remarks
    × (answer ≡ compact_text (query_data told remarks says))
TellsOf text (Refused why) answer =
    (says : List ℕ) × (answer ≡ compact_text (fault_data why.at why.fault says))

-- The answer tells of the text what is to be explained.
pub record Tells (text answer : List ℕ) : Type 0 where
  pub told : Explained
  pub explains : Explains text told
  pub tells : TellsOf text told answer
