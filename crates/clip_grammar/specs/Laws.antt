-- What holds of the definitions alone.
use Rattle.std.specs.Prelude.{◌≡◌, ◌≢◌, ◌⊎◌, ℕ, List}
use Rattle.std.specs.Str.{IsUtf8}
use Rattle.clip_grammar.specs.Lexemes.{Lexeme, Lexes}
use Rattle.clip_grammar.specs.Reading.{Reads, IsFault, HasNoFault}
use Rattle.clip_grammar.specs.Tree.{Tree}
use Rattle.clip_grammar.specs.declared.fault.QueryFault.{QueryFault}
use Rattle.clip_grammar.specs.declared.fault.QueryFault.TheVariants as fault

-- a text has at most one list of lexemes
abbrev pub OneLexing : Type 0
OneLexing = (text : List ℕ) (ls ms : List Lexeme) → Lexes text ls → Lexes text ms → ls ≡ ms

-- a text has at most one tree
abbrev pub OneTree : Type 0
OneTree = (text : List ℕ) (p q : Tree) → Reads text p → Reads text q → p ≡ q

-- a text has at most one fault, want of memory aside
abbrev pub OneFault : Type 0
OneFault =
    (text : List ℕ) (f g : QueryFault) → IsUtf8 text → f ≢ fault.NoMemory → g ≢ fault.NoMemory
    → IsFault text f → IsFault text g → f ≡ g

-- a text has a tree and no fault
abbrev pub IsRead : List ℕ → Type 0
IsRead text = (tree : Tree) × Reads text tree × HasNoFault text

-- a text has a fault, want of memory aside
abbrev pub IsRefused : List ℕ → Type 0
IsRefused text = (f : QueryFault) × (f ≢ fault.NoMemory) × IsFault text f

-- no text has both a tree and a fault
abbrev pub ReadsApart : Type 0
ReadsApart = (text : List ℕ) → IsRead text → ¬ (IsRefused text)

-- each text in UTF-8 has a tree or a fault
abbrev pub ReadsOrFaults : Type 0
ReadsOrFaults = (text : List ℕ) → IsUtf8 text → IsRead text ⊎ IsRefused text
