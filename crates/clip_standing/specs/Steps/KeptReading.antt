-- What is known of a text that was read as a query: its tree, which is not kept.
use Rattle.std.specs.Prelude.{ℕ, List}
use Rattle.std.proofs.Common.{ap, subst}
use Rattle.std.specs.Coded.{Coded-set}
use mathlib.Core.HLevel.{Σ_prop_path}
use mathlib.Core.Logic.{∥∥₁_prop}
use Rattle.clip_grammar.specs.Reading.{Reads}
use Rattle.clip_grammar.specs.Tree.{Tree}
use Rattle.clip_grammar.specs.TreeCode.{tree_code}
use Rattle.clip_grammar.proofs.Uniqueness.{one_tree}

-- a tree that the text is read as
abbrev pub KeptReading : List ℕ → Type 0
KeptReading text = (tree : Tree) × ∥ Reads text tree ∥₁

-- there is just one tree that the text is read as
pub one_tree_of : (text : List ℕ) → IsProp (KeptReading text)
one_tree_of text x y = Σ_prop_path (λ tree. ∥∥₁_prop)
    (∥∥₁_rec (Coded-set tree_code x.0 y.0)
    (λ p. ∥∥₁_rec (Coded-set tree_code x.0 y.0) (λ q. one_tree text x.0 y.0 p q) y.1) x.1)

abbrev pub kept_reading : (text : List ℕ) (tree : Tree) → Reads text tree → KeptReading text
kept_reading text tree reads = (tree, ∣ reads ∣₁)

-- whatever tree the text is read as, it is the one that is kept
pub read_as_kept : (text : List ℕ) (kept : KeptReading text) (tree : Tree) → Reads text tree → Reads text kept.0
read_as_kept text kept tree reads =
    subst (λ t. Reads text t) (ap (λ (k : KeptReading text). k.0)
    (one_tree_of text (kept_reading text tree reads) kept)) reads
