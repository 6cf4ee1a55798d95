-- A standing query as contracts see it.
use Rattle.std.specs.Prelude.{ℕ, List, Option, refl}
use Rattle.std.specs.Coded.{Coded, code_by, coded×, coded_option}
use Rattle.clip_grammar.specs.Tree.{Tree}
use Rattle.clip_grammar.specs.TreeCode.{tree_code, bytes_code}

-- its id, its text, the tree that the text is read as, and the name of its listener, if it has one
pub record Standing : Type 0 where
  pub id : List ℕ
  pub text : List ℕ
  pub tree : Tree
  pub listener : Option (List ℕ)

abbrev pub standing_code : Coded Standing
standing_code =
    code_by (List ℕ × (List ℕ × (Tree × Option (List ℕ))))
    (coded× bytes_code (coded× bytes_code (coded× tree_code (coded_option bytes_code))))
    (λ s. (s.id, (s.text, (s.tree, s.listener))))
    (λ p. record { id = p.0; text = p.1.0; tree = p.1.1.0; listener = p.1.1.1 }) (λ _. refl)
