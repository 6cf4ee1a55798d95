-- Small histories, worked out.
use Rattle.std.proofs.Common.{◌≡◌, [], ◌∷◌, refl, ◌∙◌, Some, None, codes}
use Rattle.std.specs.FinMap as finite
use Rattle.std.specs.FinMap.{len-insert, len-empty, get-insert, get-empty}
use Rattle.std.proofs.lemmas.Cmp.{nat_list_cmp_total}
use Rattle.clip_grammar.specs.Tree.{Tree}
use Rattle.clip_words.specs.Order.{bytes_cmp}
use Rattle.clip_model.specs.Standing.{Standing}
use Rattle.clip_model.specs.History.{Register, Registered, Registry, applied, register_all}

abbrev tea : Standing
tea = record { id = codes "q1"; text = codes "tea"; tree = Tree.Term (codes "text") (codes "tea"); listener = None }

abbrev coffee : Standing
coffee = record {
  id = codes "q1";
  text = codes "coffee";
  tree = Tree.Term (codes "text") (codes "coffee");
  listener =
      None;
}

abbrev first : Registry
first = finite.insert finite.empty (codes "q1") (record { standing = tea; seq = 1 })

abbrev second : Registry
second = finite.insert first (codes "q1") (record { standing = coffee; seq = 2 })

given_first : finite.get first (codes "q1") ≡ Some (record { standing = tea; seq = 1 })
given_first = get-insert nat_list_cmp_total finite.empty (codes "q1") (record { standing = tea; seq = 1 }) (codes "q1")

-- of a repeated id the last query stands, with its seq
pub last_stands : finite.get (register_all 0 (tea ∷ coffee ∷ []) finite.empty) (codes "q1")
    ≡ Some (record { standing = coffee; seq = 2 })
last_stands = get-insert nat_list_cmp_total first (codes "q1") (record { standing = coffee; seq = 2 }) (codes "q1")

one_first : finite.len first ≡ 1
one_first =
    len-insert nat_list_cmp_total finite.empty (codes "q1") (record { standing = tea; seq = 1 })
    ∙ rw (get-empty {X = Registered} bytes_cmp (codes "q1"), len-empty bytes_cmp Registered) refl

-- an id that a list repeats counts once
pub repeated_id : applied [] (Register (tea ∷ coffee ∷ [])) ≡ 1
repeated_id =
    len-insert nat_list_cmp_total first (codes "q1") (record { standing = coffee; seq = 2 })
    ∙ rw (given_first, one_first) refl
