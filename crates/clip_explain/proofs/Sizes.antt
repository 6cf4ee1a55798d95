-- The size of a query that was read.
use Rattle.std.proofs.Common.{◌≡◌, ℕ, ◌+◌, ◌<◌, ◌≤◌, Bool, true, false, not, nat_lt, List, map, length, drop}
use Rattle.std.proofs.Common.{refl, ap, subst, arith, inl}
use Rattle.std.proofs.Common.{Vec, Global}
use Rattle.clip_grammar.proofs.Trees.{tree_of_group}
use Rattle.clip_grammar.specs.declared.query.Query.TheViews.{Group}
use Rattle.std.proofs.lemmas.Bool.Decides.{nat_tests}
use Rattle.clip_grammar.specs.Reading.{Reads, HasNoFault, Says, Writes}
use Rattle.clip_grammar.specs.Shape.{tokens, lacks_words}
use Rattle.clip_grammar.specs.Tree.{Tree, nodes, clause_nodes, clauses_of, tree_of}
use Rattle.clip_grammar.specs.declared.limits.TheConstants.{MOST_TEXT_BYTES, MOST_NODES}
use Rattle.clip_grammar.specs.declared.fault.QueryFault.TheVariants as fault
use Rattle.clip_grammar.specs.declared.query.Occur.{Occur}
use Rattle.clip_grammar.specs.declared.query.Query.{Query}

-- a text with no fault is short
short_text : (text : List ℕ) → HasNoFault text → length text ≤ MOST_TEXT_BYTES
short_text text faultless = at (nat_lt MOST_TEXT_BYTES (length text)) refl
  where
    at : (b : Bool) → nat_lt MOST_TEXT_BYTES (length text) ≡ b → length text ≤ MOST_TEXT_BYTES
    at true h =
        let long : MOST_TEXT_BYTES < length text = grind (arith, nat_tests) in
        absurd (faultless fault.TooLong (λ e. cc) long)
    at false h = grind (arith, nat_tests)

-- the clauses that it is written with
writes : (text : List ℕ) (tree : Tree) (reads : Reads text tree) → HasNoFault text → Writes text reads.written
writes text tree reads faultless =
    let says : Says text (tokens reads.written) = record {
      short = short_text text faultless;
      lexemes = reads.lexemes;
      lexes = reads.lexes;
      says = reads.shape;
    } in
    record { says = says; kept = λ left. faultless fault.LeftOut (λ e. cc) (tokens reads.written, says, left) }

-- its tree is small
pub small : (text : List ℕ) (tree : Tree) → Reads text tree → HasNoFault text → nodes tree ≤ MOST_NODES
small text tree reads faultless = at (lacks_words reads.written) refl (nat_lt MOST_NODES (nodes tree)) refl
  where
    at : (a : Bool) → lacks_words reads.written ≡ a → (b : Bool) → nat_lt MOST_NODES (nodes tree) ≡ b
        → nodes tree ≤ MOST_NODES
    at true h b k = absurd (faultless fault.NoWords (λ e. cc) (reads.written, writes text tree reads faultless, h))
    at false h false k = grind (arith, nat_tests)
    at false h true k =
        let big : MOST_NODES < nodes tree = grind (arith, nat_tests) in
        let wide = inl (subst (λ t. MOST_NODES < nodes t) reads.is_tree big) in
        absurd (faultless fault.TooBig (λ e. cc) (reads.written, writes text tree reads faultless, ap not h, wide))

-- ---- counted clause by clause

-- the clauses from a place on
abbrev pub nodes_from : ℕ → List (Occur × Query) → ℕ
nodes_from i cs = clause_nodes (clauses_of (map (λ c. (c.0, tree_of c.1)) (drop i cs)))

pub from_start : (v : Vec (Occur × Query) Global) → 1 + nodes_from 0 v.items ≡ nodes (tree_of (Group v))
from_start v = omega (arith, ap nodes (tree_of_group v))
