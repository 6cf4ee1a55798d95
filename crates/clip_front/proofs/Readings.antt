-- Lists of texts that were read as queries.
use Rattle.std.proofs.Common.{◌≡◌, ◌≢◌, ℕ, suc, ◌+◌, List, [], ◌∷◌, ◌++◌, map, length, Bool, true, false, ◌&&◌}
use Rattle.std.proofs.Common.{true≢false, refl, sym, ap, ◌∙◌, subst, arith, append_assoc, length-append}
use Rattle.std.proofs.lemmas.List.{map-append}
use Rattle.clip_grammar.specs.Reading.{IsFault}
use Rattle.clip_grammar.specs.Tree.{Tree}
use Rattle.clip_grammar.specs.declared.fault.QueryFault.{QueryFault}
use Rattle.clip_grammar.specs.declared.fault.QueryFault.TheVariants.{NoMemory}
use Rattle.clip_model.specs.Standing.{Standing}
use Rattle.clip_protocol.specs.Request.{Listing}
use Rattle.clip_protocol.specs.LineMeaning.{IsQuery, AreTakenAs}

pub length-AreTakenAs : (names : List (List ℕ)) (ls : List Listing) (ss : List Standing) → AreTakenAs names ls ss
    → length ss ≡ length ls
length-AreTakenAs names [] [] r = refl
length-AreTakenAs names [] (s ∷ ss) r = absurd r
length-AreTakenAs names (l ∷ ls) [] r = absurd r
length-AreTakenAs names (l ∷ ls) (s ∷ ss) r = ap suc (length-AreTakenAs names ls ss r.1)

-- a text with a fault is no query
pub no_query : (text : List ℕ) (f : QueryFault) → f ≢ NoMemory → IsFault text f → (tree : Tree) → ¬ (IsQuery text tree)
no_query text f other fault tree q = q.kept f other fault

-- ---- what two tests say together

pub first_of : (a b : Bool) → (a && b) ≡ true → a ≡ true
first_of true b e = refl
first_of false b e = e

pub second_of : (a b : Bool) → (a && b) ≡ true → b ≡ true
second_of true b e = e
second_of false b e = absurd (true≢false (sym e))

-- ---- lists

pub none_left : {X : Type 0} (xs : List X) → length xs ≡ 0 → xs ≡ []
none_left [] e = refl
none_left (x ∷ xs) e = absurd (omega (arith, e))

-- an item was put behind the others
module _ {X Y : Type 0} (f : X → Y) (xs ys : List X) (x : X) (is : ys ≡ xs ++ x ∷ []) where
  pub mapped_more : (later : List Y) → map f ys ++ later ≡ map f xs ++ f x ∷ later
  mapped_more later =
      ap (λ zs. map f zs ++ later) is ∙ ap (λ zs. zs ++ later) (map-append f xs (x ∷ []))
      ∙ append_assoc (map f xs) (f x ∷ []) later

  pub counted_more : (k : ℕ) → length xs + suc k ≡ length ys + k
  counted_more k = omega (arith, ap length is, length-append xs (x ∷ []))

-- all items are still to come
module _ {X L : Type 0} (xs : List X) (all ls : List L) (none : xs ≡ []) (whole : ls ≡ all) where
  pub mapped_none : {Y : Type 0} (f : X → Y) (Takes : List L → List Y → Type 0) (later : List Y) → Takes ls later
      → Takes all (map f xs ++ later)
  mapped_none f Takes later taken =
      subst (λ ys. Takes all (map f ys ++ later)) (sym none) (subst (λ ks. Takes ks later) whole taken)

  pub counted_none : (First : List L → ℕ → Type 0) (k : ℕ) → First ls k → First all (length xs + k)
  counted_none First k first =
      let start : k ≡ length xs + k = omega (arith, ap length none) in
      subst (First all) start (subst (λ ks. First ks k) whole first)
