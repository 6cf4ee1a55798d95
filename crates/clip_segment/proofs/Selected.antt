-- The kept entries of segments, and the indexes over their queries.
use Rattle.std.proofs.Common.{◌≡◌, Bool, true, false, List, [], ◌∷◌, ◌++◌, map, length, refl, sym, ap, ap₂, ◌∙◌}
use Rattle.std.proofs.lemmas.List.{length-map, map-append}
use Rattle.std.specs.List.{AllZip}
use Rattle.clip_indexed.specs.Selecting.{AreFlagsOf, AreIndexesOf, flagged, kept_of}
use Rattle.clip_model.specs.History.{Registered}
use Rattle.clip_segment.specs.Index.{IsIndexOf}
use Rattle.clip_segment.specs.Segment.{heard_of, ids_of, trees_of}
use Rattle.clip_segment.specs.Steps.LabelledView.{IsLabelledIndexOf}
use Rattle.clip_segment.specs.declared.labelled_index.LabelledIndex.{LabelledIndex}

-- what is taken of the items whose flags are set
flagged_map : {A B : Type 0} (f : A → B) (flags : List Bool) (xs : List A)
    → flagged flags (map f xs) ≡ map f (flagged flags xs)
flagged_map f [] xs = refl
flagged_map f (flag ∷ flags) [] = refl
flagged_map f (true ∷ flags) (x ∷ xs) = ap (λ ys. f x ∷ ys) (flagged_map f flags xs)
flagged_map f (false ∷ flags) (x ∷ xs) = flagged_map f flags xs

pub kept_map : {A B : Type 0} (f : A → B) (lists : List (List A)) (flags : List (List Bool))
    → kept_of (map (map f) lists) flags ≡ map f (kept_of lists flags)
kept_map f [] flags = refl
kept_map f (xs ∷ lists) [] = refl
kept_map f (xs ∷ lists) (flags ∷ more) =
    ap (λ ys. ys ++ kept_of (map (map f) lists) more) (flagged_map f flags xs)
    ∙ ap (λ ys. map f (flagged flags xs) ++ ys) (kept_map f lists more)
    ∙ sym (map-append f (flagged flags xs) (kept_of lists more))

lengths : (lists : List (List Registered)) → map length (map trees_of lists) ≡ map length lists
lengths [] = refl
lengths (entries ∷ lists) = λ i. length-map entries (λ (e : Registered). e.standing.tree) i ∷ lengths lists i

-- flags of entries are flags of their queries
pub flags_of_trees : (lists : List (List Registered)) (flags : List (List Bool)) → AreFlagsOf lists flags
    → AreFlagsOf (map trees_of lists) flags
flags_of_trees lists flags are = are ∙ sym (lengths lists)

-- ---- what several indexes keep of lists of entries

module _ {R : Type 0} (seen : R → LabelledIndex) where
  pub ids_of_all : (lists : List (List Registered)) (items : List R)
      → AreIndexesOf IsLabelledIndexOf lists (map seen items)
      → map (λ r. (seen r).labels.ids) items ≡ map ids_of lists
  ids_of_all [] [] are = refl
  ids_of_all [] (r ∷ items) are = absurd are
  ids_of_all (es ∷ lists) [] are = absurd are
  ids_of_all (es ∷ lists) (r ∷ items) are = ap₂ (λ x xs. x ∷ xs) are.0.ids (ids_of_all lists items are.1)

  pub heard_of_all : (lists : List (List Registered)) (items : List R)
      → AreIndexesOf IsLabelledIndexOf lists (map seen items)
      → map (λ r. (seen r).labels.heard.items) items ≡ map heard_of lists
  heard_of_all [] [] are = refl
  heard_of_all [] (r ∷ items) are = absurd are
  heard_of_all (es ∷ lists) [] are = absurd are
  heard_of_all (es ∷ lists) (r ∷ items) are = ap₂ (λ x xs. x ∷ xs) are.0.heard (heard_of_all lists items are.1)

  pub queries_of_all : (lists : List (List Registered)) (items : List R)
      → AreIndexesOf IsLabelledIndexOf lists (map seen items)
      → AllZip IsIndexOf (map trees_of lists) (map (λ r. (seen r).queries) items)
  queries_of_all [] [] are = tt
  queries_of_all [] (r ∷ items) are = absurd are
  queries_of_all (es ∷ lists) [] are = absurd are
  queries_of_all (es ∷ lists) (r ∷ items) are = (are.0.queries, queries_of_all lists items are.1)
