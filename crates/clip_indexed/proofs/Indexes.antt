-- Indexes over several lists of entries.
use Rattle.std.proofs.Common.{List, [], ◌∷◌, ◌++◌}
use Rattle.clip_model.specs.History.{Registered}
use Rattle.clip_indexed.specs.Selecting.{AreIndexesOf}

module _ {I : Type 0} (is_of : List Registered → I → Type 0) where
  -- one index more
  pub one_more : (lists : List (List Registered)) (indexes : List I) (next : List Registered) (index : I)
      → AreIndexesOf is_of lists indexes → is_of next index
      → AreIndexesOf is_of (lists ++ next ∷ []) (indexes ++ index ∷ [])
  one_more [] [] next index are is = (is, tt)
  one_more [] (i ∷ indexes) next index are is = absurd are
  one_more (es ∷ lists) [] next index are is = absurd are
  one_more (es ∷ lists) (i ∷ indexes) next index are is = (are.0, one_more lists indexes next index are.1 is)
