-- Of which entries an index is.
use Rattle.std.specs.Prelude.{◌≡◌, List}
use Rattle.clip_model.specs.History.{Registered}
use Rattle.clip_segment.specs.Index.{IsIndexOf}
use Rattle.clip_segment.specs.Segment.{heard_of, ids_of, trees_of}
use Rattle.clip_segment.specs.declared.labelled_index.LabelledIndex.{LabelledIndex}

-- The labels are the ids of the entries' queries and whether they have listeners, and the index is over their queries.
pub record IsLabelledIndexOf (entries : List Registered) (index : LabelledIndex) : Type 0 where
  pub ids : index.labels.ids ≡ ids_of entries
  pub heard : index.labels.heard.items ≡ heard_of entries
  pub queries : IsIndexOf (trees_of entries) index.queries
