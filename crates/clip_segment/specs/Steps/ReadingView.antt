-- An article that a segment asks, as contracts see it, and what holds of each.
use Rattle.std.specs.Prelude.{◌≡◌, ◌<◌, ℕ, false, nat_eq, length, slice_index_or}
use Rattle.std.specs.List.{list_any}
use Rattle.clip_extract.specs.Covering.{article_keys}
use Rattle.clip_extract.specs.Extraction.{second_keys}
use Rattle.clip_segment.specs.Index.{IndexValue, IsIndexOf, positions_by, query_positions_sharing}
use Rattle.clip_segment.specs.Segment.{AskedValue, trees_of}
use Rattle.clip_segment.specs.declared.reading.SegmentReading.TheInside.{Inside}

abbrev pub asked_of : Inside → AskedValue
asked_of r = record { entries = r.segment.now; article = r.reading.article }

-- the index by which it asks; its lists by second keys are read once, and not kept
abbrev pub index_asked : Inside → IndexValue
index_asked r = record {
  terms = r.reading.terms;
  positions = r.positions.now;
  seconds = positions_by second_keys r.reading.terms (trees_of r.segment.now);
  needs = r.needs.now;
  plans = r.plans.now;
}

-- that is the index over the segment's queries, and those that share a second key with the article are marked
pub record IsOfItsIndex (r : Inside) : Type 0 where
  pub index : IsIndexOf (trees_of r.segment.now) (index_asked r)
  pub seconds : (position : ℕ) → position < length r.segment.now
      → slice_index_or r.seconds position false ≡ list_any (nat_eq position)
      (query_positions_sharing second_keys (article_keys r.reading.article.fields) (trees_of r.segment.now))
