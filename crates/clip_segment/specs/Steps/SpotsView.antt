-- The spots of an article that a segment asks, as contracts see them, and what holds of each.
use Rattle.std.specs.Prelude.{◌≡◌, map}
use Rattle.std.specs.FinMap as finite
use Rattle.clip_terms.specs.Spots.{spots_among}
use Rattle.clip_plan.specs.Plan.{decoded, plan_of}
use Rattle.clip_segment.specs.Segment.{AskedValue, trees_of}
use Rattle.clip_segment.specs.declared.spots.SegmentSpots.TheInside.{Inside}

abbrev pub asked_of : Inside → AskedValue
asked_of s = record { entries = s.segment.now; article = s.reading.now.article }

-- The spots are those of the reading's fields by its terms, and over these the plans are those of the entries' queries.
pub record AreOfItsPlans (s : Inside) : Type 0 where
  pub fields : s.fields.items ≡ map (spots_among s.reading.now.terms) (finite.entries s.reading.now.article.fields)
  pub plans : map (decoded s.reading.now.terms) s.plans.now ≡ map plan_of (trees_of s.segment.now)
