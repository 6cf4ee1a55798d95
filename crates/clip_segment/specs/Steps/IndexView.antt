-- An index as contracts see it.
use Rattle.clip_segment.specs.Index.{IndexValue}
use Rattle.clip_segment.specs.declared.query_index.QueryIndex.TheInside.{Inside}

abbrev pub index_of : Inside → IndexValue
index_of i = record { terms = i.terms; positions = i.positions; seconds = i.seconds; needs = i.needs; plans = i.plans }
