use Rattle.std.proofs.Common.{◌≡◌, ℕ, ◌+◌, List, ◌++◌, length, map, true}
use Rattle.std.specs.Arc.{arc_value}
use Rattle.std.specs.List.{list_all}
use Rattle.std.specs.Vec.Iter.{into_iter_items}
use Rattle.clip_model.specs.Standing.{Standing}
use Rattle.clip_words.specs.Ids.{is_id}
use Rattle.clip_trace.specs.TraceLine.{AreReadAs, FirstUnread}
use Rattle.clip_protocol.specs.Steps.Views.{listing_view}
use Rattle.clip_trace.proofs.trace_line.read_all.Given as goal

-- whatever reads the rest reads all of it, and the first that is none of the rest is the first of the whole
abbrev pub invariant-loop-listing : goal.invariant-loop-listing
invariant-loop-listing l =
    let rest = map listing_view (into_iter_items l.listing-iterator) in
    let listings = map listing_view l.fn.listings.items in
    record {
      ids : list_all (λ l. is_id l.id) rest ≡ true;
      reads : (more : List Standing) → AreReadAs rest more → AreReadAs listings (map arc_value l.all.items ++ more);
      first : (j : ℕ) → FirstUnread rest j → FirstUnread listings (length l.all.items + j);
    }
