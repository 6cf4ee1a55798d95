use Rattle.std.proofs.Common.{ℕ, ◌+◌, List, ◌++◌, length, map}
use Rattle.std.specs.Arc.{arc_value}
use Rattle.std.specs.Vec.Iter.{into_iter_items}
use Rattle.clip_model.specs.Standing.{Standing}
use Rattle.clip_protocol.specs.Steps.Views.{listing_view}
use Rattle.clip_protocol.specs.declared.refusal.Refusal.{Refusal}
use Rattle.clip_engine.specs.Many.{AreIn, FirstOut}
use Rattle.clip_engine.proofs.many.take_many.Given as goal

-- whatever takes the rest takes all of it, and the first that is refused of the rest is the first of the whole
abbrev pub invariant-loop-listing : goal.invariant-loop-listing
invariant-loop-listing l =
    let rest = map listing_view (into_iter_items l.listing-iterator) in
    let listings = map listing_view l.fn.listings.items in
    record {
      takes : (more : List Standing) → AreIn rest more → AreIn listings (map arc_value l.all.items ++ more);
      first : (r : Refusal) (j : ℕ) → FirstOut rest r j → FirstOut listings r (length l.all.items + j);
    }
