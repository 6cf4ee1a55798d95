use Rattle.std.proofs.Common.{◌≡◌, ℕ, ◌+◌, List, ◌++◌, length, map, true}
use Rattle.std.specs.Arc.{arc_value}
use Rattle.std.specs.List.{list_all}
use Rattle.std.specs.Vec.Iter.{into_iter_items}
use Rattle.clip_model.specs.Standing.{Standing}
use Rattle.clip_words.specs.Ids.{is_id}
use Rattle.clip_protocol.specs.LineMeaning.{AreTakenAs, FirstRefused}
use Rattle.clip_front.specs.Outcome.{names_in}
use Rattle.clip_protocol.specs.Steps.Views.{listing_view}
use Rattle.clip_protocol.specs.declared.refusal.Refusal.{Refusal}
use Rattle.clip_front.proofs.answer.take_all.Given as goal

-- whatever takes the rest takes all of it, and the first that is refused of the rest is the first of the whole
abbrev pub invariant-loop-listing : goal.invariant-loop-listing
invariant-loop-listing g l =
    let names = names_in (g.A.Audience.hearers l.fn.audience) in
    let rest = map listing_view (into_iter_items l.listing-iterator) in
    let listings = map listing_view l.fn.listings.items in
    record {
      ids : list_all (λ l. is_id l.id) rest ≡ true;
      takes : (more : List Standing) → AreTakenAs names rest more
          → AreTakenAs names listings (map arc_value l.all.items ++ more);
      first : (r : Refusal) (j : ℕ) → FirstRefused names rest r j
          → FirstRefused names listings r (length l.all.items + j);
    }
