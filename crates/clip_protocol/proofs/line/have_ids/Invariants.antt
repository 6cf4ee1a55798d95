use Rattle.std.proofs.Common.{◌≡◌, drop, map}
use Rattle.std.specs.List.{list_all}
use Rattle.clip_words.specs.Ids.{is_id}
use Rattle.clip_protocol.specs.Steps.Views.{listing_view}
use Rattle.clip_protocol.proofs.line.have_ids.Given as goal

abbrev pub invariant-loop-listing : goal.invariant-loop-listing
invariant-loop-listing l = list_all (λ p. is_id p.id) (map listing_view (drop l.listing-index l.listings))
    ≡ list_all (λ p. is_id p.id) (map listing_view l.listings)
