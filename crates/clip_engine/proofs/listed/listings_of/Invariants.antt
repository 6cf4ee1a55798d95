use Rattle.std.proofs.Common.{◌≡◌, map, take}
use Rattle.clip_protocol.specs.Steps.Views.{listing_view}
use Rattle.clip_engine.specs.Texts.{listings_at}
use Rattle.clip_engine.proofs.listed.listings_of.Given as goal

-- the first ones were read
abbrev pub invariant-loop-one : goal.invariant-loop-one
invariant-loop-one l = map listing_view l.listings.items ≡ listings_at (take l.one-index l.listed)
