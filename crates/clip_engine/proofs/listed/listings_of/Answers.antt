use Rattle.std.proofs.Common.{◌≡◌, ◌∙◌, ap, arith, length, take}
use Rattle.std.proofs.lemmas.List.{length-map, length-take-le, take_all}
use Rattle.clip_protocol.specs.Steps.Views.{listing_view}
use Rattle.clip_engine.specs.Texts.{listings_at}
use Rattle.clip_engine.proofs.Reading.{listings_read}
use Rattle.clip_engine.proofs.Together.{listing_of_one, unread_at}
use Rattle.clip_engine.proofs.listed.listings_of.Goals as goal

pub returns-in-Err-clause-err : goal.returns-in-Err-clause-err
returns-in-Err-clause-err c =
    let listed = c.args.listed.now in let i = c.loop-one.one-index in let items = c.loop-one.listings.items in
    let count : length items ≡ i =
    omega (
      arith,
      ap length c.loop-one.invariant,
      length-map items listing_view,
      length-map (take i listed) listing_of_one,
      length-take-le i listed (omega (arith, c.loop-one-test.true)),
    ) in
    let place : i ≡ c.len-place.result = omega (arith, c.len-place.ensures, c.loop-one.listings.ok.0, count) in
    unread_at listed i c.len-place.result _ c.in-Err.code c.loop-one-test.true place c.in-Err.ensures.why

pub returns-clause-texts : goal.returns-clause-texts
returns-clause-texts c =
    let listed = c.args.listed.now in
    listings_read c.loop-one.listings.items listed (c.loop-one.invariant
    ∙ ap listings_at (take_all c.loop-one.one-index listed c.loop-one-test.false))
