use Rattle.std.proofs.Common.{arith, le-leb, length, map}
use Rattle.std.proofs.lemmas.List.{length-map}
use Rattle.std.specs.Arc.{arc_value}
use Rattle.clip_model.specs.declared.limits.TheConstants.{MOST_LISTED}
use Rattle.clip_protocol.specs.Steps.Views.{listing_view}
use Rattle.clip_engine.specs.Many.{AreIn}
use Rattle.clip_engine.proofs.Together.{as_many}
use Rattle.clip_engine.proofs.engine.Engine.register_many.Goals as goal

pub command-requires : goal.command-requires
command-requires c =
    let listings = c.args.listings.items in
    let taken = map arc_value c.in_ok-standings.standings.items in
    let all : AreIn (map listing_view listings) taken = c.in_ok-standings.ensures in
    le-leb (length taken) MOST_LISTED
    (omega (
      arith,
      as_many (map listing_view listings) taken all,
      length-map listings listing_view,
      c.len-count.ensures,
      c.if-count-gt-MOST_LISTED.false,
    ))
