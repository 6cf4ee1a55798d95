use Rattle.std.proofs.Common.{map}
use Rattle.serde_json.specs.Data.{Data}
use Rattle.clip_protocol.specs.Steps.Views.{listing_view}
use Rattle.clip_explain_lines.proofs.LinesTold.{TellsFrom}
use Rattle.clip_explain_lines.specs.LineTold.{TellsOfQueries}
use Rattle.clip_explain_lines.proofs.lines.fault_of_listings.Given as goal

abbrev pub invariant-loop-place : goal.invariant-loop-place
invariant-loop-place l = (told : Data) → TellsFrom listing_view l.place l.listings told
    → TellsOfQueries 0 (map listing_view l.listings) told
