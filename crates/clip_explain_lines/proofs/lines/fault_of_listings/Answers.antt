use Rattle.clip_protocol.specs.Steps.Views.{listing_view}
use Rattle.clip_explain_lines.specs.LineTold.{not_refused}
use Rattle.clip_explain_lines.specs.Steps.LineFaults.{fault_data}
use Rattle.clip_explain_lines.proofs.LinesTold.{fault_at, none_left, one_read, one_refused, query_at}
use Rattle.clip_explain_lines.proofs.lines.fault_of_listings.Goals as goal

pub loop-place-preserved : goal.loop-place-preserved
loop-place-preserved c = λ told tells.
    c.loop-place.invariant told
    (one_read listing_view c.loop-place.place c.args.listings.now c.index-listings-place.result told
    c.loop-place-test.true c.index-listings-place.is
    (query_at c.as_str.result.now _ c.loop-place.place c.in_ok-found.found c.in_default.is c.as_str.ensures.value
    c.in_ok-found.ensures) tells)

pub returns-in-Some : goal.returns-in-Some
returns-in-Some c =
    let fault = fault_at c.as_str.result.now _ c.loop-place.place c.in_ok-found.found c.in-Some.fault c.in-Some.is
    c.as_str.ensures.value c.in_ok-found.ensures in
    c.loop-place.invariant (fault_data c.in-Some.fault)
    (one_refused listing_view c.loop-place.place c.args.listings.now c.index-listings-place.result
    (fault_data c.in-Some.fault) c.in-Some.fault.says.now c.loop-place-test.true c.index-listings-place.is fault.0
    fault.1)

pub returns : goal.returns
returns c =
    c.loop-place.invariant not_refused
    (none_left listing_view c.loop-place.place c.args.listings.now c.loop-place-test.false)
