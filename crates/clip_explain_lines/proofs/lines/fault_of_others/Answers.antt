use Rattle.std.proofs.Common.{◌∙◌, ap, map, subst, sym}
use Rattle.std.proofs.lemmas.Result.{IfOk-weaker}
use Rattle.clip_protocol.specs.Steps.Views.{line_view, listing_view}
use Rattle.clip_explain_lines.specs.LineTold.{LineTells, TellsOfQueries}
use Rattle.clip_explain_lines.specs.Steps.LineFaults.{told_data}
use Rattle.clip_explain_lines.proofs.LinesTold.{long_tells, other_tells, register_tells}
use Rattle.clip_explain_lines.proofs.lines.fault_of_others.Goals as goal

pub returns-in-Refused : goal.returns-in-Refused
returns-in-Refused c =
    long_tells c.args.bytes.now c.refused_says.result.now c.in-Refused.refusal c.requires
    (c.in_ok-line.ensures.outline ∙ ap line_view c.in-Refused.is)

pub returns-in-Register : goal.returns-in-Register
returns-in-Register c =
    IfOk-weaker c.fault_of_listings.result _ (λ found. LineTells c.args.bytes.now (told_data found))
    (λ found tells. register_tells c.args.bytes.now (map listing_view c.in-Register.listings.items) (told_data found)
    (c.in_ok-line.ensures.outline ∙ ap line_view c.in-Register.is)
    (subst (λ ls. TellsOfQueries 0 (map listing_view ls) (told_data found)) c.deref.ensures.value tells))
    c.fault_of_listings.ensures

pub returns-in-Blank : goal.returns-in-Blank
returns-in-Blank c = other_tells c.args.bytes.now _ (c.in_ok-line.ensures.outline ∙ ap line_view c.in-Blank.is) tt

pub returns-in-Delete : goal.returns-in-Delete
returns-in-Delete c = other_tells c.args.bytes.now _ (c.in_ok-line.ensures.outline ∙ ap line_view c.in-Delete.is) tt

pub returns-in-Clear : goal.returns-in-Clear
returns-in-Clear c = other_tells c.args.bytes.now _ (c.in_ok-line.ensures.outline ∙ ap line_view c.in-Clear.is) tt

pub returns-in-Purge : goal.returns-in-Purge
returns-in-Purge c = other_tells c.args.bytes.now _ (c.in_ok-line.ensures.outline ∙ ap line_view c.in-Purge.is) tt

pub returns-in-Count : goal.returns-in-Count
returns-in-Count c = other_tells c.args.bytes.now _ (c.in_ok-line.ensures.outline ∙ ap line_view c.in-Count.is) tt

pub returns-in-Show : goal.returns-in-Show
returns-in-Show c = other_tells c.args.bytes.now _ (c.in_ok-line.ensures.outline ∙ ap line_view c.in-Show.is) tt

pub returns : goal.returns
returns c = other_tells c.args.bytes.now _ (c.in_ok-line.ensures.outline ∙ ap line_view c.in-Match.is) tt
