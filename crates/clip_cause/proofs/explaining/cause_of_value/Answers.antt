use Rattle.std.proofs.Common.{option_map, sym, ap, ◌∙◌}
use Rattle.serde_json.specs.View.{view}
use Rattle.clip_protocol.specs.Request.{value_of}
use Rattle.clip_protocol.specs.Steps.Outline.{outline_of_asked, outline_of_request, request_of}
use Rattle.clip_protocol.specs.Steps.Views.{request_view}
use Rattle.clip_cause.specs.First.{Tells, TellsFirst}
use Rattle.clip_cause.specs.Limits.{limit_fault}
use Rattle.clip_cause.specs.Steps.Sites.{fault_of_site}
use Rattle.clip_cause.specs.Steps.Telling.{TellsOf}
use Rattle.clip_cause.proofs.Telling.{asked_told, if_ok, never_unread, ordered_request, shape_told, value_asked}
use Rattle.clip_cause.proofs.Telling.{value_unshaped}
use Rattle.clip_cause.proofs.explaining.cause_of_value.Goals as goal

pub returns-in-Some-clause-told : goal.returns-in-Some-clause-told
returns-in-Some-clause-told c =
    value_unshaped (view c.args.value) (fault_of_site (c.in-Some.site, c.in-Some.wrong)) c.in_ok-cause_at.field-0
    c.requires (sym c.in-Some.ensures) c.in_ok-cause_at.ensures

pub cause_of_request-requires : goal.cause_of_request-requires
cause_of_request-requires c =
    ordered_request (view c.args.value) (request_view c.in-Ok.request) c.requires c.in-Ok.ensures

pub unreachable-requires : goal.unreachable-requires
unreachable-requires c =
    let refused = rw c.in-Err-Refused.field-0-is at c.in-Err-Refused.ensures in
    never_unread (view c.args.value) c.requires (sym c.shape_fault.ensures
    ∙ ap (option_map fault_of_site) c.in_default.is) refused.1

pub returns-in-Ok-clause-told : goal.returns-in-Ok-clause-told
returns-in-Ok-clause-told c =
    if_ok c.cause_of_request.result
    (λ found. TellsOf (value_of (request_view c.in-Ok.request)) (outline_of_request (request_view c.in-Ok.request))
    found)
    (λ found. TellsOf (view c.args.value) (outline_of_asked (request_of (view c.args.value))) found)
    (λ found. value_asked (view c.args.value) (request_view c.in-Ok.request) found c.in-Ok.ensures)
    c.cause_of_request.ensures.told

pub returns-in-Some-clause-first : goal.returns-in-Some-clause-first
returns-in-Some-clause-first c =
    shape_told (view c.args.value) (fault_of_site (c.in-Some.site, c.in-Some.wrong)) c.in_ok-cause_at.field-0
    (sym c.in-Some.ensures) c.in_ok-cause_at.ensures

pub returns-in-Ok-clause-first : goal.returns-in-Ok-clause-first
returns-in-Ok-clause-first c =
    if_ok c.cause_of_request.result (λ found. Tells (limit_fault (request_view c.in-Ok.request)) found)
    (λ found. TellsFirst (view c.args.value) found)
    (λ found. asked_told (view c.args.value) (request_view c.in-Ok.request) found (sym c.shape_fault.ensures
    ∙ ap (option_map fault_of_site) c.in_default.is) c.in-Ok.ensures) c.cause_of_request.ensures.first
