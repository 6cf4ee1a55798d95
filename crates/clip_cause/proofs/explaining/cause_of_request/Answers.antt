use Rattle.std.proofs.Common.{None, Some, sym}
use Rattle.clip_protocol.specs.Steps.Views.{request_view}
use Rattle.clip_cause.specs.Steps.Sites.{fault_of_site}
use Rattle.clip_cause.proofs.Telling.{limit_told, request_beyond, request_taken}
use Rattle.clip_cause.proofs.explaining.cause_of_request.Goals as goal

pub returns-in_ok-cause_at-in-Some-clause-told : goal.returns-in_ok-cause_at-in-Some-clause-told
returns-in_ok-cause_at-in-Some-clause-told c =
    request_beyond (request_view c.args.request.now) (fault_of_site (c.in-Some.site, c.in-Some.wrong))
    c.in_ok-cause_at-in-Some.field-0 (sym c.in-Some.ensures) c.in_ok-cause_at-in-Some.ensures

pub returns-in-None-clause-told : goal.returns-in-None-clause-told
returns-in-None-clause-told c = request_taken (request_view c.args.request.now) c.requires (sym c.in-None.ensures)

pub returns-in_ok-cause_at-in-Some-clause-first : goal.returns-in_ok-cause_at-in-Some-clause-first
returns-in_ok-cause_at-in-Some-clause-first c =
    limit_told (request_view c.args.request.now) (Some (fault_of_site (c.in-Some.site, c.in-Some.wrong)))
    (Some c.in_ok-cause_at-in-Some.field-0) c.in-Some.ensures c.in_ok-cause_at-in-Some.ensures

pub returns-in-None-clause-first : goal.returns-in-None-clause-first
returns-in-None-clause-first c = limit_told (request_view c.args.request.now) None None c.in-None.ensures tt
