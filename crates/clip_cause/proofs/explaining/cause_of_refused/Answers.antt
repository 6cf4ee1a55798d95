use Rattle.std.proofs.Common.{◌≡◌, None, Some, subst}
use Rattle.clip_protocol.specs.LineMeaning.{refused}
use Rattle.clip_protocol.specs.Steps.Saying.{line_value}
use Rattle.clip_cause.proofs.Telling.{first_of_bytes, first_untold, line_of_bytes, line_untold, none_is}
use Rattle.clip_cause.proofs.explaining.cause_of_refused.Goals as goal

pub cause_of_bytes-requires : goal.cause_of_bytes-requires
cause_of_bytes-requires c =
    none_is c.args.line.now (subst (λ r. line_value c.args.line.now ≡ refused r) c.in-Json.is c.requires)

pub returns-in_ok-cause_of_bytes-in-Json-clause-told : goal.returns-in_ok-cause_of_bytes-in-Json-clause-told
returns-in_ok-cause_of_bytes-in-Json-clause-told c =
    let found = c.in_ok-cause_of_bytes-in-Json in
    line_of_bytes c.args.line.now found.field-0
    (subst (λ r. line_value c.args.line.now ≡ refused r) c.in-Json.is c.requires) found.ensures.cause
    found.ensures.refusal

pub returns-in_ok-cause_of_bytes-in-Json-clause-first : goal.returns-in_ok-cause_of_bytes-in-Json-clause-first
returns-in_ok-cause_of_bytes-in-Json-clause-first c =
    first_of_bytes c.args.line.now (Some c.in_ok-cause_of_bytes-in-Json.field-0)
    (subst (λ r. line_value c.args.line.now ≡ refused r) c.in-Json.is c.requires)

pub returns-in_default-clause-told : goal.returns-in_default-clause-told
returns-in_default-clause-told c = line_untold c.args.line.now c.args.reason c.requires c.in_default.not-Json

pub returns-in_default-clause-first : goal.returns-in_default-clause-first
returns-in_default-clause-first c =
    first_untold c.args.line.now c.args.reason None c.requires c.in_default.not-Json
