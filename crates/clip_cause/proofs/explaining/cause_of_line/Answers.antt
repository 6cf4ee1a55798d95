use Rattle.serde_json.specs.View.{view}
use Rattle.clip_protocol.specs.Steps.Outline.{outline_of_asked, request_of}
use Rattle.clip_cause.specs.Steps.Telling.{TellsOf, TellsOfLine}
use Rattle.clip_cause.proofs.Ordered.{json_of-ordered}
use Rattle.clip_cause.proofs.Telling.{first_of_blank, first_of_value, if_ok, line_blank, line_of_value, value_is}
use Rattle.std.proofs.Common.{None}
use Rattle.clip_cause.specs.First.{TellsFirst, TellsFirstOf}
use Rattle.clip_cause.proofs.explaining.cause_of_line.Goals as goal

pub cause_of_value-requires : goal.cause_of_value-requires
cause_of_value-requires c =
    let is = rw c.in-Ok-Some.field-0-is at c.in-Ok-Some.ensures in
    json_of-ordered c.args.line.now (view c.in-Ok-Some.value) (value_is c.args.line.now (view c.in-Ok-Some.value) is)

pub cause_of_refused-requires : goal.cause_of_refused-requires
cause_of_refused-requires c = rw c.in-Err-Refused.field-0-is at c.in-Err-Refused.ensures

pub returns-in-Ok-Some-clause-told : goal.returns-in-Ok-Some-clause-told
returns-in-Ok-Some-clause-told c =
    let d = view c.in-Ok-Some.value in
    let is = rw c.in-Ok-Some.field-0-is at c.in-Ok-Some.ensures in
    if_ok c.cause_of_value.result (λ found. TellsOf d (outline_of_asked (request_of d)) found)
    (λ found. TellsOfLine c.args.line.now found) (λ found. line_of_value c.args.line.now d found is)
    c.cause_of_value.ensures.told

pub returns-in-Ok-Some-clause-first : goal.returns-in-Ok-Some-clause-first
returns-in-Ok-Some-clause-first c =
    let d = view c.in-Ok-Some.value in
    let is = rw c.in-Ok-Some.field-0-is at c.in-Ok-Some.ensures in
    if_ok c.cause_of_value.result (λ found. TellsFirst d found) (λ found. TellsFirstOf c.args.line.now found)
    (λ found. first_of_value c.args.line.now d found is) c.cause_of_value.ensures.first

pub returns-in-Ok-None-clause-told : goal.returns-in-Ok-None-clause-told
returns-in-Ok-None-clause-told c =
    line_blank c.args.line.now (rw c.in-Ok-None.field-0-is at c.in-Ok-None.ensures)

pub returns-in-Ok-None-clause-first : goal.returns-in-Ok-None-clause-first
returns-in-Ok-None-clause-first c =
    first_of_blank c.args.line.now None (rw c.in-Ok-None.field-0-is at c.in-Ok-None.ensures)
