use Rattle.std.proofs.Common.{◌≡◌, length, sym, ap, ◌∙◌, arith}
use Rattle.std.proofs.lemmas.List.{length-map}
use Rattle.clip_plan.specs.Plan.{decoded, plan_of}
use Rattle.clip_segment.proofs.Seconds.{needs_are}
use Rattle.clip_segment.proofs.query_index.made_index.Goals as goal

pub returns : goal.returns
returns c = λ trees short terms_are made.
    let needs = c.in_ok-needs.needs in
    let many : length needs ≡ length trees =
    c.in_ok-needs.ensures.long ∙ c.len.ensures ∙ sym (length-map c.args.plans (decoded c.args.terms))
    ∙ ap length made.planned ∙ length-map trees plan_of in
    record {
      short = short;
      terms = terms_are;
      positions = made.positions;
      seconds = made.seconds;
      needs =
          needs_are trees c.args.terms terms_are c.args.seconds made.seconds needs many
          (λ position lt. c.in_ok-needs.ensures.marked position (omega (arith, lt, c.in_ok-needs.ensures.long)));
      plans = made.planned;
    }
