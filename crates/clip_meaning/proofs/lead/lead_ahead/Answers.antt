use Rattle.std.proofs.Common.{◌-◌, ◌*◌, arith, ap, ◌∙◌}
use Rattle.std.specs.Int.{from_be_bytes, w64}
use Rattle.clip_meaning.proofs.Leads.{kept, bytes_kept, lead_kept, lead_none}
use Rattle.clip_meaning.proofs.lead.lead_ahead.Goals as goal

pub returns-then-count-eq0 : goal.returns-then-count-eq0
returns-then-count-eq0 c = lead_none c.args.count c.args.ahead.now c.if-count-eq0.true

pub returns : goal.returns
returns c =
    let chunk = c.in-Some.ensures.cases in
    let first = c.from_be_bytes.result in
    record {
      bytes = bytes_kept c.args.count c.args.ahead.now (λ i. omega (arith, c.type_inv.ahead i));
      number = ap (λ most. kept first (64 - 8 * most)) c.min.ensures
          ∙ lead_kept c.args.ahead.now c.args.count first (λ i. omega (arith, c.type_inv.ahead i)) chunk.enough
          c.if-count-eq0.false (c.from_be_bytes.ensures ∙ ap (from_be_bytes w64) chunk.same);
    }
