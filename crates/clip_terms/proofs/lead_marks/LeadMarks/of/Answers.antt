use Rattle.std.proofs.Common.{◌<◌, length, ap, ◌∙◌, true, arith}
use Rattle.std.proofs.lemmas.List.{length-set}
use Rattle.clip_terms.proofs.MarkedLeads.{one_more_marked}
use Rattle.clip_terms.proofs.lead_marks.LeadMarks.of.Goals as goal

pub loop-lead-preserved : goal.loop-lead-preserved
loop-lead-preserved c =
    let marks = c.loop-lead.marks in
    let before = c.loop-lead.invariant in
    let bit = c.bit_of.result in
    let inside : bit < length marks = let long = before.long in omega (arith, long, c.bit_of.ensures) in
    record {
      long = ap length c.mark.ensures ∙ length-set marks bit true ∙ before.long;
      marked = one_more_marked c.args.leads.now _ _ c.loop-lead.lead-index bit marks c.mark.new.self before.marked
          c.bit_of.ensures inside c.mark.ensures;
    }
