use Rattle.std.proofs.Common.{◌+◌, ◌*◌, ◌<◌, ◌^◌, ap, arith}
use Rattle.clip_meaning.proofs.Leads.{bytes_of, one_more, all_read, room}
use Rattle.clip_meaning.proofs.lead.lead_of_bytes.Goals as goal

pub overflow_mul-lead : goal.overflow_mul-lead
overflow_mul-lead c =
    let fits : c.loop-i.lead * 256 + 0 < 2 ^ 64 =
    (room c.loop-i.i c.loop-i.lead 0 c.loop-i-test.true c.loop-i.invariant.small (omega arith)).0 in omega arith

pub overflow_add-lead : goal.overflow_add-lead
overflow_add-lead c =
    let fits : c.loop-i.lead * 256 + c.byte_at.result < 2 ^ 64 =
    (room c.loop-i.i c.loop-i.lead c.byte_at.result c.loop-i-test.true c.loop-i.invariant.small
    c.byte_at.type_inv).0 in omega arith

pub loop-i-preserved : goal.loop-i-preserved
loop-i-preserved c = record {
  small = (room c.loop-i.i c.loop-i.lead c.byte_at.result c.loop-i-test.true c.loop-i.invariant.small
      c.byte_at.type_inv).1;
  read = one_more c.loop-i.i c.loop-i.lead _ c.args.bytes.now c.loop-i-test.true
      (ap (λ b. c.loop-i.lead * 256 + b) c.byte_at.ensures) c.loop-i.invariant.read;
}

pub returns : goal.returns
returns c = record {
  bytes = bytes_of c.args.bytes.now (λ i. omega (arith, c.type_inv.bytes i));
  number = all_read c.loop-i.lead c.loop-i.i c.args.bytes.now (omega arith) c.loop-i.invariant.read;
}
