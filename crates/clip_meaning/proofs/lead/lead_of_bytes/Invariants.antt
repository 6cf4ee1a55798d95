use Rattle.std.proofs.Common.{◌≡◌, ◌<◌, ◌-◌, ◌^◌, drop}
use Rattle.clip_meaning.specs.Leads.{lead_after}
use Rattle.clip_meaning.proofs.lead.lead_of_bytes.Given as goal

abbrev pub invariant-loop-i : goal.invariant-loop-i
invariant-loop-i l = record {
  small : l.lead < 256 ^ l.i;
  read : lead_after l.lead (8 - l.i) (drop l.i l.bytes) ≡ lead_after 0 8 l.bytes;
}
