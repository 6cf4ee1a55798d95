use Rattle.std.proofs.Common.{◌≡◌, ℕ, ◌<◌, ◌+◌, ◌-◌, ◌*◌, ◌%◌, ◌^◌, get_or, nat_lt, if◌then◌else◌, ap, ◌∙◌, arith}
use Rattle.std.proofs.lemmas.Nat.{one_shl, pow_pos, pow-add}
use Rattle.clip_terms.proofs.LeadsOfTerms.{stepped}
use Rattle.clip_terms.proofs.field_terms.first_of_lead.Goals as goal

pub loop-bits-preserved : goal.loop-bits-preserved
loop-bits-preserved c =
    let k = c.loop-bits.bits - 1 in
    let step = 2 ^ k in
    let leads = c.args.leads.now in
    let part = c.args.part.now in
    let low = c.loop-bits.low in
    let so = c.loop-bits.invariant in
    let few : k < 64 = omega (arith, so.few) in
    let shifted : 1 * 2 ^ k % 18446744073709551616 ≡ step = one_shl k 64 few in
    let one_more : c.loop-bits.bits ≡ 1 + k = omega (arith, c.loop-bits-test.true) in
    let twice : 2 ^ c.loop-bits.bits ≡ 2 * step = ap (λ (n : ℕ). 2 ^ n) one_more ∙ pow-add 2 1 k in
    let next =
    stepped leads part.start part.end low step c.args.lead c.step_if-low.result c.requires.rise so.from (pow_pos k)
    (omega (arith, so.upto, twice, pow_pos k))
    (c.step_if-low.ensures ∙ ap (λ (n : ℕ). if nat_lt (get_or leads (low + (n - 1)) 0) c.args.lead then step else 0)
    shifted) so.below in
    record {
      few = omega (arith, few);
      from = omega (arith, so.from);
      upto =
          omega (arith, next.0, so.upto, twice);
      below = next.1;
    }
