use Rattle.std.proofs.Common.{◌+◌, ◌-◌, ◌/◌, ◌<◌, length, map, get_or, sym, subst, arith}
use Rattle.std.proofs.lemmas.List.{length-map}
use Rattle.clip_meaning.specs.Leads.{IsLead}
use Rattle.clip_extract.specs.Keys.{KeyValue, key_of, text_of}
use Rattle.clip_terms.specs.Steps.Leads.{IsShortLength}
use Rattle.clip_terms.proofs.Headings.{below_middle, above_middle, found_middle, found_nowhere}
use Rattle.clip_terms.proofs.LeadsOfTerms.{leads_long, lead_at, lengths_long, length_at, read_at}
use Rattle.clip_terms.proofs.field_terms.place_among.Goals as goal

pub bounds-leads-middle : goal.bounds-leads-middle
bounds-leads-middle c = omega (
  arith,
  leads_long (map key_of c.args.keys.now) c.args.leads.now c.requires.leads,
  length-map c.args.keys.now key_of,
)

pub order-requires-clause-lead : goal.order-requires-clause-lead
order-requires-clause-lead c =
    let keys = c.args.keys.now in
    let middle = c.loop-low.low + (c.loop-low.high - c.loop-low.low) / 2 in
    let k = c.index-keys-middle.result in
    let inside : middle < length keys = omega arith in
    subst (λ (t : KeyValue). IsLead (text_of t) (get_or c.args.leads.now middle 0))
    (read_at keys middle k inside c.index-keys-middle.is (key_of k))
    (lead_at (map key_of keys) c.args.leads.now c.requires.leads middle (key_of k)
    (omega (arith, length-map keys key_of)))

pub loop-low-preserved-in-Less : goal.loop-low-preserved-in-Less
loop-low-preserved-in-Less c =
    let keys = c.args.keys.now in
    let middle = c.loop-low.low + (c.loop-low.high - c.loop-low.low) / 2 in
    let k = c.index-keys-middle.result in
    let inside : middle < length keys = omega arith in
    record {
      from = omega arith;
      upto = c.loop-low.invariant.upto;
      below =
          below_middle (map key_of keys) c.args.part.now.start c.args.part.now.end c.args.sought.now c.requires.rise
          middle (key_of k) (read_at keys middle k inside c.index-keys-middle.is) (omega arith) (omega arith)
          (sym c.in-Less.ensures);
      above = c.loop-low.invariant.above;
    }

pub loop-low-preserved : goal.loop-low-preserved
loop-low-preserved c =
    let keys = c.args.keys.now in
    let middle = c.loop-low.low + (c.loop-low.high - c.loop-low.low) / 2 in
    let k = c.index-keys-middle.result in
    let inside : middle < length keys = omega arith in
    record {
      from = c.loop-low.invariant.from;
      upto = omega arith;
      below = c.loop-low.invariant.below;
      above =
          above_middle (map key_of keys) c.args.part.now.start c.args.part.now.end c.args.sought.now c.requires.rise
          middle (key_of k) (read_at keys middle k inside c.index-keys-middle.is) (omega arith) (omega arith)
          (sym c.in-Greater.ensures);
    }

pub returns-in-Equal : goal.returns-in-Equal
returns-in-Equal c =
    let keys = c.args.keys.now in
    let middle = c.loop-low.low + (c.loop-low.high - c.loop-low.low) / 2 in
    let k = c.index-keys-middle.result in
    let inside : middle < length keys = omega arith in
    found_middle (map key_of keys) c.args.part.now.start c.args.part.now.end c.args.sought.now c.requires.rise middle
    (key_of k) (read_at keys middle k inside c.index-keys-middle.is) (omega arith) (omega arith)
    (sym c.in-Equal.ensures)

pub returns : goal.returns
returns c =
    found_nowhere (map key_of c.args.keys.now) c.args.part.now.start c.args.part.now.end c.args.sought.now
    c.loop-low.low c.loop-low.high c.loop-low-test.false c.loop-low.invariant.below c.loop-low.invariant.above

pub order-requires-clause-length : goal.order-requires-clause-length
order-requires-clause-length c =
    let keys = c.args.keys.now in
    let middle = c.loop-low.low + (c.loop-low.high - c.loop-low.low) / 2 in
    let k = c.index-keys-middle.result in
    let inside : middle < length keys = omega arith in
    subst (λ (t : KeyValue). IsShortLength (text_of t) (get_or c.args.lengths.now middle 0))
    (read_at keys middle k inside c.index-keys-middle.is (key_of k))
    (length_at (map key_of keys) c.args.lengths.now c.requires.lengths middle (key_of k)
    (omega (arith, length-map keys key_of)))

pub bounds-lengths-middle : goal.bounds-lengths-middle
bounds-lengths-middle c =
    omega (
      arith,
      lengths_long (map key_of c.args.keys.now) c.args.lengths.now c.requires.lengths,
      length-map c.args.keys.now key_of,
    )
