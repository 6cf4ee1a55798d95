use Rattle.std.proofs.Common.{◌+◌, ◌<◌, ◌≤◌, length, map, get_or, sym, subst, arith}
use Rattle.std.proofs.lemmas.List.{length-map}
use Rattle.clip_meaning.specs.Leads.{IsLead}
use Rattle.clip_extract.specs.Keys.{KeyValue, key_of, text_of}
use Rattle.clip_terms.specs.Steps.Leads.{IsShortLength}
use Rattle.clip_terms.proofs.Headings.{below_middle, above_middle, found_middle, found_nowhere, found_later}
use Rattle.clip_terms.proofs.LeadsOfTerms.{leads_long, lead_at, lengths_long, length_at, read_at, never_fall, all_below}
use Rattle.clip_terms.proofs.LeadsOfTerms.{all_above}
use Rattle.clip_terms.proofs.field_terms.place_of.Goals as goal

pub first_of_lead-first-requires-clause-within : goal.first_of_lead-first-requires-clause-within
first_of_lead-first-requires-clause-within c =
    omega (
      arith,
      c.requires.within,
      leads_long (map key_of c.args.keys.now) c.args.leads.now c.requires.leads,
      length-map c.args.keys.now key_of,
    )

pub first_of_lead-first-requires-clause-rise : goal.first_of_lead-first-requires-clause-rise
first_of_lead-first-requires-clause-rise c =
    never_fall (map key_of c.args.keys.now) c.args.leads.now c.args.part.now.start c.args.part.now.end c.requires.leads
    (omega (arith, c.requires.within, length-map c.args.keys.now key_of)) c.requires.rise

pub returns-then-first-part : goal.returns-then-first-part
returns-then-first-part c =
    let ts = map key_of c.args.keys.now in
    let start = c.args.part.now.start in
    let end = c.args.part.now.end in
    let within : end ≤ length ts = omega (arith, c.requires.within, length-map c.args.keys.now key_of) in
    let upto : end ≤ c.first_of_lead-first.result = c.if-first-part.true in
    found_nowhere ts start end c.args.sought.now end end (omega arith)
    (all_below ts c.args.leads.now start end c.args.sought.now c.lead-lead.result c.requires.leads c.lead-lead.ensures
    within (λ n a b. c.first_of_lead-first.ensures.below n a (omega arith)))
    (λ n d a b. absurd (omega arith))

pub bounds-leads-first : goal.bounds-leads-first
bounds-leads-first c = omega (
  arith,
  c.if-first-part.false,
  c.requires.within,
  leads_long (map key_of c.args.keys.now) c.args.leads.now c.requires.leads,
  length-map c.args.keys.now key_of,
)

pub returns-then-leads-first : goal.returns-then-leads-first
returns-then-leads-first c =
    let ts = map key_of c.args.keys.now in
    let start = c.args.part.now.start in
    let end = c.args.part.now.end in
    let first = c.first_of_lead-first.result in
    let within : end ≤ length ts = omega (arith, c.requires.within, length-map c.args.keys.now key_of) in
    found_nowhere ts start end c.args.sought.now first first (omega arith)
    (all_below ts c.args.leads.now start first c.args.sought.now c.lead-lead.result c.requires.leads
    c.lead-lead.ensures (omega (arith, within, c.if-first-part.false)) c.first_of_lead-first.ensures.below)
    (all_above ts c.args.leads.now start end c.args.sought.now c.lead-lead.result first c.requires.leads
    c.lead-lead.ensures within
    (never_fall ts c.args.leads.now start end c.requires.leads within c.requires.rise)
    c.first_of_lead-first.ensures.from c.if-leads-first.true)

pub bounds-leads-first-2 : goal.bounds-leads-first-2
bounds-leads-first-2 c =
    omega (
      arith,
      c.if-first-part.false,
      c.requires.within,
      leads_long (map key_of c.args.keys.now) c.args.leads.now c.requires.leads,
      length-map c.args.keys.now key_of,
    )

pub order-requires-clause-lead : goal.order-requires-clause-lead
order-requires-clause-lead c =
    let keys = c.args.keys.now in
    let first = c.first_of_lead-first.result in
    let k = c.index-keys-first.result in
    let inside : first < length keys = omega (arith, c.if-first-part.false, c.requires.within) in
    subst (λ (t : KeyValue). IsLead (text_of t) (get_or c.args.leads.now first 0))
    (read_at keys first k inside c.index-keys-first.is (key_of k))
    (lead_at (map key_of keys) c.args.leads.now c.requires.leads first (key_of k)
    (omega (arith, length-map keys key_of)))

pub returns-in-Less : goal.returns-in-Less
returns-in-Less c =
    let keys = c.args.keys.now in
    let ts = map key_of keys in
    let start = c.args.part.now.start in
    let first = c.first_of_lead-first.result in
    let k = c.index-keys-first.result in
    let inside : first < length keys = omega (arith, c.if-first-part.false, c.requires.within) in
    found_later ts start (first + 1) c.args.part.now.end c.args.sought.now
    (omega (arith, c.first_of_lead-first.ensures.from))
    (below_middle ts start c.args.part.now.end c.args.sought.now c.requires.rise first (key_of k)
    (read_at keys first k inside c.index-keys-first.is) c.first_of_lead-first.ensures.from
    (omega (arith, c.if-first-part.false)) (sym c.in-Less.ensures))
    c.place_among.result c.place_among.ensures

pub returns-in-Greater : goal.returns-in-Greater
returns-in-Greater c =
    let keys = c.args.keys.now in
    let ts = map key_of keys in
    let start = c.args.part.now.start in
    let end = c.args.part.now.end in
    let first = c.first_of_lead-first.result in
    let k = c.index-keys-first.result in
    let inside : first < length keys = omega (arith, c.if-first-part.false, c.requires.within) in
    found_nowhere ts start end c.args.sought.now first first (omega arith)
    (all_below ts c.args.leads.now start first c.args.sought.now c.lead-lead.result c.requires.leads
    c.lead-lead.ensures (omega (arith, length-map keys key_of)) c.first_of_lead-first.ensures.below)
    (above_middle ts start end c.args.sought.now c.requires.rise first (key_of k)
    (read_at keys first k inside c.index-keys-first.is) c.first_of_lead-first.ensures.from
    (omega (arith, c.if-first-part.false)) (sym c.in-Greater.ensures))

pub returns-in-Equal : goal.returns-in-Equal
returns-in-Equal c =
    let keys = c.args.keys.now in
    let first = c.first_of_lead-first.result in
    let k = c.index-keys-first.result in
    let inside : first < length keys = omega (arith, c.if-first-part.false, c.requires.within) in
    found_middle (map key_of keys) c.args.part.now.start c.args.part.now.end c.args.sought.now c.requires.rise first
    (key_of k) (read_at keys first k inside c.index-keys-first.is) c.first_of_lead-first.ensures.from
    (omega (arith, c.if-first-part.false)) (sym c.in-Equal.ensures)

pub order-requires-clause-length : goal.order-requires-clause-length
order-requires-clause-length c =
    let keys = c.args.keys.now in
    let first = c.first_of_lead-first.result in
    let k = c.index-keys-first.result in
    let inside : first < length keys = omega (arith, c.if-first-part.false, c.requires.within) in
    subst (λ (t : KeyValue). IsShortLength (text_of t) (get_or c.args.lengths.now first 0))
    (read_at keys first k inside c.index-keys-first.is (key_of k))
    (length_at (map key_of keys) c.args.lengths.now c.requires.lengths first (key_of k)
    (omega (arith, length-map keys key_of)))

pub bounds-lengths-first : goal.bounds-lengths-first
bounds-lengths-first c =
    omega (
      arith,
      c.if-first-part.false,
      c.requires.within,
      lengths_long (map key_of c.args.keys.now) c.args.lengths.now c.requires.lengths,
      length-map c.args.keys.now key_of,
    )
