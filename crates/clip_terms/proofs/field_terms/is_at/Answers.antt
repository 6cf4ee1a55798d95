use Rattle.std.proofs.Common.{◌<◌, length, map, get_or, ap, ◌∙◌, subst, arith}
use Rattle.std.proofs.lemmas.List.{length-map}
use Rattle.clip_meaning.specs.Leads.{IsLead}
use Rattle.clip_extract.specs.Keys.{KeyValue, key_of, text_of}
use Rattle.clip_terms.specs.Steps.Leads.{IsShortLength}
use Rattle.clip_terms.proofs.LeadsOfTerms.{leads_long, lead_at, lengths_long, length_at, read_at}
use Rattle.clip_terms.proofs.field_terms.is_at.Goals as goal

pub bounds-leads-place : goal.bounds-leads-place
bounds-leads-place c =
    omega (
      arith,
      c.if-place-part-2.false,
      c.requires.within,
      leads_long (map key_of c.args.keys.now) c.args.leads.now c.requires.leads,
      length-map c.args.keys.now key_of,
    )

pub bounds-lengths-place : goal.bounds-lengths-place
bounds-lengths-place c =
    omega (
      arith,
      c.if-place-part-2.false,
      c.requires.within,
      lengths_long (map key_of c.args.keys.now) c.args.lengths.now c.requires.lengths,
      length-map c.args.keys.now key_of,
    )

pub is_text_of-requires-clause-lead : goal.is_text_of-requires-clause-lead
is_text_of-requires-clause-lead c =
    let keys = c.args.keys.now in
    let place = c.args.place in
    let k = c.index-keys-place.result in
    let inside : place < length keys = omega (arith, c.if-place-part-2.false, c.requires.within) in
    subst (λ (t : KeyValue). IsLead (text_of t) (get_or c.args.leads.now place 0))
    (read_at keys place k inside c.index-keys-place.is (key_of k))
    (lead_at (map key_of keys) c.args.leads.now c.requires.leads place (key_of k)
    (omega (arith, inside, length-map keys key_of)))

pub is_text_of-requires-clause-length : goal.is_text_of-requires-clause-length
is_text_of-requires-clause-length c =
    let keys = c.args.keys.now in
    let place = c.args.place in
    let k = c.index-keys-place.result in
    let inside : place < length keys = omega (arith, c.if-place-part-2.false, c.requires.within) in
    subst (λ (t : KeyValue). IsShortLength (text_of t) (get_or c.args.lengths.now place 0))
    (read_at keys place k inside c.index-keys-place.is (key_of k))
    (length_at (map key_of keys) c.args.lengths.now c.requires.lengths place (key_of k)
    (omega (arith, inside, length-map keys key_of)))

pub returns : goal.returns
returns c same =
    let keys = c.args.keys.now in
    let k = c.index-keys-place.result in
    let inside : c.args.place < length keys = omega (arith, c.if-place-part-2.false, c.requires.within) in (
      c.if-place-part.false,
      c.if-place-part-2.false,
      λ d. ap text_of (read_at keys c.args.place k inside c.index-keys-place.is d) ∙ c.is_text_of.ensures same,
    )
