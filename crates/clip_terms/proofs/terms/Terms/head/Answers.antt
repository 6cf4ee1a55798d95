use Rattle.std.proofs.Common.{ℕ, ◌<◌, List, length, map, get_or, sym, ap, ◌∙◌, subst, arith}
use Rattle.std.proofs.lemmas.List.{length-map}
use Rattle.std.proofs.lemmas.Option.{unwrap_or-slice_get}
use Rattle.clip_extract.specs.Keys.{KeyValue, Any, key_of, text_of}
use Rattle.clip_meaning.specs.Leads.{IsLead}
use Rattle.clip_terms.specs.Steps.Leads.{IsShortLength}
use Rattle.clip_terms.proofs.LeadsOfTerms.{leads_long, lengths_long, lead_at, length_at, read_at, at_any}
use Rattle.clip_terms.proofs.terms.Terms.head.Goals as goal

pub index-requires-2 : goal.index-requires-2
index-requires-2 c =
    let s = c.self.inside in
    omega (
      arith,
      c.requires,
      ap length c.self.view_is,
      leads_long (map key_of s.keys.items) s.leads.items c.self.invariant.2,
    )

pub index-requires-3 : goal.index-requires-3
index-requires-3 c =
    let s = c.self.inside in
    omega (
      arith,
      c.requires,
      ap length c.self.view_is,
      lengths_long (map key_of s.keys.items) s.lengths.items c.self.invariant.3,
    )

pub with-requires-clause-lead : goal.with-requires-clause-lead
with-requires-clause-lead c =
    let s = c.self.inside in
    let terms = map key_of s.keys.items in
    let n = c.args.number in
    let inside : n < length terms = omega (arith, c.requires, ap length c.self.view_is) in
    let within : n < length s.keys.items = omega (arith, inside, length-map s.keys.items key_of) in
    let long : n < length s.leads.items = omega (arith, inside, leads_long terms s.leads.items c.self.invariant.2) in
    subst (λ (k : KeyValue). IsLead (text_of k) c.index-2.result.now)
    (read_at s.keys.items n c.index.result.now within c.index.ensures Any)
    (subst (λ (lead : ℕ). IsLead (text_of (get_or terms n Any)) lead)
    (at_any s.leads.items n c.index-2.result.now long c.index-2.ensures)
    (lead_at terms s.leads.items c.self.invariant.2 n Any inside))

pub with-requires-clause-length : goal.with-requires-clause-length
with-requires-clause-length c =
    let s = c.self.inside in
    let terms = map key_of s.keys.items in
    let n = c.args.number in
    let inside : n < length terms = omega (arith, c.requires, ap length c.self.view_is) in
    let within : n < length s.keys.items = omega (arith, inside, length-map s.keys.items key_of) in
    let long : n < length s.lengths.items =
    omega (arith, inside, lengths_long terms s.lengths.items c.self.invariant.3) in
    subst (λ (k : KeyValue). IsShortLength (text_of k) c.index-3.result.now)
    (read_at s.keys.items n c.index.result.now within c.index.ensures Any)
    (subst (λ (short : ℕ). IsShortLength (text_of (get_or terms n Any)) short)
    (at_any s.lengths.items n c.index-3.result.now long c.index-3.ensures)
    (length_at terms s.lengths.items c.self.invariant.3 n Any inside))

pub returns : goal.returns
returns c =
    let s = c.self.inside in
    let n = c.args.number in
    let within : n < length s.keys.items =
    omega (arith, c.requires, ap length c.self.view_is, length-map s.keys.items key_of) in
    c.with.ensures ∙ sym (read_at s.keys.items n c.index.result.now within c.index.ensures Any)
    ∙ ap (λ (ts : List KeyValue). get_or ts n Any) c.self.view_is ∙ sym (unwrap_or-slice_get c.args.self.now n Any)
