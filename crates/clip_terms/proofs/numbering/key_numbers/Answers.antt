use Rattle.std.proofs.Common.{◌∷◌, ◌++◌, [], map, take, get_or, sym, ap, subst, ◌∙◌, arith}
use Rattle.std.proofs.lemmas.List.{length-map, map_more, map_push, take_all}
use Rattle.clip_meaning.specs.Leads.{IsLead}
use Rattle.clip_extract.specs.Keys.{KeyValue, key_of, text_of}
use Rattle.clip_extract.specs.declared.key.Key.{Key}
use Rattle.clip_terms.specs.Terms.{number_of}
use Rattle.clip_terms.specs.FieldTerms.{FieldTermsValue}
use Rattle.clip_terms.specs.Steps.Leads.{IsShortLength}
use Rattle.clip_terms.proofs.LeadsOfTerms.{leads_long, lead_at, lengths_long, length_at, read_at}
use Rattle.clip_terms.proofs.numbering.key_numbers.Goals as goal

pub loop-place-init : goal.loop-place-init
loop-place-init c = record {
  numbers = c.in_ok-numbers.ensures.items;
  terms =
      ap (λ (v : FieldTermsValue). v.terms) c.of_field-of_field.ensures;
}

pub key_number-found-requires-clause-terms : goal.key_number-found-requires-clause-terms
key_number-found-requires-clause-terms c = c.loop-place.invariant.terms

pub loop-place-preserved : goal.loop-place-preserved
loop-place-preserved c =
    let keys = c.args.keys.now in
    let i = c.loop-place.place in
    let key = c.index-keys-place.result in
    let number = number_of c.args.terms.now in
    let before = map key_of (take i keys) in
    record {
      numbers =
          c.in_ok-push.ensures.items
          ∙ ap (λ numbers. numbers ++ c.key_number-found.result ∷ []) c.loop-place.invariant.numbers
          ∙ ap (λ n. map number before ++ n ∷ []) (c.key_number-found.ensures.number
          ∙ ap (λ (k : Key). number (key_of k)) c.index-keys-place.is)
          ∙ sym (ap (map number) (map_more key_of keys i key c.loop-place-test.true)
          ∙ map_push number before (key_of (get_or keys i key)));
      terms = c.key_number-found.ensures.terms;
    }

pub returns : goal.returns
returns c = c.loop-place.invariant.numbers
    ∙ ap (λ keys. map (number_of c.args.terms.now) (map key_of keys))
    (take_all c.loop-place.place c.args.keys.now c.loop-place-test.false)

pub bounds-leads-place : goal.bounds-leads-place
bounds-leads-place c =
    omega (
      arith,
      c.loop-place-test.true,
      leads_long (map key_of c.args.keys.now) c.args.leads.now c.requires.leads,
      length-map c.args.keys.now key_of,
    )

pub bounds-lengths-place : goal.bounds-lengths-place
bounds-lengths-place c =
    omega (
      arith,
      c.loop-place-test.true,
      lengths_long (map key_of c.args.keys.now) c.args.lengths.now c.requires.lengths,
      length-map c.args.keys.now key_of,
    )

pub key_number-found-requires-clause-lead : goal.key_number-found-requires-clause-lead
key_number-found-requires-clause-lead c =
    let keys = c.args.keys.now in
    let leads = c.args.leads.now in
    let place = c.loop-place.place in
    let k = c.index-keys-place.result in
    subst (λ (t : KeyValue). IsLead (text_of t) (get_or leads place 0))
    (read_at keys place k c.loop-place-test.true c.index-keys-place.is (key_of k))
    (lead_at (map key_of keys) leads c.requires.leads place (key_of k)
    (omega (arith, c.loop-place-test.true, length-map keys key_of)))

pub key_number-found-requires-clause-short : goal.key_number-found-requires-clause-short
key_number-found-requires-clause-short c =
    let keys = c.args.keys.now in
    let lengths = c.args.lengths.now in
    let place = c.loop-place.place in
    let k = c.index-keys-place.result in
    subst (λ (t : KeyValue). IsShortLength (text_of t) (get_or lengths place 0))
    (read_at keys place k c.loop-place-test.true c.index-keys-place.is (key_of k))
    (length_at (map key_of keys) lengths c.requires.lengths place (key_of k)
    (omega (arith, c.loop-place-test.true, length-map keys key_of)))
