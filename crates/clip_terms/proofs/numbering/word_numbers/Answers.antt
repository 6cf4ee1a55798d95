use Rattle.std.proofs.Common.{◌∷◌, ◌++◌, [], List, map, take, get_or, sym, ap, subst, ◌∙◌, arith}
use Rattle.std.proofs.Common.{Bor, ℕ}
use Rattle.std.proofs.lemmas.List.{length-map, get_or-map, map_more, map_push, take_all}
use Rattle.clip_meaning.specs.Leads.{IsLead}
use Rattle.clip_extract.specs.Keys.{KeyValue, Word, text_of}
use Rattle.clip_terms.specs.Terms.{number_of}
use Rattle.clip_terms.specs.Steps.Leads.{IsShortLength}
use Rattle.clip_terms.proofs.LeadsOfTerms.{leads_long, lead_at, lengths_long, length_at}
use Rattle.clip_terms.proofs.numbering.word_numbers.Goals as goal

-- what is read past the last word
abbrev no_word : Bor (List ℕ)
no_word = record { ref_ptr = (0, 0); now = [] }

pub loop-place-init : goal.loop-place-init
loop-place-init c = c.in_ok-numbers.ensures.items

pub loop-place-preserved : goal.loop-place-preserved
loop-place-preserved c =
    let words = c.args.words.now in
    let i = c.loop-place.place in
    let number = number_of c.args.of_field.now.terms in
    let key = λ (w : Bor (List ℕ)). Word c.args.of_field.now.field w.now in
    let before = map key (take i words) in
    c.in_ok-push.ensures.items
    ∙ ap (λ numbers. numbers ++ c.number.result ∷ []) c.loop-place.invariant
    ∙ ap (λ n. map number before ++ n ∷ []) c.number.ensures
    ∙ ap (λ (w : List ℕ). map number before ++ number (Word c.args.of_field.now.field w) ∷ []) c.with-word.ensures
    ∙ sym (ap (map number) (map_more key words i no_word c.loop-place-test.true)
    ∙ map_push number before (key (get_or words i no_word)))

pub returns : goal.returns
returns c =
    let key = λ (w : Bor (List ℕ)). Word c.args.of_field.now.field w.now in
    c.loop-place.invariant
    ∙ ap (λ (words : List (Bor (List ℕ))). map (number_of c.args.of_field.now.terms) (map key words))
    (take_all c.loop-place.place c.args.words.now c.loop-place-test.false)

pub bounds-lengths-place : goal.bounds-lengths-place
bounds-lengths-place c =
    let key = λ (w : Bor (List ℕ)). Word c.args.of_field.now.field w.now in
    omega (
      arith,
      c.loop-place-test.true,
      lengths_long (map key c.args.words.now) c.args.lengths.now c.requires.lengths,
      length-map c.args.words.now key,
    )

pub bounds-leads-place : goal.bounds-leads-place
bounds-leads-place c =
    let key = λ (w : Bor (List ℕ)). Word c.args.of_field.now.field w.now in
    omega (
      arith,
      c.loop-place-test.true,
      leads_long (map key c.args.words.now) c.args.leads.now c.requires.leads,
      length-map c.args.words.now key,
    )

pub with-word-requires-clause-lead : goal.with-word-requires-clause-lead
with-word-requires-clause-lead c =
    let words = c.args.words.now in
    let leads = c.args.leads.now in
    let place = c.loop-place.place in
    let key = λ (w : Bor (List ℕ)). Word c.args.of_field.now.field w.now in
    subst (λ (t : KeyValue). IsLead (text_of t) (get_or leads place 0))
    (get_or-map key words place no_word (key no_word) c.loop-place-test.true)
    (lead_at (map key words) leads c.requires.leads place (key no_word)
    (omega (arith, c.loop-place-test.true, length-map words key)))

pub with-word-requires-clause-length : goal.with-word-requires-clause-length
with-word-requires-clause-length c =
    let words = c.args.words.now in
    let lengths = c.args.lengths.now in
    let place = c.loop-place.place in
    let key = λ (w : Bor (List ℕ)). Word c.args.of_field.now.field w.now in
    subst (λ (t : KeyValue). IsShortLength (text_of t) (get_or lengths place 0))
    (get_or-map key words place no_word (key no_word) c.loop-place-test.true)
    (length_at (map key words) lengths c.requires.lengths place (key no_word)
    (omega (arith, c.loop-place-test.true, length-map words key)))
