use Rattle.std.proofs.Common.{◌+◌, ◌<◌, ◌≤◌, ℕ, List, [], map, length, sym, ap, ◌∙◌, subst, arith}
use Rattle.std.proofs.lemmas.List.{length-map}
use Rattle.std.specs.List.{list_any}
use Rattle.clip_extract.specs.Keys.{Front, key_of, is_same, text_of}
use Rattle.clip_extract.specs.Covering.{front_keys}
use Rattle.clip_terms.specs.FieldTerms.{FieldTermsValue}
use Rattle.clip_terms.specs.Steps.Fronts.{AddsNumbersOf, AddsNumbersBelow, AreBelowFronts}
use Rattle.clip_terms.specs.Steps.Leads.{heading, IsPart}
use Rattle.clip_terms.proofs.FrontsOfTerms.{within_keys, fits_number, begun, taken, passed, ended}
use Rattle.clip_terms.proofs.LeadsOfTerms.{read_at, leads_long, lengths_long}
use Rattle.clip_terms.proofs.PastFronts.{key_at, front_not_had, walked}
use Rattle.clip_terms.proofs.field_terms.FieldTerms.add_fronts_of.Goals as goal

pub loop-number-init : goal.loop-number-init
loop-number-init c =
    let t = c.self.inside in
    let part = subst (λ (f : List ℕ). IsPart (map key_of t.keys.now) (heading (Front f [])) t.fronts.start
    t.fronts.end) (ap (λ (v : FieldTermsValue). v.field) c.self.view_is ∙ c.requires.field) c.self.invariant.fronts
    in
    let old = c.args.numbers.now.items in
    let added = subst (λ (v : FieldTermsValue). AddsNumbersBelow v.terms (front_keys c.args.field.now) t.fronts.start
    old old) c.self.view_is (begun (map key_of t.keys.now) c.args.field.now t.fronts.start t.fronts.end part old) in
    record { added = added; below = λ n m lead lt. absurd (omega arith) }

pub bounds-self-inside-number : goal.bounds-self-inside-number
bounds-self-inside-number c =
    let t = c.self.inside in
    within_keys c.loop-number.number t.fronts.end (length (map key_of t.keys.now)) (length t.leads.now)
    c.loop-number-test.true c.self.invariant.fronts.within
    (sym (leads_long (map key_of t.keys.now) t.leads.now c.self.invariant.leads))

pub bounds-self-inside-number-in-loop-number : goal.bounds-self-inside-number-in-loop-number
bounds-self-inside-number-in-loop-number c =
    let t = c.self.inside in
    within_keys c.loop-number.number t.fronts.end (length (map key_of t.keys.now)) (length t.lengths.now)
    c.loop-number-test.true c.self.invariant.fronts.within
    (sym (lengths_long (map key_of t.keys.now) t.lengths.now c.self.invariant.lengths))

pub overflow_cast-number : goal.overflow_cast-number
overflow_cast-number c =
    let t = c.self.inside in
    let within : c.loop-number.number < length t.keys.now =
    within_keys c.loop-number.number t.fronts.end (length (map key_of t.keys.now)) (length t.keys.now)
    c.loop-number-test.true c.self.invariant.fronts.within (length-map t.keys.now key_of) in
    fits_number c.loop-number.number (length t.keys.now) within c.self.invariant.few

pub loop-number-preserved-then-is_past : goal.loop-number-preserved-then-is_past
loop-number-preserved-then-is_past c =
    let t = c.self.inside in
    let keys = t.keys.now in
    let field = c.args.field.now in
    let old = c.args.numbers.now.items in
    let now = c.loop-number.numbers.items in
    let i = c.loop-number.number in
    let step =
    walked (map key_of keys) t.leads.now t.field.now c.args.words.now t.fronts.start t.fronts.end c.loop-number.place
    c.first_from-place.result i c.self.invariant.strict c.self.invariant.leads c.self.invariant.fronts
    (omega (arith, c.loop-number.auto)) c.loop-number-test.true
    (subst (λ (v : FieldTermsValue). AreBelowFronts v.terms v.field c.args.words.now c.loop-number.place i)
    (sym c.self.view_is) c.loop-number.invariant.below) c.first_from-place.ensures in
    let next = subst (λ (v : FieldTermsValue).
    AreBelowFronts v.terms v.field c.args.words.now c.first_from-place.result (i + 1)) c.self.view_is step.1 in
    let part = subst (λ (f : List ℕ). IsPart (map key_of keys) (heading (Front f [])) t.fronts.start t.fronts.end)
    (ap (λ (v : FieldTermsValue). v.field) c.self.view_is ∙ c.requires.field) c.self.invariant.fronts in
    let within = part.within in
    let low : t.fronts.start ≤ i = omega (arith, c.loop-number.auto) in
    let before = subst (λ (v : FieldTermsValue). AddsNumbersBelow v.terms (front_keys field) i old now)
    (sym c.self.view_is) c.loop-number.invariant.added in
    let found =
    front_not_had keys t.leads.now t.lengths.now field c.args.words.now t.fronts.start t.fronts.end
    c.first_from-place.result i c.self.invariant.leads c.self.invariant.lengths part low c.loop-number-test.true
    c.requires.words c.requires.texts
    (c.is_past.ensures c.if-is_past.true) step.0 in
    let is = key_at keys i (omega (arith, c.loop-number-test.true, length-map keys key_of)) in
    let added = subst (λ (v : FieldTermsValue). AddsNumbersBelow v.terms (front_keys field) (i + 1) old now)
    c.self.view_is
    (passed (map key_of keys) field t.fronts.start t.fronts.end part old now i _ low c.loop-number-test.true is found
    before) in
    record { added = added; below = next }

pub loop-number-preserved-then-not-has_front_key : goal.loop-number-preserved-then-not-has_front_key
loop-number-preserved-then-not-has_front_key c =
    let t = c.self.inside in
    let keys = t.keys.now in
    let field = c.args.field.now in
    let old = c.args.numbers.now.items in
    let now = c.loop-number.numbers.items in
    let i = c.loop-number.number in
    let step =
    walked (map key_of keys) t.leads.now t.field.now c.args.words.now t.fronts.start t.fronts.end c.loop-number.place
    c.first_from-place.result i c.self.invariant.strict c.self.invariant.leads c.self.invariant.fronts
    (omega (arith, c.loop-number.auto)) c.loop-number-test.true
    (subst (λ (v : FieldTermsValue). AreBelowFronts v.terms v.field c.args.words.now c.loop-number.place i)
    (sym c.self.view_is) c.loop-number.invariant.below) c.first_from-place.ensures in
    let next = subst (λ (v : FieldTermsValue).
    AreBelowFronts v.terms v.field c.args.words.now c.first_from-place.result (i + 1)) c.self.view_is step.1 in
    let k = c.index-self-number.result in
    let part = subst (λ (f : List ℕ). IsPart (map key_of keys) (heading (Front f [])) t.fronts.start t.fronts.end)
    (ap (λ (v : FieldTermsValue). v.field) c.self.view_is ∙ c.requires.field) c.self.invariant.fronts in
    let within = part.within in
    let is = read_at keys i k (omega (arith, c.loop-number-test.true, length-map keys key_of)) c.index-self-number.is in
    let text = c.text-text.ensures ∙ ap (λ k. text_of (key_of k)) (sym c.index-self-number.is) in
    let before = subst (λ (v : FieldTermsValue). AddsNumbersBelow v.terms (front_keys field) i old now)
    (sym c.self.view_is) c.loop-number.invariant.added in
    let found = sym c.if-not-has_front_key.true ∙ c.has_front_key.ensures
    ∙ ap (λ x. list_any (is_same (Front field.0 x)) (front_keys field)) text in
    let added = subst (λ (v : FieldTermsValue). AddsNumbersBelow v.terms (front_keys field) (i + 1) old now)
    c.self.view_is
    (passed (map key_of keys) field t.fronts.start t.fronts.end part old now i (key_of k)
    (omega (arith, c.loop-number.auto)) c.loop-number-test.true is found before) in
    record { added = added; below = next }

pub loop-number-preserved : goal.loop-number-preserved
loop-number-preserved c =
    let t = c.self.inside in
    let keys = t.keys.now in
    let field = c.args.field.now in
    let old = c.args.numbers.now.items in
    let now = c.loop-number.numbers.items in
    let i = c.loop-number.number in
    let step =
    walked (map key_of keys) t.leads.now t.field.now c.args.words.now t.fronts.start t.fronts.end c.loop-number.place
    c.first_from-place.result i c.self.invariant.strict c.self.invariant.leads c.self.invariant.fronts
    (omega (arith, c.loop-number.auto)) c.loop-number-test.true
    (subst (λ (v : FieldTermsValue). AreBelowFronts v.terms v.field c.args.words.now c.loop-number.place i)
    (sym c.self.view_is) c.loop-number.invariant.below) c.first_from-place.ensures in
    let next = subst (λ (v : FieldTermsValue).
    AreBelowFronts v.terms v.field c.args.words.now c.first_from-place.result (i + 1)) c.self.view_is step.1 in
    let k = c.index-self-number.result in
    let part = subst (λ (f : List ℕ). IsPart (map key_of keys) (heading (Front f [])) t.fronts.start t.fronts.end)
    (ap (λ (v : FieldTermsValue). v.field) c.self.view_is ∙ c.requires.field) c.self.invariant.fronts in
    let within = part.within in
    let is = read_at keys i k (omega (arith, c.loop-number-test.true, length-map keys key_of)) c.index-self-number.is in
    let text = c.text-text.ensures ∙ ap (λ k. text_of (key_of k)) (sym c.index-self-number.is) in
    let before = subst (λ (v : FieldTermsValue). AddsNumbersBelow v.terms (front_keys field) i old now)
    (sym c.self.view_is) c.loop-number.invariant.added in
    let new = c.push.new.self.items in
    let found = sym c.if-not-has_front_key.false ∙ c.has_front_key.ensures
    ∙ ap (λ x. list_any (is_same (Front field.0 x)) (front_keys field)) text in
    let added = subst (λ (v : FieldTermsValue). AddsNumbersBelow v.terms (front_keys field) (i + 1) old new)
    c.self.view_is
    (taken (map key_of keys) field t.fronts.start t.fronts.end part old now new i (key_of k)
    (omega (arith, c.loop-number.auto)) c.loop-number-test.true is found c.in_ok-push.ensures.items before) in
    record { added = added; below = next }

pub returns : goal.returns
returns c =
    let t = c.self.inside in
    let part = subst (λ (f : List ℕ). IsPart (map key_of t.keys.now) (heading (Front f [])) t.fronts.start
    t.fronts.end) (ap (λ (v : FieldTermsValue). v.field) c.self.view_is ∙ c.requires.field) c.self.invariant.fronts
    in
    let old = c.args.numbers.now.items in
    let new = c.loop-number.numbers.items in
    let before = subst (λ (v : FieldTermsValue).
    AddsNumbersBelow v.terms (front_keys c.args.field.now) c.loop-number.number old new) (sym c.self.view_is)
    c.loop-number.invariant.added in
    subst (λ (v : FieldTermsValue). AddsNumbersOf v.terms (front_keys c.args.field.now) old new) c.self.view_is
    (ended (map key_of t.keys.now) c.args.field.now t.fronts.start t.fronts.end part old new c.loop-number.number
    (omega (arith, c.loop-number-test.false)) (omega (arith, c.loop-number.auto)) before)
