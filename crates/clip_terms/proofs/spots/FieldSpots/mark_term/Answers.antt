use Rattle.std.proofs.Common.{◌≡◌, List, ℕ, ◌<◌, ◌∙◌, ◌||◌, [], ap, false, subst, sym, arith, get_or, length}
use Rattle.std.proofs.lemmas.Bool.{false_from_ne_true, false≢true}
use Rattle.std.proofs.lemmas.List.Folds.{list_any_at}
use Rattle.clip_meaning.specs.Steps.Marks.{is_up}
use Rattle.clip_extract.specs.Keys.{Word, is_same}
use Rattle.clip_terms.specs.Terms.{term_at}
use Rattle.clip_terms.specs.Spots.{SpotsValue, is_at}
use Rattle.clip_terms.proofs.Spotted.{not_its_word, one_at, or_false}
use Rattle.clip_terms.proofs.spots.FieldSpots.mark_term.Goals as goal

pub returns-clause-raised : goal.returns-clause-raised
returns-clause-raised c k lt =
    let old = is_up (get_or c.args.flags.now k 0) in
    let value = c.args.self.now in
    c.mark_run.ensures.raised k lt
    ∙ ap (λ b. old || b) (one_at value.field (term_at value.terms c.args.number) k (omega (arith, lt, c.requires)))

pub returns-then-not-is_of_field-clause-raised : goal.returns-then-not-is_of_field-clause-raised
returns-then-not-is_of_field-clause-raised c k lt =
    let old = is_up (get_or c.args.flags.now k 0) in
    let value = c.args.self.now in
    sym (ap (λ b. old || b) (not_its_word value.field.0 (term_at value.terms c.args.number)
    (sym c.is_of_field.ensures ∙ c.if-not-is_of_field.true) (get_or value.field.1 k [])) ∙ or_false old)

pub returns-then-not-has-clause-raised : goal.returns-then-not-has-clause-raised
returns-then-not-has-clause-raised c k lt =
    let old = is_up (get_or c.args.flags.now k 0) in
    let inside = c.self.inside in
    let key = term_at inside.reading.now.terms c.args.number in
    let field = inside.field.now in
    let its : List ℕ → _ = λ w. is_same (Word field.0 w) key in
    let within : k < length field.1 =
    omega (arith, lt, c.requires, ap (λ (s : SpotsValue). length s.field.1) c.self.view_is) in
    let none : is_at field k key ≡ false = false_from_ne_true (is_at field k key) (λ here. false≢true
    (sym (c.self.invariant.among key (sym c.has.ensures ∙ c.if-not-has.true))
    ∙ list_any_at its field.1 k [] within here)) in
    sym (ap (λ b. old || b) (subst (λ (s : SpotsValue). is_at s.field k (term_at s.terms c.args.number) ≡ false)
    c.self.view_is none) ∙ or_false old)
