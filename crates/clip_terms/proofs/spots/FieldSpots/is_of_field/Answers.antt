use Rattle.std.proofs.Common.{◌&&◌, nat_lt, sym, ap, ◌∙◌}
use Rattle.std.proofs.lemmas.Bool.{le-leb, lt-leb}
use Rattle.clip_terms.specs.Spots.{SpotsValue, is_word_of}
use Rattle.clip_terms.specs.Terms.{term_at}
use Rattle.clip_terms.proofs.Spotted.{in_part}
use Rattle.clip_terms.proofs.spots.FieldSpots.is_of_field.Goals as goal

pub returns-then-self-number : goal.returns-then-self-number
returns-then-self-number c =
    let inside = c.self.inside in
    let n = c.args.number in
    sym (ap (λ b. b && nat_lt n inside.range.end) (le-leb inside.range.start n c.if-self-number.true))
    ∙ in_part inside.reading.now.terms inside.field.now.0 inside.range.start inside.range.end n c.self.invariant.part
    ∙ ap (λ (s : SpotsValue). is_word_of s.field.0 (term_at s.terms n)) c.self.view_is

pub returns-else-self-number : goal.returns-else-self-number
returns-else-self-number c =
    let inside = c.self.inside in
    let n = c.args.number in
    let below = lt-leb inside.range.start n c.if-self-number.false in
    below
    ∙ sym (ap (λ b. b && nat_lt n inside.range.end) below)
    ∙ in_part inside.reading.now.terms inside.field.now.0 inside.range.start inside.range.end n c.self.invariant.part
    ∙ ap (λ (s : SpotsValue). is_word_of s.field.0 (term_at s.terms n)) c.self.view_is
