use Rattle.std.proofs.Common.{◌-◌, ◌*◌, false, ◌&&◌, ◌||◌, not, length, get_or, ap, ap₂, sym, ◌∙◌, arith}
use Rattle.std.proofs.Common.{length-take-le}
use Rattle.clip_pieces.specs.Steps.Bits.{flags_of}
use Rattle.clip_pieces.proofs.Words.{length-flags_of}
use Rattle.clip_pieces.proofs.Both.{all_held, fewer_held, length_marks, met_flags}
use Rattle.clip_pieces.proofs.marks.Marks.keep_met.Goals as goal

pub invariant_of-self : goal.invariant_of-self
invariant_of-self c =
    let words = c.self.inside.words.items in
    let changed = c.keep_met_bits.new.words.items in
    let needs = c.needs.inside.words.items in
    let has = c.has.inside.words.items in
    let bound = c.self.inside.bound in
    fewer_held bound words changed c.self.invariant c.keep_met_bits.ensures.length
    (λ place none. met_flags bound words changed c.self.invariant c.keep_met_bits.ensures.length needs has
    c.keep_met_bits.ensures.bits place
    ∙ ap (λ b. b && (get_or (flags_of has) place false || not (get_or (flags_of needs) place false))) none)

pub returns-clause-length : goal.returns-clause-length
returns-clause-length c =
    let words = c.self.inside.words.items in
    let changed = c.keep_met_bits.new.words.items in
    let bound = c.self.inside.bound in
    length_marks bound words changed c.self.invariant c.keep_met_bits.ensures.length
    ∙ sym (length-take-le bound (flags_of words) (omega (arith, c.self.invariant.0, length-flags_of words)))
    ∙ ap length c.self.view_is

pub returns-clause-each : goal.returns-clause-each
returns-clause-each c =
    let words = c.self.inside.words.items in
    let changed = c.keep_met_bits.new.words.items in
    let needs = c.needs.inside.words.items in
    let has = c.has.inside.words.items in
    let bound = c.self.inside.bound in
    let kept = fewer_held bound words changed c.self.invariant c.keep_met_bits.ensures.length
    (λ place none. met_flags bound words changed c.self.invariant c.keep_met_bits.ensures.length needs has
    c.keep_met_bits.ensures.bits place
    ∙ ap (λ b. b && (get_or (flags_of has) place false || not (get_or (flags_of needs) place false))) none) in
    λ number.
    sym (all_held bound (64 * length changed - bound) (flags_of changed) kept.2 number)
    ∙ met_flags bound words changed c.self.invariant c.keep_met_bits.ensures.length needs has
    c.keep_met_bits.ensures.bits number
    ∙ ap₂ (λ a b. a && b)
    (all_held bound (64 * length words - bound) (flags_of words) c.self.invariant.2 number
    ∙ ap (λ flags. get_or flags number false) c.self.view_is)
    (ap₂ (λ a b. a || not b)
    (all_held c.has.inside.bound (64 * length has - c.has.inside.bound) (flags_of has) c.has.invariant.2 number
    ∙ ap (λ flags. get_or flags number false) c.has.view_is)
    (all_held c.needs.inside.bound (64 * length needs - c.needs.inside.bound) (flags_of needs) c.needs.invariant.2
    number ∙ ap (λ flags. get_or flags number false) c.needs.view_is))
