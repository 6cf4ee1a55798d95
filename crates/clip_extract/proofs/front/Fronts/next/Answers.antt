use Rattle.std.proofs.Common.{◌≡◌, ◌+◌, ◌-◌, ◌<◌, ◌∷◌, take, drop, sym, ap, ◌∙◌, subst, arith}
use Rattle.std.specs.Str.{IsUtf8}
use Rattle.clip_extract.specs.Steps.Fronts.{fronts_after}
use Rattle.clip_extract.proofs.FrontsOfWords.{next_front, next_end}
use Rattle.clip_extract.proofs.front.Fronts.next.Goals as goal

pub range-requires-clause-end_boundary : goal.range-requires-clause-end_boundary
range-requires-clause-end_boundary c =
    let word = c.self.inside.word.now in
    let end = c.self.inside.end in
    let text : IsUtf8 (drop end word) = subst IsUtf8 c.range_from.ensures.value c.range_from.utf8 in
    let is = sym (c.chars.ensures.rest ∙ c.range_from.ensures.value) ∙ c.in_ok-next.ensures.steps.0 in
    next_end word c.next.new.self.rest.now end c.len_utf8.result c.in_ok-next.next text is c.len_utf8.ensures.value
    c.self.invariant.0

pub invariant_of-self : goal.invariant_of-self
invariant_of-self c =
    let word = c.self.inside.word.now in
    let end = c.self.inside.end in
    let text : IsUtf8 (drop end word) = subst IsUtf8 c.range_from.ensures.value c.range_from.utf8 in
    let is = sym (c.chars.ensures.rest ∙ c.range_from.ensures.value) ∙ c.in_ok-next.ensures.steps.0 in
    next_end word c.next.new.self.rest.now end c.len_utf8.result c.in_ok-next.next text is c.len_utf8.ensures.value
    c.self.invariant.0

pub returns : goal.returns
returns c =
    let word = c.self.inside.word.now in
    let end = c.self.inside.end in
    let size = c.len_utf8.result in
    let text : IsUtf8 (drop end word) = subst IsUtf8 c.range_from.ensures.value c.range_from.utf8 in
    let is = sym (c.chars.ensures.rest ∙ c.range_from.ensures.value) ∙ c.in_ok-next.ensures.steps.0 in
    let some : 0 < c.self.inside.left = omega (arith, c.if-self-eq0.false) in
    let whole : end + size - 0 ≡ end + size = omega arith in
    sym c.self.view_is
    ∙ next_front word c.next.new.self.rest.now end size c.self.inside.left c.in_ok-next.next text is
    c.len_utf8.ensures.value some
    ∙ ap (λ front. front ∷ fronts_after word (end + size) (c.self.inside.left - 1))
    (sym (c.range.ensures.value ∙ ap (λ n. take n word) whole))
