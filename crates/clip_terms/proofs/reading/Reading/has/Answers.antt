use Rattle.std.proofs.Common.{◌≡◌, true, false, sym, ◌∙◌, subst, arith}
use Rattle.std.proofs.lemmas.List.{get_or_default}
use Rattle.std.proofs.lemmas.Option.{slice_get_past, unwrap_or-slice_get}
use Rattle.clip_terms.specs.Terms.{term_at}
use Rattle.clip_terms.specs.Reading.{ReadingValue, has_key}
use Rattle.clip_terms.proofs.Runs.{past_terms}
use Rattle.clip_terms.proofs.reading.Reading.has.Goals as goal

pub returns-then-number-len : goal.returns-then-number-len
returns-then-number-len c =
    let terms = c.self.inside.terms.now in
    subst (λ (r : ReadingValue). true ≡ has_key r.article.fields (term_at r.terms c.args.number)) c.self.view_is
    (past_terms c.self.inside.article.now.fields terms c.args.number
    (slice_get_past terms c.args.number (omega (arith, c.if-number-len.true, c.len.ensures))))

pub returns : goal.returns
returns c =
    let marks = c.self.inside.marks in
    let n = c.args.number in
    subst (λ (r : ReadingValue). c.is_marked.result ≡ has_key r.article.fields (term_at r.terms n)) c.self.view_is
    (c.is_marked.ensures ∙ get_or_default marks n false true
    (omega (arith, c.if-number-len.false, c.len.ensures, c.self.invariant.long))
    ∙ sym (unwrap_or-slice_get marks n true)
    ∙ c.self.invariant.flags n (omega (arith, c.if-number-len.false, c.len.ensures)))
