use Rattle.std.proofs.Common.{ℕ, ◌+◌, ◌&&◌, drop, sym, ap, ◌∙◌}
use Rattle.std.specs.List.{list_all}
use Rattle.std.proofs.lemmas.List.{drop_more, drop_all}
use Rattle.clip_terms.specs.Terms.{term_at}
use Rattle.clip_terms.specs.Reading.{has_key}
use Rattle.clip_terms.proofs.reading.Reading.has_all.Goals as goal

pub returns-then-not-has : goal.returns-then-not-has
returns-then-not-has c =
    let has = λ (n : ℕ). has_key c.args.self.now.article.fields (term_at c.args.self.now.terms n) in
    let run = c.args.run.now in
    let i = c.loop-number.number-index in
    ap (λ b. b && list_all has (drop (i + 1) run)) (sym c.if-not-has.true ∙ c.has.ensures)
    ∙ ap (list_all has) (sym (drop_more run i 0 c.loop-number-test.true)) ∙ c.loop-number.invariant

pub loop-number-preserved : goal.loop-number-preserved
loop-number-preserved c =
    let has = λ (n : ℕ). has_key c.args.self.now.article.fields (term_at c.args.self.now.terms n) in
    let run = c.args.run.now in
    let i = c.loop-number.number-index in
    ap (λ b. b && list_all has (drop (i + 1) run)) (sym c.if-not-has.false ∙ c.has.ensures)
    ∙ ap (list_all has) (sym (drop_more run i 0 c.loop-number-test.true)) ∙ c.loop-number.invariant

pub returns : goal.returns
returns c =
    let has = λ (n : ℕ). has_key c.args.self.now.article.fields (term_at c.args.self.now.terms n) in
    ap (list_all has) (sym (drop_all c.loop-number.number-index c.args.run.now c.loop-number-test.false))
    ∙ c.loop-number.invariant
