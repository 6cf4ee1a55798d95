use Rattle.std.proofs.Common.{◌≡◌, ◌<◌, ◌+◌, ◌^◌, length, sym, ap, ◌∙◌, subst, arith, drop, List, ℕ, Vec}
use Rattle.std.specs.declared.alloc.Global.{Global}
use Rattle.std.proofs.lemmas.List.{take_rest}
use Rattle.std.proofs.lemmas.Result.{err_from_is_err_and}
use Rattle.clip_journal.specs.Kept.{says, said_by, kept_in}
use Rattle.clip_journal.proofs.Whole.{broken_of, parts_none, parts_one, parts_place, parts_small, reads_of, kept_one}
use Rattle.clip_journal.proofs.reading.read_back.Goals as goal

pub returns-in_err-said-clause-broken : goal.returns-in_err-said-clause-broken
returns-in_err-said-clause-broken c =
    let p = err_from_is_err_and c.from_residual.result c.from_residual.ensures.1 in
    rw (p.1, p.2) (broken_of c.args.bytes.now c.in_err-said.field-0.0 c.whole_entries.ensures.small
    c.in_err-said.ensures.wrong)

pub returns-in-None-clause-broken : goal.returns-in-None-clause-broken
returns-in-None-clause-broken c =
    let p = c.in_ok-said.ensures.whole in
    let said = says c.in_ok-said.field-0.said.items in (
      λ kept torn r. c.in-None.ensures.none kept r.counted (ap says c.deref.ensures.value
          ∙ (parts_one c.args.bytes.now said c.in_ok-said.field-0.link c.in_ok-said.field-0.at kept torn
          c.whole_entries.ensures.small p r).0),
      said,
      drop c.in_ok-said.field-0.at c.args.bytes.now,
      p.parts,
      parts_place c.args.bytes.now said c.in_ok-said.field-0.link c.in_ok-said.field-0.at p,
      parts_none c.args.bytes.now said c.in_ok-said.field-0.link c.in_ok-said.field-0.at p,
    )

pub returns-clause-found : goal.returns-clause-found
returns-clause-found c =
    let is = c.deref.ensures.value in
    let at = λ (vs : List (Vec ℕ Global)). says vs ≡ said_by (kept_in c.in-Some.told.0 c.in-Some.told.1 (says vs)) in
    let few = λ (vs : List (Vec ℕ Global)).
    c.in-Some.told.0 + length (drop (1 + c.in-Some.told.1) (says vs)) < 2 ^ 63 in
    let bytes = c.args.bytes.now in
    let cut = take_rest bytes c.in_ok-said.field-0.at in
    let torn_is : c.in_ok-torn.torn.items ≡ drop c.in_ok-said.field-0.at bytes =
    cc (c.in_ok-torn.ensures.items, cut) in
    reads_of bytes (says c.in_ok-said.field-0.said.items) c.in_ok-said.field-0.link c.in_ok-said.field-0.at _ _
    c.in_ok-said.ensures.whole (subst at is c.in-Some.ensures.some) (subst few is c.in-Some.ensures.counted)
    torn_is

pub returns-clause-only : goal.returns-clause-only
returns-clause-only c =
    let is = c.deref.ensures.value in
    let said = says c.in_ok-said.field-0.said.items in
    let found = kept_in c.in-Some.told.0 c.in-Some.told.1 said in
    let at = λ (vs : List (Vec ℕ Global)). says vs ≡ said_by (kept_in c.in-Some.told.0 c.in-Some.told.1 (says vs)) in
    let few = λ (vs : List (Vec ℕ Global)).
    c.in-Some.told.0 + length (drop (1 + c.in-Some.told.1) (says vs)) < 2 ^ 63 in
    let some = subst at is c.in-Some.ensures.some in
    let bytes = c.args.bytes.now in
    let cut = take_rest bytes c.in_ok-said.field-0.at in
    let torn_is : c.in_ok-torn.torn.items ≡ drop c.in_ok-said.field-0.at bytes =
    cc (c.in_ok-torn.ensures.items, cut) in
    let long = parts_small c.args.bytes.now said c.in_ok-said.field-0.link c.in_ok-said.field-0.at
    c.in_ok-said.ensures.whole in
    λ kept torn r.
    let one = parts_one c.args.bytes.now said c.in_ok-said.field-0.link c.in_ok-said.field-0.at kept torn
    c.whole_entries.ensures.small c.in_ok-said.ensures.whole r in (
      kept_one found kept (subst few is c.in-Some.ensures.counted) r.counted
          (omega (arith, long, ap length some, c.whole_entries.ensures.small)) (sym some ∙ one.0),
      torn_is ∙ one.1,
    )
