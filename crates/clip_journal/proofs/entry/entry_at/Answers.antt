use Rattle.std.proofs.Common.{◌≡◌, sym, ap, ◌∙◌, arith}
use Rattle.std.proofs.lemmas.Result.{err_from_is_err_and}
use Rattle.std.specs.Prelude.{Err, IsErrOf}
use Rattle.clip_journal.specs.declared.entry.NoEntry.{NoEntry}
use Rattle.clip_journal.specs.declared.entry.NoEntry.TheVariants.{Wrong}
use Rattle.clip_journal.specs.Entries.{check}
use Rattle.clip_journal.proofs.Heads.{wrong_head, wrong_link, entry_found}
use Rattle.clip_journal.proofs.entry.entry_at.Goals as goal

pub returns-in_err-size-clause-wrong : goal.returns-in_err-size-clause-wrong
returns-in_err-size-clause-wrong c =
    let p = err_from_is_err_and c.from_residual.result c.from_residual.ensures.1 in
    rw (p.1, p.2) (λ w.
    let same : c.in_err-size.field-0.0 ≡ Wrong = cc in
    let told : IsErrOf c.head_at.result Wrong = c.in_err-size.was ∙ ap (λ (e : NoEntry). Err e) same in
    wrong_head c.args.link.now c.args.place c.args.bytes.now (c.head_at.ensures.long told)
    (c.head_at.ensures.wrong told))

pub returns-in-Some-clause-entry : goal.returns-in-Some-clause-entry
returns-in-Some-clause-entry c =
    let s = c.split_at.ensures in
    let sum = c.in_ok-size.ensures.check ∙ ap (check c.args.link.now c.args.place) (sym s.front_len) in
    entry_found c.args.link.now c.args.place c.in_ok-size.size c.args.bytes.now _ _ _ _ _ c.in_ok-size.ensures.found
    s.by_index.0 s.front_len c.in-Some.ensures (c.link_of-next.ensures c.args.link.now c.args.place sum)

pub returns-in-None-clause-wrong : goal.returns-in-None-clause-wrong
returns-in-None-clause-wrong c =
    let s = c.split_at.ensures in
    let sum = c.in_ok-size.ensures.check ∙ ap (check c.args.link.now c.args.place) (sym s.front_len) in
    λ _. wrong_link c.args.link.now c.args.place c.in_ok-size.size c.args.bytes.now _ _ _ _ (omega arith)
    (omega arith) c.in_ok-size.ensures.found s.by_index.0 s.front_len
    (c.link_of-next.ensures c.args.link.now c.args.place sum) c.in-None.ensures
