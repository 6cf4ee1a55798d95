use Rattle.std.proofs.Common.{arith}
use Rattle.std.proofs.lemmas.Result.{IfOk-weaker}
use Rattle.clip_standing.specs.Alerts.{alert_value}
use Rattle.clip_listen.proofs.Names.{found-here}
use Rattle.clip_listen.proofs.Parts.{names_stay, hears_nothing, hears_one, notes_one, on_ok_then, on_err_then}
use Rattle.clip_listen.proofs.listeners.hear_at.Goals as goal

pub index_mut-requires : goal.index_mut-requires
index_mut-requires g c = let v = c.args.parts.now in let h = (found-here _ v.items c.args.at c.requires.place).0 in
    omega (arith, h, v.ok.0)

pub returns-clause-names : goal.returns-clause-names
returns-clause-names g c =
    names_stay c.args.parts.now.items c.args.at c.index_mut.result.now c.index_mut.ensures.value _

pub returns-clause-text : goal.returns-clause-text
returns-clause-text g c =
    IfOk-weaker c.hear_by.result _ _
    (λ said h. notes_one _ _ _ c.args.parts.now.items c.args.at c.index_mut.result.now c.index_mut.ensures.value
    (alert_value c.args.alert.now) _ c.requires.own c.requires.once c.requires.place _ h) c.hear_by.ensures.text

pub returns-clause-ok : goal.returns-clause-ok
returns-clause-ok g c =
    on_ok_then c.hear_by.result
    (hears_one _ _ _ c.args.parts.now.items c.args.at c.index_mut.result.now c.index_mut.ensures.value
    (alert_value c.args.alert.now) _ c.requires.own c.requires.once c.requires.place _ c.hear_by.ensures.style
    c.hear_by.ensures.keeps) c.hear_by.ensures.ok

pub returns-clause-err : goal.returns-clause-err
returns-clause-err g c =
    on_err_then c.hear_by.result
    (hears_nothing _ _ _ c.args.parts.now.items c.args.at c.index_mut.result.now c.index_mut.ensures.value _
    c.hear_by.ensures.style c.hear_by.ensures.keeps) c.hear_by.ensures.err
