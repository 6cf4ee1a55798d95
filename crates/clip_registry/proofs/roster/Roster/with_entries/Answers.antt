use Rattle.std.proofs.Common.{◌≡◌, ◌<◌, ◌+◌, suc, List, ◌∷◌, map, drop, length, sym, ap, subst, ◌∙◌, arith}
use Rattle.std.proofs.lemmas.List.{drop_more}
use Rattle.std.specs.Arc.{arc_value}
use Rattle.clip_model.specs.History.{Registered}
use Rattle.clip_registry.specs.Steps.Roster.{Roster, SeqsFollow, insert_all, insert_one, roster_with, roster_with_all}
use Rattle.clip_registry.proofs.roster.Roster.with_entries.Goals as goal

-- to enter one and then the others is to enter all
one_first : (roster next : Roster) (e : Registered) (es : List Registered) → next ≡ roster_with roster e
    → roster_with_all next es ≡ roster_with_all roster (e ∷ es)
one_first roster next e es is =
    let count : suc roster.listed + length es ≡ roster.listed + suc (length es) = omega arith in
    ap (λ r. roster_with_all r es) is
    ∙ (λ i. record { registry = insert_all (insert_one roster.registry e) es; listed = count i })

pub loop-entry-preserved : goal.loop-entry-preserved
loop-entry-preserved c =
    let roster = c.loop-entry.roster in
    let next = c.in_ok-roster.roster in
    let entries = c.args.entries.now in
    let at = c.loop-entry.entry-index in
    let e : Registered = arc_value c.entry-item.result in
    let es : List Registered = map arc_value (drop (at + 1) entries) in
    let within : at < length entries = let h = c.loop-entry-test.true in omega arith in
    let parts : map arc_value (drop at entries) ≡ e ∷ es =
    ap (map arc_value) (drop_more entries at c.entry-item.result within
    ∙ ap (λ x. x ∷ drop (at + 1) entries) (sym c.entry-item.is)) in
    let more : next.listed ≡ suc roster.listed = ap (λ (r : Roster). r.listed) c.in_ok-roster.ensures.roster in
    record {
      follow = subst (λ n. SeqsFollow n es) (sym more)
          (subst (SeqsFollow roster.listed) parts c.loop-entry.invariant.follow).1;
      entered = one_first roster next e es c.in_ok-roster.ensures.roster
          ∙ ap (roster_with_all roster) (sym parts) ∙ c.loop-entry.invariant.entered;
      gone = c.in_ok-roster.ensures.gone c.args.self c.loop-entry.invariant.gone;
    }
