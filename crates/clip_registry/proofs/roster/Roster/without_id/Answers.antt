use Rattle.std.proofs.Common.{◌++◌, ◌∷◌, [], sym, ap, subst, ◌∙◌}
use Rattle.std.specs.FinMap as finite
use Rattle.clip_model.specs.Steps.Numbered.{IsNumbered}
use Rattle.clip_model.proofs.Numbering.{numbered_remove}
use Rattle.clip_registry.specs.Steps.Roster.{HaveGone, has_or_awaits, roster_without, seqs_given}
use Rattle.clip_registry.specs.Steps.RosterInside.{roster_of}
use Rattle.clip_registry.specs.Steps.LiveFlags.{without_all}
use Rattle.clip_registry.proofs.Gone.{gone_more, one_less}
use Rattle.clip_registry.proofs.roster.Roster.without_id.Goals as goal

pub invariant_of-result : goal.invariant_of-result
invariant_of-result c =
    subst (IsNumbered c.self.inside.listed) (sym c.in_ok-remove.ensures.removed)
    (numbered_remove c.self.inside.listed c.self.inside.by_id c.args.id.now c.self.invariant)

pub returns-clause-gone : goal.returns-clause-gone
returns-clause-gone c = λ first have seq.
    let before = roster_of c.self.inside in
    let id = c.args.id.now in
    let found = finite.get c.self.inside.by_id id in
    let gone = c.args.gone.now.items in
    ap (λ ss. without_all ss (has_or_awaits first) seq)
    (c.in_ok-add_seq.ensures ∙ ap (λ o. gone ++ seqs_given o) c.in_ok-remove.ensures.gone)
    ∙ gone_more first before (roster_without before (id ∷ [])) gone found
    (subst (HaveGone gone first) (sym c.self.view_is) have) (λ s. one_less before id s c.self.invariant) seq
    ∙ (λ i. has_or_awaits
    (record { registry = sym c.in_ok-remove.ensures.removed i; listed = c.self.inside.listed }) seq)
