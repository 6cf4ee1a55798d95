use Rattle.std.proofs.Common.{◌≡◌, ◌++◌, suc, sym, ap, subst, ◌∙◌}
use Rattle.std.specs.FinMap as finite
use Rattle.clip_model.specs.History.{Registered}
use Rattle.clip_model.specs.Steps.Numbered.{IsNumbered}
use Rattle.clip_model.proofs.Numbering.{numbered_insert}
use Rattle.clip_registry.specs.Steps.Roster.{Roster, HaveGone, has_or_awaits, insert_one, roster_with, seqs_given}
use Rattle.clip_registry.specs.Steps.RosterInside.{roster_of}
use Rattle.clip_registry.specs.Steps.LiveFlags.{without_all}
use Rattle.clip_registry.proofs.Gone.{gone_more, one_more}
use Rattle.clip_registry.proofs.roster.Roster.with_entry.Goals as goal

-- the entry's seq is the next
next : (c : goal.After-seq) → c.in_ok-clone.field-0.value.seq ≡ suc c.self.inside.listed
next c = ap (λ (r : Registered). r.seq) c.in_ok-clone.ensures.cases ∙ c.requires
    ∙ ap (λ (r : Roster). suc r.listed) (sym c.self.view_is)

count : (c : goal.After-seq) → c.seq.result ≡ suc c.self.inside.listed
count c = c.seq.ensures ∙ ap (λ (r : Registered). r.seq) (c.deref.ensures ∙ sym c.in_ok-clone.ensures.cases) ∙ next c

pub invariant_of-result : goal.invariant_of-result
invariant_of-result c =
    subst (IsNumbered c.seq.result) (sym c.in_ok-insert.ensures.inserted)
    (subst (λ n. IsNumbered n (insert_one c.self.inside.by_id c.in_ok-clone.field-0.value)) (sym (count c))
    (numbered_insert c.self.inside.listed c.self.inside.by_id c.in_ok-clone.field-0.value (next c) c.self.invariant))

pub returns-clause-gone : goal.returns-clause-gone
returns-clause-gone c = λ first have seq.
    let before = roster_of c.self.inside in
    let r : Registered = c.in_ok-clone.field-0.value in
    let found = finite.get c.self.inside.by_id r.standing.id in
    let gone = c.args.gone.now.items in
    ap (λ ss. without_all ss (has_or_awaits first) seq)
    (c.in_ok-add_seq.ensures ∙ ap (λ o. gone ++ seqs_given o) c.in_ok-insert.ensures.replaced)
    ∙ gone_more first before (roster_with before r) gone found (subst (HaveGone gone first) (sym c.self.view_is) have)
    (λ s. one_more before r s (next c) c.self.invariant) seq
    ∙ (λ i. has_or_awaits
    (record { registry = sym c.in_ok-insert.ensures.inserted i; listed = sym (count c) i }) seq)
