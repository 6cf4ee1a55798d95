use Rattle.std.proofs.Common.{◌≡◌, ◌≤◌, ◌∙◌, ℕ, List, [], ◌∷◌, ◌++◌, ap, sym, refl, subst, arith}
use Rattle.clip_model.specs.History.{History, next_entry, own, with_command, IsLegal}
use Rattle.clip_standing.specs.Command.{command_of}
use Rattle.clip_desk.specs.Callers.{IsBy}
use Rattle.clip_desk.specs.Chronicle.{head_of}
use Rattle.clip_desk.specs.Updates.{AllFollow, AreTold, Heard, event_of}
use mathlib.Core.List.{IsPrefix}
use Rattle.clip_desk.proofs.Beginnings.{prefix_self}
use Rattle.clip_desk.specs.Seats.{SeatIs}
use Rattle.clip_desk.proofs.Following.{all_follow_entry}
use Rattle.clip_desk.proofs.Commits.{followed, own_grown, mine_grown, own_fits, seen_grown, by_grown}
use Rattle.clip_desk.proofs.Purges.{purged_after}
use Rattle.clip_desk.proofs.Settling.{settled_next}
use Rattle.clip_desk.proofs.locked.Locked.commit.Goals as goal

pub invariant_of-self : goal.invariant_of-self
invariant_of-self g c =
    let i = c.self.invariant.0 in
    let s = c.self.inside in
    let before = s.registrar.history in
    let next = c.in-Ok.grown.registrar in
    let caller = c.caller-caller.result in
    let command = command_of c.args.command in
    let purged_at = s.writer.desk.shown.value.purged_at in
    let known = c.caller-caller.ensures.known in
    let high : caller ≤ g.N.DeskName.callers = omega (arith, known.1, c.requires.desk.1) in
    let e = next_entry before caller command in
    let is = c.in-Ok.ensures.registrar in
    let history : next.history ≡ before ++ e ∷ [] = ap (λ s. s.history) is in
    let told = c.tell_last.new.updates in (
      settled_next i c.show_surely.ensures c.in-Ok.ensures.view (ap (λ s. s.keeps) is) c.if-not-add.ensures.added
          (c.add.ensures.book ∙ ap (λ f. f.seen.book) c.again-seen_history.ensures)
          (by_grown g.N.DeskName.callers caller s.registrar next command is known.0 high i.by)
          (purged_after s.registrar next caller command purged_at is i.purged),
      subst (λ (h : History). AllFollow g.N.DeskName.heard_before h s.purges told) (sym history)
          (all_follow_entry g.N.DeskName.heard_before before s.purges s.updates told c.self.invariant.1 e
          (c.tell_last.ensures before e history)),
    )

pub show_surely-requires-clause-callers : goal.show_surely-requires-clause-callers
show_surely-requires-clause-callers g c =
    let i = c.self.invariant.0 in
    let caller = c.caller-caller.result in
    let view = c.in-Ok.grown.view in
    let known = c.caller-caller.ensures.known in
    let high : caller ≤ g.N.DeskName.callers = omega (arith, known.1, c.requires.desk.1) in
    subst (λ (n : ℕ). IsBy n view.history) (sym i.shown_callers)
    (by_grown g.N.DeskName.callers caller c.self.inside.registrar view (command_of c.args.command)
    (c.in-Ok.ensures.view ∙ c.in-Ok.ensures.registrar) known.0 high i.by)

pub show_surely-requires-clause-purged : goal.show_surely-requires-clause-purged
show_surely-requires-clause-purged g c =
    purged_after c.self.inside.registrar c.in-Ok.grown.view c.caller-caller.result (command_of c.args.command)
    c.self.inside.writer.desk.shown.value.purged_at (c.in-Ok.ensures.view ∙ c.in-Ok.ensures.registrar)
    c.self.invariant.0.purged

pub add-requires-clause-desk : goal.add-requires-clause-desk
add-requires-clause-desk g c =
    let i = c.self.invariant.0 in (
      ap (λ f. f.seen.book) c.again-seen_history.ensures ∙ (i.book_is ∙ sym c.requires.desk.0),
      i.head_is
          ∙ ap head_of (sym c.requires.desk.0),
    )

pub add-requires-clause-one_more : goal.add-requires-clause-one_more
add-requires-clause-one_more g c =
    let before = c.self.inside.registrar.history in
    let e = next_entry before c.caller-caller.result (command_of c.args.command) in
    let history : c.in-Ok.grown.registrar.history ≡ before ++ e ∷ [] = ap (λ s. s.history) c.in-Ok.ensures.registrar in
    let seen_history = ap (λ f. f.seen.log) c.again-seen_history.ensures ∙ c.self.invariant.0.log in
    (e, history ∙ ap (λ l. l ++ e ∷ []) (sym seen_history), c.caller-caller.ensures.caller)

pub add-requires-clause-own : goal.add-requires-clause-own
add-requires-clause-own g c =
    let seen = c.self.inside.seen_history.seen.log in
    let caller = c.args.seat.now.caller in
    let command = command_of c.args.command in
    let after = c.in-Ok.grown.registrar.history in
    let is : after ≡ with_command seen caller command =
    followed c.self.inside.registrar c.in-Ok.grown.registrar seen after caller c.caller-caller.result command refl
    c.in-Ok.ensures.registrar c.self.invariant.0.log c.caller-caller.ensures.caller in
    (own_fits seen after c.args.seat.now.mine caller command is (c.if-not-agrees.ensures refl).1).1

pub returns-clause-told : goal.returns-clause-told
returns-clause-told g c =
    let before = c.self.inside.registrar.history in
    let command = command_of c.args.command in
    let e = next_entry before c.caller-caller.result command in
    let history : c.in-Ok.grown.registrar.history ≡ before ++ e ∷ [] = ap (λ s. s.history) c.in-Ok.ensures.registrar in
    subst (λ (h : List Heard). AreTold (event_of command) h c.tell_last.new.updates)
    (ap (λ s. s.updates) c.self.view_is) (c.tell_last.ensures before e history)

pub returns-clause-legal : goal.returns-clause-legal
returns-clause-legal g c =
    let caller = c.caller-caller.result in
    let next = c.in-Ok.grown.registrar in
    let told : c.new.result.history ≡ next.history = ap (λ r. r.history) c.new.ensures
    ∙ ap (λ f. f.seen.log) c.again-2.ensures ∙ c.if-not-add.ensures.added in
    let callers = g.N.DeskName.callers in
    let known = c.caller-caller.ensures.known in
    let high : caller ≤ callers = omega (arith, known.1, c.requires.desk.1) in (
      subst IsLegal (sym told) c.add.ensures.legal,
      subst (IsBy callers) (sym told)
          (by_grown callers caller c.self.inside.registrar next (command_of c.args.command) c.in-Ok.ensures.registrar
          known.0 high c.self.invariant.0.by),
    )

pub returns-clause-seen : goal.returns-clause-seen
returns-clause-seen g c =
    let seen = c.self.inside.seen_history.seen.log in
    let caller = c.args.seat.now.caller in
    let command = command_of c.args.command in
    let after = c.new.result.history in
    let told = ap (λ r. r.history) c.new.ensures ∙ ap (λ f. f.seen.log) c.again-2.ensures
    ∙ c.if-not-add.ensures.added in
    let is : after ≡ with_command seen caller command =
    followed c.self.inside.registrar c.in-Ok.grown.registrar seen after caller c.caller-caller.result command told
    c.in-Ok.ensures.registrar c.self.invariant.0.log c.caller-caller.ensures.caller in (
      seen_grown c.args.seat.now.seen seen after caller command (c.if-not-agrees.ensures refl).0 is,
      ap (λ s. s.seen) c.if-not-add.ensures.seat.0 ∙ sym told,
    )

pub returns-clause-mine : goal.returns-clause-mine
returns-clause-mine g c =
    let seen = c.self.inside.seen_history.seen.log in
    let caller = c.args.seat.now.caller in
    let command = command_of c.args.command in
    let mine = c.args.seat.now.mine in
    let after = c.in-Ok.grown.registrar.history in
    let told : c.new.result.history ≡ after = ap (λ r. r.history) c.new.ensures
    ∙ ap (λ f. f.seen.log) c.again-2.ensures ∙ c.if-not-add.ensures.added in
    let is : after ≡ with_command seen caller command =
    followed c.self.inside.registrar c.in-Ok.grown.registrar seen after caller c.caller-caller.result command refl
    c.in-Ok.ensures.registrar c.self.invariant.0.log c.caller-caller.ensures.caller in
    let own_is = (c.if-not-agrees.ensures refl).1 in
    let more = c.if-not-add.ensures.seat.1 ∙ mine_grown seen after mine caller command is own_is in
    (ap (λ h. own h caller) told ∙ own_grown seen after mine caller command is own_is ∙ sym more, more)

pub returns-clause-later : goal.returns-clause-later
returns-clause-later g c =
    let seen = c.self.inside.seen_history.seen.log in
    let caller = c.args.seat.now.caller in
    let command = command_of c.args.command in
    let after = c.add.new.self.seen in
    let told = ap (λ s. s.seen) c.if-not-add.ensures.seat.0 in
    let is : after ≡ with_command seen caller command =
    followed c.self.inside.registrar c.in-Ok.grown.registrar seen after caller c.caller-caller.result command told
    c.in-Ok.ensures.registrar c.self.invariant.0.log c.caller-caller.ensures.caller in
    seen_grown c.args.seat.now.seen seen after caller command (c.if-not-agrees.ensures refl).0 is

pub returns-then-not-add-clause-later : goal.returns-then-not-add-clause-later
returns-then-not-add-clause-later g c =
    let seen = c.args.seat.now.seen in
    subst (λ (s : SeatIs). IsPrefix seen s.seen) (sym c.if-not-add.ensures.seat) (prefix_self seen)
