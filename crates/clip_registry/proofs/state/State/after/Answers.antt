use Rattle.std.proofs.Common.{◌≡◌, ◌-◌, ◌++◌, ◌∷◌, [], ◌<◌, ◌≤◌, sym, ap, subst, ◌∙◌, arith, length, map, append-nil}
use Rattle.std.specs.List.{All}
use Rattle.clip_indexed.specs.Segment.{all_entries}
use Rattle.std.specs.Arc.{arc_value}
use Rattle.std.specs.FinMap as finite
use Rattle.clip_model.specs.declared.limits.TheConstants.{MOST_ENTRIES, MOST_LIVE}
use Rattle.clip_model.specs.History as model
use Rattle.clip_model.specs.History.{History, Registered, own, next_entry, with_command}
use Rattle.clip_model.proofs.Counting.{listed_bound, own_length}
use Rattle.clip_standing.specs.Command.{command_of}
use Rattle.clip_registry.specs.Steps.Change.{content, IsAccepted}
use Rattle.clip_registry.specs.Steps.State.{state_of}
use Rattle.clip_registry.specs.RegistryState.{RegistryState}
use Rattle.clip_registry.proofs.Keeping.{counted, accepted_after, consistent_after}
use Rattle.clip_registry.proofs.state.State.after.Given.{Over}
use Rattle.clip_registry.proofs.state.State.after.Goals as goal
use Rattle.clip_registry.proofs.state.State.after.Goals.{In_ok-changed}

pub change-requires-clause-listed : goal.change-requires-clause-listed
change-requires-clause-listed g c =
    let kept = c.self.invariant.0 in
    let few = listed_bound (state_of c.self.inside).history kept.legal in
    let same = kept.listed in
    omega arith

pub change-requires-clause-small : goal.change-requires-clause-small
change-requires-clause-small g c =
    let kept = c.self.invariant.0 in
    let h : History = (state_of c.self.inside).history in
    subst (λ m. finite.len m ≤ MOST_LIVE) (sym kept.registry) (kept.legal.small h [] (sym (append-nil h)))

pub change-requires-clause-within : goal.change-requires-clause-within
change-requires-clause-within g c =
    let kept = c.self.invariant.0 in
    subst (λ n. All (λ (r : Registered). r.seq ≤ n) (all_entries (state_of c.self.inside).segments)) (sym kept.listed)
    kept.whole.within

pub overflow_add-index_mut : goal.overflow_add-index_mut
overflow_add-index_mut g c =
    let kept = c.self.invariant.0 in
    let place : c.args.caller - 1 < length c.self.inside.counts.items = let a = kept.callers in let b =
    c.requires.caller_from in let d = c.requires.caller_to in omega arith in
    let at : c.index_mut.result.now ≡ length (own (state_of c.self.inside).history c.args.caller) =
    counted c.self.inside.counts.items (c.args.caller - 1) c.index_mut.result.now
    (length (own (state_of c.self.inside).history c.args.caller)) place c.index_mut.ensures.value
    (kept.numbers c.args.caller c.requires.caller_from c.requires.caller_to) in
    let few = own_length (state_of c.self.inside).history c.args.caller in
    let short = kept.legal.short in
    omega arith

-- the registry after the command, as its fields hold it
abbrev next_of : (g : Over) → In_ok-changed g → RegistryState
next_of g c = record {
  segments = map arc_value c.in_ok-changed.changed.segments.items;
  history = c.in_ok-log.log.history;
  keeps = c.in_ok-log.log.keeps;
}

-- the command is accepted as the change of segments and roster says
accepted : (g : Over) (c : In_ok-changed g)
    → IsAccepted c.args.caller (command_of c.args.command.now) (state_of c.self.inside) (next_of g c)
    c.in_ok-changed.changed.applied
accepted g c =
    let h : History = (state_of c.self.inside).history in
    let command : model.Command = command_of c.args.command.now in
    let short : length h < MOST_ENTRIES = subst (λ (s : RegistryState). length s.history < MOST_ENTRIES)
    (sym c.self.view_is) c.requires.unended in
    let log : c.in_ok-log.log ≡ record c.self.inside.log { history = with_command h c.args.caller command } =
    c.in_ok-log.ensures
    ∙ ap (λ (e : model.HistoryEntry). record c.self.inside.log { history = h ++ e ∷ [] }) (c.in_ok-entry.ensures
    ∙ ap (λ (s : RegistryState). next_entry s.history c.args.caller command) (sym c.self.view_is)) in
    accepted_after (state_of c.self.inside) _ c.self.inside.roster
    (content c.in_ok-changed.changed.segments.items c.in_ok-changed.changed.roster) c.in_ok-changed.changed.applied
    c.self.inside.counts.items c.args.caller command
    c.self.invariant.0 short c.in_ok-changed.ensures.changed (λ i. record {
      segments =
          map arc_value c.in_ok-changed.changed.segments.items;
      history = (log i).history;
      keeps = (log i).keeps;
    })

pub invariant_of-next : goal.invariant_of-next
invariant_of-next g c =
    let kept = c.self.invariant.0 in
    let h : History = (state_of c.self.inside).history in
    let place : c.args.caller - 1 < length c.self.inside.counts.items = let a = kept.callers in let b =
    c.requires.caller_from in let d = c.requires.caller_to in omega arith in
    let at : c.index_mut.result.now ≡ length (own h c.args.caller) =
    counted c.self.inside.counts.items (c.args.caller - 1) c.index_mut.result.now (length (own h c.args.caller)) place
    c.index_mut.ensures.value (kept.numbers c.args.caller c.requires.caller_from c.requires.caller_to) in (
      consistent_after (state_of c.self.inside) _ c.self.inside.roster
          (content c.in_ok-changed.changed.segments.items c.in_ok-changed.changed.roster)
          c.in_ok-changed.changed.applied
          c.self.inside.counts.items c.args.caller (command_of c.args.command.now) c.index_mut.result.now kept
          c.requires.fits c.requires.caller_from c.requires.caller_to
          c.in_ok-changed.ensures.changed (accepted g (goal.at.invariant_of-next g c).In_ok-changed) at,
      c.in_ok-changed.ensures.flags,
    )

pub returns-clause-accepted : goal.returns-clause-accepted
returns-clause-accepted g c =
    subst (λ s. IsAccepted c.args.caller (command_of c.args.command.now) s (next_of g c)
    c.in_ok-changed.changed.applied) c.self.view_is (accepted g (goal.at.returns-clause-accepted g c).In_ok-changed)
