use Rattle.std.proofs.Common.{◌≡◌, ◌≤◌, rules, sym, ap, subst, ◌∙◌, arith, length, map, string_bytes}
use Rattle.std.specs.Arc.{arc_value}
use Rattle.std.specs.FinMap as finite
use Rattle.std.specs.FinMap.{len-empty}
use Rattle.clip_words.specs.Order.{bytes_cmp}
use Rattle.clip_model.specs.History.{Registered, is_live_in}
use Rattle.clip_model.proofs.Counting.{len_removed}
use Rattle.clip_registry.specs.Steps.LiveFlags.{flags_by, without_all}
use Rattle.clip_registry.specs.Steps.Roster.{Roster, has_or_awaits}
use Rattle.clip_registry.proofs.Gone.{flags_had, flags_left}
use Rattle.clip_registry.proofs.LiveFlags.{shape_of}
use Rattle.clip_registry.proofs.change.change.Given.{Over}
use Rattle.clip_registry.proofs.change.change.Goals as goal
use Rattle.clip_registry.proofs.change.change.Goals.{After-len}

fewer : (g : Over) (c : After-len g)
    → finite.len c.in_ok-roster-in-Delete.roster.registry ≤ finite.len c.args.roster.registry
fewer g c = subst (λ (r : Roster). finite.len r.registry ≤ finite.len c.args.roster.registry)
    (sym c.in_ok-roster-in-Delete.ensures.roster)
    (len_removed (map string_bytes c.deref-in-Delete.result.now) c.args.roster.registry)

pub overflow_sub-applied : goal.overflow_sub-applied
overflow_sub-applied g c = let a = fewer g c in let b = c.len.ensures in let d = c.len-before.ensures in omega arith

pub clear_each-requires : goal.clear_each-requires
clear_each-requires g c =
    ap (map length) c.requires.flags
    ∙ shape_of (is_live_in c.args.roster.registry) (map arc_value c.args.segments.items)
    ∙ ap (λ ss. map length (map arc_value ss)) (sym c.deref-in-Delete-2.ensures.value)

pub returns-in_ok-clear_each-in-Delete-clause-changed : goal.returns-in_ok-clear_each-in-Delete-clause-changed
returns-in_ok-clear_each-in-Delete-clause-changed g c = record {
  registry = search rules;
  listed = search rules;
  segments = search rules;
  small = let a = fewer g (goal.at.returns-in_ok-clear_each-in-Delete-clause-changed g c).After-len in
      let b = c.requires.small in omega arith;
  answer = search rules;
}

pub returns-in_ok-clear_each-in-Delete-clause-flags : goal.returns-in_ok-clear_each-in-Delete-clause-flags
returns-in_ok-clear_each-in-Delete-clause-flags g c =
    let before = c.args.roster in
    let after = c.in_ok-roster-in-Delete.roster in
    let segments = map arc_value c.args.segments.items in
    let more : before.listed ≤ after.listed =
    let same = ap (λ (r : Roster). r.listed) c.in_ok-roster-in-Delete.ensures.roster in omega arith in
    c.in_ok-clear_each-in-Delete.ensures (has_or_awaits before)
    (c.requires.flags ∙ flags_had before segments c.requires.within
    ∙ ap (λ ss. flags_by (has_or_awaits before) (map arc_value ss)) (sym c.deref-in-Delete-2.ensures.value))
    ∙ (λ i. flags_by (without_all (c.deref-in-Delete-3.ensures.value i) (has_or_awaits before))
    (map arc_value (c.deref-in-Delete-2.ensures.value i)))
    ∙ flags_left before after c.in_ok-roster-in-Delete.gone.items segments c.in_ok-roster-in-Delete.ensures.gone more
    c.requires.within

pub returns-in-Clear-clause-changed : goal.returns-in-Clear-clause-changed
returns-in-Clear-clause-changed g c = record {
  registry = search rules;
  listed = search rules;
  segments = search rules;
  small = let a : finite.len c.new-in-Clear.result.registry ≡ 0 =
      ap (λ (r : Roster). finite.len r.registry) c.new-in-Clear.ensures ∙ len-empty bytes_cmp Registered in omega arith;
  answer = search rules;
}
