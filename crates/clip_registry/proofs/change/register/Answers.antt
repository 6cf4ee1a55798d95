use Rattle.std.proofs.Common.{◌≡◌, ◌+◌, ◌++◌, ◌∷◌, [], ◌<◌, ◌≤◌, ℕ, sym, ap, ap₂, subst, ◌∙◌, arith, List, true}
use Rattle.std.proofs.Common.{false, length, map, filter, replicate, ◌==◌}
use Rattle.std.proofs.lemmas.Bool.Decides.{nat_tests}
use Rattle.std.proofs.lemmas.List.{map-append, length-map, nil_from_length}
use Rattle.std.specs.Arc.{arc_value}
use Rattle.std.specs.FinMap as finite
use Rattle.clip_indexed.specs.Segment.{IsRising}
use Rattle.clip_model.specs.declared.limits.TheConstants.{MOST_LIVE}
use Rattle.clip_model.specs.History.{Register, Registered, register_all, is_live_in}
use Rattle.clip_standing.specs.declared.command.Applied.TheVariants as applied
use Rattle.clip_registry.specs.Steps.Change.{content, IsChanged}
use Rattle.clip_registry.specs.Steps.LiveFlags.{flags_by, flags_in, flags_of, without_all}
use Rattle.clip_registry.specs.Steps.Roster.{Roster, SeqsFollow, has_or_awaits, roster_with_all}
use Rattle.clip_registry.specs.RegistryState.{numbered, standing_after}
use Rattle.clip_registry.proofs.Clearing.{all_picked}
use Rattle.clip_registry.proofs.Entered.{segments_register, nothing_registered}
use Rattle.clip_registry.proofs.Distinct.{count_distinct}
use Rattle.clip_registry.proofs.Gone.{flags_had, flags_left, those_left}
use Rattle.clip_registry.proofs.LiveFlags.{shape_of}
use Rattle.clip_registry.proofs.Picked.{picked}
use Rattle.clip_registry.proofs.Registering.{insert_all-numbered, numbered_follow}
use Rattle.clip_registry.proofs.Rising.{numbered_rising}
use Rattle.clip_registry.proofs.Whole.{length-numbered}
use Rattle.clip_registry.proofs.change.register.Given.{Over}
use Rattle.clip_registry.proofs.change.register.Goals as goal
use Rattle.clip_registry.proofs.change.register.Goals.{In_ok-roster, In_ok-segment}

no_length : (n : ℕ) → true ≡ (n == 0) → n ≡ 0
no_length n h = grind (arith, nat_tests)

some_length : (n : ℕ) → false ≡ (n == 0) → 0 < n
some_length n h = grind (arith, nat_tests)

pub returns-then-is_empty-clause-changed : goal.returns-then-is_empty-clause-changed
returns-then-is_empty-clause-changed g c =
    let none : c.args.standings.now ≡ [] =
    nil_from_length c.args.standings.now (no_length (length c.args.standings.now) c.if-is_empty.ensures) in
    let before = content c.args.segments.items c.args.roster in
    subst (λ ss. IsChanged (Register (map arc_value ss)) before before (applied.Registered 0)) (sym none)
    (nothing_registered before c.requires.small)

pub with_entries-requires : goal.with_entries-requires
with_entries-requires g c =
    let ss = map arc_value c.args.standings.now in
    subst (SeqsFollow c.args.roster.listed)
    (sym (ap (map arc_value) c.deref.ensures.value ∙ c.in_ok-entries.ensures
    ∙ ap (λ k. numbered k ss) c.listed.ensures.listed))
    (numbered_follow c.args.roster.listed ss)

-- the entries are those of the list, numbered after those listed
numbers : (g : Over) (c : In_ok-roster g) → map arc_value c.in_ok-entries.entries.items
    ≡ numbered c.args.roster.listed (map arc_value c.args.standings.now)
numbers g c =
    c.in_ok-entries.ensures ∙ ap (λ k. numbered k (map arc_value c.args.standings.now)) c.listed.ensures.listed

-- they are in the roster
entered : (g : Over) (c : In_ok-roster g) → c.in_ok-roster.roster
    ≡ roster_with_all c.args.roster (numbered c.args.roster.listed (map arc_value c.args.standings.now))
entered g c = c.in_ok-roster.ensures.roster
    ∙ ap (roster_with_all c.args.roster) (ap (map arc_value) c.deref.ensures.value ∙ numbers g c)

registry : (g : Over) (c : In_ok-roster g) → c.in_ok-roster.roster.registry
    ≡ register_all c.args.roster.listed (map arc_value c.args.standings.now) c.args.roster.registry
registry g c = ap (λ (r : Roster). r.registry) (entered g c)
    ∙ insert_all-numbered c.args.roster.listed (map arc_value c.args.standings.now) c.args.roster.registry

listed : (g : Over) (c : In_ok-roster g) → c.in_ok-roster.roster.listed
    ≡ c.args.roster.listed + length (map arc_value c.args.standings.now)
listed g c = ap (λ (r : Roster). r.listed) (entered g c)
    ∙ ap (λ k. c.args.roster.listed + k) (length-numbered c.args.roster.listed (map arc_value c.args.standings.now))

pub returns-then-len-gt-MOST_LIVE-clause-full : goal.returns-then-len-gt-MOST_LIVE-clause-full
returns-then-len-gt-MOST_LIVE-clause-full g c _ =
    let many = c.if-len-gt-MOST_LIVE.true in
    let count = c.len.ensures in
    subst (λ m. MOST_LIVE < finite.len m)
    (registry g (goal.at.returns-then-len-gt-MOST_LIVE-clause-full g c).In_ok-roster) (omega arith)

pub clear_each-requires : goal.clear_each-requires
clear_each-requires g c =
    let m = c.args.roster.registry in
    let segments = map arc_value c.args.segments.items in
    ap (map length) c.requires.flags ∙ shape_of (is_live_in m) segments
    ∙ ap (λ ss. map length (map arc_value ss)) (sym c.deref-2.ensures.value)

pub standing_segment-requires-clause-short : goal.standing_segment-requires-clause-short
standing_segment-requires-clause-short g c =
    let ss = map arc_value c.args.standings.now in
    let here = (goal.at.standing_segment-requires-clause-short g c).In_ok-roster in
    let as_many = length-map c.in_ok-entries.entries.items arc_value in
    omega (
      arith,
      as_many,
      ap length (numbers g here),
      length-numbered c.args.roster.listed ss,
      length-map c.args.standings.now arc_value,
      c.requires.fits,
    )

pub standing_segment-requires-clause-rising : goal.standing_segment-requires-clause-rising
standing_segment-requires-clause-rising g c =
    subst IsRising (sym (numbers g (goal.at.standing_segment-requires-clause-rising g c).In_ok-roster))
    (numbered_rising c.args.roster.listed (map arc_value c.args.standings.now))

-- the new segment has those of them that stand
stood : (g : Over) (c : In_ok-segment g)
    → map arc_value c.in_ok-entries.entries.items
    ≡ numbered c.args.roster.listed (map arc_value c.args.standings.now)
    → c.in_ok-roster.roster.listed ≡ c.args.roster.listed + length (map arc_value c.args.standings.now)
    → c.in_ok-segment.segment.value
    ≡ picked (is_live_in c.in_ok-roster.roster.registry)
    (numbered c.args.roster.listed (map arc_value c.args.standings.now))
stood g c are count =
    c.in_ok-segment.ensures.entries
    ∙ (λ i. filter (λ (r : Registered). without_all (c.deref-4.ensures.value i) (λ _. true) r.seq) (are i))
    ∙ those_left c.args.roster c.in_ok-roster.roster c.in_ok-roster.gone.items (map arc_value c.args.standings.now)
    c.in_ok-roster.ensures.gone count

pub returns-clause-changed : goal.returns-clause-changed
returns-clause-changed g c =
    let ss = map arc_value c.args.standings.now in
    let n = c.args.roster.listed in
    let m = c.args.roster.registry in
    let here = (goal.at.returns-clause-changed g c).In_ok-roster in
    let segments = map arc_value c.args.segments.items in
    let standing : c.in_ok-segment.segment.value ≡ standing_after n ss m =
    stood g (goal.at.returns-clause-changed g c).In_ok-segment (numbers g here) (listed g here)
    ∙ ap (λ k. picked (is_live_in k) (numbered n ss)) (registry g here) in
    let some : 0 < length ss = let a = length-map c.args.standings.now arc_value in let b =
    some_length (length c.args.standings.now) c.if-is_empty.ensures in omega arith in
    record {
      registry = registry g here;
      listed = listed g here;
      segments = ap (map arc_value) c.in_ok-push.ensures.items
          ∙ map-append arc_value c.args.segments.items (c.in_ok-segment.segment ∷ [])
          ∙ ap (λ s. segments ++ s ∷ []) standing ∙ sym (segments_register segments n m ss some);
      small = let few = c.if-len-gt-MOST_LIVE.false in let count = c.len.ensures in omega arith;
      answer = ap applied.Registered (c.len-count.ensures ∙ ap length (c.deref-5.ensures ∙ standing)
          ∙ count_distinct n ss m c.listed.ensures.numbered);
    }

pub returns-clause-flags : goal.returns-clause-flags
returns-clause-flags g c =
    let ss = map arc_value c.args.standings.now in
    let before = c.args.roster in
    let after = c.in_ok-roster.roster in
    let is = is_live_in after.registry in
    let here = (goal.at.returns-clause-flags g c).In_ok-roster in
    let segments = map arc_value c.args.segments.items in
    let new = c.in_ok-segment.segment.value in
    let standing = stood g (goal.at.returns-clause-flags g c).In_ok-segment (numbers g here) (listed g here) in
    let more : before.listed ≤ after.listed = let count = listed g here in omega arith in
    let left : c.clear_each.new.live.items ≡ flags_in after.registry segments =
    c.in_ok-clear_each.ensures (has_or_awaits before)
    (c.requires.flags ∙ flags_had before segments c.requires.within
    ∙ ap (λ ss. flags_by (has_or_awaits before) (map arc_value ss)) (sym c.deref-2.ensures.value))
    ∙ (λ i. flags_by (without_all (c.deref-3.ensures.value i) (has_or_awaits before))
    (map arc_value (c.deref-2.ensures.value i)))
    ∙ flags_left before after c.in_ok-roster.gone.items segments c.in_ok-roster.ensures.gone more c.requires.within in
    let set : c.in_ok-segment.flags ≡ flags_of is new =
    c.in_ok-segment.ensures.set ∙ ap (λ (rs : List Registered). replicate (length rs) true) standing
    ∙ all_picked is (numbered before.listed ss) ∙ ap (flags_of is) (sym standing) in
    c.in_ok-push-2.ensures.items
    ∙ ap₂ (λ fs f. fs ++ f ∷ []) left set
    ∙ sym (map-append (flags_of is) segments (new ∷ []))
    ∙ ap (flags_in after.registry) (sym (ap (map arc_value) c.in_ok-push.ensures.items
    ∙ map-append arc_value c.args.segments.items (c.in_ok-segment.segment ∷ [])))
