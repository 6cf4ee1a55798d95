use Rattle.std.proofs.Common.{◌≡◌, ◌≤◌, Bool, List, length, map, replicate, true, sym, ap, subst, ◌∙◌, arith}
use Rattle.std.proofs.lemmas.List.Elements.{same_from_all_zip}
use Rattle.std.specs.Arc.{arc_value}
use Rattle.clip_merge.specs.Live.{named}
use Rattle.clip_indexed.specs.Segment.{IsRising, all_entries}
use Rattle.clip_indexed.specs.Selecting.{count_set, kept_of}
use Rattle.clip_indexed.specs.declared.segment.TheConstants.{MOST_POSITIONS}
use Rattle.clip_model.specs.History.{Registered}
use Rattle.clip_registry.specs.Merging.{merge_of}
use Rattle.clip_registry.specs.Steps.LiveFlags.{flags_by, flags_of}
use Rattle.clip_standing.proofs.Clones.{map_shared}
use Rattle.clip_registry.proofs.Clearing.{all_picked}
use Rattle.clip_registry.proofs.LiveFlags.{shape_of}
use Rattle.clip_registry.proofs.Naming.{named_picked}
use Rattle.clip_registry.proofs.Picked.{count_picked, kept_by, picked}
use Rattle.clip_registry.proofs.Rising.{rising_filter}
use Rattle.clip_registry.proofs.merging.MergeJob.run.Given.{Over}
use Rattle.clip_registry.proofs.merging.MergeJob.run.Goals as goal
use Rattle.clip_registry.proofs.merging.MergeJob.run.Goals.{After-deref-2}

abbrev of_job : (g : Over) → After-deref-2 g → List (List Registered)
of_job g c = map arc_value c.self.inside.sources.items

shared : (g : Over) (c : After-deref-2 g) → map arc_value c.deref.result.now ≡ of_job g c
shared g c = ap (map arc_value) c.deref.ensures.value

flagged : (g : Over) (c : After-deref-2 g) → c.deref-2.result.now ≡ flags_by c.self.invariant.is (of_job g c)
flagged g c = c.deref-2.ensures.value ∙ c.self.invariant.flagged

-- the entries that are kept
kept : (g : Over) (c : After-deref-2 g) → kept_of (map arc_value c.deref.result.now) c.deref-2.result.now
    ≡ picked c.self.invariant.is (all_entries (of_job g c))
kept g c = (λ i. kept_of (shared g c i) (flagged g c i)) ∙ kept_by c.self.invariant.is (of_job g c)

pub select_live-requires-clause-flags : goal.select_live-requires-clause-flags
select_live-requires-clause-flags g c =
    ap (map length) (flagged g c) ∙ shape_of c.self.invariant.is (of_job g c) ∙ ap (map length) (sym (shared g c))

pub select_live-requires-clause-short : goal.select_live-requires-clause-short
select_live-requires-clause-short g c =
    subst (λ n. n ≤ MOST_POSITIONS) (sym (ap count_set (flagged g c) ∙ count_picked c.self.invariant.is (of_job g c)))
    c.self.invariant.short

pub select_live-requires-clause-rising : goal.select_live-requires-clause-rising
select_live-requires-clause-rising g c =
    subst IsRising (sym (kept g c))
    (rising_filter (λ r. c.self.invariant.is r.seq) (all_entries (of_job g c)) c.self.invariant.rising)

pub invariant_of-result : goal.invariant_of-result
invariant_of-result g c =
    let is = c.self.invariant.is in
    let sources = map_shared c.self.inside.sources.items c.in_ok-clone.field-0.items c.in_ok-clone.ensures.cases.0 in
    let flags : c.in_ok-clone-2.field-0.items ≡ c.self.inside.flags.items =
    same_from_all_zip (λ (x y : List Bool). y ≡ x) _ _ c.in_ok-clone-2.ensures.cases.0 (λ x y e. e) in
    let entries = c.in_ok-segment.ensures.entries ∙ kept g (goal.at.invariant_of-result g c).After-deref-2 in
    record {
      some = let same = ap length sources in let some = c.self.invariant.some in omega arith;
      rising = subst (λ (ss : List (List Registered)). IsRising (all_entries ss)) (sym sources) c.self.invariant.rising;
      is = is;
      flagged = flags ∙ c.self.invariant.flagged ∙ ap (flags_by is) (sym sources);
      picked = entries ∙ ap (λ ss. picked is (all_entries ss)) (sym sources);
      all = c.in_ok-segment.ensures.set ∙ ap (λ (es : List Registered). replicate (length es) true) entries
          ∙ all_picked is (all_entries (map arc_value c.self.inside.sources.items)) ∙ ap (flags_of is) (sym entries);
    }

pub returns : goal.returns
returns g c =
    let is = c.self.invariant.is in
    let all = map arc_value c.self.inside.sources.items in
    let sources = map_shared c.self.inside.sources.items c.in_ok-clone.field-0.items c.in_ok-clone.ensures.cases.0 in
    let entries = c.in_ok-segment.ensures.entries ∙ kept g (goal.at.returns g c).After-deref-2 in
    let seqs = λ (rs : List Registered). map (λ (r : Registered). r.seq) rs in
    let named_here : named (seqs (kept_of all c.self.inside.flags.items)) (all_entries all)
    ≡ picked is (all_entries all) =
    ap (λ rs. named (seqs rs) (all_entries all)) (ap (kept_of all) c.self.invariant.flagged ∙ kept_by is all)
    ∙ named_picked is (all_entries all) in
    (λ i. record { sources = sources i; entries = (entries ∙ sym named_here) i }) ∙ ap merge_of c.self.view_is
