use Rattle.std.proofs.Common.{◌≡◌, ℕ, ◌+◌, ◌<◌, ◌≤◌, ◌||◌, map, length, drop, get_or}
use Rattle.clip_grammar.specs.Tree.{tree_of}
use Rattle.clip_meaning.specs.Steps.Marks.{is_up}
use Rattle.clip_plan.specs.Steps.Judging.{meant}
use Rattle.clip_plan.specs.Steps.Naming.{excluded_at, marks_name}
use Rattle.clip_plan.proofs.naming.mark_by.Given as goal

-- what the steps from `left` on name is raised
abbrev pub invariant-loop-left : goal.invariant-loop-left
invariant-loop-left l = record {
  within : l.left ≤ length l.steps;
  few : l.excluded + l.left ≤ length l.steps;
  long : length l.flags ≡ length l.fn.flags;
  counted : l.excluded ≡ excluded_at (map (meant l.runs (map tree_of l.queries) l.spots.terms) (drop l.left l.steps)) 0;
  raised : (k : ℕ) → k < length l.fn.flags
      → is_up (get_or l.flags k 0)
      ≡ (is_up (get_or l.fn.flags k 0)
      || marks_name l.spots.field k (map (meant l.runs (map tree_of l.queries) l.spots.terms) (drop l.left l.steps)) 0);
}

abbrev pub decreases-loop-left : goal.decreases-loop-left
decreases-loop-left l = l.left
