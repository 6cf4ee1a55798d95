use Rattle.std.proofs.Common.{◌≡◌, ℕ, ◌+◌, ◌-◌, ◌<◌, length}
use Rattle.clip_terms.specs.Steps.Repeats.{AreRepeats, Returns, NoneBelow}
use Rattle.clip_terms.proofs.repeats.Repeats.of.Given as goal

abbrev pub invariant-loop-at : goal.invariant-loop-at
invariant-loop-at l = record {
  run : l.repeats.run.now ≡ l.run;
  repeats : AreRepeats l.repeats;
  some : 0 < l.at.start;
  within : (j : ℕ) → j < l.at.kept → l.at.start + j < length l.run;
  returns : Returns l.run l.at.start (l.at.start + l.at.kept);
  least : NoneBelow l.run l.at.start l.repeats.known;
}

abbrev pub decreases-loop-at : goal.decreases-loop-at
decreases-loop-at l = length l.run - l.at.start
