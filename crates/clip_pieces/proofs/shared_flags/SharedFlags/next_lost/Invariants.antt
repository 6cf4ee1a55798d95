use Rattle.std.proofs.Common.{◌≡◌, ℕ, ◌*◌, ◌<◌, ◌≤◌, false}
use Rattle.clip_pieces.specs.Marked.{is_lost}
use Rattle.clip_pieces.proofs.shared_flags.SharedFlags.next_lost.Given as goal

abbrev pub invariant-loop-word : goal.invariant-loop-word
invariant-loop-word l = (place : ℕ) → l.from ≤ place → place < 64 * l.word → is_lost l.self l.others place ≡ false
