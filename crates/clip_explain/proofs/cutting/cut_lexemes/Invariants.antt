use Rattle.std.proofs.Common.{length, map}
use Rattle.clip_explain.specs.Lexemes.{placed_of}
use Rattle.clip_explain.specs.Steps.Cutting.{IsCutting}
use Rattle.clip_explain.proofs.cutting.cut_lexemes.Given as goal

abbrev pub invariant-loop-lexemes : goal.invariant-loop-lexemes
invariant-loop-lexemes l = IsCutting l.text (map placed_of l.lexemes.items) l.rest l.start

abbrev pub decreases-loop-lexemes : goal.decreases-loop-lexemes
decreases-loop-lexemes l = length l.rest
