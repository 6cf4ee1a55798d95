use Rattle.std.proofs.Common.{◌≡◌, ◌≤◌, map, drop}
use Rattle.clip_explain.specs.Lexemes.{placed_of}
use Rattle.clip_remarks.specs.Kinds.{kinds, wants}
use Rattle.clip_remarks.specs.declared.kind.Kind.TheVariants.{Nothing}
use Rattle.clip_remarks.proofs.groups.wants.Given as goal

abbrev pub invariant-loop-lexeme : goal.invariant-loop-lexeme
invariant-loop-lexeme l = record {
  small : l.depth ≤ l.lexeme-index;
  later : wants l.depth l.before (kinds (map placed_of (drop l.lexeme-index l.rest)))
      ≡ wants 0 Nothing (kinds (map placed_of l.rest));
}
