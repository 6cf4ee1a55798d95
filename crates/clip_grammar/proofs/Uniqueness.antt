-- A text is read in one way at most.
use Rattle.std.proofs.Common.{◌≡◌, sym, ap, ◌∙◌}
use Rattle.std.specs.Str.{chars}
use Rattle.clip_grammar.specs.Tokens.{tokens_of}
use Rattle.clip_grammar.specs.Laws.{OneTree}
use Rattle.clip_grammar.specs.Shape.{written_tree}
use Rattle.clip_grammar.proofs.Lexing.{one_lexing}
use Rattle.clip_grammar.proofs.Parsing.{one_written}

pub one_tree : OneTree
one_tree text p q a b =
    let ls = one_lexing (chars text) a.lexemes b.lexemes a.lexes b.lexes in
    let ws : a.written ≡ b.written = one_written a.written b.written (a.shape ∙ ap tokens_of ls ∙ sym b.shape) in
    a.is_tree ∙ ap written_tree ws ∙ sym b.is_tree
