use Rattle.std.proofs.Common.{◌≡◌, ◌++◌, map, length}
use Rattle.clip_syntax.specs.Steps.Items.{items_words, words_of_items}
use Rattle.clip_syntax.specs.Steps.TokenOf.{token_of}
use Rattle.clip_syntax.proofs.Wording.{lacks}
use Rattle.clip_syntax.proofs.words.item_words.Given as goal

abbrev pub invariant-loop-token : goal.invariant-loop-token
invariant-loop-token l =
    (words_of_items l.items.items ++ items_words (map token_of l.rest) ≡ items_words (map token_of l.tokens))
    × (lacks (map token_of l.rest) ≡ lacks (map token_of l.tokens))

abbrev pub decreases-loop-token : goal.decreases-loop-token
decreases-loop-token l = length l.rest
