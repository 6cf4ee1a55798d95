-- The words so far, with those of the clauses to come.
use Rattle.std.proofs.Common.{◌≡◌, ◌++◌, map, drop}
use Rattle.clip_grammar.specs.Tree.{tree_of}
use Rattle.clip_extract.specs.Keys.{key_of}
use Rattle.clip_plan.specs.Plan.{word_keys}
use Rattle.clip_plan.proofs.Words.{clauses_words}
use Rattle.clip_plan.proofs.word_keys.+add_word_keys.Given as goal

abbrev pub invariant-loop-child : goal.invariant-loop-child
invariant-loop-child l = map key_of l.keys.items ++ clauses_words (drop l.child-index l.child-items)
    ≡ map key_of l.fn.keys.items ++ word_keys (tree_of l.query)
