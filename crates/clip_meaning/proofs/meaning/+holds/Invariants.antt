use Rattle.std.proofs.Common.{◌≡◌, drop}
use Rattle.clip_meaning.specs.Steps.Tally.{group_with}
use Rattle.clip_grammar.specs.Tree.{tree_of}
use Rattle.clip_meaning.specs.Meaning.{holds}
use Rattle.clip_meaning.proofs.Groups.{verdicts_of}
use Rattle.clip_meaning.proofs.meaning.+holds.Given as goal

abbrev pub invariant-loop-occur : goal.invariant-loop-occur
invariant-loop-occur l =
    group_with l.tally.has_must l.tally.has_should (verdicts_of l.article.fields (drop l.occur-index l.occur-items))
    ≡ holds (tree_of l.query) l.article.fields
