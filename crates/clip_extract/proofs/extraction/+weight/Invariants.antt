use Rattle.std.proofs.Common.{◌≡◌, [], drop}
use Rattle.clip_grammar.specs.Tree.{tree_of}
use Rattle.clip_extract.specs.Extraction.{query_weight}
use Rattle.clip_extract.specs.Steps.Groups.{group_from}
use Rattle.clip_extract.proofs.Groups.{extracts_of}
use Rattle.clip_extract.proofs.extraction.+weight.Given as goal

abbrev pub invariant-loop-occur : goal.invariant-loop-occur
invariant-loop-occur l = (group_from l.found [] (extracts_of (drop l.occur-index l.occur-items))).weight
    ≡ query_weight (tree_of l.query)
