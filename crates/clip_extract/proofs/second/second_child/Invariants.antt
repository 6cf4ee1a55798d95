use Rattle.std.proofs.Common.{◌≡◌, drop, fold, None}
use Rattle.clip_extract.specs.Extraction.{musts}
use Rattle.clip_extract.specs.Steps.Seconds.{next_ranked, ranked}
use Rattle.clip_extract.proofs.Groups.{extracts_of}
use Rattle.clip_extract.proofs.second.second_child.Given as goal

abbrev pub invariant-loop-occur : goal.invariant-loop-occur
invariant-loop-occur l =
    fold next_ranked (ranked l.ranking) (musts (extracts_of (drop l.occur-index l.occur-items)))
    ≡ fold next_ranked (None, None) (musts (extracts_of l.occur-items))
