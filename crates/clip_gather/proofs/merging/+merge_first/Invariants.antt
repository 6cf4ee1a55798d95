use Rattle.clip_gather.proofs.merging.+merge_first.Given as goal

abbrev pub decreases-merge_first : goal.decreases-merge_first
decreases-merge_first g l = l.count
