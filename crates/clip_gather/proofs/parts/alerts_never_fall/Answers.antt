use Rattle.clip_gather.proofs.Numbered.{never_fall}
use Rattle.clip_gather.proofs.parts.alerts_never_fall.Goals as goal

pub returns : goal.returns
returns c = never_fall
