use Rattle.std.proofs.Common.{[]}
use Rattle.clip_front.proofs.Following.{follows_some, follows_once}
use Rattle.clip_front.proofs.kept.one_beginning.Goals as goal

pub returns : goal.returns
returns c = record {
  some = λ names kept. follows_some names [] kept;
  one = λ names kept begins other a b. follows_once names [] kept begins other a b;
}
