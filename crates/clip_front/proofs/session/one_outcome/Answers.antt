use Rattle.std.proofs.Common.{[]}
use Rattle.clip_stream.specs.Lines.{lines_of}
use Rattle.clip_front.proofs.OneOutcome.{gives_some, gives_once}
use Rattle.clip_front.proofs.session.one_outcome.Goals as goal

pub returns : goal.returns
returns c = record {
  some = λ hearers input. gives_some hearers 1 [] (lines_of input);
  one =
      λ hearers input outcome other a b. gives_once hearers 1 [] (lines_of input) outcome other a b;
}
