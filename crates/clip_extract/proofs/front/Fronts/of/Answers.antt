use Rattle.std.proofs.lemmas.Str.{IsCharBoundary-start}
use Rattle.clip_extract.proofs.FrontsOfWords.{first_fronts}
use Rattle.clip_extract.proofs.front.Fronts.of.Goals as goal

pub invariant_of-result : goal.invariant_of-result
invariant_of-result c = IsCharBoundary-start c.args.word.now c.utf8.word

pub returns : goal.returns
returns c = first_fronts c.args.word.now
