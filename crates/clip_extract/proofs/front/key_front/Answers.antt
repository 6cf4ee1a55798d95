use Rattle.std.proofs.Common.{[], ap, ◌∙◌}
use Rattle.std.proofs.lemmas.Str.{IsUtf8-nil}
use Rattle.clip_extract.specs.Steps.Fronts.{last_of}
use Rattle.clip_extract.proofs.FrontsOfWords.{longest_front}
use Rattle.clip_extract.proofs.front.key_front.Goals as goal

pub loop-front-init : goal.loop-front-init
loop-front-init c = (IsUtf8-nil, ap (last_of []) c.of-fronts.ensures ∙ longest_front c.args.text.now)
