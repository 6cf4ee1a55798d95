use Rattle.std.proofs.Common.{◌≡◌, take}
use Rattle.clip_meaning.specs.Article.{pairs_of}
use Rattle.clip_engine.specs.Texts.{fields_of}
use Rattle.clip_engine.proofs.kept.texts_of.Given as goal

abbrev pub invariant-loop-field : goal.invariant-loop-field
invariant-loop-field l = pairs_of l.pairs.items ≡ fields_of (take l.field-index l.fields)
