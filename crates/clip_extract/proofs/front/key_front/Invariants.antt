use Rattle.std.proofs.Common.{◌≡◌, length}
use denote.Text.{Utf8}
use denote.Shadow.{shadow}
use Rattle.clip_extract.specs.Fronts.{key_front}
use Rattle.clip_extract.specs.Steps.Fronts.{last_of}
use Rattle.clip_extract.proofs.front.key_front.Given as goal

abbrev pub invariant-loop-front : goal.invariant-loop-front
invariant-loop-front l = shadow (Utf8 l.longest) × (last_of l.longest l.fronts ≡ key_front l.text)

abbrev pub decreases-loop-front : goal.decreases-loop-front
decreases-loop-front l = length l.fronts
