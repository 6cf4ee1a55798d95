use Rattle.std.proofs.Common.{◌≡◌, map}
use Rattle.clip_extract.specs.Keys.{key_of}
use Rattle.clip_extract.proofs.sorting.led_keys.Given as goal

abbrev pub invariant-loop-key : goal.invariant-loop-key
invariant-loop-key l = l.led.items ≡ map key_of l.yielded
