use Rattle.std.proofs.Common.{◌≡◌, ◌+◌, drop, length, encode_utf8_all}
use Rattle.clip_explain.proofs.cutting.byte_len.Given as goal

abbrev pub invariant-loop-c : goal.invariant-loop-c
invariant-loop-c l =
    l.len + length (encode_utf8_all (drop l.c-index l.chars)) ≡ length (encode_utf8_all l.chars)
