use Rattle.std.proofs.Common.{◌≡◌, ◌++◌, IsUtf8, string_bytes}
use Rattle.std.specs.Str.Iter.{chars_rest}
use Rattle.clip_explain.specs.Spelling.{escaped}
use Rattle.clip_explain.proofs.spelling.push_escaped.Given as goal

abbrev pub invariant-loop-c : goal.invariant-loop-c
invariant-loop-c l = IsUtf8 (chars_rest l.c-iterator)
    × (string_bytes l.spelled ++ escaped l.quoted (chars_rest l.c-iterator)
    ≡ string_bytes l.fn.spelled ++ escaped l.quoted l.fn.text)
