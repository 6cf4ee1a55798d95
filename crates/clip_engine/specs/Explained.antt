-- Where words stand, as bytes.
use Rattle.std.specs.Prelude.{ℕ, List, ◌++◌, flat_map}
use Rattle.clip_where.specs.declared.WordSpan.{WordSpan}
use Rattle.clip_engine.specs.Found.{number_bytes}

-- the first byte of a word, and the byte behind its last one
abbrev pub span_bytes : WordSpan → List ℕ
span_bytes span = number_bytes span.start ++ number_bytes span.end

-- those of each word, in order
abbrev pub spans_bytes : List WordSpan → List ℕ
spans_bytes spans = flat_map span_bytes spans
