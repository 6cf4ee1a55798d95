-- Spans that don't end before they begin.
use Rattle.std.specs.Prelude.{◌≤◌}
use Rattle.clip_where.specs.declared.WordSpan.{WordSpan}

-- the span doesn't end before it begins
abbrev pub IsForward : WordSpan → Type 0
IsForward span = span.start ≤ span.end
