-- Spans that stand apart don't end before they begin.
use Rattle.std.proofs.Common.{◌≡◌, ℕ, ◌<◌, ◌≤◌, List, [], ◌∷◌, arith}
use Rattle.std.specs.List.{All}
use Rattle.std.proofs.lemmas.List.Elements.{All-nil, All-cons}
use Rattle.clip_where.specs.Spans.{AreApart}
use Rattle.clip_where.specs.declared.WordSpan.{WordSpan}
use Rattle.clip_explain_lines.specs.Steps.Forward.{IsForward}

pub all_forward : (from : ℕ) (spans : List WordSpan) → AreApart from spans → All IsForward spans
all_forward from [] apart = All-nil IsForward
all_forward from (span ∷ spans) apart =
    All-cons IsForward span spans (omega (arith, apart.1)) (all_forward span.end spans apart.2)
