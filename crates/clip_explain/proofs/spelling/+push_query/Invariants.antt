use Rattle.std.proofs.Common.{◌≡◌, ◌++◌, true, string_bytes}
use Rattle.clip_explain.proofs.ClausesSpelled.{spelled_from}
use Rattle.clip_explain.proofs.spelling.+push_query.Given as goal

abbrev pub invariant-loop-occur : goal.invariant-loop-occur
invariant-loop-occur l =
    string_bytes l.spelled ++ spelled_from l.first l.occur-index l.occur-items
    ≡ string_bytes l.initial.spelled ++ spelled_from true 0 l.occur-items
