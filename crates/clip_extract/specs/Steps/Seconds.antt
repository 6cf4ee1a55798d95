-- The two heaviest of a group's children while its clauses are read.
use Rattle.std.specs.Prelude.{nat_lt, Option, Some, None, option_map, if◌then◌else◌}
use Rattle.clip_grammar.specs.Tree.{tree_of}
use Rattle.clip_extract.specs.Extraction.{Extracted, extract, heavier}
use Rattle.clip_extract.specs.declared.second.Ranking.{Ranking}
use Rattle.clip_extract.specs.declared.weighed.Weighed.{Weighed}

-- the heaviest of a group's children, and the heaviest of the others
abbrev pub Ranked : Type 0
Ranked = Option Extracted × Option Extracted

-- the heavier of what was found, if anything was, and of the next
abbrev pub heavier_of : Option Extracted → Extracted → Extracted
heavier_of None e = e
heavier_of (Some standing) e = heavier standing e

-- the two heaviest with one child more
abbrev pub next_of : (first second : Option Extracted) → Extracted → Ranked
next_of None second e = (Some e, None)
next_of (Some best) second e =
    if nat_lt best.weight e.weight then (Some e, Some best) else (Some best, Some (heavier_of second e))

abbrev pub next_ranked : Ranked → Extracted → Ranked
next_ranked ranked e = next_of ranked.0 ranked.1 e

-- what is extracted of the query that the code keeps, and of the two heaviest
abbrev pub weighed : Weighed → Extracted
weighed w = extract (tree_of w.query.now)

abbrev pub ranked : Ranking → Ranked
ranked r = (option_map weighed r.first, option_map weighed r.second)
