-- What is extracted of a group while its clauses are read.
use Rattle.std.specs.Prelude.{ℕ, Bool, true, false, min, max, nat_lt, List, ◌++◌, fold, take, drop, Option, Some, None}
use Rattle.std.specs.Prelude.{unwrap_or, if◌then◌else◌}
use Rattle.clip_grammar.specs.declared.query.Occur.{Occur}
use Rattle.clip_grammar.specs.declared.query.Occur.TheVariants.{Must, Should, MustNot}
use Rattle.clip_extract.specs.Keys.{KeyValue}
use Rattle.clip_extract.specs.Extraction.{Extracted, unnarrowed, heavier, together, heaviest, union, musts, shoulds}
use Rattle.clip_extract.specs.declared.extraction.FoundInGroup.{FoundInGroup}
use Rattle.clip_extract.specs.declared.extraction.FoundInGroup.TheVariants.{Nothing, Optional, Required}

-- what a list gives, with what was found before it, if anything was
abbrev pub go_on : (List Extracted → Option Extracted) → (Extracted → Extracted → Extracted) → Option Extracted
    → List Extracted → Option Extracted
go_on start step None es = start es
go_on start step (Some e) es = Some (fold step e es)

-- a group's clauses to come, after a Must child or Should children, or neither
unfoldable pub group_with : Option Extracted → Option Extracted → List (Occur × Extracted) → Extracted
group_with must should cs = unwrap_or (go_on heaviest heavier must (musts cs))
    (unwrap_or (go_on union together should (shoulds cs)) unnarrowed)

-- what is extracted of a group's clauses to come, after these keys of what was found
abbrev pub group_from : FoundInGroup → List KeyValue → List (Occur × Extracted) → Extracted
group_from Nothing keys cs = group_with None None cs
group_from (Optional weight) keys cs = group_with None (Some (record { keys = keys; weight = weight })) cs
group_from (Required weight) keys cs = group_with (Some (record { keys = keys; weight = weight })) None cs

-- what is found with one clause more, whose child has this weight
abbrev pub next_found : FoundInGroup → Occur → ℕ → FoundInGroup
next_found (Required best) Must weight = Required (max best weight)
next_found (Required best) Should weight = Required best
next_found (Required best) MustNot weight = Required best
next_found (Optional least) Must weight = Required weight
next_found (Optional least) Should weight = Optional (min least weight)
next_found (Optional least) MustNot weight = Optional least
next_found Nothing Must weight = Required weight
next_found Nothing Should weight = Optional weight
next_found Nothing MustNot weight = Nothing

-- a clause more can change what is found
abbrev pub counts : FoundInGroup → Occur → Bool
counts found Must = true
counts found MustNot = false
counts (Required best) Should = false
counts (Optional least) Should = true
counts Nothing Should = true

-- a Must child of this weight takes the place of what is found
abbrev pub outweighs : FoundInGroup → ℕ → Bool
outweighs (Required best) weight = nat_lt best weight
outweighs (Optional least) weight = true
outweighs Nothing weight = true

-- of the keys before and those of one clause more, the keys that are kept
abbrev pub kept : FoundInGroup → Occur → ℕ → (before more : List KeyValue) → List KeyValue
kept found Must weight before more = if outweighs found weight then more else before
kept found Should weight before more = before ++ more
kept found MustNot weight before more = before ++ more

-- of a group's keys, which begin at `start`, those that are kept where those of one clause more begin at `middle`
abbrev pub kept_from : FoundInGroup → Occur → ℕ → (start middle : ℕ) → List KeyValue → List KeyValue
kept_from found occur weight start middle keys =
    kept found occur weight (drop start (take middle keys)) (drop middle keys)
