-- The lists of a line: the name of the member that has one, and what may be wrong with it.
use Rattle.std.specs.Prelude.{ℕ, List, Option}
use Rattle.serde_json.specs.Data.{Data}
use Rattle.clip_cause.specs.Faults.{Fault, or_else}
use Rattle.clip_cause.specs.Names.{articles, ids, queries}
use Rattle.clip_cause.specs.Shapes.{article_fault, list_in, names_fault, query_fault, text_fault}
use Rattle.clip_cause.specs.declared.shape.Listed.{Listed}
use Rattle.clip_cause.specs.declared.shape.Listed.TheVariants.{Queries, Ids, Articles}

abbrev pub listed_name : Listed → List ℕ
listed_name Queries = queries
listed_name Ids = ids
listed_name Articles = articles

abbrev pub item_fault : Listed → Data → Option Fault
item_fault Queries d = query_fault d
item_fault Ids d = text_fault d
item_fault Articles d = article_fault d

-- of a line of members of these names, one of which has the list
abbrev pub listing_fault : List (List ℕ) → Listed → Data → Option Fault
listing_fault names listed d = or_else (names_fault names names d) (list_in (listed_name listed) (item_fault listed) d)
