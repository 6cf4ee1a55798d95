use Rattle.std.proofs.Common.{◌≡◌, drop}
use Rattle.std.specs.List.{list_any}
use Rattle.std.specs.Str.{bytes_eq}
use Rattle.clip_meaning.specs.Article.{names, pairs_of}
use Rattle.clip_meaning.proofs.fault.has_name.Given as goal

abbrev pub invariant-loop-other : goal.invariant-loop-other
invariant-loop-other l = list_any (bytes_eq l.name) (names (pairs_of (drop l.other-index l.fields)))
    ≡ list_any (bytes_eq l.name) (names (pairs_of l.fields))
