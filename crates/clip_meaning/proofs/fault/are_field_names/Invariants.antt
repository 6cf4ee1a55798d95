use Rattle.std.proofs.Common.{◌≡◌, drop}
use Rattle.std.specs.List.{list_all}
use Rattle.clip_meaning.specs.Article.{is_field_name, names, pairs_of}
use Rattle.clip_meaning.proofs.fault.are_field_names.Given as goal

abbrev pub invariant-loop-name : goal.invariant-loop-name
invariant-loop-name l = list_all is_field_name (names (pairs_of (drop l.name-index l.fields)))
    ≡ list_all is_field_name (names (pairs_of l.fields))
