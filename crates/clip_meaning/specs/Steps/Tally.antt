-- A group's meaning while its clauses are read.
use Rattle.std.specs.Prelude.{Bool, ◌&&◌, ◌||◌, List}
use Rattle.std.specs.List.{list_any, list_all}
use Rattle.clip_grammar.specs.declared.query.Occur.{Occur}
use Rattle.clip_meaning.specs.Meaning.{meets_must, meets_must_not, is_must, meets_should}

-- the meaning of a group whose clauses so far all hold, with or without a Must, and with or without a Should that holds
unfoldable pub group_with : Bool → Bool → List (Occur × Bool) → Bool
group_with has_must has_should vs =
    list_all meets_must vs && list_all meets_must_not vs
    && ((has_must || list_any is_must vs) || (has_should || list_any meets_should vs))
