use Rattle.std.proofs.Common.{◌≡◌, drop, map, string_bytes}
use Rattle.std.specs.List.{list_all}
use Rattle.clip_words.specs.Ids.{is_id}
use Rattle.clip_words.proofs.are_ids.Given as goal

abbrev pub invariant-loop-id : goal.invariant-loop-id
invariant-loop-id l = list_all is_id (map string_bytes (drop l.id-index l.ids))
    ≡ list_all is_id (map string_bytes l.ids)
