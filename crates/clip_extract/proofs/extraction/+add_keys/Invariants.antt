use Rattle.std.proofs.Common.{◌≡◌, ◌≤◌, map, take, drop, vec_len}
use Rattle.clip_grammar.specs.Tree.{tree_of}
use Rattle.clip_extract.specs.Keys.{key_of}
use Rattle.clip_extract.specs.Extraction.{extract}
use Rattle.clip_extract.specs.Steps.Groups.{group_from}
use Rattle.clip_extract.specs.declared.extraction.FoundInGroup.TheVariants.{Nothing}
use Rattle.clip_extract.proofs.Groups.{extracts_of}
use Rattle.clip_extract.proofs.extraction.+add_keys.Given as goal

abbrev pub invariant-loop-occur : goal.invariant-loop-occur
invariant-loop-occur l = record {
  front : take l.start (map key_of l.keys.items) ≡ map key_of l.fn.keys.items;
  long : l.start ≤ vec_len l.keys;
  empty : l.found ≡ Nothing → vec_len l.keys ≡ l.start;
  group : group_from l.found (drop l.start (map key_of l.keys.items)) (extracts_of (drop l.occur-index l.occur-items))
      ≡ extract (tree_of l.query);
}
