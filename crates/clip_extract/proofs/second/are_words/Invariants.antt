use Rattle.std.proofs.Common.{◌≡◌, map, drop}
use Rattle.std.specs.List.{list_all}
use Rattle.clip_extract.specs.Extraction.{is_word}
use Rattle.clip_extract.specs.Keys.{key_of}
use Rattle.clip_extract.proofs.second.are_words.Given as goal

abbrev pub invariant-loop-key : goal.invariant-loop-key
invariant-loop-key l = list_all is_word (map key_of (drop l.key-index l.keys)) ≡ list_all is_word (map key_of l.keys)
