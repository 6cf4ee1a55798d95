-- The keys of words of a field.
use Rattle.std.specs.Prelude.{List, map}
use Rattle.std.specs.Arc.{arc_str_bytes}
use Rattle.clip_extract.specs.Keys.{KeyValue, Word}
use Rattle.clip_terms.specs.Steps.Leads.{AreLeads, AreShortLengths}
use Rattle.clip_terms.specs.declared.word_keys.WordKeys.{WordKeys}

-- the keys, in order
abbrev pub keys_in : WordKeys → List KeyValue
keys_in keys = map (λ word. Word (arc_str_bytes keys.field.now) word.now) keys.words.items

-- The leads and the short lengths are those of the words.
pub record AreKept (keys : WordKeys) : Type 0 where
  pub leads : AreLeads (keys_in keys) keys.leads.items
  pub lengths : AreShortLengths (keys_in keys) keys.lengths.items
