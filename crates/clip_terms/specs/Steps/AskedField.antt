-- A field of an article that is ready to be asked.
use Rattle.std.specs.Prelude.{◌≡◌, map}
use Rattle.std.specs.Arc.{arc_str_bytes}
use Rattle.clip_extract.specs.Covering.{field_keys}
use Rattle.clip_terms.specs.Terms.{term_at}
use Rattle.clip_terms.specs.Steps.KeysByField.{ordered_keys}
use Rattle.clip_terms.specs.Steps.WordKeys.{keys_in, AreKept}
use Rattle.clip_terms.specs.declared.asking.AskedField.TheInside.{Inside}

-- The keys are those of the field's words, in order, with their leads and short lengths, and the places name the keys
-- of its words, in the order of its text.
pub record IsAskedField (asked : Inside) : Type 0 where
  pub name : arc_str_bytes asked.keys.field.now ≡ asked.field.now.0
  pub keys : keys_in asked.keys ≡ ordered_keys asked.field.now
  pub kept : AreKept asked.keys
  pub places : map (term_at (ordered_keys asked.field.now)) asked.places.items ≡ field_keys asked.field.now
