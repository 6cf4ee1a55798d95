use Rattle.clip_words.specs.Order.{bytes_cmp}
use Rattle.clip_meaning.proofs.Fields.{empty_map}
use Rattle.clip_meaning.proofs.field_map.FieldMap.new.Goals as goal

pub returns : goal.returns
returns c = empty_map bytes_cmp c.new.result.items c.new.ensures.items
