use Rattle.std.proofs.Common.{map}
use Rattle.clip_extract.specs.Keys.{key_of}
use Rattle.clip_extract.specs.Covering.{field_keys}
use Rattle.clip_presearch.proofs.ArticleKeys.{parts_more}
use Rattle.clip_presearch.proofs.keys.add_field_words.Goals as goal

pub loop-field-preserved : goal.loop-field-preserved
loop-field-preserved c =
    parts_more field_keys (map key_of c.args.keys.now.items) (map key_of c.loop-field.keys.items)
    (map key_of c.add_words.new.keys.items) c.args.fields.now c.loop-field.field-index c.field-item.result
    c.loop-field-test.true c.field-item.is c.in_ok-add_words.ensures c.loop-field.invariant
