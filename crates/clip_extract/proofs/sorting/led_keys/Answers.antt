use Rattle.std.proofs.Common.{◌≡◌, ◌∙◌, ap, arith, map, length, sym, Vec, Global}
use Rattle.std.proofs.lemmas.Iterator.Adapters.{YieldsList-from_vec}
use Rattle.std.proofs.lemmas.Iterator.Consumers.{YieldsList-end}
use Rattle.std.proofs.lemmas.List.{map-id}
use Rattle.clip_extract.specs.declared.key.Key.{Key}
use Rattle.clip_extract.specs.Keys.{key_of}
use Rattle.clip_extract.proofs.sorting.led_keys.Goals as goal

counted : (keys : Vec Key Global) → keys.len ≡ length keys.items
counted keys = omega arith

pub returns : goal.returns
returns c =
    let gives = c.into_iter-key-iterator.ensures.into_iter_gives in
    let over = YieldsList-end (YieldsList-from_vec {s = c.into_iter-key-iterator.result} c.args.keys.items gives.0
    (gives.1 ∙ counted c.args.keys)) c.loop-key.yielded c.loop-key.key-iterator c.loop-key.yielded_by
    c.next.result c.next.new.self c.in-None.is c.next.ensures.steps in
    c.loop-key.invariant ∙ ap (map key_of) (sym (map-id c.loop-key.yielded) ∙ over.0)
