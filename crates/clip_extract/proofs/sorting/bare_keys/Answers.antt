use Rattle.std.proofs.Common.{◌≡◌, ◌∙◌, arith, length, sym, Vec, Global}
use Rattle.std.proofs.lemmas.Iterator.Adapters.{YieldsList-from_vec}
use Rattle.std.proofs.lemmas.Iterator.Consumers.{YieldsList-end}
use Rattle.std.proofs.lemmas.List.{map-id}
use Rattle.clip_extract.specs.Keys.{KeyValue}
use Rattle.clip_extract.proofs.sorting.bare_keys.Goals as goal

counted : (led : Vec KeyValue Global) → led.len ≡ length led.items
counted led = omega arith

pub returns : goal.returns
returns c =
    let gives = c.into_iter-one-iterator.ensures.into_iter_gives in
    let over = YieldsList-end (YieldsList-from_vec {s = c.into_iter-one-iterator.result} c.args.led.items gives.0
    (gives.1 ∙ counted c.args.led)) c.loop-one.yielded c.loop-one.one-iterator c.loop-one.yielded_by
    c.next.result c.next.new.self c.in-None.is c.next.ensures.steps in
    c.loop-one.invariant ∙ sym (map-id c.loop-one.yielded) ∙ over.0
