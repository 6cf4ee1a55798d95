use Rattle.std.proofs.Common.{◌≡◌, ◌∙◌, ap, arith, map, length, sym, Vec, Global}
use Rattle.std.proofs.lemmas.Iterator.Adapters.{YieldsList-from_vec}
use Rattle.std.proofs.lemmas.Iterator.Consumers.{YieldsList-end}
use Rattle.std.proofs.lemmas.List.{map-id}
use Rattle.clip_standing.specs.declared.alert.Alerts.{Alerts}
use Rattle.clip_gather.specs.Gather.{found_by}
use Rattle.clip_gather.proofs.parts.lists_of.Goals as goal

counted : (parts : Vec Alerts Global) → parts.len ≡ length parts.items
counted parts = omega arith

pub returns : goal.returns
returns c =
    let gives = c.into_iter-part-iterator.ensures.into_iter_gives in
    let over = YieldsList-end (YieldsList-from_vec {s = c.into_iter-part-iterator.result} c.args.parts.items gives.0
    (gives.1 ∙ counted c.args.parts)) c.loop-part.yielded c.loop-part.part-iterator c.loop-part.yielded_by
    c.next.result c.next.new.self c.in-None.is c.next.ensures.steps in
    c.loop-part.invariant ∙ ap (map found_by) (sym (map-id c.loop-part.yielded) ∙ over.0)
