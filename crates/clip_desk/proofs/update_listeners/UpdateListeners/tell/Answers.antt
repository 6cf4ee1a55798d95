use Rattle.std.proofs.Common.{◌≡◌, List, length, map, Bool, ap, sym, subst, ◌∙◌}
use Rattle.std.proofs.lemmas.List.{with_items_is}
use Rattle.clip_desk.specs.Updates.{AreTold, heard_by}
use Rattle.clip_desk.specs.Told.{told_value}
use Rattle.clip_desk.proofs.Telling.{told_none, told_next, told_whole}
use Rattle.clip_desk.proofs.update_listeners.UpdateListeners.tell.Goals as goal

pub loop-part-init : goal.loop-part-init
loop-part-init g c = told_none _ _ _

pub loop-part-preserved : goal.loop-part-preserved
loop-part-preserved g c =
    told_next g.L.UpdateListener.heard (told_value c.args.update) c.loop-part.part-index
    c.deref_mut-part-items.result.now c.loop-part.part-items c.loop-part.invariant c.part-item.result
    c.tell_one.new.part c.loop-part-test.true c.tell_one.ensures

pub returns : goal.returns
returns g c =
    let value = c.deref_mut-part-items.ensures.value in
    let same : length c.loop-part.part-items ≡ c.self.inside.parts.len = c.loop-part.auto.part-items ∙ ap length value
    ∙ sym c.self.inside.parts.ok.0 in
    let told = told_whole g.L.UpdateListener.heard (told_value c.args.update) c.loop-part.part-index
    c.deref_mut-part-items.result.now c.loop-part.part-items c.loop-part.invariant c.loop-part-test.false in
    rw (← c.self.view_is)
    (subst (λ (parts : List (g.row.L.Denot × Bool)).
    AreTold (told_value c.args.update) (map (heard_by g.L.UpdateListener.heard) c.self.inside.parts.items)
    (map (heard_by g.L.UpdateListener.heard) parts))
    (sym (with_items_is c.self.inside.parts c.loop-part.part-items same))
    (subst (λ (parts : List (g.row.L.Denot × Bool)).
    AreTold (told_value c.args.update) (map (heard_by g.L.UpdateListener.heard) parts)
    (map (heard_by g.L.UpdateListener.heard) c.loop-part.part-items)) value told))
