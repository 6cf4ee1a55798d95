use Rattle.std.proofs.Common.{◌∙◌, ap, map, subst, sym, IsPermutation}
use denote.Bor.{Bor}
use Rattle.std.proofs.lemmas.Result.{IfOk-weaker}
use Rattle.std.proofs.lemmas.List.Sorted.{IsPermutation-map}
use Rattle.std.proofs.lemmas.Simd.{map-map}
use Rattle.clip_model.specs.History.{Registered}
use Rattle.clip_standing.specs.declared.entry.Entry.{Entry}
use Rattle.clip_engine.specs.Found.{ids_bytes}
use Rattle.clip_engine.proofs.Ordered.{ids_in_order, live}
use Rattle.clip_engine.proofs.ids.bytes_of_ids.Goals as goal

pub returns : goal.returns
returns c =
    let state = c.args.view.now in
    let entry : Bor Entry → Registered = λ e. e.now in
    let sorted = c.sort_by_id.new.entries.items in
    let moved : IsPermutation (live state) (map entry sorted) =
    subst (λ rs. IsPermutation rs (map entry sorted)) c.in_ok-entries.ensures.live
    (IsPermutation-map entry c.in_ok-entries.entries.items sorted c.sort_by_id.ensures.moved) in
    let keys = ids_in_order state (map entry sorted) c.in_ok-entries.ensures.whole moved c.sort_by_id.ensures.sorted in
    IfOk-weaker c.ids_of.result _ _
    (λ bytes made.
    made ∙ ap ids_bytes (ap (map (λ (e : Bor Entry). e.now.standing.id)) c.deref.ensures.value
    ∙ sym (map-map (λ (r : Registered). r.standing.id) entry sorted) ∙ keys))
    c.ids_of.ensures
