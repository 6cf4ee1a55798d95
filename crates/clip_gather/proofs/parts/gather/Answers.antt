use Rattle.std.proofs.Common.{◌≡◌, ◌∙◌, ap, sym, map, length, List, sum_by, subst, true, arith}
use Rattle.std.proofs.lemmas.List.{length-map}
use Rattle.std.proofs.lemmas.List.Sums.{sum-map}
use Rattle.std.proofs.lemmas.Simd.{map-map}
use Rattle.std.specs.List.{slice_index}
use Rattle.std.specs.declared.alloc.Global.{Global}
use Rattle.std.specs.declared.collections.VecDeque.{VecDeque}
use Rattle.clip_model.specs.Shards.{sum_of}
use Rattle.clip_standing.specs.Alerts.{alert_value}
use Rattle.clip_standing.specs.declared.alert.Alert.{Alert}
use Rattle.clip_standing.specs.declared.alert.Alerts.{Alerts}
use Rattle.clip_gather.specs.Gather.{found_by, given, query_of}
use Rattle.clip_gather.specs.Merged.{NoneFalls, merged_all}
use Rattle.clip_gather.specs.Steps.Merging.{items_of, values}
use Rattle.clip_gather.proofs.Maps.{merged_all_map, none_map}
use Rattle.clip_gather.proofs.Numbered.{gathered, sum_of_list, whole}
use Rattle.clip_gather.proofs.parts.gather.Goals as goal

-- the lists, read as alerts, are what all parts found
found_lists : (lists : List (VecDeque Alert Global)) (parts : List Alerts) → map values lists ≡ map found_by parts
    → map (map alert_value) (map items_of lists) ≡ map found_by parts
found_lists lists parts are = map-map (map alert_value) items_of lists ∙ are

pub merge_all-requires : goal.merge_all-requires
merge_all-requires c =
    let ordered : c.are_in_order.result ≡ true = grind (arith, c.if-not-are_in_order.false) in
    let falls = subst (λ (ps : List Alerts). NoneFalls query_of (map found_by ps)) c.deref-2.ensures.value
    (c.are_in_order.ensures.0 ordered) in
    let lists = c.in_ok-lists_of.field-0.items in
    none_map alert_value query_of (map items_of lists)
    (subst (NoneFalls query_of) (sym (found_lists lists c.args.parts.items c.in_ok-lists_of.ensures)) falls)

pub returns-clause-alerts : goal.returns-clause-alerts
returns-clause-alerts c =
    let ordered : c.are_in_order.result ≡ true = grind (arith, c.if-not-are_in_order.false) in
    let falls = subst (λ (ps : List Alerts). NoneFalls query_of (map found_by ps)) c.deref-2.ensures.value
    (c.are_in_order.ensures.0 ordered) in
    let parts = map found_by c.args.parts.items in
    let lists = c.in_ok-lists_of.field-0.items in
    ap (map alert_value) (c.from.ensures.0 ∙ c.in_ok-alerts.ensures)
    ∙ merged_all_map alert_value query_of (map items_of lists)
    ∙ ap (merged_all query_of) (found_lists lists c.args.parts.items c.in_ok-lists_of.ensures)
    ∙ gathered (length c.args.parts.items) parts (sym (length-map c.args.parts.items found_by)) falls

pub returns-clause-asked : goal.returns-clause-asked
returns-clause-asked c =
    let asked = map (λ (part : Alerts). part.asked) c.args.parts.items in
    c.in-Some.ensures.some ∙ ap (sum_by (λ (part : Alerts). part.asked)) c.deref.ensures.value
    ∙ sym (sum-map (λ (part : Alerts). part.asked) c.args.parts.items)
    ∙ sym (sum_of_list asked)
    ∙ ap (λ n. sum_of n (slice_index asked)) (length-map c.args.parts.items (λ (part : Alerts). part.asked))

pub returns-clause-whole : goal.returns-clause-whole
returns-clause-whole c =
    whole c.law_of_shards.ensures.merged (length c.args.parts.items) (given (map found_by c.args.parts.items))
    (map alert_value c.from.result.items) (returns-clause-alerts c)
