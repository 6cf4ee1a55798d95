use Rattle.std.proofs.Common.{◌∙◌, [], sym, ap, rules, of_calls, T, subst, is_gt}
use Rattle.std.specs.Cmp.Lexicographic.{nat_list_cmp_total}
use Rattle.std.specs.FinMap.{is_sorted, entries_sorted}
use Rattle.std.specs.List.{prefix_len}
use Rattle.std.proofs.lemmas.List.Sorted.{IsPartitionPoint-from_clause}
use Rattle.clip_words.specs.Order.{bytes_cmp}
use Rattle.clip_meaning.proofs.Fields.{partitioned, prefix_from_point}
use Rattle.clip_meaning.proofs.field_map.FieldMap.place.Goals as goal

pub returns : goal.returns
returns c =
    let q = c.args.name.now in
    let es = c.as_slice.result.now in
    let sorted : T (is_sorted bytes_cmp es) =
    subst (λ xs. T (is_sorted bytes_cmp xs)) (sym c.as_slice.ensures) (entries_sorted c.args.self.now) in
    let point = IsPartitionPoint-from_clause (λ e. is_gt (bytes_cmp q e.0)) es c.partition_point.result
    c.partition_point.ensures.partitioned (partitioned bytes_cmp nat_list_cmp_total q es sorted)
    (λ a r f k. search (rules, of_calls)) in
    prefix_from_point (λ e. is_gt (bytes_cmp q e.0)) es c.partition_point.result ([], [])
    c.partition_point.ensures.bound point
    ∙ ap (prefix_len (λ e. is_gt (bytes_cmp q e.0))) c.as_slice.ensures
