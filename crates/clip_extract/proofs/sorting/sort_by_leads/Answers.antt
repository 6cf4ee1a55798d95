use Rattle.std.proofs.Common.{◌∙◌, ap, rules, of_calls}
use Rattle.std.specs.Ordering.{is_lt}
use Rattle.std.proofs.lemmas.List.Sorted.{answers_always, ranks_by}
use Rattle.clip_extract.specs.Keys.{KeyValue, key_cmp, in_order}
use Rattle.clip_extract.proofs.Order.{key_cmp_total}
use Rattle.clip_extract.proofs.SortedKeys.{sorted_values}
use Rattle.clip_extract.proofs.sorting.sort_by_leads.Goals as goal

pub returns : goal.returns
returns c =
    c.in_ok-sorted.ensures
    ∙ sorted_values c.in_ok-led.led.items c.sort_unstable_by.new.self.items c.dedup.new.self.items
    c.sort_unstable_by.ensures.permutation
    (c.sort_unstable_by.ensures.sorted (λ (k l : KeyValue). is_lt (key_cmp k l))
    (ranks_by key_cmp_total (λ (k : KeyValue). k))
    (answers_always _ _ _ (λ f a r g called. ap is_lt (search (rules, of_calls)))))
    c.dedup.ensures.filtered
    ∙ ap in_order c.in_ok-led.ensures
