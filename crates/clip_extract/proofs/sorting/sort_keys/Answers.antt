use Rattle.std.proofs.Common.{arith}
use Rattle.clip_extract.proofs.SortedKeys.{few_keys, sorted_keys}
use Rattle.clip_extract.proofs.sorting.sort_keys.Goals as goal

pub returns-then-len-lt2 : goal.returns-then-len-lt2
returns-then-len-lt2 c = few_keys c.args.keys.items (omega (arith, c.len.ensures, c.if-len-lt2.true, c.args.keys.ok))

pub returns-then-len-lt-MANY_KEYS : goal.returns-then-len-lt-MANY_KEYS
returns-then-len-lt-MANY_KEYS c = sorted_keys c.args.keys.items c.sort.new.self.items c.dedup.new.self.items
    c.in_ok-sort.ensures.permutation c.in_ok-sort.ensures.sorted c.dedup.ensures.filtered
