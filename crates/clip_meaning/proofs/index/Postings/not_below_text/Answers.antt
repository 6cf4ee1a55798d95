use Rattle.std.proofs.Common.{subst, refl, rules, of_calls, is_gt}
use Rattle.std.proofs.lemmas.List.Sorted.{IsPartitionPoint-from_clause}
use Rattle.clip_words.specs.Order.{bytes_cmp}
use Rattle.clip_meaning.specs.Steps.Occurrences.{posting_at}
use Rattle.clip_meaning.proofs.Occurrences.{ended, bound_told}
use Rattle.clip_meaning.proofs.WordOrder.{InOrder, by_words, rises, below_first, from_word}
use Rattle.clip_meaning.proofs.index.Postings.not_below_text.Goals as goal

pub returns : goal.returns
returns c =
    let word = c.args.word.now in
    let ps = c.args.self.now in
    let words = c.self.inside.words.now in
    let os = c.self.inside.occurrences.now in
    let n = c.partition_point-place.result in
    let order = rises ps (by_words ps (subst InOrder c.self.view_is c.self.invariant.order)) in
    let point = ended (λ p. is_gt (bytes_cmp word p.0)) words os ps n c.self.view_is (below_first word ps order)
    c.partition_point-place.ensures.bound
    (λ parted. IsPartitionPoint-from_clause (λ o. is_gt (bytes_cmp word (posting_at words o).0)) os n
    c.partition_point-place.ensures.partitioned parted (λ a r f k. search (rules, of_calls))) in
    from_word word ps ps c.from.result n refl
    (bound_told words os ps n c.self.view_is c.partition_point-place.ensures.bound) point c.from.ensures

pub from-requires : goal.from-requires
from-requires c =
    bound_told c.self.inside.words.now c.self.inside.occurrences.now c.args.self.now c.partition_point-place.result
    c.self.view_is c.partition_point-place.ensures.bound
