use Rattle.std.proofs.Common.{rules, of_calls, is_lt, not}
use Rattle.std.proofs.lemmas.List.Sorted.{IsPartitionPoint-from_clause}
use Rattle.clip_words.specs.Order.{bytes_cmp}
use Rattle.clip_grammar.specs.Tokens.{End}
use Rattle.clip_meaning.specs.Steps.Occurrences.{posting_at}
use Rattle.clip_meaning.proofs.Occurrences.{bound_told}
use Rattle.clip_meaning.proofs.WordOrder.{rises}
use Rattle.clip_meaning.proofs.Ranges.{run_found, word_run}
use Rattle.clip_meaning.proofs.index.Postings.occurrences.Goals as goal

pub before-requires : goal.before-requires
before-requires c =
    bound_told c.postings.inside.words.now c.postings.inside.occurrences.now c.not_below-postings.result
    c.partition_point-place.result c.postings.view_is c.partition_point-place.ensures.bound

pub returns : goal.returns
returns c =
    let word = c.args.word.now in
    let ps = c.args.self.now in
    let words = c.postings.inside.words.now in
    let os = c.postings.inside.occurrences.now in
    let n = c.partition_point-place.result in
    run_found (End.With word) _ _ (word_run word) words os ps c.not_below-postings.result c.before-2.result n
    (rises ps c.order_law.ensures.sorted) c.not_below-postings.ensures c.postings.view_is
    c.partition_point-place.ensures.bound
    (λ parted. IsPartitionPoint-from_clause (λ o. not (is_lt (bytes_cmp word (posting_at words o).0))) os n
    c.partition_point-place.ensures.partitioned parted (λ a r f k. search (rules, of_calls))) c.before-2.ensures
