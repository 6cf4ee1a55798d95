use Rattle.std.proofs.Common.{rules, of_calls}
use Rattle.std.proofs.lemmas.List.Sorted.{IsPartitionPoint-from_clause}
use Rattle.clip_grammar.specs.Tree.{end_of}
use Rattle.clip_meaning.specs.Meaning.{below}
use Rattle.clip_meaning.specs.Steps.Occurrences.{posting_at}
use Rattle.clip_meaning.proofs.Occurrences.{bound_told}
use Rattle.clip_meaning.proofs.WordOrder.{rises}
use Rattle.clip_meaning.proofs.Ranges.{run_found, range_run}
use Rattle.clip_meaning.proofs.index.Postings.between.Goals as goal

pub before-requires : goal.before-requires
before-requires c =
    bound_told c.postings.inside.words.now c.postings.inside.occurrences.now c.from_low-postings.result
    c.partition_point-place.result c.postings.view_is c.partition_point-place.ensures.bound

pub returns : goal.returns
returns c =
    let low = end_of c.args.low.now in
    let high = end_of c.args.high.now in
    let ps = c.args.self.now in
    let words = c.postings.inside.words.now in
    let os = c.postings.inside.occurrences.now in
    let n = c.partition_point-place.result in
    run_found low _ _ (range_run low high) words os ps c.from_low-postings.result c.before-2.result n
    (rises ps c.order_law.ensures.sorted) c.from_low-postings.ensures c.postings.view_is
    c.partition_point-place.ensures.bound
    (λ parted. IsPartitionPoint-from_clause (λ o. below high (posting_at words o).0) os n
    c.partition_point-place.ensures.partitioned parted (λ a r f k. search (rules, of_calls))) c.before-2.ensures
