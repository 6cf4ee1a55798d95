use Rattle.std.proofs.Common.{rules, of_calls, is_lt, is_le}
use Rattle.std.proofs.lemmas.List.Sorted.{IsPartitionPoint-from_clause}
use Rattle.clip_extract.specs.Keys.{key_of}
use Rattle.clip_terms.specs.Steps.Leads.{heading, heading_cmp}
use Rattle.clip_terms.proofs.Headings.{Heading, lower_first, upto_first, part_found}
use Rattle.clip_terms.proofs.parts.part_of.Goals as goal

pub returns : goal.returns
returns c =
    let keys = c.args.keys.now in
    let h : Heading = (c.args.rank, c.args.field.now) in
    let start = c.partition_point-start.result in
    let end = c.partition_point-end.result in
    let lower = IsPartitionPoint-from_clause (λ k. is_lt (heading_cmp (heading (key_of k)) h)) keys start
    c.partition_point-start.ensures.partitioned (lower_first keys h c.requires)
    (λ a r f k. search (rules, of_calls)) in
    let upto = IsPartitionPoint-from_clause (λ k. is_le (heading_cmp (heading (key_of k)) h)) keys end
    c.partition_point-end.ensures.partitioned (upto_first keys h c.requires) (λ a r f k. search (rules, of_calls))
    in
    part_found keys h start end c.partition_point-start.ensures.bound c.partition_point-end.ensures.bound lower upto
