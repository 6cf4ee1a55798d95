use Rattle.std.proofs.Common.{◌∙◌, ap, sym, subst, refl, rules, of_calls, nat_lt, map, length, drop, get_or}
use Rattle.std.proofs.Common.{◌≡◌, ◌<◌, [], false, is_gt}
use Rattle.std.proofs.lemmas.List.Sorted.{IsPartitionPoint-from_clause}
use Rattle.clip_words.specs.Order.{bytes_cmp}
use Rattle.clip_meaning.specs.Steps.Occurrences.{posting_at}
use Rattle.clip_meaning.proofs.LeadSearch.{lesser_first, lead_point}
use Rattle.clip_meaning.proofs.Occurrences.{bound_told}
use Rattle.clip_meaning.proofs.WordOrder.{by_words, rises, from_word}
use Rattle.clip_meaning.proofs.index.Postings.not_below.Goals as goal

pub returns-then-reaches : goal.returns-then-reaches
returns-then-reaches c =
    let word = c.args.word.now in
    let words = c.self.inside.words.now in
    let os = c.self.inside.occurrences.now in
    let ps = map (posting_at words) os in
    let lead = c.lead_of-lead.result in
    let n = c.partition_point-place.result in
    let order = rises ps (by_words ps c.self.invariant.order) in
    let bound = c.partition_point-place.ensures.bound in
    let leads = IsPartitionPoint-from_clause (λ o. nat_lt o.lead lead) os n c.partition_point-place.ensures.partitioned
    (lesser_first words os order c.self.invariant.leads lead) (λ a r f k. search (rules, of_calls)) in
    let reaches = subst (λ qs. n < length qs → is_gt (bytes_cmp word (get_or qs n ([], 0)).0) ≡ false)
    (sym c.self.view_is) (c.reaches.ensures c.if-reaches.true) in
    let point = lead_point words os order c.self.invariant.leads word lead n c.lead_of-lead.ensures leads bound reaches
    in
    from_word word ps c.args.self.now c.from.result n c.self.view_is (bound_told words os ps n refl bound) point
    (c.from.ensures ∙ ap (drop n) (sym c.self.view_is))
