use Rattle.std.proofs.Common.{ap, rules, of_calls, is_lt}
use Rattle.std.specs.Cmp.Lexicographic.{nat_list_cmp_total}
use Rattle.std.proofs.lemmas.List.Sorted.{answers_always, ranks_by}
use Rattle.clip_words.specs.Order.{bytes_cmp}
use Rattle.clip_model.specs.History.{Registered}
use Rattle.clip_terms.proofs.Strict.{sorted_mapped}
use Rattle.clip_match.specs.declared.held.Held.{Held}
use Rattle.clip_match.proofs.matching.sort_by_id.Goals as goal

pub returns-clause-sorted : goal.returns-clause-sorted
returns-clause-sorted c =
    sorted_mapped (λ (e : Held). e.registered.now)
    (λ (r s : Registered). is_lt (bytes_cmp r.standing.id s.standing.id)) _
    (c.sort_unstable_by.ensures.sorted
    (λ (e f : Held). is_lt (bytes_cmp e.registered.now.standing.id f.registered.now.standing.id))
    (ranks_by nat_list_cmp_total (λ (e : Held). e.registered.now.standing.id))
    (answers_always _ _ _ (λ f a r g called. ap is_lt (search (rules, of_calls)))))
