use Rattle.std.proofs.Common.{◌≡◌, ◌∙◌, [], List, ℕ, ap, sym, subst, get_or, rules, of_calls}
use Rattle.std.proofs.Common.{map, is_lt, IsPermutation, All}
use Rattle.std.proofs.lemmas.List.{take_all}
use Rattle.std.proofs.lemmas.List.Elements.{All-push}
use Rattle.std.proofs.lemmas.List.Sorted.{answers_always, ranks_by}
use Rattle.clip_meaning.specs.Index.{numbered, posting_cmp}
use Rattle.clip_meaning.specs.Leads.{IsLead}
use Rattle.clip_meaning.specs.Steps.Occurrences.{posting_at, HasLeadOf}
use Rattle.clip_meaning.proofs.Occurrences.{IsOf, each_of, told_more, index_told}
use Rattle.clip_meaning.proofs.WordOrder.{Place, InOrder, posting_cmp_total}
use Rattle.clip_meaning.proofs.index.sorted_occurrences.Goals as goal

pub loop-posting-preserved : goal.loop-posting-preserved
loop-posting-preserved c =
    let words = c.args.words.now in
    let sorted = c.sort_unstable_by.new.self.items in
    let ps = c.deref-posting-items.result.now in
    let i = c.loop-posting.posting-index in
    let x = c.posting-item.result in
    let old = c.loop-posting.found.items in
    let same : IsPermutation (numbered 0 words) sorted = subst (λ xs. IsPermutation xs sorted)
    c.in_ok-postings.ensures c.sort_unstable_by.ensures.permutation in
    let of : IsOf words x = subst (IsOf words) (sym c.posting-item.is)
    (each_of words ps (subst (IsPermutation (numbered 0 words)) (sym c.deref-posting-items.ensures.value) same) i x
    c.loop-posting-test.true) in
    let position : c.posting.inside.position ≡ x.1 = ap (λ (p : Place). p.1) c.posting.view_is in
    let word : c.posting.inside.word.now ≡ get_or words c.posting.inside.position [] =
    ap (λ (p : Place). p.0) c.posting.view_is ∙ of ∙ ap (λ n. get_or words n []) (sym position) in
    record {
      told = ap (map (posting_at words)) c.in_ok-push.ensures.items
          ∙ told_more words old ps i x _ c.loop-posting-test.true c.posting-item.is of position
          c.loop-posting.invariant.told;
      leads = subst (All (HasLeadOf words)) (sym c.in_ok-push.ensures.items)
          (All-push (HasLeadOf words) old _ c.loop-posting.invariant.leads
          (subst (λ (w : List ℕ). IsLead w c.posting.inside.lead) word c.posting.invariant));
    }

pub returns : goal.returns
returns c =
    let words = c.args.words.now in
    let sorted = c.sort_unstable_by.new.self.items in
    let ps = c.deref-posting-items.result.now in
    let here : ps ≡ sorted = c.deref-posting-items.ensures.value in
    let same : IsPermutation (numbered 0 words) sorted = subst (λ xs. IsPermutation xs sorted)
    c.in_ok-postings.ensures c.sort_unstable_by.ensures.permutation in
    let order : InOrder sorted = c.sort_unstable_by.ensures.sorted (λ (x y : Place). is_lt (posting_cmp x y))
    (ranks_by posting_cmp_total (λ (p : Place). p))
    (answers_always _ _ _ (λ f a r g called. ap is_lt (search (rules, of_calls)))) in
    index_told words c.loop-posting.found.items sorted same order
    (c.loop-posting.invariant.told ∙ take_all c.loop-posting.posting-index ps c.loop-posting-test.false ∙ here)
    c.loop-posting.invariant.leads
