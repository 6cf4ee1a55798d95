-- Searches among occurrences by the leads of their words.
use Rattle.std.proofs.Common.{◌≡◌, ℕ, ◌<◌, ◌≤◌, true, false, List, length, map, get_or, nat_lt, is_lt, is_gt}
use Rattle.std.proofs.Common.{sym, ap, ◌∙◌, arith, true≢false, Less, lt-ltb, ltb-true, ⊎_elim, []}
use Rattle.std.specs.List.{All}
use Rattle.std.specs.List.Sorted.{IsPartitionedBy, IsPartitionPoint}
use Rattle.std.specs.Ordering.{ordering_reverse}
use Rattle.std.specs.Cmp.Lexicographic.{nat_list_cmp_total}
use Rattle.std.proofs.lemmas.Bool.{cases_Bool, ltb-false}
use Rattle.std.proofs.lemmas.List.{length-map, get_or_default}
use Rattle.clip_words.specs.Order.{bytes_cmp}
use Rattle.clip_meaning.specs.declared.index.Occurrence.{Occurrence}
use Rattle.clip_meaning.specs.Leads.{IsLead}
use Rattle.clip_meaning.specs.Steps.Occurrences.{posting_at, HasLeadOf}
use Rattle.clip_meaning.proofs.Leads.{lead_below}
use Rattle.clip_meaning.proofs.Occurrences.{told_at}
use Rattle.clip_meaning.proofs.WordOrder.{Place, Rises, below_first}

module _ (words : List (List ℕ)) (os : List Occurrence) (rises : Rises (map (posting_at words) os))
    (leads : All (HasLeadOf words) os) where
  -- the word at a place, as its posting has it
  word_of : (k : ℕ) (p : Place) (o : Occurrence) → k < length os
      → (get_or (map (posting_at words) os) k p).0 ≡ get_or words (get_or os k o).position []
  word_of k p o lt = ap (λ (q : Place). q.0) (told_at (posting_at words) (λ _. true) os k p o
      (omega (arith, lt, length-map os (posting_at words))))

  -- of two the later one's lead is no less
  leads_rise : (i j : ℕ) (d : Occurrence) → i ≤ j → j < length os → (get_or os i d).lead ≤ (get_or os j d).lead
  leads_rise i j d le lt =
      let long = length-map os (posting_at words) in
      let first = get_or os i d in
      let second = get_or os j d in
      let none : Place = ([], 0) in
      ⊎_elim
      (λ (t : nat_lt second.lead first.lead ≡ true).
      let less : bytes_cmp (get_or words second.position []) (get_or words first.position []) ≡ Less =
      lead_below _ _ second.lead first.lead (leads j d lt) (leads i d (omega (arith, le, lt)))
      (ltb-true second.lead first.lead t) in
      let told = rises i j none le (omega (arith, lt, long)) in
      let before = sym (word_of i none d (omega (arith, le, lt))) in
      let behind = sym (word_of j none d lt) in
      absurd (true≢false (sym (ap is_lt less) ∙ (λ m. is_lt (bytes_cmp (behind m) (before m))) ∙ told)))
      (λ (f : nat_lt second.lead first.lead ≡ false). ltb-false second.lead first.lead f)
      (cases_Bool (nat_lt second.lead first.lead))

  -- those of a lesser lead come first
  pub lesser_first : (lead : ℕ) → IsPartitionedBy (λ (o : Occurrence). nat_lt o.lead lead) os
  lesser_first lead i j d le lt less =
      let rise = leads_rise i j d le lt in
      let below = ltb-true (get_or os j d).lead lead less in
      lt-ltb (get_or os i d).lead lead (omega (arith, rise, below))

  -- where they end, the words that are below one do, if the next isn't
  pub lead_point : (word : List ℕ) (lead n : ℕ) → IsLead word lead
      → IsPartitionPoint (λ (o : Occurrence). nat_lt o.lead lead ≡ true) (λ o. nat_lt o.lead lead ≡ false) os n
      → n ≤ length os
      → (n < length (map (posting_at words) os)
      → is_gt (bytes_cmp word (get_or (map (posting_at words) os) n ([], 0)).0) ≡ false)
      → IsPartitionPoint (λ (p : Place). is_gt (bytes_cmp word p.0) ≡ true) (λ p. is_gt (bytes_cmp word p.0) ≡ false)
      (map (posting_at words) os) n
  lead_point word lead n is point bound reaches =
      let ps = map (posting_at words) os in
      let long = length-map os (posting_at words) in
      let o : Occurrence = record { lead = 0; position = 0 } in (
        λ k d low high.
            let lt : k < length os = omega (arith, high, bound) in
            let one = get_or os k o in
            let less : bytes_cmp (get_or words one.position []) word ≡ Less =
            lead_below _ _ one.lead lead (leads k o lt) is (ltb-true one.lead lead (point.0 k o low high)) in
            ap (λ w. is_gt (bytes_cmp word w)) (word_of k d o lt)
            ∙ ap is_gt (nat_list_cmp_total.antisymm word (get_or words one.position []) ∙ ap ordering_reverse less),
        λ k d low high. ⊎_elim
            (λ (t : is_gt (bytes_cmp word (get_or ps k d).0) ≡ true).
            let lt : n < length ps = omega (arith, low, high) in
            let first = below_first word ps rises n k d low high t in
            absurd (true≢false (sym first
            ∙ ap (λ (p : Place). is_gt (bytes_cmp word p.0)) (get_or_default ps n d ([], 0) lt) ∙ reaches lt)))
            (λ (f : is_gt (bytes_cmp word (get_or ps k d).0) ≡ false). f)
            (cases_Bool (is_gt (bytes_cmp word (get_or ps k d).0))),
      )
