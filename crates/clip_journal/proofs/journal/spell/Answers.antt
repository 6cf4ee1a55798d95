use Rattle.std.proofs.Common.{◌≡◌, ◌++◌, ◌∷◌, [], ℕ, List, length, take, sym, ap, ◌∙◌, subst, arith}
use Rattle.std.proofs.lemmas.List.{take_all, length-take-le}
use Rattle.clip_journal.specs.Entries.{numbers}
use Rattle.clip_journal.specs.Kept.{says}
use Rattle.clip_journal.proofs.Whole.{length-says}
use Rattle.clip_journal.proofs.Spelled.{IsSpelled, opening_is, spelled_first, spelled_more, spelled_all, says_more}
use Rattle.clip_journal.proofs.journal.spell.Goals as goal

pub loop-query-init : goal.loop-query-init
loop-query-init c =
    let opening = opening_is c.args.changes (length c.args.live.now) c.new-opening.result.items
    c.extend_from_slice.new.self.items c.extend_from_slice-2.new.self.items c.new-opening.ensures.items
    (c.in_ok-extend_from_slice.ensures.items
    ∙ ap (λ (x : List ℕ). c.new-opening.result.items ++ x) c.to_be_bytes.ensures)
    (c.in_ok-extend_from_slice-2.ensures.items
    ∙ ap (λ (x : List ℕ). c.extend_from_slice.new.self.items ++ x) c.to_be_bytes-2.ensures) in
    record {
      spelled = spelled_first (numbers c.args.changes (length c.args.live.now)) c.deref.result.now
          c.new-bytes.result.items _ _ (c.deref.ensures.value ∙ opening) c.new-bytes.ensures.items
          c.in_ok-link.ensures.bytes c.in_ok-link.ensures.link;
      place = omega arith;
    }

pub loop-query-preserved : goal.loop-query-preserved
loop-query-preserved c =
    let i = c.loop-query.query-index in
    let live = c.args.live.now in
    let one = says_more live i c.query-item.result (omega arith) c.query-item.is in
    let first = numbers c.args.changes (length live) in
    let at : length (says (take i live)) ≡ i = length-says (take i live) ∙ length-take-le i live (omega arith) in
    let more = spelled_more first (says (take i live)) c.loop-query.bytes.items c.loop-query.link
    c.deref-in-loop-query.result.now c.put_entry-in-loop-query.new.out.items _ _ c.loop-query.invariant.spelled
    (omega (arith, at, c.loop-query.invariant.place)) c.in_ok-next.ensures.bytes c.in_ok-next.ensures.link in
    let all = one ∙ ap (λ (x : List ℕ). says (take i live) ++ x ∷ []) (sym c.deref-in-loop-query.ensures.value) in
    record {
      spelled = subst (λ (s : List (List ℕ)). IsSpelled first s c.put_entry-in-loop-query.new.out.items
          c.in_ok-next.next) (sym all) more;
      place = omega (arith, c.loop-query.invariant.place);
    }

pub returns-clause-bytes : goal.returns-clause-bytes
returns-clause-bytes c =
    let live = c.args.live.now in
    (spelled_all c.args.changes (length live) (says live) (says (take c.loop-query.query-index live)) _ _
    c.loop-query.invariant.spelled (sym (length-says live))
    (ap says (take_all c.loop-query.query-index live (omega arith)))).0

pub returns-clause-link : goal.returns-clause-link
returns-clause-link c =
    let live = c.args.live.now in
    (spelled_all c.args.changes (length live) (says live) (says (take c.loop-query.query-index live)) _ _
    c.loop-query.invariant.spelled (sym (length-says live))
    (ap says (take_all c.loop-query.query-index live (omega arith)))).1
