use Rattle.std.proofs.Common.{◌≡◌, ◌+◌, suc, [], ◌∷◌, ◌++◌, length, map, sym, ap, ◌∙◌, subst, arith, append_assoc}
use Rattle.std.proofs.Common.{append-nil}
use Rattle.std.proofs.Common.{length-append}
use Rattle.std.proofs.lemmas.List.{map-append}
use Rattle.std.specs.Arc.{arc_value}
use Rattle.std.specs.Vec.Iter.{into_iter_items}
use Rattle.clip_protocol.specs.Steps.Views.{listing_view}
use Rattle.clip_front.proofs.Readings.{none_left}
use Rattle.clip_engine.specs.Many.{AreIn, FirstOut}
use Rattle.clip_engine.proofs.many.take_many.Goals as goal

pub loop-listing-init : goal.loop-listing-init
loop-listing-init c =
    let all = map listing_view c.args.listings.items in
    let gives : into_iter_items c.into_iter-listing-iterator.result ≡ c.args.listings.items =
    c.into_iter-listing-iterator.ensures.into_iter_gives.0 in
    let whole : map listing_view (into_iter_items c.into_iter-listing-iterator.result) ≡ all =
    ap (map listing_view) gives in
    let none = c.in_ok-all.ensures.items in
    record {
      takes = λ more taken. subst (λ xs. AreIn all (map arc_value xs ++ more)) (sym none)
          (subst (λ ls. AreIn ls more) whole taken);
      first = λ r j out. let start : j ≡ 0 + j = omega arith in
          subst (λ xs. FirstOut all r (length xs + j)) (sym none)
          (subst (FirstOut all r) start (subst (λ ls. FirstOut ls r j) whole out));
    }

pub loop-listing-preserved : goal.loop-listing-preserved
loop-listing-preserved c =
    let all = map listing_view c.args.listings.items in
    let here = ap (map listing_view) c.in-Some.ensures.steps.0 in
    let s = arc_value c.in-Ok.standing in
    let taken = c.in-Ok.ensures in
    let pushed : map arc_value c.push.new.self.items ≡ map arc_value c.loop-listing.all.items ++ s ∷ [] =
    ap (map arc_value) {y = c.loop-listing.all.items ++ c.in-Ok.standing ∷ []} c.in_ok-push-in-Ok.ensures.items
    ∙ map-append arc_value c.loop-listing.all.items (c.in-Ok.standing ∷ []) in
    let count : length c.push.new.self.items ≡ length c.loop-listing.all.items + 1 =
    ap length {y = c.loop-listing.all.items ++ c.in-Ok.standing ∷ []} c.in_ok-push-in-Ok.ensures.items
    ∙ length-append c.loop-listing.all.items (c.in-Ok.standing ∷ []) in
    record {
      takes = λ more rest.
          subst (AreIn all) (sym (ap (λ xs. xs ++ more) pushed
          ∙ append_assoc (map arc_value c.loop-listing.all.items) (s ∷ []) more))
          (c.loop-listing.invariant.takes (s ∷ more) (subst (λ ls. AreIn ls (s ∷ more)) (sym here) (taken, rest)));
      first = λ r j out.
          let shifted : length c.loop-listing.all.items + suc j ≡ length c.push.new.self.items + j =
          omega (arith, count) in
          subst (FirstOut all r) shifted
          (c.loop-listing.invariant.first r (suc j)
          (subst (λ ls. FirstOut ls r (suc j)) (sym here) ((s, taken), out)));
    }

pub returns-in-Err-Refused : goal.returns-in-Err-Refused
returns-in-Err-Refused c =
    let all = map listing_view c.args.listings.items in
    let here = ap (map listing_view) c.in-Some.ensures.steps.0 in
    let reason = c.in-Err-Refused.reason in
    let refused = rw c.in-Err-Refused.field-0-is at c.in-Err-Refused.ensures in
    let first = c.loop-listing.invariant.first reason 0 (subst (λ ls. FirstOut ls reason 0) (sym here) refused) in
    let place : length c.loop-listing.all.items + 0 ≡ c.len-place.result =
    omega (arith, c.len-place.ensures, c.loop-listing.all.ok.0) in
    subst (λ r. FirstOut all r c.len-place.result) (sym c.in-Err-Refused.reason-is)
    (subst (FirstOut all reason) place first)

pub returns : goal.returns
returns c =
    let all = map listing_view c.args.listings.items in
    let none = ap (map listing_view)
    (none_left _ (omega (arith, c.in-None.ensures.steps.0, c.loop-listing.listing-iterator.rest.ok.0))) in
    subst (AreIn all) (append-nil (map arc_value c.loop-listing.all.items))
    (c.loop-listing.invariant.takes [] (subst (λ ls. AreIn ls []) (sym none) tt))
