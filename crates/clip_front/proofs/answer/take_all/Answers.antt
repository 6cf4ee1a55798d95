use Rattle.std.proofs.Common.{◌≡◌, ◌+◌, suc, [], ◌∷◌, length, map, sym, ap, subst, arith, true}
use Rattle.std.proofs.Common.{append-nil}
use Rattle.std.specs.Arc.{arc_value}
use Rattle.std.specs.List.{list_all}
use Rattle.std.specs.Vec.Iter.{into_iter_items}
use Rattle.clip_words.specs.Ids.{is_id}
use Rattle.clip_protocol.specs.LineMeaning.{AreTakenAs, FirstRefused}
use Rattle.clip_front.specs.Outcome.{names_in}
use Rattle.clip_protocol.specs.Steps.Views.{listing_view}
use Rattle.clip_front.proofs.Readings.{second_of, none_left, mapped_more, counted_more, mapped_none, counted_none}
use Rattle.clip_front.proofs.answer.take_all.Goals as goal

pub loop-listing-init : goal.loop-listing-init
loop-listing-init g c =
    let names = names_in (g.A.Audience.hearers c.args.audience.now) in
    let all = map listing_view c.args.listings.items in
    let left = map listing_view (into_iter_items c.into_iter-listing-iterator.result) in
    let whole : left ≡ all = ap (map listing_view) c.into_iter-listing-iterator.ensures.into_iter_gives.0 in
    let none = c.in_ok-all.ensures.items in
    record {
      ids = subst (λ ls. list_all (λ l. is_id l.id) ls ≡ true) (sym whole) c.requires;
      takes = mapped_none _ all left none whole arc_value (AreTakenAs names);
      first = λ r. counted_none _ all left none whole (λ ls. FirstRefused names ls r);
    }

pub loop-listing-preserved : goal.loop-listing-preserved
loop-listing-preserved g c =
    let names = names_in (g.A.Audience.hearers c.args.audience.now) in
    let all = map listing_view c.args.listings.items in
    let here = ap (map listing_view) c.in-Some.ensures.steps.0 in
    let s = arc_value c.in-Ok.standing in
    let taken = c.in-Ok.ensures in
    let more = c.in_ok-push-in-Ok.ensures.items in
    record {
      ids = second_of _ _ (subst (λ ls. list_all (λ l. is_id l.id) ls ≡ true) here c.loop-listing.invariant.ids);
      takes = λ later rest.
          subst (AreTakenAs names all)
          (sym (mapped_more arc_value c.loop-listing.all.items c.push.new.self.items c.in-Ok.standing more later))
          (c.loop-listing.invariant.takes (s ∷ later)
          (subst (λ ls. AreTakenAs names ls (s ∷ later)) (sym here) (taken, rest)));
      first = λ r j refused.
          subst (FirstRefused names all r)
          (counted_more arc_value c.loop-listing.all.items c.push.new.self.items c.in-Ok.standing more j)
          (c.loop-listing.invariant.first r (suc j)
          (subst (λ ls. FirstRefused names ls r (suc j)) (sym here) (
            (s.tree, taken.read.query),
            taken.here,
            refused,
          )));
    }

pub returns-in-Err-Refused : goal.returns-in-Err-Refused
returns-in-Err-Refused g c =
    let names = names_in (g.A.Audience.hearers c.args.audience.now) in
    let all = map listing_view c.args.listings.items in
    let here = ap (map listing_view) c.in-Some.ensures.steps.0 in
    let reason = c.in-Err-Refused.reason in
    let refused = rw c.in-Err-Refused.field-0-is at c.in-Err-Refused.ensures in
    let first = c.loop-listing.invariant.first reason 0
    (subst (λ ls. FirstRefused names ls reason 0) (sym here) refused) in
    let place : length c.loop-listing.all.items + 0 ≡ c.len-place.result =
    omega (arith, c.len-place.ensures, c.loop-listing.all.ok.0) in
    subst (λ r. FirstRefused names all r c.len-place.result) (sym c.in-Err-Refused.reason-is)
    (subst (FirstRefused names all reason) place first)

pub returns : goal.returns
returns g c =
    let names = names_in (g.A.Audience.hearers c.args.audience.now) in
    let all = map listing_view c.args.listings.items in
    let none = ap (map listing_view)
    (none_left _ (omega (arith, c.in-None.ensures.steps.0, c.loop-listing.listing-iterator.rest.ok.0))) in
    subst (AreTakenAs names all) (append-nil (map arc_value c.loop-listing.all.items))
    (c.loop-listing.invariant.takes [] (subst (λ ls. AreTakenAs names ls []) (sym none) tt))
