use Rattle.std.proofs.Common.{◌≡◌, ◌+◌, suc, [], ◌∷◌, length, map, sym, ap, ◌∙◌, subst, arith, true}
use Rattle.std.proofs.Common.{append-nil}
use Rattle.std.specs.Arc.{arc_value}
use Rattle.std.specs.List.{list_all}
use Rattle.std.specs.Vec.Iter.{into_iter_items}
use Rattle.clip_words.specs.Ids.{is_id}
use Rattle.clip_trace.specs.TraceLine.{AreReadAs, FirstUnread}
use Rattle.clip_protocol.specs.Steps.Views.{listing_view}
use Rattle.clip_front.proofs.Readings.{first_of, second_of, none_left, mapped_more, counted_more}
use Rattle.clip_front.proofs.Readings.{mapped_none, counted_none}
use Rattle.clip_trace.proofs.trace_line.read_all.Goals as goal

pub loop-listing-init : goal.loop-listing-init
loop-listing-init c =
    let all = map listing_view c.args.listings.items in
    let left = map listing_view (into_iter_items c.into_iter-listing-iterator.result) in
    let whole : left ≡ all = ap (map listing_view) c.into_iter-listing-iterator.ensures.into_iter_gives.0 in
    let none = c.in_ok-all.ensures.items in
    record {
      ids = subst (λ ls. list_all (λ l. is_id l.id) ls ≡ true) (sym whole) c.requires;
      reads = mapped_none _ all left none whole arc_value AreReadAs;
      first = counted_none _ all left none whole FirstUnread;
    }

pub read_listing-requires : goal.read_listing-requires
read_listing-requires c =
    let here = ap (map listing_view) c.in-Some.ensures.steps.0 in
    first_of _ _ (subst (λ ls. list_all (λ l. is_id l.id) ls ≡ true) here c.loop-listing.invariant.ids)

pub loop-listing-preserved : goal.loop-listing-preserved
loop-listing-preserved c =
    let all = map listing_view c.args.listings.items in
    let here = ap (map listing_view) c.in-Some.ensures.steps.0 in
    let s = arc_value c.in-Ok.standing in
    let read = c.in-Ok.ensures in
    let more = c.in_ok-push-in-Ok.ensures.items in
    record {
      ids = second_of _ _ (subst (λ ls. list_all (λ l. is_id l.id) ls ≡ true) here c.loop-listing.invariant.ids);
      reads = λ later rest.
          subst (AreReadAs all)
          (sym (mapped_more arc_value c.loop-listing.all.items c.push.new.self.items c.in-Ok.standing more later))
          (c.loop-listing.invariant.reads (s ∷ later) (subst (λ ls. AreReadAs ls (s ∷ later)) (sym here) (read, rest)));
      first = λ j unread.
          subst (FirstUnread all)
          (counted_more arc_value c.loop-listing.all.items c.push.new.self.items c.in-Ok.standing more j)
          (c.loop-listing.invariant.first (suc j)
          (subst (λ ls. FirstUnread ls (suc j)) (sym here) ((s.tree, read.query), unread)));
    }

pub returns-in-Err-Refused : goal.returns-in-Err-Refused
returns-in-Err-Refused c =
    let all = map listing_view c.args.listings.items in
    let here = ap (map listing_view) c.in-Some.ensures.steps.0 in
    let refused = rw c.in-Err-Refused.field-0-is at c.in-Err-Refused.ensures in
    let first = c.loop-listing.invariant.first 0 (subst (λ ls. FirstUnread ls 0) (sym here) refused.1) in
    let place : length c.loop-listing.all.items + 0 ≡ c.len-place.result =
    omega (arith, c.len-place.ensures, c.loop-listing.all.ok.0) in
    (c.in-Err-Refused.reason-is ∙ refused.0, subst (FirstUnread all) place first)

pub returns : goal.returns
returns c =
    let all = map listing_view c.args.listings.items in
    let none = ap (map listing_view)
    (none_left _ (omega (arith, c.in-None.ensures.steps.0, c.loop-listing.listing-iterator.rest.ok.0))) in
    subst (AreReadAs all) (append-nil (map arc_value c.loop-listing.all.items))
    (c.loop-listing.invariant.reads [] (subst (λ ls. AreReadAs ls []) (sym none) tt))
