use Rattle.std.proofs.Common.{◌≡◌, ◌∷◌, ◌++◌, subst, true, None, MatchOption, option_to_list}
use Rattle.std.specs.Ordering.{is_lt}
use Rattle.clip_words.specs.Order.{bytes_cmp}
use Rattle.clip_gather.specs.Merged.{NeverFalls, merged_by}
use Rattle.clip_gather.specs.Steps.Merging.{IsNotBelow}
use Rattle.clip_gather.proofs.Lists.{low_step, high_step, falls_behind}
use Rattle.clip_gather.proofs.merging.merge.Goals as goal

pub loop-below-preserved : goal.loop-below-preserved
loop-below-preserved g c =
    let key = g.T.Keyed.key in
    let item = c.in-Some.item in
    let below = c.in-Some-pop_below.below in
    let first = c.pop_front.new.self.items in
    let all = merged_by key c.args.first.items c.args.second.items in
    let falls : NeverFalls key (item ∷ first) =
    subst (NeverFalls key) c.in-Some.ensures.items c.loop-item.invariant.first in record {
      all = low_step key c.loop-below.found.items c.push_back.new.self.items item below first
          c.pop_below.new.list.items c.loop-below.second.items all c.in_ok-push_back.ensures.items
          c.in-Some-pop_below.ensures.items falls c.in-Some-pop_below.ensures.below c.loop-below.invariant.all;
      second = falls_behind key below c.pop_below.new.list.items c.loop-below.second.items
          c.in-Some-pop_below.ensures.items c.loop-below.invariant.second;
    }

pub loop-item-preserved : goal.loop-item-preserved
loop-item-preserved g c =
    let key = g.T.Keyed.key in
    let item = c.in-Some.item in
    let first = c.pop_front.new.self.items in
    let all = merged_by key c.args.first.items c.args.second.items in
    let was : c.pop_below.result ≡ None = c.in_default-pop_below.is in
    let stays : c.loop-below.second.items ≡ c.pop_below.new.list.items =
    subst (λ r. c.loop-below.second.items ≡ option_to_list r ++ c.pop_below.new.list.items) was
    c.pop_below.ensures.items in
    let level : IsNotBelow key c.pop_below.new.list.items item =
    subst (λ r. MatchOption r (IsNotBelow key c.pop_below.new.list.items item)
    (λ a. is_lt (bytes_cmp (key a) (key item)) ≡ true)) was c.pop_below.ensures.below in
    let falls : NeverFalls key (item ∷ first) =
    subst (NeverFalls key) c.in-Some.ensures.items c.loop-item.invariant.first in record {
      all = high_step key c.loop-below.found.items c.push_back-in-Some.new.self.items item first
          c.pop_below.new.list.items all c.in_ok-push_back-2.ensures.items falls level
          (subst (λ l. c.loop-below.found.items ++ merged_by key (item ∷ first) l ≡ all) stays
          c.loop-below.invariant.all);
      first = falls.1;
      second = subst (NeverFalls key) stays c.loop-below.invariant.second;
    }
