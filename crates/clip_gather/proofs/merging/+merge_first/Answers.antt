use Rattle.std.proofs.Common.{◌≡◌, ◌/◌, ◌-◌, ◌∙◌, ◌∷◌, ap, ap₂, sym, subst, map, length, arith, drop, take}
use Rattle.std.proofs.Common.{IfOk}
use Rattle.std.proofs.lemmas.List.{drop-map, length-drop}
use Rattle.clip_gather.specs.Merged.{NeverFalls, NoneFalls, merged_all, merged_by}
use Rattle.clip_gather.specs.Steps.Merging.{items_of}
use Rattle.clip_gather.proofs.Lists.{halves, none_falls_behind, one_list}
use Rattle.clip_gather.proofs.Merges.{never_all}
use Rattle.clip_gather.proofs.merging.+merge_first.Goals as goal

pub returns-then-count-eq1-clause-found : goal.returns-then-count-eq1-clause-found
returns-then-count-eq1-clause-found g t c =
    let popped : map items_of c.args.lists.now.items ≡ c.in-Some.only.items ∷ map items_of c.pop_front.new.self.items =
    ap (map items_of) c.in-Some.ensures.items in
    one_list g.T.Keyed.key c.args.count c.in-Some.only.items (map items_of c.args.lists.now.items)
    (map items_of c.pop_front.new.self.items) (omega arith) popped c.requires.in_order

pub merge_first-requires-2 : goal.merge_first-requires-2
merge_first-requires-2 g t c =
    let key = g.T.Keyed.key in
    let half = c.args.count / 2 in
    let items = c.args.lists.now.items in
    let rest : c.merge_first.new.lists.items ≡ drop half items = c.in_ok-first.ensures.rest in
    let falls : NoneFalls key (map items_of c.merge_first.new.lists.items) =
    subst (λ l. NoneFalls key (map items_of l)) (sym rest)
    (subst (NoneFalls key) (drop-map items_of half items)
    (none_falls_behind key half (map items_of items) c.requires.in_order)) in
    let count : length c.merge_first.new.lists.items ≡ length items - half = ap length rest ∙ length-drop half items in
    λ ages within. (
      omega arith,
      (
        within,
        (
          omega (
            arith,
            c.merge_first.new.lists.ok.0,
            c.args.lists.now.ok.0,
            c.requires.there,
            count,
          ),
          falls,
        ),
      ),
    )

pub merge-requires-clause-first : goal.merge-requires-clause-first
merge-requires-clause-first g t c =
    subst (NeverFalls g.T.Keyed.key) (sym c.in_ok-first.ensures.found)
    (never_all g.T.Keyed.key (take (c.args.count / 2) (map items_of c.args.lists.now.items)))

pub merge-requires-clause-second : goal.merge-requires-clause-second
merge-requires-clause-second g t c =
    subst (NeverFalls g.T.Keyed.key) (sym c.in_ok-second.ensures.found)
    (never_all g.T.Keyed.key (take (c.args.count - c.args.count / 2) (map items_of c.merge_first.new.lists.items)))

pub returns-clause-found : goal.returns-clause-found
returns-clause-found g t c =
    let key = g.T.Keyed.key in
    let half = c.args.count / 2 in
    let lists = map items_of c.args.lists.now.items in
    let rest : map items_of c.merge_first.new.lists.items ≡ drop half lists =
    ap (map items_of) c.in_ok-first.ensures.rest ∙ sym (drop-map items_of half c.args.lists.now.items) in
    let both : merged_by key c.in_ok-first.first.items c.in_ok-second.second.items
    ≡ merged_all key (take c.args.count lists) =
    ap₂ (merged_by key) c.in_ok-first.ensures.found
    (c.in_ok-second.ensures.found ∙ ap (λ l. merged_all key (take (c.args.count - half) l)) rest)
    ∙ halves key half c.args.count lists (omega arith) in
    subst (λ all. IfOk c.merge.result (λ found. found.items ≡ all)) both c.merge.ensures
