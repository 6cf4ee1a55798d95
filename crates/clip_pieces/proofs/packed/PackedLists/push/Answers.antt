-- The list stands behind the items, and its end behind the ends.
use Rattle.std.proofs.Common.{◌≡◌, ℕ, List, ◌+◌, ◌-◌, ◌≤◌, ◌++◌, length, length-append, ap, sym, ◌∙◌, subst, arith}
use Rattle.std.proofs.Common.{Fits, w32}
use Rattle.clip_words.specs.Packed.{cut, AreEnds}
use Rattle.clip_words.proofs.Cuts.{cut_off, pushed_ends, pushed_cut}
use Rattle.clip_pieces.specs.declared.packed.TheConstants.{MOST_ITEMS}
use Rattle.clip_pieces.proofs.packed.PackedLists.push.Goals as goal

all_fit : (list items all : ℕ) → list ≤ MOST_ITEMS → items ≤ MOST_ITEMS - list → all ≡ items + list → Fits w32 all
all_fit list items all few room is = omega arith

list_within : (list items all : ℕ) → all ≡ items + list → list ≤ all
list_within list items all is = omega arith

pub overflow_cast-len : goal.overflow_cast-len
overflow_cast-len g c =
    let list = length c.args.list.now in
    all_fit list c.len.result c.len-2.result c.if-list-gt-MOST_ITEMS.false c.if-len-list.false (c.len-2.ensures
    ∙ c.in_ok-extend_from_slice.ensures.len ∙ ap (λ n. n + list) (sym c.len.ensures))

pub overflow_sub-len : goal.overflow_sub-len
overflow_sub-len g c = list_within (length c.args.list.now) c.self.inside.items.len c.len-in-Err.result
    (c.len-in-Err.ensures ∙ c.in_ok-extend_from_slice.ensures.len)

-- where there is no room for the end, the items are as they were
pub invariant_of-self-in-Err : goal.invariant_of-self-in-Err
invariant_of-self-in-Err g c =
    let back = cut_off c.self.inside.items.items c.args.list.now c.extend_from_slice.new.self.items
    c.truncate.new.self.items c.self.inside.items.len c.len-in-Err.result c.self.inside.items.ok.0
    (c.len-in-Err.ensures ∙ c.in_ok-extend_from_slice.ensures.len) c.in_ok-extend_from_slice.ensures.items
    c.truncate.ensures.items in
    subst (λ (ends : List ℕ). AreEnds 0 ends c.truncate.new.self.items) (sym c.in-Err.ensures.items)
    (subst (λ (xs : List g.row.T.Denot). AreEnds 0 c.self.inside.ends.items xs) (sym back) c.self.invariant)

pub returns-in-Err-clause-err : goal.returns-in-Err-clause-err
returns-in-Err-clause-err g c =
    let back = cut_off c.self.inside.items.items c.args.list.now c.extend_from_slice.new.self.items
    c.truncate.new.self.items c.self.inside.items.len c.len-in-Err.result c.self.inside.items.ok.0
    (c.len-in-Err.ensures ∙ c.in_ok-extend_from_slice.ensures.len) c.in_ok-extend_from_slice.ensures.items
    c.truncate.ensures.items in
    (λ i. cut 0 (c.in-Err.ensures.items i) (back i)) ∙ c.self.view_is

pub invariant_of-self-in-Ok : goal.invariant_of-self-in-Ok
invariant_of-self-in-Ok g c =
    let ends = c.self.inside.ends.items in
    let items = c.self.inside.items.items in
    let list = c.args.list.now in
    let fits = c.self.inside.items.ok.0 in
    let end : c.len-2.result ≡ length (items ++ list) =
    omega (arith, length-append items list, fits, c.len-2.ensures, c.in_ok-extend_from_slice.ensures.len) in
    rw (c.in-Ok.ensures.items, c.in_ok-extend_from_slice.ensures.items)
    (pushed_ends 0 ends items list c.len-2.result end c.self.invariant)

pub returns-in-Ok-clause-ok : goal.returns-in-Ok-clause-ok
returns-in-Ok-clause-ok g c =
    let ends = c.self.inside.ends.items in
    let items = c.self.inside.items.items in
    let list = c.args.list.now in
    let fits = c.self.inside.items.ok.0 in
    let end : c.len-2.result ≡ length (items ++ list) =
    omega (arith, length-append items list, fits, c.len-2.ensures, c.in_ok-extend_from_slice.ensures.len) in
    rw (c.in-Ok.ensures.items, c.in_ok-extend_from_slice.ensures.items, ← c.self.view_is)
    (pushed_cut 0 ends items list c.len-2.result end c.self.invariant)
