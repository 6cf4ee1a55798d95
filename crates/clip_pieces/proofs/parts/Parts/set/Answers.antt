-- A place of the list is a place of one part, and an item put there is put in the list.
use Rattle.std.proofs.Common.{◌≡◌, ◌/◌, ◌<◌, get_or, length, map, subst, sym, arith}
use Rattle.std.proofs.lemmas.Result.{on_ok_weaker}
use Rattle.clip_pieces.specs.Pieces.{joined}
use Rattle.clip_pieces.proofs.Filled.{part_within, place_within, set_part, same_part, set_or_same, on_err_weaker}
use Rattle.clip_pieces.proofs.parts.Parts.set.Goals as goal

pub index_mut-part-requires : goal.index_mut-part-requires
index_mut-part-requires g c =
    let place : c.args.place < length (joined (map g.P.Part.items c.self.inside.parts.items)) =
    subst (λ xs. c.args.place < length xs) (sym c.self.view_is) c.requires in
    let within = part_within g.P.Part.items g.P.Part.FULL c.self.inside.parts.items c.args.place g.met.P.Part.has_items
    c.self.invariant.0 place in
    let long = c.self.inside.parts.ok.0 in
    rw c.FULL.ensures (omega (arith, within, long))

pub set_in-requires : goal.set_in-requires
set_in-requires g c =
    let place : c.args.place < length (joined (map g.P.Part.items c.self.inside.parts.items)) =
    subst (λ xs. c.args.place < length xs) (sym c.self.view_is) c.requires in
    let part = c.index_mut-part.result.now in
    let is : part ≡ get_or c.self.inside.parts.items (c.args.place / g.P.Part.FULL) part =
    rw c.FULL.ensures at c.index_mut-part.ensures.value in
    rw c.FULL-2.ensures (place_within g.P.Part.items g.P.Part.FULL c.self.inside.parts.items c.args.place part
    g.met.P.Part.has_items c.self.invariant.0 place is)

pub invariant_of-self : goal.invariant_of-self
invariant_of-self g c =
    let place : c.args.place < length (joined (map g.P.Part.items c.self.inside.parts.items)) =
    subst (λ xs. c.args.place < length xs) (sym c.self.view_is) c.requires in
    let part = c.index_mut-part.result.now in
    let is : part ≡ get_or c.self.inside.parts.items (c.args.place / g.P.Part.FULL) part =
    rw c.FULL.ensures at c.index_mut-part.ensures.value in
    rw c.FULL.ensures (set_or_same g.P.Part.items g.P.Part.FULL c.self.inside.parts.items c.self.inside.len
    c.self.invariant c.set_in.result c.args.place part c.set_in.new.part c.args.item
    g.met.P.Part.has_items place is (rw c.FULL-2.ensures at c.set_in.ensures.ok) c.set_in.ensures.err)

pub returns-clause-ok : goal.returns-clause-ok
returns-clause-ok g c =
    let place : c.args.place < length (joined (map g.P.Part.items c.self.inside.parts.items)) =
    subst (λ xs. c.args.place < length xs) (sym c.self.view_is) c.requires in
    let part = c.index_mut-part.result.now in
    let is : part ≡ get_or c.self.inside.parts.items (c.args.place / g.P.Part.FULL) part =
    rw c.FULL.ensures at c.index_mut-part.ensures.value in
    on_ok_weaker c.set_in.result
    (λ e. rw (c.FULL.ensures, ← c.self.view_is)
    (set_part g.P.Part.items g.P.Part.FULL c.self.inside.parts.items c.self.inside.len c.self.invariant
    c.args.place part c.set_in.new.part c.args.item g.met.P.Part.has_items place is e).1)
    (rw c.FULL-2.ensures at c.set_in.ensures.ok)

pub returns-clause-err : goal.returns-clause-err
returns-clause-err g c =
    let part = c.index_mut-part.result.now in
    on_err_weaker c.set_in.result
    (λ e. rw (← c.self.view_is)
    (same_part g.P.Part.items g.P.Part.FULL c.self.inside.parts.items c.self.inside.len c.self.invariant
    (c.args.place / c.FULL.result) part c.set_in.new.part c.index_mut-part.ensures.value e).1)
    c.set_in.ensures.err
