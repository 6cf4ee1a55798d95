use Rattle.std.proofs.Common.{◌≡◌, ℕ, ◌/◌, ◌<◌, ◌≤◌, None, List, map, slice_get, get_or, sym, subst, arith}
use Rattle.std.proofs.lemmas.Option.{slice_get_past}
use Rattle.clip_pieces.specs.Pieces.{joined}
use Rattle.clip_pieces.proofs.Filled.{part_within, get_part}
use Rattle.clip_pieces.proofs.parts.Parts.get.Goals as goal

pub returns-then-place-self : goal.returns-then-place-self
returns-then-place-self g c =
    let items = joined (map g.P.Part.items c.self.inside.parts.items) in
    subst (λ (xs : List g.row.T.Denot). None ≡ slice_get xs c.args.place) c.self.view_is
    (sym (slice_get_past items c.args.place
    (subst (λ (n : ℕ). n ≤ c.args.place) c.self.invariant.1 c.if-place-self.true)))

pub nonzero_div-place : goal.nonzero_div-place
nonzero_div-place g c = subst (λ (n : ℕ). 0 < n) (sym c.FULL.ensures) g.met.P.Part.has_items

pub nonzero_rem-place : goal.nonzero_rem-place
nonzero_rem-place g c = subst (λ (n : ℕ). 0 < n) (sym c.FULL-2.ensures) g.met.P.Part.has_items

pub index-part-requires : goal.index-part-requires
index-part-requires g c =
    let within = part_within g.P.Part.items g.P.Part.FULL c.self.inside.parts.items c.args.place g.met.P.Part.has_items
    c.self.invariant.0 (omega (arith, c.self.invariant.1, c.if-place-self.false)) in
    let long = c.self.inside.parts.ok.0 in
    rw c.FULL.ensures (omega (arith, within, long))

pub returns : goal.returns
returns g c =
    let part = c.index-part.result.now in
    let is : part ≡ get_or c.self.inside.parts.items (c.args.place / g.P.Part.FULL) part =
    rw c.FULL.ensures at c.index-part.ensures in
    let found = get_part g.P.Part.items g.P.Part.FULL c.self.inside.parts.items c.args.place part
    g.met.P.Part.has_items c.self.invariant.0 (omega (arith, c.self.invariant.1, c.if-place-self.false)) is in
    rw (c.get.ensures, c.value.ensures, c.FULL-2.ensures, ← c.self.view_is) found
