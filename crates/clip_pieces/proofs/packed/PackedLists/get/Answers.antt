-- A list is the items from its start to its end.
use Rattle.std.proofs.Common.{◌≡◌, ◌<◌, ◌∷◌, length, get_or, ◌∙◌, arith}
use Rattle.std.proofs.lemmas.List.{get_or_read}
use Rattle.clip_words.proofs.Cuts.{past_cut, list_cut, ends_within}
use Rattle.clip_pieces.proofs.packed.PackedLists.get.Goals as goal

pub returns-then-place-len : goal.returns-then-place-len
returns-then-place-len g c =
    let fits = c.self.inside.ends.ok.0 in
    rw (← c.self.view_is) (past_cut 0 c.self.inside.ends.items c.self.inside.items.items c.args.place
    (omega (arith, fits)))

pub part-requires-clause-low : goal.part-requires-clause-low
part-requires-clause-low g c =
    let ends = c.self.inside.ends.items in
    let fits = c.self.inside.ends.ok.0 in
    let place : c.args.place < length ends = omega (arith, fits) in
    let start : c.start.result ≡ get_or (0 ∷ ends) c.args.place 0 = rw c.deref-2.ensures.value at c.start.ensures in
    let end : c.index.result.now ≡ get_or ends c.args.place 0 =
    get_or_read ends c.args.place _ place c.index.ensures 0 in
    let within = ends_within 0 ends c.self.inside.items.items c.args.place c.self.invariant place in
    omega (arith, start, end, within)

pub part-requires-clause-high : goal.part-requires-clause-high
part-requires-clause-high g c =
    let ends = c.self.inside.ends.items in
    let fits = c.self.inside.ends.ok.0 in
    let place : c.args.place < length ends = omega (arith, fits) in
    let end : c.index.result.now ≡ get_or ends c.args.place 0 =
    get_or_read ends c.args.place _ place c.index.ensures 0 in
    let within = ends_within 0 ends c.self.inside.items.items c.args.place c.self.invariant place in
    rw c.deref.ensures.value (omega (arith, end, within))

pub returns : goal.returns
returns g c =
    let ends = c.self.inside.ends.items in
    let fits = c.self.inside.ends.ok.0 in
    let place : c.args.place < length ends = omega (arith, fits) in
    let start : c.start.result ≡ get_or (0 ∷ ends) c.args.place 0 = rw c.deref-2.ensures.value at c.start.ensures in
    let end : c.index.result.now ≡ get_or ends c.args.place 0 =
    get_or_read ends c.args.place _ place c.index.ensures 0 in
    let list = rw (start, end, c.deref.ensures.value) at c.part.ensures in
    rw (← c.self.view_is) (list ∙ list_cut 0 ends c.self.inside.items.items c.args.place place)
