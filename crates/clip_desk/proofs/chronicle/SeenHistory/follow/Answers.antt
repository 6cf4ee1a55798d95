use Rattle.std.proofs.Common.{[], ◌∷◌, length, ap, arith, length-append}
use Rattle.clip_desk.proofs.chronicle.SeenHistory.follow.Goals as goal

pub add-requires-clause-counted : goal.add-requires-clause-counted
add-requires-clause-counted g c =
    let o = c.requires.one_more in
    let long = ap length o.1 in
    let more = length-append c.args.self.now.seen.log (o.0 ∷ []) in
    let short = c.last_entry.ensures.legal.short in
    omega (arith, long, more, short, c.requires.counted)
