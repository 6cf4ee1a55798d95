use Rattle.std.specs.Prelude.{map}
use Rattle.std.specs.Vec.Iter.{into_iter_items}
use Rattle.clip_model.specs.History.{History}
use Rattle.clip_front.specs.Outcome.{Follows, names_in}
use Rattle.clip_front.proofs.kept.take_kept.Given as goal

-- wherever the lines that are left lead, all of them lead there
abbrev pub invariant-loop-line : goal.invariant-loop-line
invariant-loop-line g l =
    let names = names_in (g.A.Audience.hearers l.fn.audience) in
    (new : History)
    → Follows names (g.H.Registry.history_in l.registry) (map (λ line. line.items) (into_iter_items l.line-iterator))
    new
    → Follows names (g.H.Registry.history_in l.fn.registry) (map (λ line. line.items) l.fn.lines.items) new
