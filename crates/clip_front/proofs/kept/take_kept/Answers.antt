use Rattle.std.proofs.Common.{◌≡◌, ℕ, List, ◌∷◌, Vec, map, sym, ap, subst}
use Rattle.std.specs.Vec.Iter.{into_iter_items}
use Rattle.std.specs.declared.alloc.Global.{Global}
use Rattle.clip_front.specs.Outcome.{Follows, names_in}
use Rattle.clip_front.specs.Steps.Taking.{Takes}
use Rattle.clip_front.proofs.Following.{follows_first}
use Rattle.clip_front.proofs.kept.take_kept.Goals as goal

pub loop-line-preserved : goal.loop-line-preserved
loop-line-preserved g c =
    let names = names_in (g.A.Audience.hearers c.args.audience.now) in
    let texts : List (Vec ℕ Global) → List (List ℕ) = map (λ line. line.items) in
    let here = g.H.Registry.history_in c.loop-line.registry in
    let next = g.H.Registry.history_in c.take_line.new.registry in
    let line = c.in-Some.line.items in
    let taken = c.in_ok-_taken._taken in
    let more = texts (into_iter_items c.next.new.self) in
    let left : texts (into_iter_items c.loop-line.line-iterator) ≡ line ∷ more = ap texts c.in-Some.ensures.steps.0 in
    let takes = subst (λ bytes. Takes names here next 0 bytes taken) c.deref.ensures.value
    c.in_ok-_taken.ensures.taken in
    λ new rest. c.loop-line.invariant new
    (subst (λ ls. Follows names here ls new) (sym left)
    (follows_first names here next new 0 line taken more takes rest))
