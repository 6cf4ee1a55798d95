use Rattle.std.proofs.Common.{◌≡◌, ◌+◌, ◌<◌, length, ◌++◌, ◌∷◌, [], ℕ, sym, ap, ◌∙◌, List, map, drop, arith}
use Rattle.std.proofs.lemmas.List.{map-append, drop_more}
use Rattle.std.specs.Arc.{arc_value}
use Rattle.clip_model.specs.Standing.{Standing}
use Rattle.clip_model.specs.History.{Registered}
use Rattle.clip_registry.specs.RegistryState.{numbered}
use Rattle.clip_registry.proofs.Entering.{numbered_step}
use Rattle.clip_registry.proofs.change.numbered_entries.Goals as goal

pub loop-standing-preserved : goal.loop-standing-preserved
loop-standing-preserved c =
    let at : ℕ = c.loop-standing.standing-index in
    let n : ℕ = c.loop-standing.seq in
    let s : Standing = arc_value c.standing-item.result in
    let es : List Registered = map arc_value c.loop-standing.entries.items in
    let ss : List Standing = map arc_value (drop (at + 1) c.args.standings.now) in
    let front : map arc_value c.push.new.self.items ≡ es ++ record { standing = s; seq = n + 1 } ∷ [] =
    ap (map arc_value) c.in_ok-push.ensures.items
    ∙ map-append arc_value c.loop-standing.entries.items (c.in_ok-new.field-0 ∷ [])
    ∙ ap (λ (r : Registered). es ++ r ∷ []) (c.in_ok-new.ensures.ok ∙ c.new-entry.ensures
    ∙ ap (λ (x : Standing). record { standing = x; seq = n + 1 }) c.in_ok-clone.ensures.cases) in
    let within : at < length c.args.standings.now = let h = c.loop-standing-test.true in omega arith in
    let parts : map arc_value (drop at c.args.standings.now) ≡ s ∷ ss =
    ap (map arc_value) (drop_more c.args.standings.now at c.standing-item.result within
    ∙ ap (λ x. x ∷ drop (at + 1) c.args.standings.now) (sym c.standing-item.is)) in (
      (let h = c.loop-standing.invariant.0 in omega arith),
      ap (λ x. x ++ numbered (n + 1) ss) front
          ∙ numbered_step es (numbered c.args.listed (map arc_value c.args.standings.now)) n s ss
          (ap (λ x. es ++ numbered n x) (sym parts) ∙ c.loop-standing.invariant.1),
    )
