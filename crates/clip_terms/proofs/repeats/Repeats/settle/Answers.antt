use Rattle.std.proofs.Common.{ℕ, List, ◌≡◌, ◌+◌, arith, ap, sym, subst}
use Rattle.clip_terms.specs.declared.repeats.Repeats.{Repeats}
use Rattle.clip_terms.specs.Steps.Repeats.{AreRepeats, Returns}
use Rattle.clip_terms.proofs.Repeating.{returns_less, settled, settled_more}
use Rattle.clip_terms.proofs.repeats.Repeats.settle.Goals as goal
use Rattle.clip_terms.proofs.repeats.Repeats.settle.Goals.{then-at, else-at}

pub returns-clause-repeats : goal.returns-clause-repeats
returns-clause-repeats c =
    let r = c.args.self.now in
    let s = c.args.at.start in
    let n = s + c.args.at.kept in
    elim c.if-at.branch [
      | then-at w ↦
          subst (λ (x : Repeats). AreRepeats (record x { known = n + 1 })) (sym w.self-is)
          (settled_more r s n w.max.result c.requires.repeats c.requires.room c.requires.some c.requires.returns
          c.requires.least (omega (arith, w.max.ensures)) (omega (arith, w.max.ensures))
          (λ m known twice. omega (arith, w.max.ensures)))
      | else-at w ↦ subst (λ (x : Repeats). AreRepeats (record x { known = n + 1 })) (sym w.self-is)
          (settled r s n c.requires.repeats c.requires.least (omega (arith, w.if-at.false)))
    ]

pub returns-clause-least : goal.returns-clause-least
returns-clause-least c d some lt back =
    let r = c.args.self.now in
    let n = c.args.at.start + c.args.at.kept in
    let same : c.if-at.self.run.now ≡ r.run.now =
    elim c.if-at.branch [
      | then-at w ↦ ap (λ (x : Repeats). x.run.now) w.self-is
      | else-at w ↦
          ap (λ (x : Repeats). x.run.now) w.self-is
    ] in
    c.requires.least d some lt
    (returns_less r.run.now d (n + 1) r.known (subst (λ (xs : List ℕ). Returns xs d (n + 1)) same back)
    (omega (arith, c.if-length-self.false)))
