use Rattle.std.proofs.Common.{◌≡◌, ◌∙◌, T, map, Some, sym, ap, subst}
use Rattle.std.specs.FinMap as finite
use Rattle.std.specs.declared.sync.Arc.{Arc}
use Rattle.std.specs.declared.alloc.Global.{Global}
use Rattle.clip_words.specs.Order.{bytes_cmp}
use Rattle.clip_model.specs.History.{Registered}
use Rattle.clip_registry.specs.Steps.Pieces.{keyed}
use Rattle.clip_registry.proofs.Piecing.{Items, got, removed, removed_none, within}
use Rattle.clip_registry.proofs.by_id.piece.Piece.remove.Goals as goal

pub remove-requires : goal.remove-requires
remove-requires c =
    rw c.self.inside.entries.ok.0
    (within c.self.inside.entries.items c.args.self.now c.self.invariant c.self.view_is c.in-Ok.place c.args.id.now
    c.in-Ok.ensures.found.0 c.in-Ok.ensures.found.1)

left : (c : goal.After-remove) → T (finite.is_sorted bytes_cmp (map keyed c.remove.new.self.items))
    × (finite.from_sorted (map keyed c.remove.new.self.items) ≡ finite.remove c.args.self.now c.args.id.now)
left c =
    subst (λ (xs : Items). T (finite.is_sorted bytes_cmp (map keyed xs))
    × (finite.from_sorted (map keyed xs) ≡ finite.remove c.args.self.now c.args.id.now))
    (sym c.remove.ensures.items)
    (removed c.self.inside.entries.items c.args.self.now c.self.invariant c.self.view_is c.in-Ok.place c.args.id.now
    c.in-Ok.ensures.found.0 c.in-Ok.ensures.found.1)

pub invariant_of-self : goal.invariant_of-self
invariant_of-self c = (left c).0

pub returns-in-Ok-clause-removed : goal.returns-in-Ok-clause-removed
returns-in-Ok-clause-removed c = (left c).1

pub returns-in-Ok-clause-gone : goal.returns-in-Ok-clause-gone
returns-in-Ok-clause-gone c =
    ap (λ (a : Arc Registered Global). Some a.value) c.remove.ensures.value
    ∙ got c.self.inside.entries.items c.args.self.now c.self.invariant c.self.view_is c.in-Ok.place c.args.id.now
    c.remove.result c.in-Ok.ensures.found.0 c.in-Ok.ensures.found.1

pub returns-in-Err-clause-removed : goal.returns-in-Err-clause-removed
returns-in-Err-clause-removed c = removed_none c.args.self.now c.args.id.now c.in-Err.ensures.missing.1
