use Rattle.std.proofs.Common.{◌≡◌, ◌∙◌, T, map, set, Some, sym, ap, subst}
use Rattle.std.specs.FinMap as finite
use Rattle.std.specs.declared.sync.Arc.{Arc}
use Rattle.std.specs.declared.alloc.Global.{Global}
use Rattle.clip_words.specs.Order.{bytes_cmp}
use Rattle.clip_model.specs.History.{Registered}
use Rattle.clip_registry.specs.Steps.Pieces.{keyed, rank}
use Rattle.clip_registry.proofs.Piecing.{Items, got, inserted, rank_within, replaced, within}
use Rattle.clip_registry.proofs.by_id.piece.Piece.insert.Goals as goal

pub index_mut-requires : goal.index_mut-requires
index_mut-requires c =
    rw c.self.inside.entries.ok.0
    (within c.self.inside.entries.items c.args.self.now c.self.invariant c.self.view_is c.in-Ok.place
    c.id_of.result.now c.in-Ok.ensures.found.0 c.in-Ok.ensures.found.1)

-- the entry in the place of the one with its id
over : (c : goal.After-self-1)
    → T (finite.is_sorted bytes_cmp (map keyed (set c.self.inside.entries.items c.in-Ok.place c.args.entry)))
    × (finite.from_sorted (map keyed (set c.self.inside.entries.items c.in-Ok.place c.args.entry))
    ≡ finite.insert c.args.self.now c.args.entry.value.standing.id c.args.entry.value)
over c =
    let m = c.args.self.now in
    replaced c.self.inside.entries.items m c.self.invariant c.self.view_is c.in-Ok.place c.args.entry
    (c.in-Ok.ensures.found.0
    ∙ ap (λ q. rank q m) c.id_of.ensures) (sym (ap (λ q. finite.contains_key m q) c.id_of.ensures)
    ∙ c.in-Ok.ensures.found.1)

pub invariant_of-self : goal.invariant_of-self
invariant_of-self c =
    subst (λ (a : Arc Registered Global).
    T (finite.is_sorted bytes_cmp (map keyed (set c.self.inside.entries.items c.in-Ok.place a))))
    (sym c.replace.ensures.after) (over c).0

pub insert-requires : goal.insert-requires
insert-requires c = rw (c.self.inside.entries.ok.0, c.in-Err.ensures.missing.0)
    (rank_within c.self.inside.entries.items c.args.self.now c.self.invariant c.self.view_is c.id_of.result.now)

-- the entry of a new id
between : (c : goal.In_ok-insert-in-Err) → T (finite.is_sorted bytes_cmp (map keyed c.insert.new.self.items))
    × (finite.from_sorted (map keyed c.insert.new.self.items)
    ≡ finite.insert c.args.self.now c.args.entry.value.standing.id c.args.entry.value)
between c =
    let m = c.args.self.now in
    subst (λ (xs : Items). T (finite.is_sorted bytes_cmp (map keyed xs))
    × (finite.from_sorted (map keyed xs) ≡ finite.insert m c.args.entry.value.standing.id c.args.entry.value))
    (sym c.in_ok-insert-in-Err.ensures.items)
    (inserted c.self.inside.entries.items m c.self.invariant c.self.view_is c.in-Err.place c.args.entry
    (c.in-Err.ensures.missing.0
    ∙ ap (λ q. rank q m) c.id_of.ensures) (sym (ap (λ q. finite.contains_key m q) c.id_of.ensures)
    ∙ c.in-Err.ensures.missing.1))

pub invariant_of-self-in-Err : goal.invariant_of-self-in-Err
invariant_of-self-in-Err c = (between c).0

pub returns-in-Ok-clause-inserted : goal.returns-in-Ok-clause-inserted
returns-in-Ok-clause-inserted c =
    ap (λ (a : Arc Registered Global).
    finite.from_sorted (map keyed (set c.self.inside.entries.items c.in-Ok.place a))) c.replace.ensures.after
    ∙ (over c).1

pub returns-in-Ok-clause-replaced : goal.returns-in-Ok-clause-replaced
returns-in-Ok-clause-replaced c =
    ap (λ (a : Arc Registered Global). Some a.value) (c.replace.ensures.value ∙ c.index_mut.ensures.value)
    ∙ got c.self.inside.entries.items c.args.self.now c.self.invariant c.self.view_is c.in-Ok.place c.id_of.result.now
    c.index_mut.result.now c.in-Ok.ensures.found.0 c.in-Ok.ensures.found.1
    ∙ ap (finite.get c.args.self.now) c.id_of.ensures

pub returns-in_ok-insert-in-Err-clause-inserted : goal.returns-in_ok-insert-in-Err-clause-inserted
returns-in_ok-insert-in-Err-clause-inserted c = (between c).1
