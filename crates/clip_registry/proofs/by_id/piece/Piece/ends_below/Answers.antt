use Rattle.std.proofs.Common.{◌≡◌, ◌∙◌, ◌<◌, ◌-◌, length, get_or, sym, ap, subst, is_gt, arith}
use Rattle.std.specs.declared.sync.Arc.{Arc}
use Rattle.std.specs.declared.alloc.Global.{Global}
use Rattle.clip_words.specs.Order.{bytes_cmp}
use Rattle.clip_model.specs.History.{Registered}
use Rattle.clip_registry.proofs.Piecing.{Items, ends_empty, ends_with}
use Rattle.clip_registry.proofs.by_id.piece.Piece.ends_below.Goals as goal

pub returns-in-Some : goal.returns-in-Some
returns-in-Some c =
    let q = c.args.id.now in
    let last = c.in-Some.last.now in
    let item : last ≡ get_or c.self.inside.entries.items (length c.self.inside.entries.items - 1) last =
    subst (λ (xs : Items). last ≡ get_or xs (length xs - 1) last) c.deref.ensures.value c.in-Some.ensures.item.1 in
    let some : 0 < length c.self.inside.entries.items =
    subst (λ (xs : Items). 0 < length xs) c.deref.ensures.value (omega (arith, c.in-Some.ensures.item)) in
    c.gt.ensures ∙ ap (λ k. is_gt (bytes_cmp q k)) c.id_of.ensures
    ∙ ap (λ (a : Arc Registered Global). is_gt (bytes_cmp q a.value.standing.id)) item
    ∙ sym (ends_with c.self.inside.entries.items c.args.self.now c.self.invariant c.self.view_is q last some)

pub returns-in-None : goal.returns-in-None
returns-in-None c =
    sym (ends_empty c.self.inside.entries.items c.args.self.now c.self.invariant c.self.view_is c.args.id.now
    (subst (λ (xs : Items). length xs ≡ 0) c.deref.ensures.value (omega (arith, c.in-None.ensures.item))))
