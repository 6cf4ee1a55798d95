use Rattle.std.proofs.Common.{◌≡◌, ◌∙◌, sym, subst, true, false, map, arith, refl}
use Rattle.std.proofs.lemmas.Bool.{false≢true}
use Rattle.std.proofs.lemmas.List.{take_all}
use Rattle.clip_gather.specs.Merged.{NoneFalls}
use Rattle.clip_gather.proofs.Lists.{none_at, none_more}
use Rattle.clip_engine.specs.Gathered.{id_of, told_in}
use Rattle.clip_engine.proofs.parts.are_in_order.Goals as goal

pub loop-part-preserved : goal.loop-part-preserved
loop-part-preserved c =
    let ordered : c.is_in_order.result ≡ true = grind (arith, c.if-not-is_in_order.false) in
    none_more id_of told_in c.args.parts.now c.loop-part.part-index _ c.loop-part-test.true c.loop-part.invariant
    (c.is_in_order.ensures.0 ordered)

pub returns-then-not-is_in_order : goal.returns-then-not-is_in_order
returns-then-not-is_in_order c =
    let falls : c.is_in_order.result ≡ false = grind (arith, c.if-not-is_in_order.true) in (
      λ is. absurd (false≢true is),
      λ none. sym falls ∙ c.is_in_order.ensures.1
          (none_at id_of told_in c.args.parts.now c.loop-part.part-index _ c.loop-part-test.true none),
    )

pub returns : goal.returns
returns c = (
  λ is. subst (λ parts. NoneFalls id_of (map told_in parts))
      (take_all c.loop-part.part-index c.args.parts.now c.loop-part-test.false) c.loop-part.invariant,
  λ none. refl,
)
