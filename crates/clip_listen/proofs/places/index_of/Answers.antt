use Rattle.std.proofs.Common.{◌-◌, ◌∙◌, sym, ap, not, arith}
use Rattle.clip_listen.proofs.Indexed.{indexed_before, once_before, last_ones}
use Rattle.clip_listen.proofs.places.index_of.Goals as goal

pub returns-then-is_some-clause-distinct : goal.returns-then-is_some-clause-distinct
returns-then-is_some-clause-distinct g c =
    let k = c.loop-at.at in
    sym (last_ones (k - 1) c.args.parts.now
    (once_before c.args.parts.now (k - 1) k c.index-parts-at.result c.in_ok-clone.field-0 (omega arith) (omega arith)
    c.index-parts-at.is c.in_ok-clone.ensures.cases c.loop-at.index c.loop-at.invariant.indexed
    c.in_ok-insert.field-0 c.in_ok-insert.ensures.old c.loop-at.invariant.once
    ∙ ap not (sym c.is_some.ensures ∙ c.if-is_some.true)))

pub loop-at-preserved : goal.loop-at-preserved
loop-at-preserved g c =
    let k = c.loop-at.at in
    record {
      indexed = indexed_before c.args.parts.now (k - 1) k c.index-parts-at.result c.in_ok-clone.field-0 (omega arith)
          (omega arith) c.index-parts-at.is c.in_ok-clone.ensures.cases c.loop-at.index c.loop-at.invariant.indexed
          c.insert.new.self c.in_ok-insert.ensures.updates;
      once =
          once_before c.args.parts.now (k - 1) k c.index-parts-at.result c.in_ok-clone.field-0 (omega arith)
          (omega arith) c.index-parts-at.is c.in_ok-clone.ensures.cases c.loop-at.index c.loop-at.invariant.indexed
          c.in_ok-insert.field-0 c.in_ok-insert.ensures.old c.loop-at.invariant.once
          ∙ ap not (sym c.is_some.ensures ∙ c.if-is_some.false);
    }
