use Rattle.std.proofs.Common.{All, arith, subst, sym}
use Rattle.std.proofs.lemmas.Grind.{common_steps}
use Rattle.std.proofs.lemmas.List.Elements.{All-push}
use Rattle.clip_protocol.specs.declared.found.Found.TheVariants.{Alerts}
use Rattle.clip_front.specs.Steps.Found.{IsFor}
use Rattle.clip_engine.proofs.answer.found_of_each.Goals as goal

pub loop-article-preserved : goal.loop-article-preserved
loop-article-preserved c = record {
  value = grind (arith, common_steps);
  any = λ settings. subst (All (IsFor settings)) (sym c.in_ok-push.ensures.items)
      (All-push (IsFor settings) c.loop-article.found.items (Alerts c.in_ok-alerts.field-0)
      (c.loop-article.invariant.any settings) tt);
}
