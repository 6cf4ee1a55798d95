use Rattle.std.proofs.Common.{◌≡◌, All, map, take}
use Rattle.clip_match.specs.Alerts.{alerts_due}
use Rattle.clip_protocol.specs.Found.{found_value}
use Rattle.clip_front.specs.declared.settings.Settings.{Settings}
use Rattle.clip_front.specs.Steps.Found.{IsFor}
use Rattle.clip_engine.proofs.answer.found_of_each.Given as goal

abbrev pub invariant-loop-article : goal.invariant-loop-article
invariant-loop-article l = record {
  value : map found_value l.found.items ≡ map (alerts_due l.view) (take l.article-index l.articles);
  any : (settings : Settings) → All (IsFor settings) l.found.items;
}
