use Rattle.std.proofs.Common.{◌≡◌, ◌<◌, All, List, Vec, Global, length, map, get_or, true, is_some, sym, ◌∙◌, subst}
use Rattle.std.proofs.Common.{arith}
use Rattle.std.proofs.lemmas.Grind.{common_steps}
use Rattle.std.proofs.lemmas.Iterator.Adapters.{YieldsList-from_vec}
use Rattle.std.proofs.lemmas.Iterator.Consumers.{YieldsList-turn}
use Rattle.std.proofs.lemmas.List.Elements.{All-push}
use Rattle.clip_meaning.specs.Hits.{hit_value}
use Rattle.clip_standing.specs.Alerts.{has_hits}
use Rattle.clip_standing.specs.declared.alert.Alert.{Alert}
use Rattle.clip_match.specs.declared.held.Held.{Held}
use Rattle.clip_match.specs.Due.{AreItsHits}
use Rattle.clip_match.proofs.matching.alerts.Goals as goal

counted : (held : Vec Held Global) → held.len ≡ length held.items
counted held = omega arith

-- what holds of all holds of the one whose turn it is
at_turn : (P : Held → Type 0) (all before : List Held) (one : Held) → All P all → length before < length all
    → one ≡ get_or all (length before) one → P one
at_turn P all before one each within is = subst P (sym is) (each (length before) one within)

pub alert_of-requires : goal.alert_of-requires
alert_of-requires c =
    let given = c.into_iter-one-iterator.ensures.into_iter_gives in
    let turn = YieldsList-turn (YieldsList-from_vec {s =
    c.into_iter-one-iterator.result} c.args.held.items given.0 (given.1 ∙ counted c.args.held))
    c.loop-one.yielded c.loop-one.one-iterator c.loop-one.yielded_by c.next.result c.next.new.self c.in-Some.one
    c.in-Some.is c.next.ensures.steps in
    at_turn (AreItsHits c.args.article.now (map hit_value c.args.all_hits.now.value.items)) c.args.held.items
    c.loop-one.yielded c.in-Some.one c.requires turn.0 turn.1

pub loop-one-preserved : goal.loop-one-preserved
loop-one-preserved c =
    let given = c.into_iter-one-iterator.ensures.into_iter_gives in
    let turn = YieldsList-turn (YieldsList-from_vec {s =
    c.into_iter-one-iterator.result} c.args.held.items given.0 (given.1 ∙ counted c.args.held))
    c.loop-one.yielded c.loop-one.one-iterator c.loop-one.yielded_by c.next.result c.next.new.self c.in-Some.one
    c.in-Some.is c.next.ensures.steps in
    record {
      value = grind (arith, common_steps);
      found = λ each.
          subst (All (λ (alert : Alert). has_hits alert ≡ true)) (sym c.in_ok-push.ensures.items)
          (All-push (λ (alert : Alert). has_hits alert ≡ true) c.loop-one.alerts.items c.in_ok-alert_of.field-0
          (c.loop-one.invariant.found each)
          (c.in_ok-alert_of.ensures.found
          (at_turn (λ (h : Held). is_some h.hits ≡ true) c.args.held.items c.loop-one.yielded c.in-Some.one
          each turn.0 turn.1)));
    }
