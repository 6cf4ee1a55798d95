use Rattle.std.proofs.Common.{map, refl, sym}
use Rattle.std.proofs.lemmas.List.{length-map}
use Rattle.std.specs.Arc.{arc_value}
use Rattle.clip_merge.specs.Plan.IsTurn.{rise}
use Rattle.clip_merge.proofs.Rises.{few}
use Rattle.clip_merge.proofs.levels.plan_turn.Goals as goal

pub returns-in-Some-oldest_rise-clause-turn : goal.returns-in-Some-oldest_rise-clause-turn
returns-in-Some-oldest_rise-clause-turn g c =
    rise (c.in-None.ensures.none refl) c.in-Some-oldest_rise.ensures.rise
    (sym (length-map c.args.segments.now arc_value))

pub returns-in-None-oldest_rise-clause-no_rise : goal.returns-in-None-oldest_rise-clause-no_rise
returns-in-None-oldest_rise-clause-no_rise g c _ = c.in-None-oldest_rise.ensures.none refl

pub returns-in-None-oldest_rise-clause-few : goal.returns-in-None-oldest_rise-clause-few
returns-in-None-oldest_rise-clause-few g c _ =
    few (map arc_value c.args.segments.now) (c.in-None-oldest_rise.ensures.none refl) (c.in-None.ensures.none refl)
