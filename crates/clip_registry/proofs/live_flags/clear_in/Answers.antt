use Rattle.std.proofs.Common.{false, set, ap, ◌∙◌, refl, arith}
use Rattle.std.proofs.lemmas.List.{length-map}
use Rattle.std.proofs.lemmas.Option.{slice_get_within}
use Rattle.std.proofs.lemmas.Result.{on_ok_weaker}
use Rattle.clip_model.specs.History.{Registered}
use Rattle.clip_indexed.specs.Segment.{seqs_of}
use Rattle.clip_registry.proofs.LiveFlags.{cleared_here, cleared_nowhere}
use Rattle.clip_registry.proofs.live_flags.clear_in.Goals as goal

pub set-requires : goal.set-requires
set-requires g c =
    let within = slice_get_within (seqs_of c.args.segment.now) c.in-Some.position c.args.seq c.in-Some.ensures.there in
    omega (arith, within, length-map c.args.segment.now (λ (r : Registered). r.seq), c.requires)

pub returns-in-Some-clause-cleared : goal.returns-in-Some-clause-cleared
returns-in-Some-clause-cleared g c = λ is flags.
    on_ok_weaker c.set.result
    (λ cleared. cleared ∙ ap (λ fs. set fs c.in-Some.position false) flags
    ∙ cleared_here is c.args.segment.now c.args.seq c.in-Some.position c.in-Some.ensures.rising
    c.in-Some.ensures.there)
    c.set.ensures.ok

pub returns-in-None-clause-cleared : goal.returns-in-None-clause-cleared
returns-in-None-clause-cleared g c = λ is flags.
    flags ∙ cleared_nowhere is c.args.segment.now c.args.seq (c.in-None.ensures.nowhere refl)
