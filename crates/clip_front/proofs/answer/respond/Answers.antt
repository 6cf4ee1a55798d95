use Rattle.std.proofs.Common.{refl, ap, map}
use Rattle.std.specs.Prelude.{option_map, string_bytes}
use Rattle.clip_protocol.specs.LineMeaning.{nothing, refusal, purging, counting, showing}
use Rattle.clip_protocol.specs.Reply as reply
use Rattle.clip_protocol.specs.Steps.Outline.{blank, refused, registers, purges, counts, shows}
use Rattle.clip_protocol.specs.Steps.Views.{listing_view, reply_view}
use Rattle.clip_front.specs.Outcome.{names_in}
use Rattle.clip_front.proofs.Responses.{comes_said}
use Rattle.clip_front.proofs.answer.respond.Goals as goal

pub returns-in-Blank-clause-comes : goal.returns-in-Blank-clause-comes
returns-in-Blank-clause-comes g c =
    let names = names_in (g.A.Audience.hearers c.args.audience.now) in
    let here = g.H.Registry.history_in c.args.registry.now in
    rw c.in-Blank.is
    (comes_said names here here c.args.number blank reply.nothing c.step_of.result
    (nothing, refl, record { quiet = tt; history = refl; reply = λ form hearers. refl }) c.step_of.ensures)

pub returns-in-Refused-clause-comes : goal.returns-in-Refused-clause-comes
returns-in-Refused-clause-comes g c =
    let names = names_in (g.A.Audience.hearers c.args.audience.now) in
    let here = g.H.Registry.history_in c.args.registry.now in
    let reason = c.in-Refused.reason in
    rw c.in-Refused.is
    (comes_said names here here c.args.number (refused reason) (reply.refused reason) c.step_of-in-Refused.result
    (refusal reason, refl, record { quiet = tt; history = refl; reply = λ form hearers. refl })
    c.step_of-in-Refused.ensures)

pub returns-in_ok-register-in-Register-clause-comes : goal.returns-in_ok-register-in-Register-clause-comes
returns-in_ok-register-in-Register-clause-comes g c =
    let history = g.H.Registry.history_in in
    rw c.in-Register.is
    (comes_said (names_in (g.A.Audience.hearers c.args.audience.now)) (history c.args.registry.now)
    (history c.register.new.registry) c.args.number (registers (map listing_view c.in-Register.listings.items))
    (reply_view c.in_ok-register-in-Register.field-0) c.step_of-in-Register.result
    c.in_ok-register-in-Register.ensures.settles c.step_of-in-Register.ensures)

pub returns-in_ok-purge_dead-in-Purge-clause-comes : goal.returns-in_ok-purge_dead-in-Purge-clause-comes
returns-in_ok-purge_dead-in-Purge-clause-comes g c =
    let history = g.H.Registry.history_in in
    let same = c.in_ok-purge_dead-in-Purge.ensures.same in
    rw c.in-Purge.is
    (comes_said (names_in (g.A.Audience.hearers c.args.audience.now)) (history c.args.registry.now)
    (history c.purge_dead.new.self) c.args.number purges reply.purged c.step_of-in-Purge.result
    (purging, refl, record { quiet = tt; history = same; reply = λ form hearers. refl }) c.step_of-in-Purge.ensures)

pub returns-in_ok-count-in-Count-clause-comes : goal.returns-in_ok-count-in-Count-clause-comes
returns-in_ok-count-in-Count-clause-comes g c =
    let history = g.H.Registry.history_in in
    let count = c.in_ok-count-in-Count.ensures in
    rw c.in-Count.is
    (comes_said (names_in (g.A.Audience.hearers c.args.audience.now)) (history c.args.registry.now)
    (history c.count.new.self) c.args.number counts (reply.counted c.in_ok-count-in-Count.field-0)
    c.step_of-in-Count.result (
      counting,
      refl,
      record { quiet = tt; history = count.same; reply = λ form hearers. ap reply.counted count.counted },
    ) c.step_of-in-Count.ensures)

pub returns-in_ok-show-in-Show-clause-comes : goal.returns-in_ok-show-in-Show-clause-comes
returns-in_ok-show-in-Show-clause-comes g c =
    let history = g.H.Registry.history_in in
    let show = c.in_ok-show-in-Show.ensures in
    let id = c.as_str.result.now in
    rw (c.in-Show.is, ← c.as_str.ensures.value)
    (comes_said (names_in (g.A.Audience.hearers c.args.audience.now)) (history c.args.registry.now)
    (history c.show.new.self) c.args.number (shows id)
    (reply.shown (option_map string_bytes c.in_ok-show-in-Show.field-0)) c.step_of-in-Show.result (
      showing id,
      refl,
      record { quiet = tt; history = show.same; reply = λ form hearers. ap reply.shown show.shown },
    ) c.step_of-in-Show.ensures)
