use Rattle.std.proofs.Common.{map, arith}
use Rattle.std.proofs.lemmas.Grind.{common_steps}
use Rattle.clip_standing.specs.Alerts.{alerts_value}
use Rattle.clip_protocol.specs.Reply as reply
use Rattle.clip_protocol.specs.Reply.{reply_value}
use Rattle.clip_protocol.specs.Steps.Views.{alerts_by_id}
use Rattle.clip_protocol.proofs.reply.finished_text.Goals as goal

pub returns : goal.returns
unfolding reply_value
returns c =
    c.end_reply.ensures
    (reply_value c.args.number (reply.finished (map alerts_by_id (map alerts_value c.args.found.now))))
    (grind (arith, common_steps)) (grind (arith, common_steps))
