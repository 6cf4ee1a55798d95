use Rattle.std.proofs.lemmas.Result.{on_ok_weaker}
use Rattle.clip_front.proofs.Purging.{purges_meant}
use Rattle.clip_front.proofs.Responses.{takes_come}
use Rattle.clip_front.proofs.answer.take_line.Goals as goal

pub returns-clause-taken : goal.returns-clause-taken
returns-clause-taken g c =
    takes_come _ _ _ c.args.number c.args.bytes.now _ c.respond.result c.in_ok-line.ensures.outline
    c.respond.ensures.comes

pub returns-clause-purged : goal.returns-clause-purged
returns-clause-purged g c =
    on_ok_weaker c.respond.result
    (purges_meant _ _ _ _ _ _ c.args.bytes.now _ c.in_ok-line.ensures.outline) c.respond.ensures.purged
