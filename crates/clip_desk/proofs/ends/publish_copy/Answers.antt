use Rattle.std.proofs.Common.{sym, subst}
use Rattle.clip_desk.specs.Published.{PublishedIs}
use Rattle.clip_desk.specs.Ends.{Continues}
use Rattle.clip_desk.proofs.ends.publish_copy.Goals as goal

pub publish-requires : goal.publish-requires
publish-requires g c = subst (λ (p : PublishedIs). Continues c.args.writer.desk.shown.value p) (sym c.in-Ok.ensures)
    c.requires
