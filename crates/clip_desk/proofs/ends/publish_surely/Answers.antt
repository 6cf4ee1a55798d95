use Rattle.std.proofs.Common.{sym, subst}
use Rattle.clip_desk.specs.Published.{PublishedIs}
use Rattle.clip_desk.specs.Ends.{Continues}
use Rattle.clip_desk.proofs.ends.publish_surely.Goals as goal

pub publish_copy-tried-requires : goal.publish_copy-tried-requires
publish_copy-tried-requires g c =
    subst (λ (x : PublishedIs). Continues x c.args.next.now) (sym c.loop.invariant) c.requires
