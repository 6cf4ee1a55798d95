use Rattle.clip_desk.proofs.Following.{all_follow_purge}
use Rattle.clip_desk.proofs.locked.Locked.tell_purge.Goals as goal

pub invariant_of-self : goal.invariant_of-self
invariant_of-self g c =
    let s = c.self.inside in (
      c.self.invariant.0,
      all_follow_purge g.N.DeskName.heard_before s.registrar.history s.purges s.updates c.tell.new.self
          c.self.invariant.1 c.tell.ensures,
    )
