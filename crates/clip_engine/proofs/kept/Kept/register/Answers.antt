use Rattle.std.proofs.Common.{Err, subst}
use Rattle.clip_engine.specs.Engine.{Registers}
use Rattle.clip_engine.proofs.Reading.{refused_as}
use Rattle.clip_engine.proofs.kept.Kept.register.Goals as goal

pub returns-in-Err-register : goal.returns-in-Err-register
returns-in-Err-register c = (
  λ zero. absurd (c.code_of.ensures.some zero),
  λ _. let old = c.args.self.now.engine in let new = c.register.new.self in let why = c.in-Err-register.why in
      let refused = subst (λ l. Registers old new l (Err why)) c.in-Ok.ensures.ok
      c.in-Err-register.ensures.registers in (
        c.in-Err-register.ensures.unchanged,
        refused_as c.args.id.now c.args.query.now c.args.has_listener c.args.listener.now old new why c.code_of.result
            c.code_of.ensures.is refused,
      ),
)
