use Rattle.std.proofs.Common.{◌∙◌}
use Rattle.clip_listen.proofs.listeners.Listeners.place.Goals as goal

pub returns-in-Some : goal.returns-in-Some
returns-in-Some g c = c.copied.ensures ∙ c.get.ensures.value
    ∙ c.args.self.now.indexed c.in-Some.index c.in-Some.is c.args.name.now
