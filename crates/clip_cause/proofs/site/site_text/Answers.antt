-- Answered here, so that a wrong body is refused at once.
use Rattle.std.proofs.Common.{rules}
use Rattle.clip_cause.proofs.site.site_text.Goals as goal

pub returns-in-Item : goal.returns-in-Item
returns-in-Item c = search rules
