use Rattle.std.proofs.Common.{subst}
use Rattle.clip_journal.specs.Kept.{says}
use Rattle.clip_ahead.proofs.anew.lines_anew.Goals as goal

pub returns-in-Ok-shorten : goal.returns-in-Ok-shorten
returns-in-Ok-shorten g c =
    λ kept safe s.
    let again = c.in-Ok.ensures kept safe s in (
      again.0,
      again.2,
      subst (λ ls. g.L.Shortener.stand_for c.args.shortener.now ls (says c.in-Ok-shorten.lines.items)) again.1
          c.in-Ok-shorten.ensures,
    )
