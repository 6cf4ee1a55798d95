use Rattle.std.proofs.Common.{sym, ap, ◌∙◌}
use Rattle.clip_journal.specs.Entries.{link_behind, first_link}
use Rattle.clip_journal.specs.Contents.{kept_of}
use Rattle.clip_journal.proofs.journal.Journal.lines_again.Goals as goal

pub returns : goal.returns
returns g c =
    let found = c.in_ok-found.found in
    λ kept safe s. (
      kept_of found,
      c.into_lines.ensures,
      sym (ap (link_behind first_link 0) found.whole) ∙ sym found.linked ∙ c.are_same.ensures c.if-not-are_same.false
          ∙ s.link,
    )
