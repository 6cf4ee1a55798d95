use Rattle.clip_ahead.specs.Changes.{changes_of}
use Rattle.clip_kept.proofs.Leads.{changes_lead, lines_lead, follows_append}
use Rattle.clip_kept.proofs.leading.changes_lead_on.Goals as goal

pub returns-clause-changes : goal.returns-clause-changes
returns-clause-changes c = λ names lines h new f. changes_lead names h new lines f

pub returns-clause-lines : goal.returns-clause-lines
returns-clause-lines c = λ names lines h new f. lines_lead names h new lines f

pub returns-clause-behind : goal.returns-clause-behind
returns-clause-behind c =
    λ names kept lines h mid new first more.
    follows_append names h mid new kept (changes_of lines) first (changes_lead names mid new lines more)
