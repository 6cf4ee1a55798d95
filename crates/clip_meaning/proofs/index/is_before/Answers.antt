use Rattle.std.proofs.Common.{◌∙◌, ap}
use Rattle.std.specs.Ordering.{is_lt}
use Rattle.clip_meaning.proofs.Leads.{lesser, leads_settle_first}
use Rattle.clip_meaning.proofs.index.is_before.Goals as goal

pub returns-then-a-b : goal.returns-then-a-b
returns-then-a-b c = lesser _ _ ∙ ap is_lt (leads_settle_first _ _ _ _ _ c.requires.a c.requires.b c.if-a-b.true)
