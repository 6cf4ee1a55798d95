-- A batch that is settled, article by article.
use Rattle.std.proofs.Common.{◌≡◌, ℕ, List, [], ◌∷◌, refl, sym, ap₂, subst, arith}
use Rattle.std.specs.Prelude.{Option, IfSome}
use Rattle.clip_model.specs.History.{History}
use Rattle.clip_ledger.specs.Rows.{RowValue}
use Rattle.clip_protocol.specs.declared.found.Found.{Found}
use Rattle.clip_front.specs.declared.settings.Settings.{Settings}
use Rattle.clip_run.specs.Crews.{CrewIs}
use Rattle.clip_run.specs.Owed.{Owed}
use Rattle.clip_run.specs.Due.{AreDue, IsDue, KeepsDue, TakesAnswer, WaitsAt, due_by, due_to}
use Rattle.clip_run.specs.declared.batch.Batch.{Batch}
use Rattle.clip_run.specs.declared.batch.Pending.TheVariants as pending
use Rattle.clip_run.specs.declared.group.Answer.{Answer}

-- what a helper found of an article of a batch that waits is due
pub taken_due : (settings now : Settings) (line : ℕ) (batch : Batch) (article : ℕ) (start old new : List Answer)
    (found : Option Found) → now ≡ settings → TakesAnswer old new line article found
    → WaitsAt settings line batch start → KeepsDue settings line batch start old
    → IfSome found (IsDue now (due_to batch) article)
taken_due settings now line batch article start old new found same takes waits keeps =
    let taken = takes settings waits.items (keeps waits.items waits.here waits.due) in
    subst (λ k. IfSome found (IsDue k (due_to batch) article)) (sym same)
    (subst (λ item. IfSome found (IsDue settings (due_by item) article)) waits.here taken.1)

-- and the answers that are left are due
pub left_due : (settings : Settings) (line : ℕ) (batch : Batch) (article : ℕ) (start old new : List Answer)
    (found : Option Found) → TakesAnswer old new line article found → KeepsDue settings line batch start old
    → KeepsDue settings line batch start new
left_due settings line batch article start old new found takes keeps =
    λ items here due. (takes settings items (keeps items here due)).0

-- of a batch that waits alone nothing was found
pub waits_alone : (settings : Settings) (batch : Batch) (answers : List Answer) → answers ≡ []
    → WaitsAt settings 0 batch answers
waits_alone settings batch answers none = record {
  items = pending.Waiting batch ∷ [];
  here = refl;
  due = subst (AreDue settings (pending.Waiting batch ∷ [])) (sym none) (λ k d within. absurd (omega (arith, within)));
}

-- a crew, by the rows that are kept and the settings
abbrev with_books : History → List Owed → List RowValue → Settings → CrewIs
with_books history owed rows settings =
    record { history = history; rows = rows; settings = settings; owed = owed }

pub crew_then : (history : History) (owed : List Owed) (rows now : List RowValue) (settings kept : Settings)
    → now ≡ rows → kept ≡ settings → with_books history owed now kept ≡ with_books history owed rows settings
crew_then history owed rows now settings kept e f = ap₂ (with_books history owed) e f
