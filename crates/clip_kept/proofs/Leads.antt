-- Lines lead where the changes lead that they ask for.
use Rattle.std.proofs.Common.{◌≡◌, ℕ, List, [], ◌∷◌, ◌++◌, Bool, true, false, cond, refl, sym, ap, subst, true≢false}
use Rattle.clip_model.specs.History.{History}
use Rattle.clip_protocol.specs.LineMeaning.{Meaning, Means, after}
use Rattle.clip_protocol.specs.Steps.Outline.{Outline, outline, blank, refused, registers, deletes, clears, purges}
use Rattle.clip_protocol.specs.Steps.Outline.{counts, shows, matches, MeansOutline}
use Rattle.clip_protocol.proofs.Meanings.{means_from, means_to}
use Rattle.clip_front.specs.Outcome.{Follows}
use Rattle.clip_front.proofs.OneOutcome.{outline_some}
use Rattle.clip_ahead.specs.Changes.{is_change, asks_change, changes_of}

-- ---- a line that asks for no change

leaves_by : (names : List (List ℕ)) (h : History) (o : Outline) (m : Meaning) → is_change o ≡ false
    → MeansOutline names h o m → after h m ≡ h
leaves_by names h blank m e means = ap (after h) means
leaves_by names h (refused r) m e means = ap (after h) means
leaves_by names h (registers listings) m e means = absurd (true≢false e)
leaves_by names h (deletes ids) m e means = absurd (true≢false e)
leaves_by names h clears m e means = absurd (true≢false e)
leaves_by names h purges m e means = ap (after h) means
leaves_by names h counts m e means = ap (after h) means
leaves_by names h (shows id) m e means = ap (after h) means
leaves_by names h (matches articles) m e means = ap (after h) means

leaves : (names : List (List ℕ)) (h : History) (line : List ℕ) (m : Meaning) → asks_change line ≡ false
    → Means names h line m → after h m ≡ h
leaves names h line m e means = leaves_by names h (outline line) m e (means_to names h line m means)

-- ---- one line after the other

changes_step : (names : List (List ℕ)) (h new : History) (l : List ℕ) (lines : List (List ℕ)) (b : Bool)
    → asks_change l ≡ b → Follows names h (l ∷ lines) new
    → ((x : History) → Follows names x lines new → Follows names x (changes_of lines) new)
    → Follows names h (cond b (l ∷ changes_of lines) (changes_of lines)) new
changes_step names h new l lines true e f more = (f.0, f.1, more (after h f.0) f.2)
changes_step names h new l lines false e f more =
    subst (λ x. Follows names x (changes_of lines) new) (leaves names h l f.0 e f.1) (more (after h f.0) f.2)

pub changes_lead : (names : List (List ℕ)) (h new : History) (lines : List (List ℕ)) → Follows names h lines new
    → Follows names h (changes_of lines) new
changes_lead names h new [] f = f
changes_lead names h new (l ∷ lines) f =
    changes_step names h new l lines (asks_change l) refl f (λ x. changes_lead names x new lines)

lines_step : (names : List (List ℕ)) (h new : History) (l : List ℕ) (lines : List (List ℕ)) (b : Bool)
    → asks_change l ≡ b → Follows names h (cond b (l ∷ changes_of lines) (changes_of lines)) new
    → ((x : History) → Follows names x (changes_of lines) new → Follows names x lines new)
    → Follows names h (l ∷ lines) new
lines_step names h new l lines true e f more = (f.0, f.1, more (after h f.0) f.2)
lines_step names h new l lines false e f more =
    let some = outline_some names h (outline l) in
    let means = means_from names h l some.0 some.1 in (
      some.0,
      means,
      more (after h some.0)
          (subst (λ x. Follows names x (changes_of lines) new) (sym (leaves names h l some.0 e means)) f),
    )

pub lines_lead : (names : List (List ℕ)) (h new : History) (lines : List (List ℕ))
    → Follows names h (changes_of lines) new → Follows names h lines new
lines_lead names h new [] f = f
lines_lead names h new (l ∷ lines) f =
    lines_step names h new l lines (asks_change l) refl f (λ x. lines_lead names x new lines)

-- ---- lines behind others

pub follows_append : (names : List (List ℕ)) (h mid new : History) (first more : List (List ℕ))
    → Follows names h first mid → Follows names mid more new → Follows names h (first ++ more) new
follows_append names h mid new [] more p q = subst (λ x. Follows names x more new) p q
follows_append names h mid new (l ∷ first) more p q =
    (p.0, p.1, follows_append names (after h p.0) mid new first more p.2 q)
