-- What kept lines lead to.
use Rattle.std.proofs.Common.{◌≡◌, ℕ, List, [], ◌∷◌, refl, sym, ◌∙◌, subst}
use Rattle.clip_model.specs.History.{History}
use Rattle.clip_protocol.specs.LineMeaning.{after, matching}
use Rattle.clip_protocol.specs.Steps.Outline.{outline}
use Rattle.clip_protocol.proofs.Meanings.{means_from, means_to}
use Rattle.clip_front.specs.Outcome.{Follows}
use Rattle.clip_front.specs.Steps.Taking.{Takes}
use Rattle.clip_front.specs.declared.answer.Step.{Step}
use Rattle.clip_front.specs.declared.answer.Step.TheVariants as step
use Rattle.clip_front.proofs.OneOutcome.{outline_once, outline_some}

-- a line that was taken, and then others
pub follows_first : (names : List (List ℕ)) (h next new : History) (n : ℕ) (line : List ℕ) (taken : Step)
    (lines : List (List ℕ)) → Takes names h next n line taken → Follows names next lines new
    → Follows names h (line ∷ lines) new
follows_first names h next new n line (step.Reply text) lines p rest =
    (p.meaning, p.means, subst (λ x. Follows names x lines new) p.history rest)
follows_first names h next new n line (step.Match drafts) lines p rest =
    (matching drafts.items, p.0, subst (λ x. Follows names x lines new) p.1 rest)

-- lines lead somewhere
pub follows_some : (names : List (List ℕ)) (h : History) (lines : List (List ℕ))
    → (new : History) × Follows names h lines new
follows_some names h [] = (h, refl)
follows_some names h (line ∷ lines) =
    let m = outline_some names h (outline line) in
    let rest = follows_some names (after h m.0) lines in
    (rest.0, (m.0, means_from names h line m.0 m.1, rest.1))

-- and nowhere else
pub follows_once : (names : List (List ℕ)) (h : History) (lines : List (List ℕ)) (new other : History)
    → Follows names h lines new → Follows names h lines other → new ≡ other
follows_once names h [] new other a b = a ∙ sym b
follows_once names h (line ∷ lines) new other a b =
    let same = outline_once names h (outline line) b.0 a.0 (means_to names h line b.0 b.1)
    (means_to names h line a.0 a.1) in
    follows_once names (after h a.0) lines new other a.2 (subst (λ m. Follows names (after h m) lines other) same b.2)
