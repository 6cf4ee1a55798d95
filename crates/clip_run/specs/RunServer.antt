-- What the server of a run on one thread and an audience hold, and how they answer.
use Rattle.std.specs.Prelude.{◌≡◌, ◌⊎◌, ℕ, List}
use Rattle.clip_listen.specs.Heard.{Hearer}
use Rattle.clip_registry.specs.Merging.{purged}
use Rattle.clip_protocol.specs.LineMeaning.{Means, purging}
use Rattle.clip_front.specs.Outcome.{names_in}
use Rattle.clip_front.specs.Steps.Answers.{Held, held, AnswersIn}
use Rattle.clip_front.specs.Steps.Taking.{PurgesIf}
use Rattle.clip_run.specs.Unpurged.{GoesOnUnpurged, HasMergedPaid}
use Rattle.clip_run.specs.declared.alone.RunServer.{RunServer}
use Rattle.clip_run.specs.declared.own_registrar.OwnRegistrar.{OwnRegistrar}

abbrev pub held_at : {A : Type 0} → (A → List Hearer) → RunServer × A → Held
held_at hearers s = held s.0.registry.registrar.history (hearers s.1) s.0.giver.books

-- Beside what the line asked for the registrar has merged only where articles have paid for it.
abbrev pub MergesPaid : OwnRegistrar → RunServer → RunServer → Type 0
MergesPaid asked s t =
    (t.registry ≡ asked) ⊎ ((matched : ℕ) × HasMergedPaid asked t.registry s.payment t.payment matched)

-- The line is answered by what is held, and where it means a purge, the registrar is purged, once; no other line purges
-- it.
pub record AnswersAlone {A : Type 0} (hearers : A → List Hearer) (s t : RunServer × A) (n : ℕ) (line text : List ℕ)
    : Type 0 where
  pub answers : AnswersIn (held_at hearers) s t n line text
  pub asked : OwnRegistrar
  pub purges : PurgesIf (Means (names_in (hearers s.1)) s.0.registry.registrar.history line purging)
      (λ old new. new.registrar ≡ purged old.registrar) GoesOnUnpurged s.0.registry asked
  pub merges : MergesPaid asked s.0 t.0
