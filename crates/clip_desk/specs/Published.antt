-- What contracts see of what a desk publishes.
use Rattle.std.specs.Prelude.{ℕ, refl}
use Rattle.std.specs.Coded.{Coded, code_by, coded×, coded_ℕ}
use Rattle.logbook.specs.Pages.{Book, book_coded}
use Rattle.clip_registry.specs.RegistryState.{RegistryState, state_code}

-- the view, the book of its history, how many callers the desk has, and how long the history was at the last purge
pub record PublishedIs : Type 0 where
  pub view : RegistryState
  pub book : Book
  pub callers : ℕ
  pub purged_at : ℕ

abbrev pub published_code : Coded PublishedIs
published_code =
    code_by (RegistryState × (Book × (ℕ × ℕ))) (coded× state_code (coded× book_coded (coded× coded_ℕ coded_ℕ)))
    (λ p. (p.view, (p.book, (p.callers, p.purged_at))))
    (λ p. record { view = p.0; book = p.1.0; callers = p.1.1.0; purged_at = p.1.1.1 }) (λ _. refl)
