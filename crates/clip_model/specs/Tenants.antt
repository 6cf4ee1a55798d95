-- A registry whose queries belong to several tenants, told apart by a test on ids.
use Rattle.std.specs.Prelude.{◌≡◌, ℕ, Bool, true, List, [], ◌∷◌, ◌++◌, filter}
use Rattle.clip_meaning.specs.Article.{ArticleValue}
use Rattle.clip_model.specs.History.{History, HistoryEntry, Command, Register, Delete, Clear}
use Rattle.clip_model.specs.Alerts.{alerts}
use Rattle.clip_model.specs.Shards.{standing_of, heard}

-- both histories have the same query, or none, under each id that the test lets through
abbrev pub AgreeOn : (List ℕ → Bool) → History → History → Type 0
AgreeOn keeps h g = (id : List ℕ) → keeps id ≡ true → standing_of h id ≡ standing_of g id

-- the alerts for ids that the test lets through depend on the queries under these ids alone
abbrev pub AlertsArePrivate : Type 0
AlertsArePrivate = (keeps : List ℕ → Bool) (h g : History) (article : ArticleValue) → AgreeOn keeps h g
    → filter (λ a. keeps a.query) (alerts h article) ≡ filter (λ a. keeps a.query) (alerts g article)

-- and so does what a listener hears of them
abbrev pub HeardIsPrivate : Type 0
HeardIsPrivate = (keeps : List ℕ → Bool) (h g : History) (name : List ℕ) (article : ArticleValue) → AgreeOn keeps h g
    → filter (λ a. keeps a.query) (heard name h article) ≡ filter (λ a. keeps a.query) (heard name g article)

-- the command registers and deletes no id that the test lets through, and clears nothing
abbrev pub PassesBy : (List ℕ → Bool) → Command → Type 0
PassesBy keeps (Register standings) = filter (λ s. keeps s.id) standings ≡ []
PassesBy keeps (Delete ids) = filter keeps ids ≡ []
PassesBy keeps Clear = ⊥

-- such a command leaves the queries under these ids as they are
abbrev pub OthersPassBy : Type 0
OthersPassBy = (keeps : List ℕ → Bool) (h : History) (e : HistoryEntry) → PassesBy keeps e.command
    → AgreeOn keeps h (h ++ e ∷ [])
