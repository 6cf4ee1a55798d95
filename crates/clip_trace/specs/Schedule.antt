-- Schedules: which answer is due to each event.
use Rattle.std.specs.Prelude.{◌≡◌, ℕ, ◌+◌, ◌==◌, ◌&&◌, ◌||◌, ◌⊎◌, nat_lt, nat_le, Bool, false, not, if◌then◌else◌, List}
use Rattle.std.specs.Prelude.{[], ◌∷◌, ◌++◌, map, filter, length, Option, Some, None, is_some, refl}
use Rattle.std.specs.List.{list_any}
use Rattle.std.specs.Map.{lookup}
use Rattle.std.specs.Coded.{Coded, code_by, coded×, coded_ℕ, coded_list}
use Rattle.clip_meaning.specs.Article.{ArticleValue, article_code}
use Rattle.clip_model.specs.History.{History, fits, has_room, applied, with_command, history_code}
use Rattle.clip_model.specs.declared.limits.TheConstants.{MOST_ARTICLES, MOST_CALLERS}
use Rattle.clip_standing.specs.Command as command
use Rattle.clip_trace.specs.Event.{Event, Accept, Begin, Install, Purge, Look, Piece, Finish, Answer, Unknown, Used}
use Rattle.clip_trace.specs.Event.{TooMany, Full, Accepted, Begun, Nothing, Installed, Stale, Purged, Looked, Matched}
use Rattle.clip_trace.specs.Event.{Finished, found_after}
use Rattle.clip_trace.specs.declared.limits.TheConstants.{MOST_MERGES, MOST_BATCHES}

-- ---- how things stand between two events

-- an open batch: the history at its look, its articles, and how many of them are matched
pub record Batch : Type 0 where
  pub history : History
  pub articles : List ArticleValue
  pub matched : ℕ

-- the history, the numbers of the open merges, and the open batches under their numbers
pub record Stand : Type 0 where
  pub history : History
  pub merges : List ℕ
  pub batches : List (ℕ × Batch)

abbrev pub batch_code : Coded Batch
batch_code = code_by (History × (List ArticleValue × ℕ))
    (coded× history_code (coded× (coded_list article_code) coded_ℕ)) (λ b. (b.history, (b.articles, b.matched)))
    (λ p. record { history = p.0; articles = p.1.0; matched = p.1.1 }) (λ _. refl)

abbrev pub stand_code : Coded Stand
stand_code = code_by (History × (List ℕ × List (ℕ × Batch)))
    (coded× history_code (coded× (coded_list coded_ℕ) (coded_list (coded× coded_ℕ batch_code))))
    (λ s. (s.history, (s.merges, s.batches))) (λ p. record { history = p.0; merges = p.1.0; batches = p.1.1 })
    (λ _. refl)

-- a batch of which no article is matched
abbrev pub fresh_batch : History → List ArticleValue → Batch
fresh_batch h articles = record { history = h; articles = articles; matched = 0 }

abbrev pub with_matched : Batch → ℕ → Batch
with_matched b n = record { history = b.history; articles = b.articles; matched = n }

abbrev pub nothing_open : Stand
nothing_open = record { history = []; merges = []; batches = [] }

abbrev pub is_begun : Stand → ℕ → Bool
is_begun s merge = list_any (λ m. m == merge) s.merges

abbrev pub batch_in : List (ℕ × Batch) → ℕ → Option Batch
batch_in batches batch = lookup (λ b. b == batch) batches

abbrev pub is_looked : Stand → ℕ → Bool
is_looked s batch = is_some (batch_in s.batches batch)

-- an article of the batch is not matched yet
abbrev pub is_unmatched : Option Batch → Bool
is_unmatched None = false
is_unmatched (Some b) = nat_lt b.matched (length b.articles)

-- ---- refusals, the first that holds in this order

-- a merge that was not begun, a batch that was not looked at or has no article left to match, or a caller out of range
abbrev pub is_unknown : Stand → Event → Bool
is_unknown s (Accept caller c) = not (nat_lt 0 caller && nat_le caller MOST_CALLERS)
is_unknown s (Begin merge) = false
is_unknown s (Install merge) = not (is_begun s merge)
is_unknown s Purge = false
is_unknown s (Look batch articles) = false
is_unknown s (Piece batch) = not (is_unmatched (batch_in s.batches batch))
is_unknown s (Finish batch) = not (is_looked s batch)

-- a number that is in use
abbrev pub is_used : Stand → Event → Bool
is_used s (Begin merge) = is_begun s merge
is_used s (Look batch articles) = is_looked s batch
is_used s e = false

-- a command that does not fit, a merge or a batch above the limit, or too many articles
abbrev pub is_too_many : Stand → Event → Bool
is_too_many s (Accept caller c) = not (fits c)
is_too_many s (Begin merge) = nat_le MOST_MERGES (length s.merges)
is_too_many s (Look batch articles) = nat_le MOST_BATCHES (length s.batches) || nat_lt MOST_ARTICLES (length articles)
is_too_many s e = false

-- a command for which there is no room
abbrev pub is_full : Stand → Event → Bool
is_full s (Accept caller c) = not (has_room s.history c)
is_full s e = false

-- ---- the answer that is due

-- The answer to an event that is not refused. Free are Begun or Nothing, and Installed or Stale; no merge, purge or
-- piece enters what is found.
abbrev pub IsDone : Stand → Event → Answer → Type 0
IsDone s (Accept caller c) a = a ≡ Accepted (command.answer_of c (applied s.history c))
IsDone s (Begin merge) a = (a ≡ Begun) ⊎ (a ≡ Nothing)
IsDone s (Install merge) a = (a ≡ Installed) ⊎ (a ≡ Stale)
IsDone s Purge a = a ≡ Purged
IsDone s (Look batch articles) a = a ≡ Looked
IsDone s (Piece batch) a = a ≡ Matched
IsDone s (Finish batch) a = (b : Batch) × (batch_in s.batches batch ≡ Some b)
    × (a ≡ Finished (map (found_after b.history) b.articles))

-- the first refusal that holds, if one does
abbrev pub refusal : Stand → Event → Option Answer
refusal s e =
    if is_unknown s e then Some Unknown
    else if is_used s e then Some Used
    else if is_too_many s e then Some TooMany
    else if is_full s e then Some Full
    else None

abbrev pub IsAnswer : Option Answer → Stand → Event → Answer → Type 0
IsAnswer (Some refused) s e a = a ≡ refused
IsAnswer None s e a = IsDone s e a

-- the answer is due to the event as things stand
abbrev pub IsDueTo : Stand → Event → Answer → Type 0
IsDueTo s e a = IsAnswer (refusal s e) s e a

-- ---- how things stand after it

abbrev pub matched_more : ℕ → ℕ × Batch → ℕ × Batch
matched_more batch b = if b.0 == batch then (b.0, with_matched b.1 (b.1.matched + 1)) else b

abbrev pub without_merge : Stand → ℕ → Stand
without_merge s merge = record
    { history = s.history; merges = filter (λ m. not (m == merge)) s.merges; batches = s.batches }

abbrev pub after : Stand → Event → Answer → Stand
after s (Accept caller c) (Accepted applied) =
    record { history = with_command s.history caller c; merges = s.merges; batches = s.batches }
after s (Begin merge) Begun = record { history = s.history; merges = s.merges ++ merge ∷ []; batches = s.batches }
after s (Install merge) Installed = without_merge s merge
after s (Install merge) Stale = without_merge s merge
after s (Look batch articles) Looked =
    record {
      history = s.history;
      merges = s.merges;
      batches = s.batches ++ (batch, fresh_batch s.history articles) ∷ [];
    }
after s (Piece batch) Matched =
    record { history = s.history; merges = s.merges; batches = map (matched_more batch) s.batches }
after s (Finish batch) (Finished found) =
    record { history = s.history; merges = s.merges; batches = filter (λ b. not (b.0 == batch)) s.batches }
after s e a = s

-- ---- whole schedules

-- an event and its answer
abbrev pub Step : Type 0
Step = Event × Answer

abbrev pub stand_from : Stand → List Step → Stand
stand_from s [] = s
stand_from s (step ∷ steps) = stand_from (after s step.0 step.1) steps

-- how things stand after these events with these answers
abbrev pub stand : List Step → Stand
stand steps = stand_from nothing_open steps

-- Each answer is due to its event, as things stand after those before it.
pub record IsDue (steps : List Step) : Type 0 where
  pub each : (before later : List Step) (step : Step) → steps ≡ before ++ step ∷ later
      → IsDueTo (stand before) step.0 step.1
