-- The entries of a segment that share a key.
use Rattle.std.specs.Prelude.{◌≡◌, ℕ, Bool, true, Some, ◌&&◌, List, filter, flat_map, is_some, option_to_list}
use Rattle.std.specs.List.{enumerate_from, slice_get}
use Rattle.clip_meaning.specs.Meaning.{holds}
use Rattle.clip_model.specs.History.{History, Registered, is_live}
use Rattle.clip_extract.specs.Keys.{KeyValue, share}
use Rattle.clip_extract.specs.Extraction.{query_keys}
use Rattle.clip_extract.specs.Covering.{article_keys}
use Rattle.clip_segment.specs.Segment.{AskedValue}

-- the entry's query has one of the keys
abbrev pub has_one : List KeyValue → Registered → Bool
has_one keys r = share (query_keys r.standing.tree) keys

-- the entry's query has a listener
abbrev pub has_listener : Registered → Bool
has_listener r = is_some r.standing.listener

-- the entries that have one of the keys, each with its position
abbrev pub placed_with : List KeyValue → List Registered → List (ℕ × Registered)
placed_with keys entries = filter (λ e. has_one keys e.1) (enumerate_from 0 entries)

-- of a segment's entries, those that are live and have one of the keys
abbrev pub live_with : History → List KeyValue → List Registered → List Registered
live_with history keys entries = filter (λ r. is_live history r.seq && has_one keys r) entries

-- of the entries that an article is asked of, those that are live and have one of its keys
abbrev pub live_sharing : History → AskedValue → List Registered
live_sharing history asked = live_with history (article_keys asked.article.fields) asked.entries

-- of these those whose queries hold of the article
abbrev pub holding_of : History → AskedValue → List Registered
holding_of history asked =
    filter (λ r. holds r.standing.tree asked.article.fields) (live_sharing history asked)

-- the entry at the position, where there is one, shares a key with the article
abbrev pub IsSharer : AskedValue → ℕ → Type 0
IsSharer asked position = (entry : Registered) → slice_get asked.entries position ≡ Some entry
    → has_one (article_keys asked.article.fields) entry ≡ true

-- the entries at these positions
abbrev pub entries_at : List Registered → List ℕ → List Registered
entries_at entries positions = flat_map (λ p. option_to_list (slice_get entries p)) positions
