-- The queries that are live, each as the line that registers it.
use Rattle.std.specs.Prelude.{◌≡◌, ℕ, List, [], ◌∷◌, Option, Some, None, codes, filter, map}
use Rattle.json.specs.Print.{print}
use Rattle.json.specs.Token.{Token, key, string}
use Rattle.clip_model.specs.History.{History, is_live}
use Rattle.clip_model.specs.Standing.{Standing}
use Rattle.clip_indexed.specs.Segment.{all_entries}
use Rattle.clip_registry.specs.RegistryState.{RegistryState, IsWhole}
use Rattle.clip_protocol.specs.Request.{Listing, register, value_of}
use Rattle.clip_protocol.specs.Steps.Printing.{data_tokens}

abbrev pub listing_of : Standing → Listing
listing_of s = record { id = s.id; query = s.text; listener = s.listener }

-- the line that registers it: the request's JSON value, compact
abbrev pub line_of : Standing → List ℕ
line_of s = print (data_tokens (value_of (register (listing_of s ∷ []))))

-- the member for a listener, if there is one
abbrev pub listener_tokens : Option (List ℕ) → List Token
listener_tokens None = []
listener_tokens (Some name) = key (codes "listener") ∷ string name ∷ []

-- A registry that comes of this history has just these queries, and the lines register them, one each, in the order in
-- which they were registered last.
pub record AreLive (history : History) (lines : List (List ℕ)) : Type 0 where
  pub state : RegistryState
  pub whole : IsWhole state
  pub history_is : state.history ≡ history
  pub lines_are : lines ≡ map (λ r. line_of r.standing)
      (filter (λ r. is_live state.history r.seq) (all_entries state.segments))
