-- What the texts of a call say.
use Rattle.std.specs.Prelude.{◌≡◌, ◌⊎◌, ℕ, List, map, Bool, true, Some, None, if◌then◌else◌}
use Rattle.std.specs.Str.{IsUtf8}
use Rattle.clip_meaning.specs.Article.{article_value}
use Rattle.clip_model.specs.Alerts.{alerts}
use Rattle.clip_protocol.specs.Request.{Listing}
use Rattle.clip_engine.specs.Asked.{IsAsked}
use Rattle.clip_engine.specs.Engine.{EngineIs, history_of}
use Rattle.clip_engine.specs.Found.{found_bytes}
use Rattle.clip_engine.specs.declared.code.TheConstants.{NO_MEMORY, UTF8}
use Rattle.clip_engine.specs.declared.kept.Field.{Field}
use Rattle.clip_engine.specs.declared.listed.Listed.{Listed}

-- pairs of a name and a text
abbrev pub fields_of : List Field → List (List ℕ × List ℕ)
fields_of fields = map (λ f. (f.name.now, f.text.now)) fields

-- the query of these texts, with a listener where there is one
abbrev pub listing_at : List ℕ → List ℕ → Bool → List ℕ → Listing
listing_at id query has_listener listener =
    record { id = id; query = query; listener = if has_listener then Some listener else None }

-- the queries of these texts
abbrev pub listings_at : List Listed → List Listing
listings_at = map (λ q. listing_at q.id.now q.query.now q.has_listener q.listener.now)

-- this is what an engine finds of an article of these texts
pub record IsFoundAt (e : EngineIs) (id : List ℕ) (fields : List (List ℕ × List ℕ)) (bytes : List ℕ) : Type 0 where
  pub asked : ℕ
  pub counts : IsAsked (history_of e) (article_value id fields) asked
  pub are : bytes ≡ found_bytes e.hits asked (alerts (history_of e) (article_value id fields))

-- ---- texts in UTF-8

-- the texts of a query to register are in UTF-8, that of a listener where there is one
abbrev pub AreTexts : List ℕ → List ℕ → Bool → List ℕ → Type 0
AreTexts id query has_listener listener = IsUtf8 id × IsUtf8 query × (has_listener ≡ true → IsUtf8 listener)

-- the texts of this query are in UTF-8
abbrev pub IsReadable : Listed → Type 0
IsReadable q = AreTexts q.id.now q.query.now q.has_listener q.listener.now

-- the name and the text of a field are in UTF-8
abbrev pub IsField : List ℕ × List ℕ → Type 0
IsField field = IsUtf8 field.0 × IsUtf8 field.1

-- the number of texts that are not all in UTF-8, where this says that they are, or for which there is no memory
abbrev pub IsNoText : Type 0 → ℕ → Type 0
IsNoText are_texts code = ((code ≡ UTF8) × (are_texts → ⊥)) ⊎ (code ≡ NO_MEMORY)
