-- The reply to a line.
use Rattle.std.specs.Prelude.{ℕ, map, flat_map, List, [], ◌∷◌, ◌++◌, Option, Some, None, option_map, codes, true}
use Rattle.std.specs.FinMap as finite
use Rattle.serde_json.specs.Data.{Data, null, boolean, number, unsigned, string}
use Rattle.serde_json.specs.Written.{compact_text}
use Rattle.clip_meaning.specs.Article.{ArticleValue}
use Rattle.clip_meaning.specs.Hits.{HitValue}
use Rattle.clip_model.specs.History.{History, Command, Register, Delete, Clear, replay, applied}
use Rattle.clip_model.specs.Alerts.{Alert, alerts}
use Rattle.clip_listen.specs.Heard.{Hearer, notes_of}
use Rattle.clip_protocol.specs.LineMeaning as line
use Rattle.clip_protocol.specs.LineMeaning.{Meaning}
use Rattle.clip_protocol.specs.Refusal.{word_of}
use Rattle.clip_protocol.specs.Request.{object_of, array_of}
use Rattle.clip_stream.specs.declared.form.Form.{Form}
use Rattle.clip_stream.specs.declared.form.Form.TheVariants.{Plain, WithHits}
use Rattle.clip_protocol.specs.declared.refusal.Refusal.{Refusal}

-- ---- one line

-- what is answered, to a blank line nothing; to a match in this form of each article its id and its alerts, and the
-- texts of the notes; to an event of a trace the word for its answer, and to the finish of a batch the alerts as to a
-- match
pub data Reply : Type 0 where
  nothing : Reply
  refused : Refusal → Reply
  refused_at : Refusal → ℕ → Reply
  registered : ℕ → Reply
  deleted : ℕ → Reply
  cleared : ℕ → Reply
  purged : Reply
  counted : ℕ → Reply
  shown : Option (List ℕ) → Reply
  matched : Form → List (List ℕ × List Alert) → List (List ℕ) → Reply
  stepped : List ℕ → Reply
  finished : List (List ℕ × List Alert) → Reply

-- a command that counts n
abbrev pub accepted : Command → ℕ → Reply
accepted (Register standings) n = registered n
accepted (Delete ids) n = deleted n
accepted Clear n = cleared n

-- the article's id, and its alerts
abbrev pub alerts_shown : History → ArticleValue → List ℕ × List Alert
alerts_shown h article = (article.id, alerts h article)

-- the alerts of each article, in order
abbrev pub alerts_of_all : History → List ArticleValue → List Alert
alerts_of_all h articles = flat_map (alerts h) articles

-- what these listeners say of the alerts
abbrev pub texts_said : List Hearer → List Alert → List (List ℕ)
texts_said hearers alerts = map (λ n. n.text) (notes_of hearers alerts)

-- what is answered in this form to a line that means this after the history, where these listeners are here
abbrev pub answer_to : Form → List Hearer → History → Meaning → Reply
answer_to form hearers h line.nothing = nothing
answer_to form hearers h (line.refusal r) = refused r
answer_to form hearers h (line.refusal_at r k) = refused_at r k
answer_to form hearers h (line.command c) = accepted c (applied h c)
answer_to form hearers h line.purging = purged
answer_to form hearers h line.counting = counted (finite.len (replay h))
answer_to form hearers h (line.showing id) = shown (option_map (λ r. r.standing.text) (finite.get (replay h) id))
answer_to form hearers h (line.matching articles) =
    matched form (map (alerts_shown h) articles) (texts_said hearers (alerts_of_all h articles))

-- ---- its text

abbrev pub number_of : ℕ → Data
number_of n = number (unsigned n)

abbrev pub text_or_null : Option (List ℕ) → Data
text_or_null None = null
text_or_null (Some text) = string text

-- the name of a field, and a position in it
abbrev pub hit_data : HitValue → Data
hit_data hit = object_of ((codes "field", string hit.0) ∷ (codes "position", number_of hit.1) ∷ [])

-- for each alert where its query holds
abbrev pub hits_data : List Alert → Data
hits_data alerts = array_of (map (λ a. array_of (map hit_data a.hits)) alerts)

abbrev pub ids_data : List (List ℕ) → Data
ids_data ids = array_of (map string ids)

-- an article's id and the ids of the queries, and with hits where each of the alerts holds
abbrev pub article_data : Form → List ℕ → List (List ℕ) → List Alert → Data
article_data Plain id queries alerts =
    object_of ((codes "article", string id) ∷ (codes "queries", ids_data queries) ∷ [])
article_data WithHits id queries alerts = object_of
    ((codes "article", string id) ∷ (codes "hits", hits_data alerts) ∷ (codes "queries", ids_data queries) ∷ [])

-- the form that shows hits where the alerts are given, which tell them
abbrev pub form_with : Option (List Alert) → Form
form_with None = Plain
form_with (Some alerts) = WithHits

-- an article of whose alerts nobody hears: with hits where the alerts are given, which tell them
abbrev pub unheard_data : List ℕ → List (List ℕ) → Option (List Alert) → Data
unheard_data id queries None = article_data Plain id queries []
unheard_data id queries (Some alerts) = article_data WithHits id queries alerts

-- the ids of the alerts' queries
abbrev pub query_ids : List Alert → List (List ℕ)
query_ids alerts = map (λ a. a.query) alerts

-- what is shown of the article of this id, and its alerts
abbrev pub alerts_data : Form → List ℕ × List Alert → Data
alerts_data form a = article_data form a.0 (query_ids a.1) a.1

-- the value of a reply to line n; that of no reply is never printed
unfoldable pub reply_value : ℕ → Reply → Data
reply_value n nothing = null
reply_value n (refused r) = object_of ((codes "line", number_of n) ∷ (codes "refused", string (word_of r)) ∷ [])
reply_value n (refused_at r k) =
    object_of ((codes "line", number_of n) ∷ (codes "refused", string (word_of r)) ∷ (codes "which", number_of k) ∷ [])
reply_value n (registered k) = object_of ((codes "line", number_of n) ∷ (codes "registered", number_of k) ∷ [])
reply_value n (deleted k) = object_of ((codes "deleted", number_of k) ∷ (codes "line", number_of n) ∷ [])
reply_value n (cleared k) = object_of ((codes "cleared", number_of k) ∷ (codes "line", number_of n) ∷ [])
reply_value n purged = object_of ((codes "line", number_of n) ∷ (codes "purged", boolean true) ∷ [])
reply_value n (counted k) = object_of ((codes "count", number_of k) ∷ (codes "line", number_of n) ∷ [])
reply_value n (shown text) = object_of ((codes "line", number_of n) ∷ (codes "query", text_or_null text) ∷ [])
reply_value n (matched form found notes) =
    object_of ((codes "alerts", array_of (map (alerts_data form) found)) ∷ (codes "line", number_of n)
    ∷ (codes "notes", array_of (map string notes)) ∷ [])
reply_value n (stepped word) = object_of ((codes "line", number_of n) ∷ (codes "step", string word) ∷ [])
reply_value n (finished found) =
    object_of ((codes "alerts", array_of (map (alerts_data Plain) found)) ∷ (codes "line", number_of n) ∷ [])

-- the value as compact JSON, and a line feed
unfoldable pub printed : Data → List ℕ
printed d = compact_text d ++ 10 ∷ []

-- the text of a reply to line n
abbrev pub reply_text : ℕ → Reply → List ℕ
reply_text n nothing = []
reply_text n r = printed (reply_value n r)

-- the reply to line n in this form, which means this after the history
abbrev pub reply : Form → List Hearer → ℕ → History → Meaning → List ℕ
reply form hearers n h m = reply_text n (answer_to form hearers h m)
