-- What it means that a call appends the tokens of a value.
use Rattle.std.specs.Prelude.{◌≡◌, List, [], ◌∷◌, ◌++◌, OnOk, Result, codes}
use Rattle.json.specs.Token.{Token, key}
use Rattle.json.specs.Tree.{json_tokens, items_tokens}
use Rattle.json.specs.Written.{Written}
use Rattle.serde_json.specs.Data.{Data}
use Rattle.serde_json.specs.View.{items_of}
use Rattle.serde_json.specs.Written.{outline, items_outline}
use Rattle.clip_model.specs.Alerts.{Alert}
use Rattle.clip_protocol.specs.Reply.{hits_data}
use Rattle.clip_stream.specs.declared.form.Form.{Form}
use Rattle.clip_stream.specs.declared.form.Form.TheVariants.{Plain, WithHits}

-- the tokens of a value that has no float
abbrev pub data_tokens : Data → List Token
data_tokens d = json_tokens (outline d)

-- the call appends these tokens, and what stood before them stays
pub record Appends {E : Type 0} (r : Result (Unit {0}) E) (old new : Written) (ts : List Token) : Type 0 where
  pub tokens : OnOk r (new.tokens ≡ old.tokens ++ ts)
  pub before : OnOk r (new.before ≡ old.before)

-- the member that a form shows before the queries' ids
abbrev pub hits_tokens : Form → List Alert → List Token
hits_tokens Plain alerts = []
hits_tokens WithHits alerts = key (codes "hits") ∷ data_tokens (hits_data alerts)

-- the alerts whose hits a form shows
abbrev pub alerts_with_hits : Form → List Alert → List Alert
alerts_with_hits Plain alerts = []
alerts_with_hits WithHits alerts = alerts

-- the tokens of an array's last items, with its end
abbrev pub last_tokens : List Data → List Token
last_tokens ds = items_tokens (items_outline (items_of ds))
