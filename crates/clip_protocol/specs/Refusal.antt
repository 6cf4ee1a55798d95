-- The words for why a line is refused.
use Rattle.std.specs.Prelude.{ℕ, List, codes}
use Rattle.clip_protocol.specs.declared.refusal.Refusal.{Refusal}
use Rattle.clip_protocol.specs.declared.refusal.Refusal.TheVariants.{Long, Json, Shape, Limit, Query, Listener, Full}

abbrev pub word_of : Refusal → List ℕ
word_of Long = codes "long"
word_of Json = codes "json"
word_of Shape = codes "shape"
word_of Limit = codes "limit"
word_of Query = codes "query"
word_of Listener = codes "listener"
word_of Full = codes "full"
