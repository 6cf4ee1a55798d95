-- A query with the key that every article has shares it with each.
use Rattle.std.proofs.Common.{◌≡◌, true, List, [], ◌∷◌, ◌++◌, ◌∙◌, flat_map}
use Rattle.std.specs.FinMap as finite
use Rattle.std.specs.List.{list_any}
use Rattle.std.proofs.lemmas.Bool.{or_left, or_right, false≢true}
use Rattle.clip_grammar.proofs.Booleans.{either}
use Rattle.clip_meaning.specs.Article.{Fields}
use Rattle.clip_extract.specs.Keys.{KeyValue, Any, Word, Front, is_same}
use Rattle.clip_extract.specs.Covering.{article_keys, field_keys, front_keys}
use Rattle.clip_extract.specs.Extraction.{query_keys}
use Rattle.clip_extract.proofs.Order.{among_in_order, same_itself}
use Rattle.clip_explain.specs.Explaining.{is_any, TriedOnAll}

any_key : (fields : Fields) (key : KeyValue) → is_any key ≡ true → list_any (is_same key) (article_keys fields) ≡ true
any_key fields Any e =
    let others = flat_map field_keys (finite.entries fields) ++ flat_map front_keys (finite.entries fields) in
    among_in_order (Any ∷ others) Any ∙ or_left (is_same Any Any) (list_any (is_same Any) others) (same_itself Any)
any_key fields (Word field word) e = absurd (false≢true e)
any_key fields (Front field front) e = absurd (false≢true e)

some_key : (fields : Fields) (keys : List KeyValue) → list_any is_any keys ≡ true
    → list_any (λ key. list_any (is_same key) (article_keys fields)) keys ≡ true
some_key fields [] any = absurd (false≢true any)
some_key fields (key ∷ keys) any =
    either (is_any key) (list_any is_any keys) any
    (λ e. or_left (list_any (is_same key) (article_keys fields)) _ (any_key fields key e))
    (λ e. or_right (list_any (is_same key) (article_keys fields)) _ (some_key fields keys e))

pub tried_on_all : TriedOnAll
tried_on_all tree fields any = some_key fields (query_keys tree) any
