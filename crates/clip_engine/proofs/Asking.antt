-- How many queries a match tried, and what was found, by what its texts say.
use Rattle.std.proofs.Common.{◌≡◌, ℕ, List, ap, ap₂, subst, ◌∙◌}
use Rattle.clip_meaning.specs.Article.{ArticleValue, article_value}
use Rattle.clip_model.specs.Alerts.{Alert, alerts}
use Rattle.clip_model.specs.History.{History}
use Rattle.clip_engine.specs.Asked.{IsAsked}
use Rattle.clip_engine.specs.Engine.{EngineIs, history_of}
use Rattle.clip_engine.specs.Found.{found_bytes}
use Rattle.clip_engine.specs.Texts.{IsFoundAt}

pub found_at : (e : EngineIs) (id : List ℕ) (fields : List (List ℕ × List ℕ)) (h : History) (a : ArticleValue)
    (asked : ℕ) (found : List Alert) (bytes : List ℕ) → h ≡ history_of e → a ≡ article_value id fields
    → IsAsked h a asked → found ≡ alerts h a → bytes ≡ found_bytes e.hits asked found → IsFoundAt e id fields bytes
found_at e id fields h a asked found bytes same_history same_article counts are made =
    record {
      asked = asked;
      counts = subst (λ x. IsAsked (history_of e) x asked) same_article
          (subst (λ x. IsAsked x a asked) same_history counts);
      are = made ∙ ap (found_bytes e.hits asked) (are ∙ ap₂ alerts same_history same_article);
    }

pub told_at : (e : EngineIs) (id other : List ℕ) (fields pairs : List (List ℕ × List ℕ)) (bytes : List ℕ)
    → other ≡ id → pairs ≡ fields → IsFoundAt e other pairs bytes → IsFoundAt e id fields bytes
told_at e id other fields pairs bytes same_id same_fields found =
    subst (λ x. IsFoundAt e id x bytes) same_fields (subst (λ x. IsFoundAt e x pairs bytes) same_id found)
