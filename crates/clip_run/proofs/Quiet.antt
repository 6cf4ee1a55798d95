-- What is shown of an article whose alerts nobody hears.
use Rattle.std.proofs.Common.{◌≡◌, All, List, None, Option, Some, ap, false, is_some, refl, true, ℕ}
use Rattle.std.specs.List.{list_any}
use Rattle.std.proofs.lemmas.List.Folds.{list_any_at}
use Rattle.clip_model.specs.Alerts.{Alert}
use Rattle.clip_protocol.specs.Reply.{article_data, form_with, query_ids, unheard_data}
use Rattle.clip_stream.specs.declared.form.Form.{Form}
use Rattle.clip_stream.specs.declared.form.Form.TheVariants.{Plain, WithHits}
use Rattle.clip_run.specs.Quiet.{alerts_shown}

none_if : (o : Option (List ℕ)) → (is_some o ≡ true → ⊥) → o ≡ None
none_if None h = refl
none_if (Some x) h = absurd (h refl)

-- where no alert has a listener, each has none
pub unlistened : (alerts : List Alert) → list_any (λ a. is_some a.listener) alerts ≡ false
    → All (λ (a : Alert). a.listener ≡ None) alerts
unlistened alerts none = λ k d h. none_if _ (λ some.
    let one : list_any (λ (a : Alert). is_some a.listener) alerts ≡ true =
    list_any_at (λ (a : Alert). is_some a.listener) alerts k d h some in cc)

-- a form shows the ids of the queries, and where they hold, if it shows that
pub shown_unheard : (form : Form) (i j : List ℕ) (ids : List (List ℕ)) (views : Option (List Alert))
    (alerts : List Alert) → i ≡ j → ids ≡ query_ids alerts → views ≡ alerts_shown form alerts
    → unheard_data i ids views ≡ article_data form j (query_ids alerts) alerts
shown_unheard Plain i j ids views alerts same_id same_ids same =
    λ k. unheard_data (same_id k) (same_ids k) (same k)
shown_unheard WithHits i j ids views alerts same_id same_ids same =
    λ k. unheard_data (same_id k) (same_ids k) (same k)

-- the form is known by whether the alerts are given
pub same_form : (form : Form) (views : Option (List Alert)) (alerts : List Alert) → views ≡ alerts_shown form alerts
    → form_with views ≡ form
same_form Plain views alerts same = ap form_with same
same_form WithHits views alerts same = ap form_with same
