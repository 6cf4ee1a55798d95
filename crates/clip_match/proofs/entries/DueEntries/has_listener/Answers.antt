use Rattle.std.proofs.Common.{◌≡◌, ◌||◌, ◌∷◌, [], ◌∙◌, List, ap, is_some, map, refl, sym}
use Rattle.std.specs.List.{list_any}
use Rattle.clip_meaning.specs.Article.{ArticleValue}
use Rattle.clip_model.specs.History.{Registered}
use Rattle.clip_match.specs.Alerts.{alert_due}
use Rattle.clip_match.specs.Steps.Positions.{has_listener}
use Rattle.clip_match.proofs.entries.DueEntries.has_listener.Goals as goal

-- whether one has a listener, asked of the alerts
heard : (article : ArticleValue) (entries : List Registered)
    → list_any (λ a. is_some a.listener) (map (alert_due article) entries) ≡ list_any has_listener entries
heard article [] = refl
heard article (r ∷ entries) = ap (λ b. has_listener r || b) (heard article entries)

pub returns : goal.returns
returns c =
    let held = c.args.self.now.held.items in
    c.args.self.now.heard ∙ sym (heard c.args.self.now.article.now (map (λ h. h.registered.now) held))
