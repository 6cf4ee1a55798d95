-- Alerts whose queries have no listener.
use Rattle.std.proofs.Common.{◌≡◌, suc, List, [], ◌∷◌, All, None, refl, sym, ap, ◌∙◌, arith}
use Rattle.std.specs.List.{cons_option}
use Rattle.clip_model.specs.Alerts.{Alert}
use Rattle.clip_listen.specs.Heard.{Hearer, told_all, notes_of}
use Rattle.clip_listen.proofs.Hearing.{told_more, told_none, unnamed}

-- nobody hears them, and nothing is said of them
pub unheard : (alerts : List Alert) (hearers : List Hearer) → All (λ (a : Alert). a.listener ≡ None) alerts
    → (told_all alerts hearers ≡ hearers) × (notes_of hearers alerts ≡ [])
unheard [] hearers none = (told_none hearers, refl)
unheard (a ∷ alerts) hearers none =
    let first = unnamed a hearers (none 0 a (omega arith)) in
    let rest = unheard alerts hearers (λ k d lt. none (suc k) d (omega (arith, lt))) in (
      sym (told_more (a ∷ []) alerts hearers) ∙ ap (told_all alerts) first.0 ∙ rest.0,
      ap (λ note. cons_option note (notes_of hearers alerts)) first.1 ∙ rest.1,
    )
