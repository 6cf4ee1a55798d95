-- What an alert changes at the two listeners, and the note that it gets.
use Rattle.std.proofs.Common.{◌≡◌, ◌⊎◌, ℕ, List, [], ◌∷◌, ◌++◌, bytes_eq, Some, None, true, false, ◌||◌, refl, sym, ap}
use Rattle.std.proofs.Common.{ap₂, ◌∙◌, arith, inl, inr, codes}
use Rattle.std.proofs.lemmas.Slice.Eq.{bytes_eq-Decides}
use Rattle.clip_model.specs.Alerts.{Alert}
use Rattle.clip_listen.specs.Heard.{Hearer, StyleValue, NoteValue, text_of, told_all, note_of}
use Rattle.clip_listen.proofs.Hearing.{nobody, somebody}

-- the listeners, with their styles and what they have heard
abbrev pub mail_at : StyleValue → List Alert → Hearer
mail_at style heard = record { name = codes "mail"; style = style; heard = heard; keeps = false }

abbrev pub feed_at : StyleValue → List Alert → Hearer
feed_at style heard = record { name = codes "feed"; style = style; heard = heard; keeps = false }

abbrev pub both : StyleValue → List Alert → StyleValue → List Alert → List Hearer
both style heard other told = mail_at style heard ∷ feed_at other told ∷ []

-- the note of a listener of this name and style
abbrev pub said : List ℕ → StyleValue → Alert → NoteValue
said name style alert = record { listener = name; query = alert.query; text = text_of style alert }

module _ (style : StyleValue) (heard : List Alert) (other : StyleValue) (told : List Alert) (alert : Alert)
    (n : List ℕ) (for : alert.listener ≡ Some n) where
  mail_is : bytes_eq n (codes "mail") ≡ true → codes "mail" ≡ n
  mail_is same = sym ((bytes_eq-Decides n (codes "mail")).0 same)

  feed_is : bytes_eq n (codes "feed") ≡ true → codes "feed" ≡ n
  feed_is same = sym ((bytes_eq-Decides n (codes "feed")).0 same)

  pub mail_notes : bytes_eq n (codes "mail") ≡ true → (note : NoteValue) → note ≡ said n style alert
      → Some note ≡ note_of (both style heard other told) alert
  mail_notes same note is =
      ap Some (is ∙ ap (λ name. said name style alert) (sym (mail_is same)))
      ∙ sym (somebody alert n (both style heard other told) 0 (mail_at style heard) for refl (omega arith) refl
      (mail_is same) (mail_is same)).1

  pub feed_notes : bytes_eq n (codes "feed") ≡ true → (note : NoteValue) → note ≡ said n other alert
      → Some note ≡ note_of (both style heard other told) alert
  feed_notes same note is =
      ap Some (is ∙ ap (λ name. said name other alert) (sym (feed_is same)))
      ∙ sym (somebody alert n (both style heard other told) 1 (feed_at other told) for refl (omega arith) refl
      (feed_is same) (feed_is same)).1

  pub mail_hears : bytes_eq n (codes "mail") ≡ true → (new : StyleValue) (now : List Alert) → new ≡ style
      → now ≡ heard ++ alert ∷ [] → both new now other told ≡ told_all (alert ∷ []) (both style heard other told)
  mail_hears same new now styles more =
      ap₂ (λ s h. both s h other told) styles more
      ∙ sym (somebody alert n (both style heard other told) 0 (mail_at style heard) for refl (omega arith) refl
      (mail_is same) (mail_is same)).0

  pub feed_hears : bytes_eq n (codes "feed") ≡ true → (new : StyleValue) (now : List Alert) → new ≡ other
      → now ≡ told ++ alert ∷ [] → both style heard new now ≡ told_all (alert ∷ []) (both style heard other told)
  feed_hears same new now styles more =
      ap₂ (λ s h. both style heard s h) styles more
      ∙ sym (somebody alert n (both style heard other told) 1 (feed_at other told) for refl (omega arith) refl
      (feed_is same) (feed_is same)).0

  pub mail_refused : bytes_eq n (codes "mail") ≡ true → (new : StyleValue) (now : List Alert) → new ≡ style
      → (now ≡ heard) ⊎ (now ≡ heard ++ alert ∷ [])
      → (both new now other told ≡ both style heard other told)
      ⊎ (both new now other told ≡ told_all (alert ∷ []) (both style heard other told))
  mail_refused same new now styles (inl e) = inl (ap₂ (λ s h. both s h other told) styles e)
  mail_refused same new now styles (inr e) = inr (mail_hears same new now styles e)

  pub feed_refused : bytes_eq n (codes "feed") ≡ true → (new : StyleValue) (now : List Alert) → new ≡ other
      → (now ≡ told) ⊎ (now ≡ told ++ alert ∷ [])
      → (both style heard new now ≡ both style heard other told)
      ⊎ (both style heard new now ≡ told_all (alert ∷ []) (both style heard other told))
  feed_refused same new now styles (inl e) = inl (ap₂ (λ s h. both style heard s h) styles e)
  feed_refused same new now styles (inr e) = inr (feed_hears same new now styles e)

  pub none_hears : bytes_eq n (codes "mail") ≡ false → bytes_eq n (codes "feed") ≡ false
      → (told_all (alert ∷ []) (both style heard other told) ≡ both style heard other told)
      × (note_of (both style heard other told) alert ≡ None)
  none_hears no_mail no_feed =
      nobody alert n (both style heard other told) for (ap (λ b. b || (bytes_eq n (codes "feed") || false)) no_mail
      ∙ ap (λ b. b || false) no_feed)
