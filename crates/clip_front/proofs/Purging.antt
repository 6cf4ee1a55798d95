-- Which lines purge a registry.
use Rattle.std.proofs.Common.{◌≡◌, ℕ, List, Bool, true, false, cond, refl, sym, ◌∙◌, subst, inl, inr}
use Rattle.clip_model.specs.History.{History, Command, Register, Delete, Clear, has_room}
use Rattle.clip_protocol.specs.declared.refusal.Refusal.TheVariants.{Full}
use Rattle.clip_protocol.specs.LineMeaning.{Means, command, refusal, purging, judged}
use Rattle.clip_protocol.specs.Steps.Outline.{Outline, blank, refused, registers, deletes, clears, purges, counts}
use Rattle.clip_protocol.specs.Steps.Outline.{shows, matches, outline, MeansOutline}
use Rattle.clip_protocol.proofs.Meanings.{means_from, means_to}
use Rattle.clip_front.specs.Steps.Taking.{PurgesIf}
use Rattle.clip_front.proofs.Responses.{judged-room}

no_purge : (c : Command) (b : Bool) → purging ≡ cond b (command c) (refusal Full) → ⊥
no_purge c true e = cc e
no_purge c false e = cc e

never_judged : (h : History) (c : Command) → purging ≡ judged h c → ⊥
never_judged h c e = no_purge c (has_room h c) (e ∙ judged-room h c (has_room h c) refl)

purging_only : (names : List (List ℕ)) (h : History) (o : Outline) → MeansOutline names h o purging → o ≡ purges
purging_only names h blank means = absurd (cc means)
purging_only names h (refused r) means = absurd (cc means)
purging_only names h (registers listings) (inl f) = absurd (let e = f.3 in cc e)
purging_only names h (registers listings) (inr r) = absurd (never_judged h (Register r.0) r.2)
purging_only names h (deletes ids) means = absurd (never_judged h (Delete ids) means)
purging_only names h clears means = absurd (never_judged h Clear means)
purging_only names h purges means = refl
purging_only names h counts means = absurd (cc means)
purging_only names h (shows id) means = absurd (cc means)
purging_only names h (matches articles) means = absurd (cc means)

-- a line means a purge just where its outline is one
pub purges_meant : {H : Type 0} (purged goes_on : H → H
    → Type 0) (s t : H) (names : List (List ℕ)) (h : History) (line : List ℕ) (o : Outline) → outline line ≡ o
    → PurgesIf (o ≡ purges) purged goes_on s t → PurgesIf (Means names h line purging) purged goes_on s t
purges_meant purged goes_on s t names h line o said p = record {
  purged = λ means. p.purged (sym said ∙ purging_only names h (outline line) (means_to names h line purging means));
  unpurged = λ none. p.unpurged
      (λ e. none (means_from names h line purging (subst (λ x. MeansOutline names h x purging) (sym (said ∙ e)) refl)));
}
