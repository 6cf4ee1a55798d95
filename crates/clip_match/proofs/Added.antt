-- One entry more that holds.
use Rattle.std.proofs.Common.{◌≡◌, ℕ, ◌+◌, ◌<◌, ◌++◌, ◌∙◌, ◌∷◌, List, [], None, Some, All, length, map, take, get_or}
use Rattle.std.proofs.Common.{option_to_list, sym, ap, subst}
use Rattle.std.specs.List.{slice_get}
use Rattle.std.specs.Option.{IfSome}
use Rattle.std.proofs.lemmas.List.{append_assoc, map-append, take_more}
use Rattle.std.proofs.lemmas.List.Elements.{All-push}
use Rattle.clip_meaning.specs.Article.{ArticleValue}
use Rattle.clip_meaning.specs.Hits.{HitValue, hits}
use Rattle.clip_model.specs.History.{Registered}
use Rattle.clip_match.specs.declared.held.Held.{Held}
use Rattle.clip_match.specs.declared.held.HitsFound.{HitsFound}
use Rattle.clip_match.specs.declared.held.HitsFound.TheVariants.{AtOnce}
use Rattle.clip_match.specs.Due.{StandAt}
use Rattle.clip_match.specs.Steps.Held.{HasItsHits}
use Rattle.clip_match.specs.Steps.Positions.{entries_at}
use Rattle.clip_match.proofs.Positions.{entries_more}

abbrev entries_of : List Held → List Registered
entries_of = map (λ (h : Held). h.registered.now)

-- the entry at the next position is added
pub entry_added : (es : List Registered) (ps : List ℕ) (i : ℕ) (old now after : List Held) (one : Held)
    → i < length ps → slice_get es (get_or ps i 0) ≡ Some one.registered.now → after ≡ now ++ one ∷ []
    → entries_of now ≡ entries_of old ++ entries_at es (take i ps)
    → entries_of after ≡ entries_of old ++ entries_at es (take (i + 1) ps)
entry_added es ps i old now after one within there added before =
    let front = entries_at es (take i ps) in
    let last : List Registered = one.registered.now ∷ [] in
    let more : front ++ last ≡ entries_at es (take (i + 1) ps) =
    ap (λ o. front ++ option_to_list o) (sym there)
    ∙ sym (entries_more es (take i ps) (get_or ps i 0))
    ∙ ap (entries_at es) (sym (take_more ps i 0 within)) in
    ap entries_of added
    ∙ map-append (λ (h : Held). h.registered.now) now (one ∷ [])
    ∙ ap (λ xs. xs ++ last) before
    ∙ append_assoc (entries_of old) front last
    ∙ ap (λ xs. entries_of old ++ xs) more

-- without hits, where none have to be found at once
pub added_without : (wanted : HitsFound) (article : ArticleValue) (all : List HitValue) (now after : List Held)
    (one : Held) → one.hits ≡ None → (wanted ≡ AtOnce → ⊥) → after ≡ now ++ one ∷ []
    → All (HasItsHits wanted article all) now → All (HasItsHits wanted article all) after
added_without wanted article all now after one none later added each =
    subst (All (HasItsHits wanted article all)) (sym added)
    (All-push (HasItsHits wanted article all) now one each
    (record {
      right = subst (λ o. IfSome o (StandAt all (hits one.registered.now.standing.tree article.fields))) (sym none) tt;
      there = λ at_once. absurd (later at_once);
    }))
