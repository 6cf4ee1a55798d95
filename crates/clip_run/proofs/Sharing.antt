-- What is due to articles that are shared out.
use Rattle.std.proofs.Common.{◌≡◌, ℕ, zero, suc, ◌<◌, List, [], ◌∷◌, ◌++◌, length, map, get_or, refl}
use Rattle.std.proofs.Common.{sym, ap, subst, ◌∙◌, arith, Bool, true, false, if◌then◌else◌}
use Rattle.std.specs.Prelude.{Some, Result}
use Rattle.std.specs.List.{slice_get}
use Rattle.clip_meaning.specs.Article.{ArticleValue}
use Rattle.clip_standing.specs.Alerts.{AlertsValue}
use Rattle.clip_match.specs.Alerts.{alerts_due}
use Rattle.clip_protocol.specs.Found.{found_value}
use Rattle.clip_protocol.specs.declared.found.Found.{Found}
use Rattle.clip_stream.specs.declared.fault.RunFault.{RunFault}
use Rattle.clip_registry.specs.RegistryState.{RegistryState}
use Rattle.clip_front.specs.Giving.{GivesArticle, GivesDue, Giving}
use Rattle.clip_front.specs.declared.settings.Settings.{Settings}
use Rattle.clip_run.specs.declared.batch.Pending.{Pending}
use Rattle.clip_run.specs.declared.group.Answer.{Answer}
use Rattle.std.proofs.lemmas.List.Elements.{All-append}
use Rattle.clip_run.specs.declared.helpers.Helper.{Helper}
use Rattle.clip_run.specs.Due.{IsDue, IsDueAt, AreDue, IsAskedFor}

-- an element of a mapped list
pub get_mapped : {X Y : Type 0} (f : X → Y) (xs : List X) (k : ℕ) (d : X) → k < length xs
    → slice_get (map f xs) k ≡ Some (f (get_or xs k d))
get_mapped f [] k d l = absurd (omega arith)
get_mapped f (x ∷ xs) zero d l = refl
get_mapped f (x ∷ xs) (suc k) d l = get_mapped f xs k d (omega arith)

-- an element that was read
pub got : {X : Type 0} (xs : List X) (k : ℕ) (x : X) → k < length xs → x ≡ get_or xs k x → slice_get xs k ≡ Some x
got [] k x l e = absurd (omega (arith, l))
got (y ∷ xs) zero x l e = ap Some (sym e)
got (y ∷ xs) (suc k) x l e = got xs k x (omega (arith, l)) e

-- what was given of an article is what is due to it
pub gives_due : {T : Type 0} (view : RegistryState) (articles : List ArticleValue) (i : ℕ) (article : ArticleValue)
    (v : AlertsValue) (old new : Giving) (result : Result T RunFault) → i < length articles
    → article ≡ get_or articles i article → v ≡ alerts_due view article → GivesArticle old new v result
    → GivesDue (map (alerts_due view) articles) i old new result
gives_due view articles i article v old new result within is same given = record {
  value = v;
  here = get_mapped (alerts_due view) articles i article within ∙ ap (λ a. Some (alerts_due view a)) (sym is)
      ∙ ap Some (sym same);
  given = given;
}

-- what was given of an article by what was found of it
pub gives_found : {T : Type 0} (settings : Settings) (due : List AlertsValue) (article : ℕ) (found : Found)
    (old new : Giving) (result : Result T RunFault) → IsDue settings due article found
    → GivesArticle old new (found_value found) result → GivesDue due article old new result
gives_found settings due article found old new result is given =
    record { value = found_value found; here = is.alerts; given = given }

-- what was added, where there was room for it
pub adds_due : (settings : Settings) (items : List Pending) (old new more : List Answer) (ok : Bool)
    → new ≡ (if ok then old ++ more else old) → AreDue settings items old → AreDue settings items more
    → AreDue settings items new
adds_due settings items old new more true is due added =
    subst (AreDue settings items) (sym is) (All-append (IsDueAt settings items) old more due added)
adds_due settings items old new more false is due added = subst (AreDue settings items) (sym is) due

-- what a helper keeps is due to what it was asked for
pub asked_due : (helper : Helper) (settings : Settings) (items : List Pending) (more : List Answer)
    → IsAskedFor settings items helper
    → AreDue helper.thread.promise.settings helper.thread.promise.items.value.items more → AreDue settings items more
asked_due helper settings items more asked kept =
    subst (λ s. AreDue s items more) asked.0
    (subst (λ lines. AreDue helper.thread.promise.settings lines more) asked.1 kept)
