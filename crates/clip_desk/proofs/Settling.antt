-- What the lock keeps, once a next registry is shown.
use Rattle.std.proofs.Common.{◌≡◌, ◌∙◌, ℕ, Bool, sym, subst}
use Rattle.logbook.specs.Pages.{Book, Named}
use Rattle.clip_registry.specs.RegistryState.{RegistryState}
use Rattle.clip_desk.specs.declared.chronicle.SeenHistory.{SeenHistory}
use Rattle.clip_desk.specs.Callers.{IsBy}
use Rattle.clip_desk.specs.Ends.{Shows}
use Rattle.clip_desk.specs.Locked.{IsSettled}
use Rattle.clip_desk.specs.Published.{PublishedIs}
use Rattle.clip_desk.specs.Purges.{IsPurgedAt}

-- The next registry is shown by its view, and what was seen of the history is its history.
pub settled_next : {book : Book} {callers : ℕ} {keeps : Bool} {registrar next view : RegistryState} {head : Named}
    {seen_history longer : SeenHistory} {shown shows : PublishedIs} {purged_at : ℕ}
    → IsSettled book callers keeps registrar head seen_history shown → Shows shown view purged_at shows → view ≡ next
    → next.keeps ≡ registrar.keeps → longer.seen.log ≡ next.history → longer.seen.book ≡ seen_history.seen.book
    → IsBy callers next.history → IsPurgedAt next purged_at → IsSettled book callers keeps next head longer shows
settled_next {next = next} i is view keeps log book by purged = record {
  keeps_is = keeps ∙ i.keeps_is;
  log = log;
  book_is = book ∙ i.book_is;
  head_is = i.head_is;
  shown_is = is.view_is ∙ view;
  shown_book = is.book_is ∙ i.shown_book;
  shown_callers = is.callers_are ∙ i.shown_callers;
  few = i.few;
  by = by;
  purged = subst (IsPurgedAt next) (sym is.purge_is) purged;
}
