-- Articles of a line that are given one after the other.
use Rattle.std.proofs.Common.{◌≡◌, ℕ, zero, suc, ◌+◌, ◌<◌, List, [], ◌∷◌, ◌++◌, length, get_or, take, nat_lt, sym, ap}
use Rattle.std.proofs.Common.{◌∙◌, refl, subst, arith}
use Rattle.std.specs.Prelude.{Result, Ok, Err, OnErr, OnOk, IsErrAnd, Some}
use Rattle.std.specs.List.{slice_get}
use Rattle.std.proofs.lemmas.Bool.{lt-ltb}
use Rattle.clip_stream.specs.Device.{AppendsFront, HandsOver}
use Rattle.clip_stream.specs.declared.fault.RunFault.{RunFault}
use Rattle.clip_stream.specs.declared.fault.RunFault.TheVariants.{NoMemory}
use Rattle.clip_stream.proofs.Flows.{handed_more, none_taken}
use Rattle.clip_standing.specs.Alerts.{AlertsValue}
use Rattle.clip_listen.specs.Heard.{notes_of, told_all, HearsFront}
use Rattle.clip_front.specs.Outcome.{kept_rows, rows_of_article}
use Rattle.clip_front.specs.Steps.Found.{told_in, rows_in, found_text}
use Rattle.clip_front.proofs.Delivering.{heard_next, notes_next, posted_next, front_here}
use Rattle.clip_front.proofs.Flowing.{begun_text, data_of, put_next, item_same, text_front, front_of_whole}
use Rattle.clip_front.specs.Giving.{Giving, GivesArticle, GivesDue, shown_next}

-- Of the articles to which these are due, so many first ones were given.
pub record HasGiven (start : Giving) (due : List AlertsValue) (count : ℕ) (now : Giving) : Type 0 where
  pub number : now.number ≡ start.number
  pub settings : now.settings ≡ start.settings
  pub later : now.has_article ≡ nat_lt 0 count
  pub heard : now.hearers ≡ told_all (told_in (take count due)) start.hearers
  pub notes : now.notes ≡ notes_of start.hearers (told_in (take count due))
  pub rows : now.rows ≡ start.rows
      ++ kept_rows start.settings.keeps_rows (rows_in start.hearers start.number (take count due))
  pub handed : HandsOver start.flow.taken
      (start.flow.waiting ++ begun_text (data_of start.settings.form due) count) now.flow.taken now.flow.waiting

-- memory ran out before the reply showed anything of the article
pub gives_front : {T : Type 0} (result : Result T RunFault) (old new : Giving) (v : AlertsValue)
    → IsErrAnd result (λ fault. fault ≡ NoMemory) → new.number ≡ old.number → new.settings ≡ old.settings
    → new.flow ≡ old.flow → HearsFront v.alerts old.hearers new.hearers → GivesArticle old new v result
gives_front (Ok x) old new v is number settings flow heard = absurd is
gives_front (Err fault) old new v is number settings flow heard = record {
  number = number;
  settings = settings;
  notes = tt;
  later = tt;
  heard = tt;
  rows = tt;
  moved = tt;
  err = heard;
  front = subst (λ s. AppendsFront old.flow.taken s.taken (old.flow.waiting ++ shown_next old v)) (sym flow)
      (none_taken _ _);
}

-- where an element that was read stands
pub found_at : {X : Type 0} (xs : List X) (k : ℕ) (x : X) → slice_get xs k ≡ Some x
    → (k < length xs) × (x ≡ get_or xs k x)
found_at [] k x e = absurd (cc e)
found_at (y ∷ xs) zero x e = (omega arith, cc e)
found_at (y ∷ xs) (suc k) x e =
    let rest = found_at xs k x e in
    (omega (arith, rest.0), rest.1)

-- one article more
pub given_next : {T : Type 0} (start : Giving) (due : List AlertsValue) (i : ℕ) (now new : Giving)
    (result : Result T RunFault) → HasGiven start due i now → GivesDue due i now new result
    → OnOk result (HasGiven start due (i + 1) new)
given_next start due i now new (Err fault) before gives = tt
given_next start due i now new (Ok x) before gives =
    let v = gives.value in
    let it = found_at due i v gives.here in
    let given = gives.given in
    let form = start.settings.form in
    let same = item_same now.has_article i form now.settings.form v v before.later (ap (λ k. k.form) before.settings)
    refl in
    let P : List ℕ → Type 0 = λ t. HandsOver start.flow.taken (start.flow.waiting ++ t) new.flow.taken
    new.flow.waiting in
    record {
      number = given.number ∙ before.number;
      settings = given.settings ∙ before.settings;
      later = given.later ∙ sym (lt-ltb 0 (i + 1) (omega arith));
      heard = heard_next due i v start.hearers now.hearers new.hearers it.0 it.1 before.heard given.heard;
      notes = given.notes ∙ notes_next due i v start.hearers now.hearers now.notes _ it.0 it.1 before.heard before.notes
          refl;
      rows = posted_next due i start.number v start.hearers now.hearers start.settings.keeps_rows
          now.settings.keeps_rows start.rows now.rows new.rows it.0 it.1 before.heard
          (ap (λ k. k.keeps_rows) before.settings) before.rows (given.rows
          ∙ ap (λ n. now.rows ++ kept_rows now.settings.keeps_rows (rows_of_article now.hearers n v.alerts))
          before.number);
      handed = subst P (ap (λ t. begun_text (data_of form due) i ++ t) same ∙ put_next form due i v it.0 it.1)
          (handed_more _ _ _ start.flow.waiting now.flow.waiting new.flow.waiting (begun_text (data_of form due) i) _
          before.handed given.moved);
    }

-- the giving of an article is broken off: of all that is due a front was told, and of its text a front written
pub broken_off : {T : Type 0} (start : Giving) (due : List AlertsValue) (i : ℕ) (now new : Giving)
    (result : Result T RunFault) → HasGiven start due i now → GivesDue due i now new result
    → OnErr result (HearsFront (told_in due) start.hearers new.hearers
    × AppendsFront start.flow.taken new.flow.taken
    (start.flow.waiting ++ found_text start.settings.form start.hearers start.number due))
broken_off start due i now new (Ok x) before gives = tt
broken_off start due i now new (Err fault) before gives =
    let v = gives.value in
    let it = found_at due i v gives.here in
    let form = start.settings.form in
    let first = begun_text (data_of form due) i in
    let same = item_same now.has_article i form now.settings.form v v before.later (ap (λ k. k.form) before.settings)
    refl in
    let all = text_front form start.hearers start.number due (i + 1) in
    let whole = all.1 ∙ ap (λ t. t ++ all.0) (sym (ap (λ t. first ++ t) same ∙ put_next form due i v it.0 it.1)) in (
      front_here due i v start.hearers now.hearers new.hearers it.0 it.1 before.heard gives.given.err,
      front_of_whole _ _ _ start.flow.waiting now.flow.waiting first (shown_next now v) all.0 _ whole before.handed
          gives.given.front,
    )
