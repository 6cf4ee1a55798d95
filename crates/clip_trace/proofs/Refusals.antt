-- Which answers are due to refused events, and to those that are not.
use Rattle.std.proofs.Common.{◌≡◌, true, false, Option, Some, None, refl, sym, subst}
use Rattle.clip_trace.specs.Event.{Event, Answer, Unknown, Used, TooMany}
use Rattle.clip_trace.specs.Schedule.{Stand, is_unknown, is_used, is_too_many, is_full, refusal, IsAnswer, IsDone}
use Rattle.clip_trace.specs.Schedule.{IsDueTo}

by : (s : Stand) (e : Event) (a : Answer) (o : Option Answer) → refusal s e ≡ o → IsAnswer o s e a → IsDueTo s e a
by s e a o is due = subst (λ o. IsAnswer o s e a) (sym is) due

pub due_unknown : (s : Stand) (e : Event) → is_unknown s e ≡ true → IsDueTo s e Unknown
due_unknown s e h = by s e Unknown (Some Unknown) (simp h) refl

pub due_used : (s : Stand) (e : Event) → is_unknown s e ≡ false → is_used s e ≡ true → IsDueTo s e Used
due_used s e known h = by s e Used (Some Used) (simp (known, h)) refl

pub due_too_many : (s : Stand) (e : Event) → is_unknown s e ≡ false → is_used s e ≡ false → is_too_many s e ≡ true
    → IsDueTo s e TooMany
due_too_many s e known free h = by s e TooMany (Some TooMany) (simp (known, free, h)) refl

pub due_done : (s : Stand) (e : Event) (a : Answer) → is_unknown s e ≡ false → is_used s e ≡ false
    → is_too_many s e ≡ false → is_full s e ≡ false → IsDone s e a → IsDueTo s e a
due_done s e a known free few room done = by s e a None (simp (known, free, few, room)) done
