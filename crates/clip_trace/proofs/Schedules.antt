-- Schedules with one step more.
use Rattle.std.proofs.Common.{◌≡◌, ℕ, Ok, Err, IfOk, Result, map, List, [], ◌∷◌, ◌++◌, length}
use Rattle.std.proofs.Common.{refl, sym, ap, subst, ◌∙◌, inl, inr, arith}
use Rattle.std.specs.List.{zip}
use Rattle.clip_model.proofs.Splits.{entry_split}
use Rattle.std.proofs.lemmas.List.{length-map, map-append}
use Rattle.clip_trace.specs.declared.event.Event as code
use Rattle.clip_trace.specs.declared.event.TraceAnswer.{TraceAnswer}
use Rattle.clip_trace.specs.Event.{Event, Answer, event_of, answer_of}
use Rattle.clip_trace.specs.Schedule.{Batch, Stand, Step, after, stand_from, stand, IsDueTo, IsDue}

stand_push : (s : Stand) (steps : List Step) (step : Step) → stand_from s (steps ++ step ∷ [])
    ≡ after (stand_from s steps) step.0 step.1
stand_push s [] step = refl
stand_push s (first ∷ steps) step = stand_push (after s first.0 first.1) steps step

due_push : (steps : List Step) (step : Step) → IsDue steps → IsDueTo (stand steps) step.0 step.1
    → IsDue (steps ++ step ∷ [])
due_push steps step due is = record {
  each = λ before later last h. elim (entry_split steps before later step last h) [
    | inl same ↦ subst (λ (l : Step). IsDueTo (stand before) l.0 l.1) same.1
        (subst (λ b. IsDueTo (stand b) step.0 step.1) same.0 is)
    | inr (rest, same) ↦ due.each before rest last same
  ];
}

-- with other batches
pub with_batches : (f : List (ℕ × Batch) → List (ℕ × Batch)) (now : List (ℕ × Batch)) (here there : Stand)
    → now ≡ f here.batches → here ≡ there
    → ◌≡◌ {A = Stand} (record { history = here.history; merges = here.merges; batches = now })
    (record { history = there.history; merges = there.merges; batches = f there.batches })
with_batches f now here there changed same =
    ap (λ (bs : List (ℕ × Batch)). record { history = here.history; merges = here.merges; batches = bs }) changed
    ∙ ap (λ (s : Stand). record { history = s.history; merges = s.merges; batches = f s.batches }) same

-- The schedule goes on by a step that is due as things stand, and things stand then as they do after that step.
pub goes_on : (s t : Stand) (e : Event) (a : Answer) → IsDueTo s e a → t ≡ after s e a
    → (steps : List Step) → IsDue steps → stand steps ≡ s → IsDue (steps ++ (e, a) ∷ [])
    × (stand (steps ++ (e, a) ∷ []) ≡ t)
goes_on s t e a due is steps before stands = (
  due_push steps (e, a) before (subst (λ s. IsDueTo s e a) (sym stands) due),
  stand_push _ steps (e, a)
      ∙ ap (λ s. after s e a) stands ∙ sym is,
)

pub goes_on_if : {E : Type 0} (s t : Stand) (e : Event) (r : Result TraceAnswer E)
    → IfOk r (λ a. IsDueTo s e (answer_of a)) → IfOk r (λ a. t ≡ after s e (answer_of a))
    → IfOk r (λ a. (steps : List Step) → IsDue steps → stand steps ≡ s → IsDue (steps ++ (e, answer_of a) ∷ [])
    × (stand (steps ++ (e, answer_of a) ∷ []) ≡ t))
goes_on_if s t e (Ok a) due is = goes_on s t e (answer_of a) due is
goes_on_if s t e (Err x) due is = tt

module _ {X Y : Type 0} where
  -- two lists as long as each other, with one more in each
  zip_push : (xs : List X) (ys : List Y) (x : X) (y : Y) → length xs ≡ length ys → zip (xs ++ x ∷ []) (ys ++ y ∷ [])
      ≡ zip xs ys ++ (x, y) ∷ []
  zip_push [] [] x y same = refl
  zip_push [] (z ∷ ys) x y same = absurd (omega arith)
  zip_push (w ∷ xs) [] x y same = absurd (omega arith)
  zip_push (w ∷ xs) (z ∷ ys) x y same = let h : length xs ≡ length ys = omega arith in
      ap (λ r. (w, z) ∷ r) (zip_push xs ys x y h)

-- the steps of some events and their answers, with one more of each
pub one_more : (es : List code.Event) (given : List TraceAnswer) (e : code.Event) (a : TraceAnswer)
    → length given ≡ length es
    → zip (map event_of (es ++ e ∷ [])) (map answer_of (given ++ a ∷ [])) ≡ zip (map event_of es) (map answer_of given)
    ++ (event_of e, answer_of a) ∷ []
one_more es given e a same =
    let equal : length (map event_of es) ≡ length (map answer_of given) = length-map es event_of ∙ sym same
    ∙ sym (length-map given answer_of) in
    ap (λ xs. zip xs (map answer_of (given ++ a ∷ []))) (map-append event_of es (e ∷ []))
    ∙ ap (zip (map event_of es ++ event_of e ∷ [])) (map-append answer_of given (a ∷ []))
    ∙ zip_push (map event_of es) (map answer_of given) (event_of e) (answer_of a) equal
