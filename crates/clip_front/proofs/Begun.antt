-- Some first lines were answered, and the next was begun at most, whatever answers them.
use Rattle.std.proofs.Common.{◌≡◌, ℕ, suc, ◌+◌, List, [], ◌∷◌, ◌++◌, length, Option, sym, ap, ◌∙◌, subst, arith}
use Rattle.std.proofs.Common.{append_assoc, append-nil, inl, inr}
use Rattle.clip_stream.specs.Steps.Reading.{cut}
use Rattle.clip_front.specs.Steps.Serving.{Answering, Breaking, Serves, StopsAt, ServesFront}

-- By what is told of no line, of one that was broken off, of one before others, and of lines behind those that were
-- begun.
module _ {S : Type 0} (answers : Answering S) (breaks : Breaking S)
    (Begun : S → S → ℕ → List (List ℕ) → List ℕ → Type 0)
    (none : (s : S) (n : ℕ) → Begun s s n [] [])
    (here : (s t : S) (n : ℕ) (line text : List ℕ) → breaks s t n (cut line) text → Begun s t n (line ∷ []) text)
    (first : (s t u : S) (n : ℕ) (line now rest text : List ℕ) (lines : List (List ℕ)) → answers s t n (cut line) now
    → text ≡ now ++ rest → Begun t u (suc n) lines rest → Begun s u n (line ∷ lines) text)
    (more : (s t : S) (n : ℕ) (lines later : List (List ℕ)) (text : List ℕ) → Begun s t n lines text
    → Begun s t n (lines ++ later) text) where
  begun_by : (s t u : S) (n k : ℕ) (lines : List (List ℕ)) (line text begun : List ℕ) → Serves answers s t n lines text
      → k ≡ n + length lines → breaks t u k (cut line) begun → Begun s u n (lines ++ line ∷ []) (text ++ begun)
  begun_by s t u n k [] line text begun p e broken =
      let at : k ≡ n = omega (arith, e) in
      let whole : text ++ begun ≡ begun = ap (λ x. x ++ begun) p.1 in
      subst (Begun s u n (line ∷ [])) (sym whole)
      (here s u n line begun (subst (λ x. breaks x u n (cut line) begun) p.0
      (subst (λ j. breaks t u j (cut line) begun) at broken)))
  begun_by s t u n k (l ∷ lines) line text begun p e broken =
      first s p.0 u n l p.1 (p.2 ++ begun) (text ++ begun) (lines ++ line ∷ []) p.3
      (ap (λ x. x ++ begun) p.4 ∙ append_assoc p.1 p.2 begun)
      (begun_by p.0 t u (suc n) k lines line p.2 begun p.5 (omega (arith, e)) broken)

  ended_by : (s t : S) (n : ℕ) (lines : List (List ℕ)) (text : List ℕ) → Serves answers s t n lines text
      → Begun s t n lines text
  ended_by s t n [] text p =
      subst (Begun s t n []) (sym p.1) (subst (λ x. Begun s x n [] []) (sym p.0) (none s n))
  ended_by s t n (line ∷ lines) text p =
      first s p.0 t n line p.1 p.2 text lines p.3 p.4 (ended_by p.0 t (suc n) lines p.2 p.5)

  -- nothing more was begun
  stopped : (s t u : S) (text begun : List ℕ) (lines later : List (List ℕ)) → Serves answers s t 1 lines text → u ≡ t
      → begun ≡ [] → Begun s u 1 (lines ++ later) (text ++ begun)
  stopped s t u text begun lines later p same nothing =
      subst (Begun s u 1 (lines ++ later)) (sym (ap (λ x. text ++ x) nothing ∙ append-nil text))
      (more s u 1 lines later text
      (ended_by s u 1 lines text (subst (λ x. Serves answers s x 1 lines text) (sym same) p)))

  begun_at : (s t u : S) (text begun : List ℕ) (lines later : List (List ℕ)) → Serves answers s t 1 lines text
      → StopsAt breaks t u (suc (length lines)) later begun → Begun s u 1 (lines ++ later) (text ++ begun)
  begun_at s t u text begun lines [] p same = stopped s t u text begun lines [] p same.0 same.1
  begun_at s t u text begun lines (line ∷ later) p (inl same) =
      stopped s t u text begun lines (line ∷ later) p same.0 same.1
  begun_at s t u text begun lines (line ∷ later) p (inr broken) =
      subst (λ ls. Begun s u 1 ls (text ++ begun)) (append_assoc lines (line ∷ []) later)
      (more s u 1 (lines ++ line ∷ []) later (text ++ begun)
      (begun_by s t u 1 (suc (length lines)) lines line text begun p (omega arith) broken))

  pub begun_of : (s t : S) (taken_old taken : Option (List ℕ)) (lines : List (List ℕ))
      (p : ServesFront answers breaks s t taken_old taken lines) → Begun s t 1 lines (p.text ++ p.begun)
  begun_of s t taken_old taken lines p =
      subst (λ ls. Begun s t 1 ls (p.text ++ p.begun)) (sym p.parts)
      (begun_at s p.between t p.text p.begun p.front p.later p.served p.stops)
