-- The positions of a key: each is that of an entry, and they rise.
use Rattle.std.proofs.Common.{ℕ, suc, ◌+◌, ◌<◌, ◌≤◌, true, false, cond, List, [], ◌∷◌, length, map, arith}
use Rattle.std.proofs.lemmas.List.Elements.{All-nil, All-cons}
use Rattle.std.proofs.lemmas.List.Kept.{AllPairs-cons}
use Rattle.std.specs.List.{All, AllPairs, filter, enumerate_from}
use Rattle.clip_extract.specs.Keys.{KeyValue}
use Rattle.clip_model.specs.History.{Registered}
use Rattle.clip_segment.specs.Segment.{holds_key, positions_with}

module _ (key : KeyValue) where
  -- the positions of entries that stand from n on
  abbrev from : ℕ → List Registered → List ℕ
  from n es = map (λ (p : ℕ × Registered). p.0)
      (filter (λ (p : ℕ × Registered). holds_key key p.1) (enumerate_from n es))

  above : (n k : ℕ) (es : List Registered) → k ≤ n → All (λ p. k ≤ p) (from n es)
  above n k [] low = All-nil (λ p. k ≤ p)
  above n k (e ∷ es) low =
      elim (holds_key key e) as
      (λ b. All (λ p. k ≤ p) (map (λ (p : ℕ × Registered). p.0)
      (cond b ((n, e) ∷ filter (λ (p : ℕ × Registered). holds_key key p.1) (enumerate_from (n + 1) es))
      (filter (λ (p : ℕ × Registered). holds_key key p.1) (enumerate_from (n + 1) es))))) [
        | true ↦ All-cons (λ p. k ≤ p) n _ low (above (n + 1) k es (omega arith))
        | false ↦ above (n + 1) k es (omega arith)
      ]

  below : (n top : ℕ) (es : List Registered) → n + length es ≤ top → All (λ p. p < top) (from n es)
  below n top [] high = All-nil (λ p. p < top)
  below n top (e ∷ es) high =
      elim (holds_key key e) as
      (λ b. All (λ p. p < top)
      (map (λ (p : ℕ × Registered). p.0)
      (cond b ((n, e) ∷ filter (λ (p : ℕ × Registered). holds_key key p.1) (enumerate_from (n + 1) es))
      (filter (λ (p : ℕ × Registered). holds_key key p.1) (enumerate_from (n + 1) es))))) [
        | true ↦ All-cons (λ p. p < top) n _ (omega arith) (below (n + 1) top es (omega arith))
        | false ↦ below (n + 1) top es (omega arith)
      ]

  rising : (n : ℕ) (es : List Registered) → AllPairs (λ p q. p < q) (from n es)
  rising n [] = λ i j d before inside. absurd (omega arith)
  rising n (e ∷ es) =
      elim (holds_key key e) as
      (λ b. AllPairs (λ p q. p
      < q) (map (λ (p : ℕ × Registered). p.0)
      (cond b ((n, e) ∷ filter (λ (p : ℕ × Registered). holds_key key p.1) (enumerate_from (n + 1) es))
      (filter (λ (p : ℕ × Registered). holds_key key p.1) (enumerate_from (n + 1) es))))) [
        | true ↦ AllPairs-cons (λ p q. p < q) n _ (above (n + 1) (suc n) es (omega arith)) (rising (n + 1) es)
        | false ↦ rising (n + 1) es
      ]

  -- each position is that of an entry
  pub positions_within : (es : List Registered) → All (λ p. p < length es) (positions_with key es)
  positions_within es = below 0 (length es) es (omega arith)

  -- the positions rise
  pub positions_rise : (es : List Registered) → AllPairs (λ p q. p < q) (positions_with key es)
  positions_rise es = rising 0 es
