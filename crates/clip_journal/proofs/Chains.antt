-- Entries one behind another: one more at the end, and that bytes are cut into them in one way.
use Rattle.std.proofs.Common.{◌≡◌, inl, inr, ℕ, suc, ◌+◌, ◌<◌, ◌≤◌, ◌^◌, List, [], ◌∷◌, ◌++◌, length}
use Rattle.std.proofs.Common.{refl, sym, ap, ap₂, ◌∙◌, subst, append_assoc, append-nil, arith, length-append}
use Rattle.std.proofs.lemmas.List.{append_cancel_left}
use Rattle.clip_journal.specs.Entries.{entry, entries, link_after, link_behind, IsTorn, StartsNone}
use Rattle.clip_journal.proofs.Heads.{length-entry, length-link, entry_parts, one_head, same_front}

next_place : (place n : ℕ) → suc place + n ≡ place + suc n
next_place place n = omega arith

pub entries_push : (link : List ℕ) (place : ℕ) (said : List (List ℕ)) (one : List ℕ)
    → entries link place (said ++ one ∷ [])
    ≡ entries link place said ++ entry (link_behind link place said) (place + length said) one
entries_push link place [] one =
    append-nil (entry link place one) ∙ ap (λ (n : ℕ). entry link n one) (omega arith)
entries_push link place (s ∷ said) one =
    ap (λ (x : List ℕ). entry link place s ++ x) (entries_push (link_after link place s) (suc place) said one)
    ∙ sym (append_assoc (entry link place s) (entries (link_after link place s) (suc place) said) _)
    ∙ ap (λ (n : ℕ). (entry link place s ++ entries (link_after link place s) (suc place) said)
    ++ entry (link_behind (link_after link place s) (suc place) said) n one) (next_place place (length said))

pub link_push : (link : List ℕ) (place : ℕ) (said : List (List ℕ)) (one : List ℕ)
    → link_behind link place (said ++ one ∷ []) ≡ link_after (link_behind link place said) (place + length said) one
link_push link place [] one = ap (λ (n : ℕ). link_after link n one) (omega arith)
link_push link place (s ∷ said) one =
    link_push (link_after link place s) (suc place) said one
    ∙ ap (λ (n : ℕ). link_after (link_behind (link_after link place s) (suc place) said) n one)
    (next_place place (length said))

pub torn_starts_none : (link : List ℕ) (place : ℕ) (rest : List ℕ) → IsTorn link place rest → StartsNone link place rest
torn_starts_none link place rest torn = record { none = λ said more lt e. no said more lt e torn }
  where
    no : (said more : List ℕ) → length said < 2 ^ 64 → rest ≡ entry link place said ++ more → IsTorn link place rest → ⊥
    no said more lt e (inl short) =
        absurd (omega (
          arith,
          short,
          ap length e,
          length-append (entry link place said) more,
          length-entry link place said,
        ))
    no said more lt e (inr t) =
        let p = one_head link place (length said) t.0 _ t.1 lt t.2
        (sym (entry_parts link place said more) ∙ (sym e ∙ t.3)) in
        let long = ap length p.1 in
        absurd (omega (
          arith,
          t.4,
          p.0,
          long,
          length-append said (link_after link place said ++ more),
          length-append (link_after link place said) more,
          length-link link place said,
        ))

-- an entry in front is one entry
pub one_entry : (link : List ℕ) (place : ℕ) (p q x y : List ℕ) → length p < 2 ^ 64 → length q < 2 ^ 64
    → entry link place p ++ x ≡ entry link place q ++ y → (p ≡ q) × (x ≡ y)
one_entry link place p q x y lp lq e =
    let h = one_head link place (length p) (length q) _ _ lp lq
    (sym (entry_parts link place p x) ∙ (e ∙ entry_parts link place q y)) in
    let s = same_front p _ q _ h.0 h.1 in (
      s.0,
      append_cancel_left (entry link place q) x y
          (subst (λ (z : List ℕ). entry link place z ++ x ≡ entry link place q ++ y) s.0 e),
    )

said_small : (link : List ℕ) (place : ℕ) (said more : List ℕ) → length (entry link place said ++ more) < 2 ^ 64
    → (length said < 2 ^ 64) × (length more < 2 ^ 64)
said_small link place said more lt = (
  omega (arith, lt, length-append (entry link place said) more, length-entry link place said),
  omega (arith, lt, length-append (entry link place said) more, length-entry link place said),
)

-- bytes are cut into entries in one way, up to where none stands
pub one_cut : (link : List ℕ) (place : ℕ) (ps qs : List (List ℕ)) (x y : List ℕ)
    → length (entries link place ps ++ x) < 2 ^ 64 → entries link place ps ++ x ≡ entries link place qs ++ y
    → StartsNone (link_behind link place ps) (place + length ps) x
    → StartsNone (link_behind link place qs) (place + length qs) y → (ps ≡ qs) × (x ≡ y)
one_cut link place [] [] x y lt e nx ny = (refl, e)
one_cut link place [] (q ∷ qs) x y lt e nx ny =
    let whole = e ∙ append_assoc (entry link place q) (entries (link_after link place q) (suc place) qs) y in
    let rest = entries (link_after link place q) (suc place) qs ++ y in
    let small = said_small link place q rest (omega (arith, lt, ap length whole)) in
    absurd (nx.none q rest small.0 (subst (λ (n : ℕ). x ≡ entry link n q ++ rest) (omega arith) whole))
one_cut link place (p ∷ ps) [] x y lt e nx ny =
    let whole = sym e ∙ append_assoc (entry link place p) (entries (link_after link place p) (suc place) ps) x in
    let rest = entries (link_after link place p) (suc place) ps ++ x in
    let small = said_small link place p rest (omega (arith, lt, ap length e, ap length whole)) in
    absurd (ny.none p rest small.0 (subst (λ (n : ℕ). y ≡ entry link n p ++ rest) (omega arith) whole))
one_cut link place (p ∷ ps) (q ∷ qs) x y lt e nx ny =
    let left = append_assoc (entry link place p) (entries (link_after link place p) (suc place) ps) x in
    let right = append_assoc (entry link place q) (entries (link_after link place q) (suc place) qs) y in
    let sp = said_small link place p (entries (link_after link place p) (suc place) ps ++ x)
    (omega (arith, lt, ap length left)) in
    let sq = said_small link place q (entries (link_after link place q) (suc place) qs ++ y)
    (omega (arith, lt, ap length e, ap length right)) in
    let o = one_entry link place p q (entries (link_after link place p) (suc place) ps ++ x)
    (entries (link_after link place q) (suc place) qs ++ y) sp.0 sq.0 (sym left ∙ (e ∙ right)) in
    let next = link_after link place p in
    let same : next ≡ link_after link place q = ap (link_after link place) o.0 in
    let tails = o.1 ∙ ap (λ (l : List ℕ). entries l (suc place) qs ++ y) (sym same) in
    let nx' = subst (λ (n : ℕ). StartsNone (link_behind next (suc place) ps) n x)
    (sym (next_place place (length ps))) nx in
    let ny' = subst (λ (l : List ℕ). StartsNone (link_behind l (suc place) qs) (suc place + length qs) y) (sym same)
    (subst (λ (n : ℕ). StartsNone (link_behind (link_after link place q) (suc place) qs) n y)
    (sym (next_place place (length qs))) ny) in
    let r = one_cut next (suc place) ps qs x y sp.1 tails nx' ny' in
    (ap₂ (λ (a : List ℕ) (b : List (List ℕ)). a ∷ b) o.0 r.0, r.1)

-- each entry takes bytes
pub entries_long : (link : List ℕ) (place : ℕ) (said : List (List ℕ)) → length said ≤ length (entries link place said)
entries_long link place [] = omega arith
entries_long link place (s ∷ said) =
    omega (
      arith,
      entries_long (link_after link place s) (suc place) said,
      length-entry link place s,
      length-append (entry link place s) (entries (link_after link place s) (suc place) said),
    )
