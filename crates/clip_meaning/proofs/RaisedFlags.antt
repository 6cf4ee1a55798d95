-- Flags that end early: the hits are those of the flags up to their end.
use Rattle.std.proofs.Common.{◌≡◌, ℕ, zero, suc, ◌+◌, ◌-◌, ◌≤◌, false, cond, List, [], ◌∷◌, length, map, take, get_or}
use Rattle.std.proofs.Common.{refl, sym, ap, ◌∙◌, arith}
use Rattle.std.proofs.lemmas.List.{get_or-take, length-take-le}
use Rattle.memchr.specs.Find.{places_from}
use Rattle.clip_meaning.specs.Steps.Marks.{is_up, hit_at, raised}
use Rattle.clip_meaning.specs.Steps.Flags.{IsEnd}

-- none is up from a place on
none_up : (flags : List ℕ) (i n : ℕ) → ((k : ℕ) → i ≤ k → is_up (get_or flags k 0) ≡ false)
    → places_from is_up flags i n ≡ []
unfolding places_from
none_up flags i zero down = refl
none_up flags i (suc n) down =
    ap (λ b. cond b (i ∷ places_from is_up flags (i + 1) n) (places_from is_up flags (i + 1) n)) (down i (omega arith))
    ∙ none_up flags (i + 1) n (λ k le. down k (omega (arith, le)))

-- those that are up are up before the end
up_before : (flags : List ℕ) (end i n all : ℕ) → i + n ≡ end → n ≤ all
    → ((k : ℕ) → end ≤ k → is_up (get_or flags k 0) ≡ false) → places_from is_up flags i all
    ≡ places_from is_up (take end flags) i n
unfolding places_from
up_before flags end i zero all at fits down = none_up flags i all (λ k le. down k (omega (arith, le, at)))
up_before flags end i (suc n) zero at fits down = absurd (omega (arith, fits))
up_before flags end i (suc n) (suc all) at fits down =
    let later : places_from is_up flags (i + 1) all ≡ places_from is_up (take end flags) (i + 1) n =
    up_before flags end (i + 1) n all (omega (arith, at)) (omega (arith, fits)) down in
    let here : get_or flags i 0 ≡ get_or (take end flags) i 0 = sym (get_or-take end flags i 0 (omega (arith, at))) in
    (λ j. cond (is_up (here j)) (i ∷ later j) (later j))

-- the hits of all flags are those of the flags up to the end
pub hits_before : (name flags : List ℕ) (end : ℕ) → IsEnd flags end → raised name (take end flags) ≡ raised name flags
hits_before name flags end is =
    let short : length (take end flags) - 0 ≡ end = omega (arith, length-take-le end flags is.within) in
    ap (λ n. map (hit_at name) (places_from is_up (take end flags) 0 n)) short
    ∙ sym (ap (map (hit_at name))
    (up_before flags end 0 end (length flags - 0) (omega arith) (omega (arith, is.within)) is.down))
