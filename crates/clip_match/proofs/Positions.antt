-- The positions of entries that share a key.
use Rattle.std.proofs.Common.{◌≡◌, ℕ, ◌+◌, ◌<◌, Bool, true, false, cond, ◌&&◌, List, [], ◌∷◌, ◌++◌, map, length, get_or}
use Rattle.std.proofs.Common.{filter, take, Some, None, unwrap_or, option_to_list, refl, sym, ap, ◌∙◌, subst}
use Rattle.std.proofs.Common.{arith, ap₂, ◌||◌, Option, option_map}
use Rattle.std.specs.List.{enumerate_from, list_any, slice_get, All}
use Rattle.std.proofs.lemmas.Option.{none-some, slice_get-map, unwrap_or-slice_get}
use Rattle.std.proofs.lemmas.List.{length-append, append_assoc, append-nil, length-map, get_or-map, take_more}
use Rattle.std.proofs.lemmas.List.{map-append, flat_map_more}
use Rattle.std.proofs.lemmas.List.Elements.{All-filter, All-cons, All-nil, filter-append}
use Rattle.clip_model.specs.History.{Registered, History, is_live}
use Rattle.clip_extract.specs.Keys.{KeyValue}
use Rattle.clip_segment.specs.Segment.{positions_sharing}
use Rattle.clip_match.specs.Steps.Positions.{has_listener, has_one, placed_with, live_with, entries_at}

-- ---- the entry at a position

pub got : (front : List Registered) (e : Registered) (es : List Registered)
    → slice_get (front ++ e ∷ es) (length front) ≡ Some e
got [] e es = refl
got (x ∷ front) e es = got front e es

placed : (all front es : List Registered) → all ≡ front ++ es
    → All (λ (p : ℕ × Registered). slice_get all p.0 ≡ Some p.1) (enumerate_from (length front) es)
placed all front [] is = All-nil (λ (p : ℕ × Registered). slice_get all p.0 ≡ Some p.1)
placed all front (e ∷ es) is =
    let on : length front + 1 ≡ length (front ++ e ∷ []) = omega (arith, length-append front (e ∷ [])) in
    let later = placed all (front ++ e ∷ []) es (is ∙ sym (append_assoc front (e ∷ []) es)) in
    let here : slice_get all (length front) ≡ Some e = ap (λ xs. slice_get xs (length front)) is ∙ got front e es in
    All-cons (λ (p : ℕ × Registered). slice_get all p.0
    ≡ Some p.1) (length front, e) (enumerate_from (length front + 1) es) here
    (subst (λ n. All (λ (p : ℕ × Registered). slice_get all p.0 ≡ Some p.1) (enumerate_from n es)) (sym on) later)

pub entry_at_position : (ks : List KeyValue) (es : List Registered) (i : ℕ) (d : ℕ × Registered)
    → i < length (placed_with ks es) → slice_get es (get_or (placed_with ks es) i d).0
    ≡ Some (get_or (placed_with ks es) i d).1
entry_at_position ks es i d lt =
    All-filter (λ (e : ℕ × Registered). has_one ks e.1) (λ (p : ℕ × Registered). slice_get es p.0
    ≡ Some p.1) (enumerate_from 0 es) (placed es [] es refl) i d lt

-- ---- the live ones

snd_filtered : (t : Registered → Bool) (n : ℕ) (es : List Registered)
    → map (λ (e : ℕ × Registered). e.1) (filter (λ (e : ℕ × Registered). t e.1) (enumerate_from n es)) ≡ filter t es
snd_filtered t n [] = refl
snd_filtered t n (e ∷ es) =
    let later = snd_filtered t (n + 1) es in
    elim (t e) as (λ b. map (λ (e : ℕ × Registered). e.1)
    (cond b ((n, e) ∷ filter (λ (e : ℕ × Registered). t e.1) (enumerate_from (n + 1) es))
    (filter (λ (e : ℕ × Registered). t e.1) (enumerate_from (n + 1) es))) ≡ cond b (e ∷ filter t es) (filter t es)) [
      | true ↦ ap (λ xs. e ∷ xs) later
      | false ↦ later
    ]

filter_both : (p t : Registered → Bool) (es : List Registered) → filter p (filter t es) ≡ filter (λ r. p r && t r) es
filter_both p t [] = refl
filter_both p t (e ∷ es) =
    let later = filter_both p t es in
    elim (t e) as (λ b. filter p (cond b (e ∷ filter t es) (filter t es))
    ≡ cond (p e && b) (e ∷ filter (λ r. p r && t r) es) (filter (λ r. p r && t r) es)) [
      | true ↦ elim (p e) as (λ c. cond c (e ∷ filter p (filter t es)) (filter p (filter t es))
          ≡ cond (c && true) (e ∷ filter (λ r. p r && t r) es) (filter (λ r. p r && t r) es)) [
            | true ↦
                ap (λ xs. e ∷ xs) later
            | false ↦ later
          ]
      | false ↦ elim (p e) as (λ c. filter p (filter t es)
          ≡ cond (c && false) (e ∷ filter (λ r. p r && t r) es) (filter (λ r. p r && t r) es)) [
            | true ↦ later
            | false ↦
                later
          ]
    ]

pub live_positions : (h : History) (ks : List KeyValue) (es : List Registered)
    → filter (λ r. is_live h r.seq) (map (λ (e : ℕ × Registered). e.1) (placed_with ks es)) ≡ live_with h ks es
live_positions h ks es = ap (filter (λ r. is_live h r.seq)) (snd_filtered (has_one ks) 0 es)
    ∙ filter_both (λ r. is_live h r.seq) (has_one ks) es

abbrev snd : ℕ × Registered → Registered
snd e = e.1

here : (ks : List KeyValue) (es : List Registered) (i : ℕ) (d : ℕ × Registered) → i < length (positions_sharing ks es)
    → slice_get es (get_or (positions_sharing ks es) i 0) ≡ Some (get_or (placed_with ks es) i d).1
here ks es i d lt =
    let inside : i < length (placed_with ks es) =
    omega (arith, length-map (placed_with ks es) (λ (e : ℕ × Registered). e.0)) in
    ap (slice_get es) (get_or-map (λ (e : ℕ × Registered). e.0) (placed_with ks es) i d 0 inside)
    ∙ entry_at_position ks es i d inside

-- an entry stands at each position
pub entry_there : (ks : List KeyValue) (es : List Registered) (i : ℕ) → i < length (positions_sharing ks es)
    → slice_get es (get_or (positions_sharing ks es) i 0) ≡ None → ⊥
entry_there ks es i lt none = pick (placed_with ks es) refl
  where
    pick : (qs : List (ℕ × Registered)) → placed_with ks es ≡ qs → ⊥
    pick [] e = omega (arith, ap length e, length-map (placed_with ks es) (λ (e : ℕ × Registered). e.0))
    pick (q ∷ qs) e = none-some _ (sym none ∙ here ks es i q lt)

-- one position more, at which x stands
live_more : (p : Registered → Bool) (ks : List KeyValue) (es : List Registered) (i : ℕ) (x : Registered)
    → i < length (positions_sharing ks es) → Some x ≡ slice_get es (get_or (positions_sharing ks es) i 0)
    → filter p (map snd (take (i + 1) (placed_with ks es))) ≡ filter p (map snd (take i (placed_with ks es)))
    ++ cond (p x) (x ∷ []) []
live_more p ks es i x lt is =
    let qs = placed_with ks es in
    let d : ℕ × Registered = (0, x) in
    let inside : i < length qs = omega (arith, length-map qs (λ (e : ℕ × Registered). e.0)) in
    let same : (get_or qs i d).1 ≡ x = ap (λ o. unwrap_or o x) (sym (here ks es i d lt) ∙ sym is) in
    ap (λ ps. filter p (map snd ps)) (take_more qs i d inside)
    ∙ ap (filter p) (map-append snd (take i qs) (get_or qs i d ∷ []))
    ∙ filter-append p (map snd (take i qs)) ((get_or qs i d).1 ∷ [])
    ∙ ap (λ y. filter p (map snd (take i qs)) ++ cond (p y) (y ∷ []) []) same

-- the live ones of the first i positions
abbrev pub live_front : History → List KeyValue → List Registered → ℕ → List Registered
live_front h ks es i = filter (λ r. is_live h r.seq) (map snd (take i (placed_with ks es)))

module _ (h : History) (ks : List KeyValue) (es : List Registered) (ps : List ℕ) (i : ℕ) (x : Registered) where
  one_more : ps ≡ positions_sharing ks es → i < length ps → Some x ≡ slice_get es (get_or ps i 0)
      → live_front h ks es (i + 1) ≡ live_front h ks es i ++ cond (is_live h x.seq) (x ∷ []) []
  one_more same lt there =
      live_more (λ r. is_live h r.seq) ks es i x (omega (arith, ap length same)) (there
      ∙ ap (λ qs. slice_get es (get_or qs i 0)) same)

  -- one place more, at which a query stands that is no longer live
  pub dead_next : ps ≡ positions_sharing ks es → i < length ps → Some x ≡ slice_get es (get_or ps i 0)
      → is_live h x.seq ≡ false → live_front h ks es i ≡ live_front h ks es (i + 1)
  dead_next same lt there dead =
      sym (one_more same lt there ∙ ap (λ b. live_front h ks es i ++ cond b (x ∷ []) []) dead
      ∙ append-nil (live_front h ks es i))

  -- one place more, at which a live query stands
  pub live_next : ps ≡ positions_sharing ks es → i < length ps → Some x ≡ slice_get es (get_or ps i 0)
      → is_live h x.seq ≡ true → live_front h ks es i ++ x ∷ [] ≡ live_front h ks es (i + 1)
  live_next same lt there alive =
      sym (one_more same lt there ∙ ap (λ b. live_front h ks es i ++ cond b (x ∷ []) []) alive)

-- ---- entries at positions

-- one position more
pub entries_more : (es : List Registered) (positions : List ℕ) (p : ℕ) → entries_at es (positions ++ p ∷ [])
    ≡ entries_at es positions ++ option_to_list (slice_get es p)
entries_more es positions p = sym (flat_map_more (λ (n : ℕ). option_to_list (slice_get es n)) [] positions p)

-- ---- one segment after another

pub live_split : (h : History) (ks : List KeyValue) (segment others : List Registered)
    → live_with h ks segment ++ live_with h ks others ≡ live_with h ks (segment ++ others)
live_split h ks segment others = sym (filter-append (λ r. is_live h r.seq && has_one ks r) segment others)

pub held_split : (p : Registered → Bool) (h : History) (ks : List KeyValue) (segment others : List Registered)
    → filter p (live_with h ks segment) ++ filter p (live_with h ks others)
    ≡ filter p (live_with h ks (segment ++ others))
held_split p h ks segment others = sym (filter-append p (live_with h ks segment) (live_with h ks others))
    ∙ ap (filter p) (live_split h ks segment others)

-- ---- listeners

heard_first : (found : Option Registered) (others : List Registered)
    → unwrap_or (option_map has_listener found) false || list_any has_listener others
    ≡ list_any has_listener (option_to_list found ++ others)
heard_first (Some entry) others = refl
heard_first None others = refl

-- whether the query of one of the entries at these positions has a listener
pub heard_at : (es : List Registered) (ps : List ℕ) → list_any (λ p. get_or (map has_listener es) p false) ps
    ≡ list_any has_listener (entries_at es ps)
heard_at es [] = refl
heard_at es (p ∷ ps) =
    ap₂ (λ a b. a || b)
    (sym (unwrap_or-slice_get (map has_listener es) p false)
    ∙ ap (λ o. unwrap_or o false) (slice_get-map has_listener es p))
    (heard_at es ps)
    ∙ heard_first (slice_get es p) (entries_at es ps)
