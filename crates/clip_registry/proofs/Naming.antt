-- Sets of live seqs.
use Rattle.std.proofs.Common.{◌≡◌, ℕ, Bool, true, false, cond, ◌||◌, List, [], ◌∷◌, map, refl}
use Rattle.std.proofs.Common.{sym, ap, ◌∙◌, inl, inr, arith, ◌==◌}
use Rattle.std.proofs.lemmas.Bool.{false≢true}
use Rattle.std.specs.List.{Contains, filter}
use Rattle.clip_grammar.proofs.Booleans.{same_answer}
use Rattle.clip_merge.specs.Live.{named, names}
use Rattle.clip_model.specs.History.{Registered}
use Rattle.clip_model.proofs.Numbers.{same_numbers, numbers_same}
use Rattle.clip_registry.proofs.Rising.{contains_head, contains_later, contains_cases, contains_filter}
use Rattle.clip_registry.proofs.Kept.{contains_of_filter}

-- a member's seq is named
pub names_member : (rs : List Registered) (r : Registered) → Contains rs r → names (map (λ r. r.seq) rs) r.seq ≡ true
names_member [] r (k, lt, at) = absurd (omega arith)
names_member (q ∷ rs) r h =
    elim (contains_cases q r rs h) [
      | inl same ↦ ap (λ b. b || names (map (λ r. r.seq) rs) r.seq)
          (numbers_same q.seq r.seq (ap (λ (x : Registered). x.seq) same))
      | inr later ↦ elim (q.seq == r.seq) as (λ b. (b || names (map (λ r. r.seq) rs) r.seq) ≡ true) [
        | true ↦
            refl
        | false ↦ names_member rs r later
      ]
    ]

-- the member that has a named seq
record HasNamed (rs : List Registered) (seq : ℕ) : Type 0 where
  entry : Registered
  among : Contains rs entry
  is : entry.seq ≡ seq

named_member : (rs : List Registered) (seq : ℕ) → names (map (λ r. r.seq) rs) seq ≡ true → HasNamed rs seq
named_member [] seq h = absurd (false≢true h)
named_member (r ∷ rs) seq h =
    elim (r.seq == seq) as (λ b. (r.seq == seq) ≡ b → (b || names (map (λ r. r.seq) rs) seq) ≡ true
    → HasNamed (r ∷ rs) seq) [
      | true ↦ λ e _. record { entry = r; among = contains_head r rs; is = same_numbers r.seq seq e }
      | false ↦ λ _ later. let rest = named_member rs seq later in
          record { entry = rest.entry; among = contains_later r rest.entry rs rest.among; is = rest.is }
    ] refl h

pub filter_same : (p q : Registered → Bool) (rs : List Registered) → ((r : Registered) → Contains rs r → p r ≡ q r)
    → filter p rs ≡ filter q rs
filter_same p q [] same = refl
filter_same p q (r ∷ rs) same =
    ap (λ b. cond b (r ∷ filter p rs) (filter p rs)) (same r (contains_head r rs))
    ∙ ap (λ x. cond (q r) (r ∷ x) x) (filter_same p q rs (λ s h. same s (contains_later r s rs h)))

-- of entries that a test of seqs picks, the seqs name an entry where it passes
pub name_picked : (p : ℕ → Bool) (rs : List Registered) (r : Registered) → Contains rs r
    → names (map (λ r. r.seq) (filter (λ r. p r.seq) rs)) r.seq ≡ p r.seq
name_picked p rs r h =
    let test = λ (q : Registered). p q.seq in
    same_answer _ _
    (λ is. let at = named_member (filter test rs) r.seq is in
    ap p (sym at.is) ∙ (contains_of_filter test at.entry rs at.among).1)
    (λ is. names_member (filter test rs) r (contains_filter test r rs is h))

-- and they name just these
pub named_picked : (p : ℕ → Bool) (rs : List Registered) → named (map (λ r. r.seq) (filter (λ r. p r.seq) rs)) rs
    ≡ filter (λ r. p r.seq) rs
named_picked p rs =
    let test = λ (r : Registered). p r.seq in
    filter_same (λ r. names (map (λ r. r.seq) (filter test rs)) r.seq) test rs (name_picked p rs)
