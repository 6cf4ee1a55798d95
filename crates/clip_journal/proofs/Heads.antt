-- What heads and entries are made of, and that one stands in front in one way.
use Rattle.std.proofs.Common.{◌≡◌, ◌≢◌, inl, inr, ℕ, ◌+◌, ◌<◌, ◌≤◌, ◌^◌, List, [], ◌++◌, length, take, drop}
use Rattle.std.proofs.Common.{refl, sym, ap, ◌∙◌, subst, append_assoc, arith, length-append}
use Rattle.std.specs.Int.{w64, to_be_bytes, from_be_bytes}
use Rattle.std.proofs.lemmas.List.{append_cancel_left, take_at, drop_at, nil_from_length}
use Rattle.std.proofs.lemmas.Nat.{from_be_bytes-to_be_bytes_8}
use Rattle.sha2.proofs.Facts256.{length-sha256}
use Rattle.clip_journal.specs.Entries.{digest, numbers, check, head, entry, link_after, IsTorn, IsWrong}

length-digest : (bytes : List ℕ) → length (digest bytes) ≡ 32
unfolding digest
length-digest bytes = length-sha256 bytes

pub length-check : (link : List ℕ) (place size : ℕ) → length (check link place size) ≡ 32
unfolding check
length-check link place size = length-digest _

pub length-link : (link : List ℕ) (place : ℕ) (said : List ℕ) → length (link_after link place said) ≡ 32
unfolding link_after
length-link link place said = length-digest _

pub length-head : (link : List ℕ) (place size : ℕ) → length (head link place size) ≡ 48
unfolding head numbers
length-head link place size =
    omega (
      arith,
      length-append (to_be_bytes w64 place ++ to_be_bytes w64 size) (check link place size),
      length-check link place size,
    )

pub length-entry : (link : List ℕ) (place : ℕ) (said : List ℕ)
    → length (entry link place said) ≡ 80 + length said
unfolding entry
length-entry link place said =
    omega (
      arith,
      length-append (head link place (length said)) (said ++ link_after link place said),
      length-append said (link_after link place said),
      length-head link place (length said),
      length-link link place said,
    )

-- a head by its parts
pub head_parts : (link : List ℕ) (place size : ℕ) (more : List ℕ) → head link place size ++ more
    ≡ to_be_bytes w64 place ++ (to_be_bytes w64 size ++ (check link place size ++ more))
unfolding head numbers
head_parts link place size more = refl

-- an entry by its parts
pub entry_parts : (link : List ℕ) (place : ℕ) (said more : List ℕ) → entry link place said ++ more
    ≡ head link place (length said) ++ (said ++ (link_after link place said ++ more))
unfolding entry
entry_parts link place said more =
    append_assoc (head link place (length said)) (said ++ link_after link place said) more
    ∙ ap (λ (x : List ℕ). head link place (length said) ++ x) (append_assoc said (link_after link place said) more)

-- a number in front is one number
pub one_number : (a b : ℕ) (x y : List ℕ) → a < 2 ^ 64 → b < 2 ^ 64
    → to_be_bytes w64 a ++ x ≡ to_be_bytes w64 b ++ y → (a ≡ b) × (x ≡ y)
one_number a b x y la lb e = (
  sym (from_be_bytes-to_be_bytes_8 a la) ∙ ap (λ (l : List ℕ). from_be_bytes w64 (take 8 l)) e
      ∙ from_be_bytes-to_be_bytes_8 b lb,
  ap (λ (l : List ℕ). drop 8 l) e,
)

-- heads behind one link and at one place are one head
pub one_head : (link : List ℕ) (place a b : ℕ) (x y : List ℕ) → a < 2 ^ 64 → b < 2 ^ 64
    → head link place a ++ x ≡ head link place b ++ y → (a ≡ b) × (x ≡ y)
one_head link place a b x y la lb e =
    let parts = sym (head_parts link place a x) ∙ e ∙ head_parts link place b y in
    let sized = ap (λ (l : List ℕ). drop 8 l) parts in
    let same = (one_number a b _ _ la lb sized).0 in (
      same,
      append_cancel_left (head link place b) x y
          (subst (λ (n : ℕ). head link place n ++ x ≡ head link place b ++ y) same e),
    )

-- ---- a head that is read

pub head_found : (link : List ℕ) (place told size : ℕ) (bytes sized checked sum rest : List ℕ)
    → bytes ≡ to_be_bytes w64 told ++ sized → told ≡ place → sized ≡ to_be_bytes w64 size ++ checked
    → sum ≡ check link place size → checked ≡ sum ++ rest → bytes ≡ head link place size ++ rest
head_found link place told size bytes sized checked sum rest front same second sum_is third =
    front ∙ ap (λ (n : ℕ). to_be_bytes w64 n ++ sized) same
    ∙ ap (λ (x : List ℕ). to_be_bytes w64 place ++ x)
    (second ∙ ap (λ (x : List ℕ). to_be_bytes w64 size ++ x) (third ∙ ap (λ (s : List ℕ). s ++ rest) sum_is))
    ∙ sym (head_parts link place size rest)

-- behind its place a head has a number and a digest
pub head_told : (link : List ℕ) (place told n : ℕ) (bytes sized more : List ℕ) → told < 2 ^ 64 → place < 2 ^ 64
    → bytes ≡ to_be_bytes w64 told ++ sized → bytes ≡ head link place n ++ more
    → (told ≡ place) × (sized ≡ to_be_bytes w64 n ++ (check link place n ++ more))
head_told link place told n bytes sized more lt lp front e =
    one_number told place _ _ lt lp (sym front ∙ (e ∙ head_parts link place n more))

pub head_none : (link : List ℕ) (place told size : ℕ) (bytes sized checked sum : List ℕ) → told < 2 ^ 64
    → place < 2 ^ 64 → size < 2 ^ 64 → bytes ≡ to_be_bytes w64 told ++ sized → sized ≡ to_be_bytes w64 size ++ checked
    → sum ≡ check link place size → ((rest : List ℕ) → checked ≢ sum ++ rest)
    → (n : ℕ) (more : List ℕ) → n < 2 ^ 64 → bytes ≡ head link place n ++ more → ⊥
head_none link place told size bytes sized checked sum lt lp ls front second sum_is none n more ln e =
    let behind = (head_told link place told n bytes sized more lt lp front e).1 in
    let p = one_number size n _ _ ls ln (sym second ∙ behind) in
    none more (p.1 ∙ ap (λ (s : List ℕ). s ++ more) (ap (check link place) (sym p.0) ∙ sym sum_is))

-- ---- an entry that is read

pub same_front : {A : Type 0} (q x said tail : List A) → length q ≡ length said → q ++ x ≡ said ++ tail
    → (q ≡ said) × (x ≡ tail)
same_front q x said tail len e = (
  sym (take_at q x (length q) refl) ∙ ap (take (length q)) e ∙ take_at said tail (length q) (sym len),
  sym (drop_at q x (length q) refl) ∙ ap (drop (length q)) e ∙ drop_at said tail (length q) (sym len),
)

pub entry_found : (link : List ℕ) (place size : ℕ) (bytes body said tail next rest : List ℕ)
    → bytes ≡ head link place size ++ body → body ≡ said ++ tail → length said ≡ size → tail ≡ next ++ rest
    → next ≡ link_after link place said → bytes ≡ entry link place said ++ rest
entry_found link place size bytes body said tail next rest front parts len behind next_is =
    front ∙ ap (λ (n : ℕ). head link place n ++ body) (sym len)
    ∙ ap (λ (x : List ℕ). head link place (length said) ++ x)
    (parts ∙ ap (λ (x : List ℕ). said ++ x) (behind ∙ ap (λ (l : List ℕ). l ++ rest) next_is))
    ∙ sym (entry_parts link place said rest)

-- where bytes are many and their head is none, they are wrong
pub wrong_head : (link : List ℕ) (place : ℕ) (bytes : List ℕ) → 48 ≤ length bytes
    → ((size : ℕ) (more : List ℕ) → size < 2 ^ 64 → bytes ≡ head link place size ++ more → ⊥) → IsWrong link place bytes
wrong_head link place bytes long none = record {
  none = record { none = λ said more lt e. none (length said) _ lt (e ∙ entry_parts link place said more) };
  not_torn = not_torn;
}
  where
    not_torn : IsTorn link place bytes → ⊥
    not_torn (inl short) = absurd (omega (arith, short, long))
    not_torn (inr t) = none t.0 t.1 t.2 t.3

pub wrong_link : (link : List ℕ) (place size : ℕ) (bytes body said tail next : List ℕ) → size < 2 ^ 64
    → size + 32 ≤ length body → bytes ≡ head link place size ++ body → body ≡ said ++ tail → length said ≡ size
    → next ≡ link_after link place said → ((rest : List ℕ) → tail ≢ next ++ rest) → IsWrong link place bytes
wrong_link link place size bytes body said tail next ls long front parts len next_is none = record {
  none = record { none = no_entry };
  not_torn = not_torn;
}
  where
    no_entry : (q more : List ℕ) → length q < 2 ^ 64 → bytes ≡ entry link place q ++ more → ⊥
    no_entry q more lq e =
        let p = one_head link place (length q) size _ _ lq ls (sym (entry_parts link place q more) ∙ (sym e ∙ front)) in
        let s = same_front q _ said tail (p.0 ∙ sym len) (p.1 ∙ parts) in
        none more (sym s.1 ∙ ap (λ (x : List ℕ). link_after link place x ++ more) s.0
        ∙ ap (λ (l : List ℕ). l ++ more) (sym next_is))

    not_torn : IsTorn link place bytes → ⊥
    not_torn (inl short) =
        absurd (omega (
          arith,
          short,
          ap length front,
          length-append (head link place size) body,
          length-head link place size,
        ))
    not_torn (inr t) =
        let p = one_head link place t.0 size t.1 body t.2 ls (sym t.3 ∙ front) in
        absurd (omega (arith, t.4, long, p.0, ap length p.1))

-- ---- an entry that is written

entry_is : (link : List ℕ) (place : ℕ) (said : List ℕ)
    → head link place (length said) ++ (said ++ link_after link place said) ≡ entry link place said
unfolding entry
entry_is link place said = refl

pub put_parts : (old link : List ℕ) (place size : ℕ) (sum said next a b c d e : List ℕ)
    → a ≡ old ++ to_be_bytes w64 place → b ≡ a ++ to_be_bytes w64 size → c ≡ b ++ sum → d ≡ c ++ said → e ≡ d ++ next
    → size ≡ length said → sum ≡ check link place size → next ≡ link_after link place said
    → e ≡ old ++ entry link place said
put_parts old link place size sum said next a b c d e pa pb pc pd pe size_is sum_is next_is =
    let all : e ≡ ((((old ++ to_be_bytes w64 place) ++ to_be_bytes w64 size) ++ sum) ++ said) ++ next =
    pe ∙ ap (λ (x : List ℕ). x ++ next) (pd ∙ ap (λ (x : List ℕ). x ++ said) (pc ∙ ap (λ (x : List ℕ). x ++ sum)
    (pb ∙ ap (λ (x : List ℕ). x ++ to_be_bytes w64 size) pa))) in
    all ∙ grouped size sum next
    ∙ ap (λ (n : ℕ). old ++ (to_be_bytes w64 place ++ (to_be_bytes w64 n ++ (sum ++ (said ++ next))))) size_is
    ∙ ap (λ (s : List ℕ). old ++ (to_be_bytes w64 place ++ (to_be_bytes w64 (length said) ++ (s ++ (said ++ next)))))
    (sum_is ∙ ap (check link place) size_is)
    ∙ ap (λ (x : List ℕ). old ++ x) (sym (head_parts link place (length said) (said ++ next)))
    ∙ ap (λ (l : List ℕ). old ++ (head link place (length said) ++ (said ++ l))) next_is
    ∙ ap (λ (x : List ℕ). old ++ x) (entry_is link place said)
  where
    grouped : (size : ℕ) (sum next : List ℕ)
        → ((((old ++ to_be_bytes w64 place) ++ to_be_bytes w64 size) ++ sum) ++ said) ++ next
        ≡ old ++ (to_be_bytes w64 place ++ (to_be_bytes w64 size ++ (sum ++ (said ++ next))))
    grouped size sum next =
        append_assoc (((old ++ to_be_bytes w64 place) ++ to_be_bytes w64 size) ++ sum) said next
        ∙ append_assoc ((old ++ to_be_bytes w64 place) ++ to_be_bytes w64 size) sum (said ++ next)
        ∙ append_assoc (old ++ to_be_bytes w64 place) (to_be_bytes w64 size) (sum ++ (said ++ next))
        ∙ append_assoc old (to_be_bytes w64 place) (to_be_bytes w64 size ++ (sum ++ (said ++ next)))

-- ---- how much is kept

pub length-numbers : (a b : ℕ) → length (numbers a b) ≡ 16
unfolding numbers
length-numbers a b = refl

pub numbers_found : (a b : ℕ) (first rest more : List ℕ) → length first ≡ 16 → first ≡ to_be_bytes w64 a ++ rest
    → rest ≡ to_be_bytes w64 b ++ more → first ≡ numbers a b
unfolding numbers
numbers_found a b first rest more len front second =
    let all : first ≡ to_be_bytes w64 a ++ (to_be_bytes w64 b ++ more) =
    front ∙ ap (λ (x : List ℕ). to_be_bytes w64 a ++ x) second in
    let none : more ≡ [] = nil_from_length more (omega (arith, len, ap length all)) in
    all ∙ ap (λ (x : List ℕ). to_be_bytes w64 a ++ (to_be_bytes w64 b ++ x)) none

pub one_pair : (a b c d : ℕ) → a < 2 ^ 64 → b < 2 ^ 64 → c < 2 ^ 64 → d < 2 ^ 64 → numbers a b ≡ numbers c d
    → (a ≡ c) × (b ≡ d)
unfolding numbers
one_pair a b c d la lb lc ld e =
    let p = one_number a c (to_be_bytes w64 b) (to_be_bytes w64 d) la lc e in
    let q = one_number b d [] [] lb ld p.1 in
    (p.0, q.0)

-- where a number behind is not the second of them, the bytes are not those numbers
pub second_is : (a b c d : ℕ) (first rest more : List ℕ) → a < 2 ^ 64 → b < 2 ^ 64 → c < 2 ^ 64 → d < 2 ^ 64
    → first ≡ to_be_bytes w64 a ++ rest → rest ≡ to_be_bytes w64 b ++ more → first ≡ numbers c d → (a ≡ c) × (b ≡ d)
unfolding numbers
second_is a b c d first rest more la lb lc ld front second e =
    let p = one_number a c rest (to_be_bytes w64 d) la lc (sym front ∙ e) in
    let q = one_number b d more [] lb ld (sym second ∙ p.1) in
    (p.0, q.0)
