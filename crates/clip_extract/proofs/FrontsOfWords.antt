-- Fronts of words.
use Rattle.std.proofs.Common.{◌≡◌, ℕ, zero, suc, ◌+◌, ◌-◌, ◌*◌, ◌<◌, ◌≤◌, true, false, nat_eq, ne_eqb, List, [], ◌∷◌}
use Rattle.std.proofs.Common.{◌++◌, map, take, drop, length, refl, sym, ap, ◌∙◌, subst, append_assoc, arith}
use Rattle.std.specs.List.{list_any}
use Rattle.std.specs.Str.{bytes_eq, chars, chars_after, continuation_len, lead_bits, encode_utf8_all, IsUtf8}
use Rattle.std.specs.Str.{IsCharBoundary}
use Rattle.std.specs.Char.{encode_utf8, len_utf8}
use Rattle.std.proofs.Math.Seq.{take-add}
use Rattle.std.proofs.lemmas.Bool.{or_left, or_right, true≢false}
use Rattle.std.proofs.lemmas.List.{take_at, append-nil}
use Rattle.std.proofs.lemmas.Simd.{map-map}
use Rattle.std.proofs.lemmas.Slice.Eq.{bytes_eq-Decides}
use Rattle.std.proofs.lemmas.Str.{chars_past_char, drop_past_char, length-encode, IsCharBoundary-past_char}
use Rattle.clip_extract.specs.Fronts.{key_front, fronts_of, fronts}
use Rattle.clip_extract.specs.declared.key.TheConstants.{MOST_FRONT_CHARACTERS}
use Rattle.clip_extract.specs.Keys.{Front}
use Rattle.clip_extract.specs.Extraction.{front_extract, unnarrowed}
use Rattle.clip_extract.specs.Steps.Fronts.{fronts_after, last_of}

-- ---- the last front

last_front : (f : List ℕ → List ℕ) (other : List ℕ) (c : ℕ) (cs : List ℕ) → last_of other (map f (fronts_of (c ∷ cs)))
    ≡ f (c ∷ cs)
last_front f other c [] = refl
last_front f other c (d ∷ cs) =
    ap (last_of (f (c ∷ []))) (map-map f (λ front. c ∷ front) (fronts_of (d ∷ cs)))
    ∙ last_front (λ front. f (c ∷ front)) (f (c ∷ [])) d cs

last_encoded : (cs : List ℕ) → last_of [] (map encode_utf8_all (fronts_of cs)) ≡ encode_utf8_all cs
last_encoded [] = refl
last_encoded (c ∷ cs) = last_front encode_utf8_all [] c cs

-- it is the longest
pub longest_front : (text : List ℕ) → last_of [] (fronts text) ≡ key_front text
unfolding fronts key_front
longest_front text = last_encoded _

-- ---- front by front

-- before the first
pub first_fronts : (word : List ℕ) → fronts_after word 0 MOST_FRONT_CHARACTERS ≡ fronts word
unfolding fronts
first_fronts word = refl

-- the front of one character more, and those after it; `size` is how many bytes the character takes
pub next_front : (word rest : List ℕ) (end size left c : ℕ) → IsUtf8 (drop end word)
    → drop end word ≡ encode_utf8 c ++ rest → size ≡ len_utf8 c → 0 < left
    → fronts_after word end left ≡ take (end + size) word ∷ fronts_after word (end + size) (left - 1)
next_front word rest end size zero c text is long some = absurd (omega arith)
next_front word rest end size (suc left) c text is long some =
    ap (λ cs. map begun (fronts_of (take (suc left) cs))) (chars_past_char (drop end word) rest c text is)
    ∙ (λ i. first i ∷ others i)
  where
    begun : List ℕ → List ℕ
    begun cs = take end word ++ encode_utf8_all cs

    front : take (end + size) word ≡ take end word ++ encode_utf8 c
    front =
        take-add end size word
        ∙ ap (λ bs. take end word ++ bs) (ap (take size) is
        ∙ take_at (encode_utf8 c) rest size (length-encode c ∙ sym long))

    after : rest ≡ drop (end + size) word
    after = sym (ap (λ n. drop (end + n) word) long ∙ drop_past_char word rest end c is)

    first : take end word ++ (encode_utf8 c ++ []) ≡ take (end + size) word
    first = ap (λ bs. take end word ++ bs) (append-nil (encode_utf8 c)) ∙ sym front

    longer : (cs : List ℕ) → take end word ++ (encode_utf8 c ++ encode_utf8_all cs)
        ≡ take (end + size) word ++ encode_utf8_all cs
    longer cs = sym (append_assoc (take end word) (encode_utf8 c) (encode_utf8_all cs))
        ∙ ap (λ bs. bs ++ encode_utf8_all cs) (sym front)

    one_less : left ≡ suc left - 1
    one_less = omega arith

    others : map begun (map (λ cs. c ∷ cs) (fronts_of (take left (chars rest))))
        ≡ fronts_after word (end + size) (suc left - 1)
    others =
        map-map begun (λ cs. c ∷ cs) (fronts_of (take left (chars rest)))
        ∙ (λ i. map (λ cs. longer cs i) (fronts_of (take (one_less i) (chars (after i)))))

-- where that front ends
pub next_end : (word rest : List ℕ) (end size c : ℕ) → IsUtf8 (drop end word) → drop end word ≡ encode_utf8 c ++ rest
    → size ≡ len_utf8 c → end ≤ length word → IsCharBoundary word (end + size)
next_end word rest end size c text is long le =
    subst (λ (n : ℕ). IsCharBoundary word (end + n)) (sym long) (IsCharBoundary-past_char word rest end c le text is)

-- a word that ends has no fronts
pub no_more : (word : List ℕ) (end left : ℕ) → length (drop end word) ≡ 0 → fronts_after word end left ≡ []
unfolding chars
no_more word end left none = at (drop end word) left none
  where
    at : (bs : List ℕ) (left : ℕ) → length bs ≡ 0
        → map (λ cs. take end word ++ encode_utf8_all cs) (fronts_of (take left (chars bs))) ≡ []
    at [] zero e = refl
    at [] (suc n) e = refl
    at (b ∷ bs) n e = absurd (omega arith)

-- ---- the front of a front

after_longer : (n c : ℕ) (bs others : List ℕ)
    → (more : List ℕ) × (chars_after n c (bs ++ others) ≡ chars_after n c bs ++ more)
after_longer zero c [] [] = ([], refl)
after_longer zero c [] (b ∷ others) = (chars_after (continuation_len b) (lead_bits b) others, refl)
after_longer (suc n) c [] others = (chars_after (suc n) c others, refl)
after_longer zero c (b ∷ bs) others =
    let r = after_longer (continuation_len b) (lead_bits b) bs others in
    (r.0, ap (λ cs. c ∷ cs) r.1)
after_longer (suc n) c (b ∷ bs) others = after_longer n (c * 64 + (b - 128)) bs others

-- the characters of a text's front are a front of its characters
chars_longer : (bs others : List ℕ) → (more : List ℕ) × (chars (bs ++ others) ≡ chars bs ++ more)
unfolding chars
chars_longer [] others = (chars others, refl)
chars_longer (b ∷ bs) others = after_longer (continuation_len b) (lead_bits b) bs others

take_longer : (n : ℕ) (xs others : List ℕ) → (more : List ℕ) × (take n (xs ++ others) ≡ take n xs ++ more)
take_longer zero xs others = ([], refl)
take_longer (suc n) [] others = (take (suc n) others, refl)
take_longer (suc n) (x ∷ xs) others = let r = take_longer n xs others in (r.0, ap (λ zs. x ∷ zs) r.1)

among_fronts : (f : List ℕ → List ℕ) (c : ℕ) (cs others : List ℕ)
    → list_any (λ p. bytes_eq p (f (c ∷ cs))) (map f (fronts_of (c ∷ (cs ++ others)))) ≡ true
among_fronts f c [] others =
    or_left (bytes_eq (f (c ∷ [])) (f (c ∷ []))) _ ((bytes_eq-Decides (f (c ∷ [])) (f (c ∷ []))).1 refl)
among_fronts f c (d ∷ cs) others =
    or_right (bytes_eq (f (c ∷ [])) (f (c ∷ d ∷ cs))) _
    (ap (list_any (λ p. bytes_eq p (f (c ∷ d ∷ cs)))) (map-map f (λ front. c ∷ front) (fronts_of (d ∷ (cs ++ others))))
    ∙ among_fronts (λ front. f (c ∷ front)) d cs others)

-- what a front is found by is a front of each word that begins with it
pub front_of_longer : (front others : List ℕ) (b : ℕ) (bs : List ℕ) → key_front front ≡ b ∷ bs
    → list_any (λ p. bytes_eq p (key_front front)) (fronts (front ++ others)) ≡ true
unfolding fronts key_front
front_of_longer front others b bs some =
    ap (λ cs. list_any (λ p. bytes_eq p (key_front front)) (map encode_utf8_all (fronts_of cs)))
    (ap (take MOST_FRONT_CHARACTERS) (chars_longer front others).1
    ∙ (take_longer MOST_FRONT_CHARACTERS (chars front) (chars_longer front others).0).1)
    ∙ at (take MOST_FRONT_CHARACTERS (chars front))
    (take_longer MOST_FRONT_CHARACTERS (chars front) (chars_longer front others).0).0 some
  where
    at : (cs more : List ℕ) → encode_utf8_all cs ≡ b ∷ bs
        → list_any (λ p. bytes_eq p (encode_utf8_all cs)) (map encode_utf8_all (fronts_of (cs ++ more))) ≡ true
    at [] more e = cc
    at (c ∷ cs) more e = among_fronts encode_utf8_all c cs more

-- what a front gives that is not empty
pub front_found : (field front : List ℕ) → nat_eq (length front) 0 ≡ false
    → front_extract field front ≡ record { keys = Front field front ∷ []; weight = length (chars front) }
front_found field [] some = absurd (true≢false some)
front_found field (b ∷ bs) some = refl

pub empty_found : (field front : List ℕ) → nat_eq (length front) 0 ≡ true → front_extract field front ≡ unnarrowed
empty_found field [] none = refl
empty_found field (b ∷ bs) none =
    absurd (true≢false (sym none ∙ ne_eqb (length (b ∷ bs)) 0 (λ e. absurd (omega arith))))

pub front_weight : (field front : List ℕ) → (front_extract field front).weight ≡ length (chars front)
unfolding chars
front_weight field [] = refl
front_weight field (b ∷ bs) = refl
