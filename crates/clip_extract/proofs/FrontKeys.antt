-- The key of a front is among those of a field just where one of its words begins with the front, which is neither
-- empty nor too long.
use Rattle.std.proofs.Common.{◌≡◌, ℕ, ◌<◌, Bool, true, false, List, [], ◌∷◌, ◌++◌, All, map, flat_map, take, drop}
use Rattle.std.proofs.Common.{length, refl, sym, ap, ◌∙◌, arith, append_assoc, eq-eqb, nat_eq, ne_eqb}
use Rattle.std.specs.List.{list_any}
use Rattle.std.specs.Char.{encode_utf8}
use Rattle.std.specs.Str.{IsUtf8, chars, encode_utf8_all}
use Rattle.std.proofs.lemmas.Bool.{or_left, or_right, and_from, false≢true, true≢false}
use Rattle.std.proofs.lemmas.List.{take-append-drop, take_all, length-append, length-take}
use Rattle.std.proofs.lemmas.List.Elements.{All-head, All-tail}
use Rattle.std.proofs.lemmas.List.Folds.{list_any-append}
use Rattle.std.proofs.lemmas.Str.{encodes-append, encodes-chars, chars_from_encodes, length-encode, len_utf8_bounds}
use Rattle.clip_grammar.proofs.Booleans.{either}
use Rattle.clip_meaning.specs.Meaning.{begins_with}
use Rattle.clip_extract.specs.Keys.{Front, is_same}
use Rattle.clip_extract.specs.Covering.{front_keys}
use Rattle.clip_extract.specs.Fronts.{key_front, fronts_of, fronts}
use Rattle.clip_extract.specs.declared.key.TheConstants.{MOST_FRONT_CHARACTERS}
use Rattle.clip_extract.proofs.Covers.{is_word_of, front_among, text_among}
use Rattle.clip_extract.proofs.Members.{any_map}
use Rattle.clip_extract.proofs.Order.{same_key}

-- ---- texts that are empty or not

pub has_some : (text : List ℕ) → nat_eq (length text) 0 ≡ false → 0 < length text
has_some [] e = absurd (true≢false e)
has_some (b ∷ bs) e = omega arith

pub has_none : (text : List ℕ) → nat_eq (length text) 0 ≡ true → 0 < length text → ⊥
has_none text e some = true≢false (sym e ∙ ne_eqb (length text) 0 (λ none. absurd (omega arith)))

-- ---- fronts of a word

-- a list begins with its front
started : (front others : List ℕ) → begins_with front (front ++ others) ≡ true
started [] others = refl
started (c ∷ front) others = and_from _ _ (eq-eqb c c refl) (started front others)

-- one of the fronts of characters
some_front : (test : List ℕ → Bool) (cs : List ℕ) → list_any test (fronts_of cs) ≡ true
    → (c : ℕ) × (ds : List ℕ) × (more : List ℕ) × (cs ≡ c ∷ ds ++ more) × (test (c ∷ ds) ≡ true)
some_front test [] h = absurd (false≢true h)
some_front test (c ∷ cs) h =
    either (test (c ∷ [])) (list_any test (map (λ front. c ∷ front) (fronts_of cs))) h
    (λ e. (c, [], cs, refl, e))
    (λ e. let r = some_front (λ front. test (c ∷ front)) cs (sym (any_map test (λ front. c ∷ front) (fronts_of cs))
    ∙ e) in
    (c, r.0 ∷ r.1, r.2, ap (λ xs. c ∷ xs) r.3, r.4))

-- What is so of a text whose key is among those of a field's words.
pub record IsFrontOf (text : List ℕ) (words : List (List ℕ)) : Type 0 where
  pub begins : list_any (begins_with text) words ≡ true
  pub short : key_front text ≡ text
  pub some : 0 < length text

module _ (field text : List ℕ) (is_text : IsUtf8 text) where
  abbrev is_it : List ℕ → Bool
  is_it front = is_same (Front field text) (Front field front)

  text_is : (front : List ℕ) → is_it front ≡ true → text ≡ front
  text_is front h = let same = same_key (Front field text) (Front field front) h in cc

  of_word : (word : List ℕ) → IsUtf8 word → list_any is_it (fronts word) ≡ true → IsFrontOf text (word ∷ [])
  unfolding fronts key_front
  of_word word is_word h =
      let r = some_front (λ cs. is_it (encode_utf8_all cs)) (take MOST_FRONT_CHARACTERS (chars word))
      (sym (any_map is_it encode_utf8_all (fronts_of (take MOST_FRONT_CHARACTERS (chars word)))) ∙ h) in
      let cs : List ℕ = r.0 ∷ r.1 in
      let others : List ℕ = r.2 ++ drop MOST_FRONT_CHARACTERS (chars word) in
      let is : text ≡ encode_utf8_all cs = text_is (encode_utf8_all cs) r.4 in
      let whole : chars word ≡ cs ++ others =
      sym (take-append-drop MOST_FRONT_CHARACTERS (chars word))
      ∙ ap (λ xs. xs ++ drop MOST_FRONT_CHARACTERS (chars word)) r.3
      ∙ append_assoc cs r.2 (drop MOST_FRONT_CHARACTERS (chars word)) in
      let spelled : word ≡ text ++ encode_utf8_all others =
      sym (encodes-chars word is_word) ∙ ap encode_utf8_all whole ∙ encodes-append cs others
      ∙ ap (λ bs. bs ++ encode_utf8_all others) (sym is) in
      let few : length cs < 9 =
      omega (arith, ap length r.3, length-append cs r.2, length-take MOST_FRONT_CHARACTERS (chars word)) in
      record {
        begins = or_left (begins_with text word) false (ap (begins_with text) spelled
            ∙ started text (encode_utf8_all others));
        short = ap (λ xs. encode_utf8_all (take MOST_FRONT_CHARACTERS xs))
            (sym (chars_from_encodes cs text is_text (sym is)))
            ∙ ap encode_utf8_all (take_all MOST_FRONT_CHARACTERS cs (omega arith)) ∙ sym is;
        some = omega (
          arith,
          ap length is,
          length-append (encode_utf8 r.0) (encode_utf8_all r.1),
          length-encode r.0,
          (len_utf8_bounds r.0).0,
        );
      }

  of_words : (words : List (List ℕ)) → All IsUtf8 words → list_any is_it (flat_map fronts words) ≡ true
      → IsFrontOf text words
  of_words [] all h = absurd (false≢true h)
  of_words (word ∷ words) all h =
      either (list_any is_it (fronts word)) (list_any is_it (flat_map fronts words))
      (sym (list_any-append is_it (fronts word) (flat_map fronts words)) ∙ h)
      (λ e. let one = of_word word (All-head IsUtf8 word words all) e in
      record {
        begins = either (begins_with text word) false one.begins (λ b. or_left (begins_with text word) _ b)
            (λ b. absurd (false≢true b));
        short = one.short;
        some = one.some;
      })
      (λ e. let more = of_words words (All-tail IsUtf8 word words all) e in
      record { begins = or_right (begins_with text word) _ more.begins; short = more.short; some = more.some })

  -- a key that is there
  pub front_there : (words : List (List ℕ)) → All IsUtf8 words
      → list_any (is_same (Front field text)) (front_keys (field, words)) ≡ true → IsFrontOf text words
  front_there words all h =
      of_words words all (sym (any_map (is_same (Front field text)) (Front field) (flat_map fronts words)) ∙ h)

-- a front whose key is there
pub key_there : (field text : List ℕ) (words : List (List ℕ)) → IsFrontOf text words
    → list_any (is_same (Front field text)) (front_keys (field, words)) ≡ true
key_there field [] words front = absurd (let some = front.some in omega arith)
key_there field (b ∷ bs) words front =
    text_among (Front field) (b ∷ bs) (flat_map fronts words)
    (sym (ap (is_word_of (flat_map fronts words)) front.short)
    ∙ front_among (b ∷ bs) b bs words front.short front.begins)
