-- Words that begin with a text stand among words by the leads of both.
use Rattle.std.proofs.Common.{◌≡◌, ℕ, zero, suc, ◌+◌, ◌-◌, ◌*◌, ◌^◌, ◌<◌, ◌≤◌, Bool, true, false, List, [], ◌∷◌, All}
use Rattle.std.proofs.Common.{length, map, flat_map, take, drop, ◌++◌, get_or, refl, sym, ap, ◌∙◌, subst, arith}
use Rattle.std.proofs.Common.{append_assoc, eq-eqb, ne_eqb, inl, inr}
use Rattle.std.specs.List.{list_any}
use Rattle.std.specs.Arc.{arc_str_bytes}
use Rattle.std.specs.Str.{IsUtf8, chars, encode_utf8_all}
use Rattle.std.specs.Cmp.Lexicographic.{nat_list_cmp_total}
use Rattle.std.proofs.lemmas.Bool.{cases_lt, cases_eq, and_parts, and_from, or_left, or_right, false≢true}
use Rattle.std.proofs.lemmas.Bool.{false_from_ne_true}
use Rattle.std.proofs.lemmas.List.{get_or-map, length-map, take-append-drop}
use Rattle.std.proofs.lemmas.List.Elements.{All-head, All-tail}
use Rattle.std.proofs.lemmas.List.Folds.{list_any-append}
use Rattle.std.proofs.lemmas.Str.{encodes-append, encodes-chars}
use Rattle.std.proofs.lemmas.Option.{unwrap_or-slice_get}
use Rattle.clip_grammar.proofs.Booleans.{either}
use Rattle.clip_meaning.specs.Leads.{AreBytes, IsLead, lead_after, lead_of}
use Rattle.clip_meaning.specs.Meaning.{begins_with}
use Rattle.clip_meaning.proofs.Fields.{bytes_exact, texts_all}
use Rattle.clip_extract.specs.Keys.{KeyValue, Any, Word, Front, is_same, key_of, text_of}
use Rattle.clip_extract.specs.declared.key.Key.{Key}
use Rattle.clip_extract.specs.declared.key.Key.TheVariants as variant
use Rattle.clip_extract.specs.Covering.{front_keys}
use Rattle.clip_extract.specs.Fronts.{fronts_of, fronts}
use Rattle.clip_extract.specs.declared.key.TheConstants.{MOST_FRONT_CHARACTERS}
use Rattle.clip_extract.proofs.Order.{same_key}
use Rattle.clip_extract.proofs.Members.{any_map, same_members, keys_in_order, keys_members}
use Rattle.clip_terms.specs.Terms.{term_at}
use Rattle.clip_terms.specs.Steps.Fronts.{AreBelowFronts}
use Rattle.clip_terms.specs.Steps.Leads.{heading, AreLeads, IsPart, IsShortLength, AreShortLengths, IsPast, NeverFall}
use Rattle.clip_terms.specs.Steps.KeysByField.{words_in_order, ordered_keys}
use Rattle.clip_terms.proofs.KeysByField.{words_rise}
use Rattle.clip_terms.proofs.Numbers.{IsRising}
use Rattle.clip_terms.proofs.Headings.{texts_rise}
use Rattle.clip_terms.proofs.LeadsOfTerms.{lead_at, leads_long, length_at, never_fall}

-- ---- leads of texts that go on

-- a lesser number stays less
grows : (k m n : ℕ) (xs : List ℕ) → AreBytes xs → m < n → lead_after m k xs < lead_after n k []
grows zero m n xs bytes lt = lt
grows (suc k) m n [] bytes lt = grows k (m * 256) (n * 256) [] bytes (omega arith)
grows (suc k) m n (x ∷ xs) bytes lt = let small : x < 256 = bytes.0 in
    grows k (m * 256 + x) (n * 256) xs bytes.1 (omega arith)

-- and one that is not greater does not become it
goes_on : (k m n : ℕ) (xs : List ℕ) → m ≤ n → lead_after m k [] ≤ lead_after n k xs
goes_on zero m n xs le = le
goes_on (suc k) m n [] le = goes_on k (m * 256) (n * 256) [] (omega arith)
goes_on (suc k) m n (x ∷ xs) le = goes_on k (m * 256) (n * 256 + x) xs (omega arith)

sums : (k m n : ℕ) → lead_after (m + n) k [] ≡ lead_after m k [] + lead_after n k []
sums zero m n = refl
sums (suc k) m n =
    let both : (m + n) * 256 ≡ m * 256 + n * 256 = omega arith in
    ap (λ s. lead_after s k []) both ∙ sums k (m * 256) (n * 256)

-- the lead of a word that begins with a text, which has `left` bytes less than are read
begun : (text word : List ℕ) (a left k : ℕ) → k ≡ left + length text → begins_with text word ≡ true → AreBytes word
    → (lead_after a k text ≤ lead_after a k word) × (lead_after a k word < lead_after a k text + lead_after 1 left [])
begun [] word a left k long begins bytes =
    let same : k ≡ left = omega arith in
    let upper : lead_after a k word < lead_after (a + 1) k [] = grows k a (a + 1) word bytes (omega arith) in
    let last : lead_after 1 k [] ≡ lead_after 1 left [] = ap (λ j. lead_after 1 j []) same in
    (goes_on k a a word (omega arith), omega (arith, upper, sums k a 1, last))
begun (b ∷ text) [] a left k long begins bytes = absurd (false≢true begins)
begun (b ∷ text) (c ∷ word) a left zero long begins bytes = absurd (omega arith)
begun (b ∷ text) (c ∷ word) a left (suc k) long begins bytes =
    let parts = and_parts _ _ begins in
    let same : b ≡ c = elim (cases_eq b c) [ inl e ↦ e | inr ne ↦ absurd (false≢true (sym (ne_eqb b c ne) ∙ parts.0)) ]
    in
    subst (λ x. (lead_after (a * 256 + b) k text ≤ lead_after (a * 256 + x) k word)
    × (lead_after (a * 256 + x) k word < lead_after (a * 256 + b) k text + lead_after 1 left [])) same
    (begun text word (a * 256 + b) left k (omega arith) parts.1 bytes.1)

spans : (short : ℕ) → 0 < short → short ≤ 8 → lead_after 1 (8 - short) [] ≡ 2 ^ (64 - 8 * short)
spans zero some few = absurd (omega arith)
spans (suc zero) some few = refl
spans (suc (suc zero)) some few = refl
spans (suc (suc (suc zero))) some few = refl
spans (suc (suc (suc (suc zero)))) some few = refl
spans (suc (suc (suc (suc (suc zero))))) some few = refl
spans (suc (suc (suc (suc (suc (suc zero)))))) some few = refl
spans (suc (suc (suc (suc (suc (suc (suc zero))))))) some few = refl
spans (suc (suc (suc (suc (suc (suc (suc (suc zero)))))))) some few = refl
spans (suc (suc (suc (suc (suc (suc (suc (suc (suc n))))))))) some few = absurd (omega arith)

between : (text word : List ℕ) (lead long short : ℕ) → IsLead text lead → IsLead word long → IsShortLength text short
    → 0 < short → short ≤ 8 → begins_with text word ≡ true
    → (lead ≤ long) × (long < lead + 2 ^ (64 - 8 * short))
unfolding lead_of
between text word lead long short of_text of_word length_is some few begins =
    let first : lead ≡ lead_after 0 8 text = of_text.number in
    let second : long ≡ lead_after 0 8 word = of_word.number in
    let is = length_is few in
    let whole : 8 ≡ (8 - short) + length text = omega arith in
    let found = begun text word 0 (8 - short) 8 whole begins of_word.bytes in
    (omega (arith, found.0), omega (arith, found.1, spans short some few))

-- ---- fronts of words

-- a list begins with its front
started : (front others : List ℕ) → begins_with front (front ++ others) ≡ true
started [] others = refl
started (c ∷ front) others = and_from _ _ (eq-eqb c c refl) (started front others)

-- one of the fronts of characters
some_front : (test : List ℕ → Bool) (cs : List ℕ) → list_any test (fronts_of cs) ≡ true
    → (ds : List ℕ) × (more : List ℕ) × (cs ≡ ds ++ more) × (test ds ≡ true)
some_front test [] h = absurd (false≢true h)
some_front test (c ∷ cs) h =
    either (test (c ∷ [])) (list_any test (map (λ front. c ∷ front) (fronts_of cs))) h
    (λ e. (c ∷ [], cs, refl, e))
    (λ e. let r = some_front (λ front. test (c ∷ front)) cs (sym (any_map test (λ front. c ∷ front) (fronts_of cs))
    ∙ e) in
    (c ∷ r.0, r.1, ap (λ xs. c ∷ xs) r.2, r.3))

module _ (field text : List ℕ) (is_text : IsUtf8 text) where
  abbrev is_it : List ℕ → Bool
  is_it front = is_same (Front field text) (Front field front)

  word_begins : (word : List ℕ) → IsUtf8 word → list_any is_it (fronts word) ≡ true → begins_with text word ≡ true
  unfolding fronts
  word_begins word is_word h =
      let r = some_front (λ cs. is_it (encode_utf8_all cs)) (take MOST_FRONT_CHARACTERS (chars word))
      (sym (any_map is_it encode_utf8_all (fronts_of (take MOST_FRONT_CHARACTERS (chars word)))) ∙ h) in
      let others : List ℕ = r.1 ++ drop MOST_FRONT_CHARACTERS (chars word) in
      let same = same_key (Front field text) (Front field (encode_utf8_all r.0)) r.3 in
      let is : text ≡ encode_utf8_all r.0 = ap text_of same in
      let whole : chars word ≡ r.0 ++ others =
      sym (take-append-drop MOST_FRONT_CHARACTERS (chars word))
      ∙ ap (λ xs. xs ++ drop MOST_FRONT_CHARACTERS (chars word)) r.2
      ∙ append_assoc r.0 r.1 (drop MOST_FRONT_CHARACTERS (chars word)) in
      let spelled : word ≡ text ++ encode_utf8_all others =
      sym (encodes-chars word is_word) ∙ ap encode_utf8_all whole ∙ encodes-append r.0 others
      ∙ ap (λ bs. bs ++ encode_utf8_all others) (sym is) in
      ap (begins_with text) spelled ∙ started text (encode_utf8_all others)

  words_begin : (words : List (List ℕ)) → All IsUtf8 words → list_any is_it (flat_map fronts words) ≡ true
      → list_any (begins_with text) words ≡ true
  words_begin [] all h = h
  words_begin (word ∷ words) all h =
      either (list_any is_it (fronts word)) (list_any is_it (flat_map fronts words))
      (sym (list_any-append is_it (fronts word) (flat_map fronts words)) ∙ h)
      (λ e. or_left (begins_with text word) (list_any (begins_with text) words)
      (word_begins word (All-head IsUtf8 word words all) e))
      (λ e. or_right (begins_with text word) (list_any (begins_with text) words)
      (words_begin words (All-tail IsUtf8 word words all) e))

-- a front whose key is there is one of a word that begins with it
front_begins : (field : List ℕ × List (List ℕ)) (text : List ℕ) → IsUtf8 text → All IsUtf8 field.1
    → list_any (is_same (Front field.0 text)) (front_keys field) ≡ true → list_any (begins_with text) field.1 ≡ true
front_begins field text is_text all h =
    words_begin field.0 text is_text field.1 all
    (sym (any_map (is_same (Front field.0 text)) (Front field.0) (flat_map fronts field.1)) ∙ h)

-- ---- words of a field

some_passes : (test : List ℕ → Bool) (ws : List (List ℕ)) → list_any test ws ≡ true
    → (n : ℕ) × (n < length ws) × (test (get_or ws n []) ≡ true)
some_passes test [] h = absurd (false≢true h)
some_passes test (w ∷ ws) h =
    either (test w) (list_any test ws) h
    (λ e. (0, omega arith, e))
    (λ e. let r = some_passes test ws e in (suc r.0, let inside = r.1 in omega arith, r.2))

words_part : (field : List ℕ × List (List ℕ))
    → IsPart (ordered_keys field) (heading (Word field.0 [])) 0 (length (ordered_keys field))
words_part field = record {
  rises = omega arith;
  within = omega arith;
  just = λ n d low high.
      let inside : n < length (words_in_order field.1) =
      omega (arith, length-map (words_in_order field.1) (Word field.0)) in
      ap heading (get_or-map (Word field.0) (words_in_order field.1) n [] d inside);
  all = λ n d inside e. (omega arith, inside);
}

-- the leads of a field's words never fall
pub words_never_fall : (field : List ℕ × List (List ℕ)) (leads : List ℕ) → AreLeads (ordered_keys field) leads
    → NeverFall leads 0 (length (ordered_keys field))
words_never_fall field leads are =
    let keys = ordered_keys field in
    never_fall keys leads 0 (length keys) are (omega arith)
    (texts_rise keys (heading (Word field.0 [])) 0 (length keys)
    (words_rise field.0 (words_in_order field.1) (keys_in_order _ _)) (words_part field))

-- a front is not had where all leads before a place are below its own, and the one there is past those of its words
pub not_had : (field : List ℕ × List (List ℕ)) (leads text : List ℕ) (lead place short : ℕ)
    → AreLeads (ordered_keys field) leads → All IsUtf8 field.1 → IsUtf8 text
    → IsLead text lead → IsShortLength text short → IsPast leads place lead short
    → ((n : ℕ) → n < place → get_or leads n 0 < lead)
    → false ≡ list_any (is_same (Front field.0 text)) (front_keys field)
not_had field leads text lead place short are texts is_text of_text length_is past before =
    let keys = ordered_keys field in
    let words = words_in_order field.1 in
    let fall = words_never_fall field leads are in
    sym (false_from_ne_true _
    (λ there.
    let found = some_passes (begins_with text) words
    (same_members nat_list_cmp_total bytes_exact (begins_with text) words field.1
    (λ q. keys_members nat_list_cmp_total bytes_exact q field.1) ∙ front_begins field text is_text texts there) in
    let n = found.0 in
    let inside : n < length words = found.1 in
    let known : n < length keys = omega (arith, length-map words (Word field.0)) in
    let of_word : IsLead (get_or words n []) (get_or leads n 0) =
    subst (λ k. IsLead (text_of k) (get_or leads n 0)) (get_or-map (Word field.0) words n [] Any inside)
    (lead_at keys leads are n Any known) in
    let lies = between text (get_or words n []) lead (get_or leads n 0) short of_text of_word length_is past.some
    past.few found.2 in
    let long = leads_long keys leads are in
    elim (cases_lt n place) [
      | inl lt ↦ omega (arith, before n lt, lies.0)
      | inr ge ↦
          let bound : lead + 2 ^ (64 - 8 * short) ≤ get_or leads place 0 = past.past (omega arith) in
          elim (cases_lt place n) [
            | inl less ↦ omega (arith, fall place n (omega arith) less known, bound, lies.1)
            | inr same ↦ let is : place ≡ n = omega arith in
                omega (arith, subst (λ j. lead + 2 ^ (64 - 8 * short) ≤ get_or leads j 0) is bound, lies.1)
          ]
    ]))

-- the text of a key of a front is UTF-8
text_of_front : (k : Key) (field : List ℕ) → heading (key_of k) ≡ heading (Front field []) → IsUtf8 (text_of (key_of k))
text_of_front variant.Any field e = absurd (let rank : 0 ≡ 2 = ap (λ (h : ℕ × List ℕ). h.0) e in omega arith)
text_of_front (variant.Word f w) field e = All-head IsUtf8 (arc_str_bytes w) [] (texts_all (w ∷ []))
text_of_front (variant.Front f w) field e = All-head IsUtf8 (arc_str_bytes w) [] (texts_all (w ∷ []))

pub key_at : (keys : List Key) (n : ℕ) → n < length keys → (d : KeyValue) → get_or (map key_of keys) n d
    ≡ key_of (get_or keys n variant.Any)
key_at keys n inside d = get_or-map key_of keys n variant.Any d inside

-- the same of the front of a number
pub front_not_had : (keys : List Key) (leads lengths : List ℕ) (field : List ℕ × List (List ℕ)) (words : List ℕ)
    (start end next i : ℕ)
    → AreLeads (map key_of keys) leads → AreShortLengths (map key_of keys) lengths
    → IsPart (map key_of keys) (heading (Front field.0 [])) start end → start ≤ i → i < end
    → AreLeads (ordered_keys field) words → All IsUtf8 field.1
    → IsPast words next (get_or leads i 0) (get_or lengths i 0)
    → ((n : ℕ) → n < next → get_or words n 0 < get_or leads i 0)
    → false ≡ list_any (is_same (Front field.0 (text_of (key_of (get_or keys i variant.Any))))) (front_keys field)
front_not_had keys leads lengths field words start end next i are shorts part low high of_words texts past before =
    let terms = map key_of keys in
    let k = get_or keys i variant.Any in
    let within = part.within in
    let inside : i < length terms = omega arith in
    let is = key_at keys i (omega (arith, length-map keys key_of)) in
    let front = ap heading (sym (is Any)) ∙ part.just i Any low high in
    not_had field words (text_of (key_of k)) (get_or leads i 0) next (get_or lengths i 0) of_words texts
    (text_of_front k field.0 front)
    (subst (λ t. IsLead (text_of t) (get_or leads i 0)) (is Any) (lead_at terms leads are i Any inside))
    (subst (λ t. IsShortLength (text_of t) (get_or lengths i 0)) (is Any) (length_at terms lengths shorts i Any inside))
    past before

-- ---- from front to front

-- the walk goes on to a place for the front of a number: all leads before it are below the front's, and those after it
pub walked : (terms : List KeyValue) (leads field words : List ℕ) (start end place next i : ℕ) → IsRising terms
    → AreLeads terms leads → IsPart terms (heading (Front field [])) start end
    → start ≤ i → i < end → AreBelowFronts terms field words place i
    → ((n : ℕ) → place ≤ n → n < next → get_or words n 0 < get_or leads i 0)
    → ((n : ℕ) → n < next → get_or words n 0 < get_or leads i 0) × AreBelowFronts terms field words next (i + 1)
unfolding lead_of
walked terms leads field words start end place next i up are part low high before more =
    let inside = part.within in
    let at : (n : ℕ) → term_at terms n ≡ get_or terms n Any = λ n. unwrap_or-slice_get terms n Any in
    let is_lead : (n : ℕ) → n < length terms → IsLead (text_of (term_at terms n)) (get_or leads n 0) =
    λ n lt. subst (λ k. IsLead (text_of k) (get_or leads n 0)) (sym (at n)) (lead_at terms leads are n Any lt) in
    let fall = never_fall terms leads start end are inside
    (texts_rise terms (heading (Front field [])) start end up part) in
    let all : (n : ℕ) → n < next → get_or words n 0 < get_or leads i 0 =
    λ n lt.
    elim (cases_lt n place) [
      | inl less ↦ before n i (get_or leads i 0) less (omega arith) (omega arith) (ap heading (at i)
          ∙ part.just i Any low high) (is_lead i (omega arith))
      | inr ge ↦ more n ge lt
    ] in (
      all,
      λ n m lead lt le known under is.
          let there = part.all m Any known (ap heading (sym (at m)) ∙ under) in
          let same : lead ≡ get_or leads m 0 = is.number ∙ sym (is_lead m known).number in
          omega (arith, all n lt, fall i m low (omega arith) there.1, same),
    )
