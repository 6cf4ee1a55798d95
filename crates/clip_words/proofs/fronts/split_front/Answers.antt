use Rattle.std.proofs.Common.{◌≡◌, ◌+◌, ◌-◌, ◌<◌, ℕ, List, true, length, take, drop, slice_index, length-drop}
use Rattle.std.proofs.Common.{ap, ap₂, sym, subst, ◌∙◌, ◌++◌, arith}
use Rattle.std.specs.Char.{is_ascii_alphanumeric}
use Rattle.std.specs.List.{list_all}
use Rattle.unicode_segmentation.specs.Word.{words}
use Rattle.clip_words.specs.Steps.Fronts.{is_word_mark, is_separator, ends_word, IsSeam}
use Rattle.clip_words.proofs.Splits.{front_word, front_word_mark, front_letters, front_boundary, cut_at, to_end}
use Rattle.clip_words.proofs.fronts.split_front.Goals as goal

-- letters at the beginning of what stands from a place on in one text do so in the other, which is the same
letters_on : (t s : List ℕ) (i n : ℕ) → t ≡ s
    → list_all is_ascii_alphanumeric (take n (take (length t - i) (drop i t))) ≡ true
    → list_all is_ascii_alphanumeric (take n (drop i s)) ≡ true
letters_on t s i n is all = subst (λ u. list_all is_ascii_alphanumeric (take n (drop i u)) ≡ true) is
    (sym (ap (λ u. list_all is_ascii_alphanumeric (take n u)) (to_end t i)) ∙ all)

pub range-requires-clause-start_boundary : goal.range-requires-clause-start_boundary
range-requires-clause-start_boundary c =
    let s = c.args.text.now in
    let i = c.separators-start.result in
    let n = c.letters.result in
    let letters = letters_on c.as_bytes-bytes.result.now s i n c.as_bytes-bytes.ensures.value c.letters.ensures.all in
    let lt : i < length s = omega (arith, length-drop i s) in
    λ _. front_boundary s i n (omega arith) lt letters

pub returns-then-ends_word-clause-words : goal.returns-then-ends_word-clause-words
returns-then-ends_word-clause-words c =
    let s = c.args.text.now in
    let i = c.separators-start.result in
    let n = c.letters.result in
    let skipped : list_all is_separator (take i s) ≡ true = cc in
    let letters = letters_on c.as_bytes-bytes.result.now s i n c.as_bytes-bytes.ensures.value c.letters.ensures.all in
    let ends : ends_word (drop (i + n) s) ≡ true =
    subst (λ t. ends_word (drop (i + n) t) ≡ true) c.as_bytes-bytes.ensures.value
    (sym (ap ends_word (to_end c.as_bytes-bytes.result.now (i + n))) ∙ sym c.ends_word.ensures
    ∙ c.if-ends_word.true) in
    let front = front_word s i n (omega arith) skipped letters (omega (arith, length-drop i s)) ends in
    cc

pub returns-then-ends_word-clause-letters : goal.returns-then-ends_word-clause-letters
returns-then-ends_word-clause-letters c =
    let s = c.args.text.now in
    let i = c.separators-start.result in
    let n = c.letters.result in
    let skipped : list_all is_separator (take i s) ≡ true = cc in
    let letters = letters_on c.as_bytes-bytes.result.now s i n c.as_bytes-bytes.ensures.value c.letters.ensures.all in
    let front = front_letters s i n (omega arith) skipped letters in
    cc

pub range-requires-then-ends_word-2-clause-start_boundary :
    goal.range-requires-then-ends_word-2-clause-start_boundary
range-requires-then-ends_word-2-clause-start_boundary c =
    let s = c.args.text.now in
    let i = c.separators-start.result in
    let n = c.letters.result in
    let letters = letters_on c.as_bytes-bytes.result.now s i n c.as_bytes-bytes.ensures.value c.letters.ensures.all in
    let lt : i < length s = omega (arith, length-drop i s) in
    λ _. front_boundary s i n (omega arith) lt letters

pub returns-then-ends_word-2-clause-words : goal.returns-then-ends_word-2-clause-words
returns-then-ends_word-2-clause-words c =
    let s = c.args.text.now in
    let i = c.separators-start.result in
    let n = c.letters.result in
    let skipped : list_all is_separator (take i s) ≡ true = cc in
    let letters = letters_on c.as_bytes-bytes.result.now s i n c.as_bytes-bytes.ensures.value c.letters.ensures.all in
    let mark : is_word_mark (slice_index s (i + n)) ≡ true = cc in
    let ends : ends_word (drop (i + n + 1) s) ≡ true =
    cc (ap ends_word (to_end c.as_bytes-bytes.result.now (i + n + 1))) in
    let lt : i + n < length s = omega (arith, length-drop i s) in
    let front = front_word_mark s i n (omega arith) skipped letters lt mark ends in
    cc

pub returns-then-ends_word-2-clause-letters : goal.returns-then-ends_word-2-clause-letters
returns-then-ends_word-2-clause-letters c =
    let s = c.args.text.now in
    let i = c.separators-start.result in
    let n = c.letters.result in
    let skipped : list_all is_separator (take i s) ≡ true = cc in
    let letters = letters_on c.as_bytes-bytes.result.now s i n c.as_bytes-bytes.ensures.value c.letters.ensures.all in
    let front = front_letters s i n (omega arith) skipped letters in
    cc

pub returns-clause-words : goal.returns-clause-words
returns-clause-words c =
    let s = c.args.text.now in
    let k = c.seam_past-seam.result in
    let seam : k < length s → IsSeam s k =
    subst (λ t. k < length t → IsSeam t k) c.as_bytes-bytes.ensures.value c.seam_past-seam.ensures.seam in
    let same : k - 0 ≡ k = omega arith in
    cut_at s k c.utf8.text seam
    ∙ ap₂ (λ a b. words a ++ words b) (sym (c.range-2.ensures.value ∙ ap (λ n. take n s) same))
    (sym c.range_from-2.ensures.value)
