-- The marked positions of candidates are those of entries that share a key with the article.
use Rattle.std.proofs.Common.{◌≡◌, ℕ, zero, suc, ◌+◌, Bool, true, false, List, [], ◌∷◌, map, get_or, Some, slice_get}
use Rattle.std.proofs.Common.{is_some, refl, sym, ap, ◌∙◌, subst, arith}
use Rattle.std.specs.List.{All}
use Rattle.std.proofs.lemmas.Bool.{and_parts, false≢true}
use Rattle.std.proofs.lemmas.List.Elements.{All-nil, All-cons}
use Rattle.std.proofs.lemmas.Option.{same_Some}
use Rattle.clip_pieces.specs.Marked.{marked, marked_from}
use Rattle.clip_extract.specs.Covering.{article_keys}
use Rattle.clip_model.specs.History.{History, Registered, is_live}
use Rattle.clip_segment.specs.Segment.{AskedValue}
use Rattle.clip_match.specs.Steps.Positions.{has_one, IsSharer}
use Rattle.clip_match.proofs.Marks.{candidate}

-- what is so of each number whose flag is set
marked_all : (P : ℕ → Type 0) (n : ℕ) (flags : List Bool) → ((k : ℕ) → get_or flags k false ≡ true → P (n + k))
    → All P (marked_from n flags)
marked_all P n [] h = All-nil P
marked_all P n (flag ∷ flags) h =
    let here : n + 0 ≡ n = omega arith in
    by_flag flag (λ set. subst P here (h 0 set))
    (marked_all P (n + 1) flags (λ k set.
    let same : n + suc k ≡ (n + 1) + k = omega arith in
    subst P same (h (suc k) set)))
  where
    by_flag : (f : Bool) → (f ≡ true → P n) → All P (marked_from (n + 1) flags) → All P (marked_from n (f ∷ flags))
    by_flag true here rest = All-cons P n (marked_from (n + 1) flags) (here refl) rest
    by_flag false here rest = rest

flag_of : (t : Registered → Bool) (es : List Registered) (k : ℕ) (e : Registered) → slice_get es k ≡ Some e
    → get_or (map t es) k false ≡ t e
flag_of t [] k e is = absurd (false≢true (ap is_some is))
flag_of t (x ∷ es) zero e is = ap t (same_Some x e is)
flag_of t (x ∷ es) (suc k) e is = flag_of t es k e is

-- marks of which none is set but among those of the candidates
pub marked_sharers : (h : History) (asked : AskedValue) (marks old : List Bool)
    → old ≡ map (candidate h (article_keys asked.article.fields) asked.entries) asked.entries
    → ((k : ℕ) → get_or marks k false ≡ true → get_or old k false ≡ true) → All (IsSharer asked) (marked marks)
marked_sharers h asked marks old are fewer =
    let keys = article_keys asked.article.fields in
    let test = candidate h keys asked.entries in
    marked_all (IsSharer asked) 0 marks (λ k set entry there.
    let same : 0 + k ≡ k = omega arith in
    (and_parts (is_live h entry.seq) (has_one keys entry)
    (sym (flag_of test asked.entries k entry (ap (slice_get asked.entries) (sym same) ∙ there))
    ∙ ap (λ fs. get_or fs k false) (sym are) ∙ fewer k set)).1)
