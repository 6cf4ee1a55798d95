-- An input has one outcome.
use Rattle.std.proofs.Common.{◌≡◌, ◌⊎◌, ℕ, zero, suc, List, [], ◌∷◌, ◌++◌, Bool, true, false, refl, sym, ap, ap₂, ◌∙◌}
use Rattle.std.proofs.Common.{subst, inl, inr}
use Rattle.std.proofs.lemmas.Str.{IsUtf8-from_is_utf8}
use Rattle.std.specs.Str.{is_utf8}
use Rattle.std.specs.Prelude.{Option}
use Rattle.clip_grammar.proofs.Refusals.{reads_or_faults}
use Rattle.clip_grammar.proofs.Uniqueness.{one_tree}
use Rattle.clip_grammar.specs.Laws.{IsRead, IsRefused}
use Rattle.clip_grammar.specs.Tree.{Tree}
use Rattle.clip_model.specs.Standing.{Standing}
use Rattle.clip_model.specs.History.{History, Register, Delete, Clear}
use Rattle.clip_protocol.specs.declared.refusal.Refusal.{Refusal}
use Rattle.clip_protocol.specs.declared.refusal.Refusal.TheVariants.{Long, Json, Shape, Limit, Query, Listener, Full}
use Rattle.clip_protocol.specs.Request.{Listing, register}
use Rattle.clip_protocol.specs.LineMeaning.{Meaning, nothing, refusal, refusal_at, purging, counting, showing, matching}
use Rattle.clip_protocol.specs.LineMeaning.{IsQuery, IsAQuery, is_here, IsReadAs, IsTakenAs, IsRefusedFor, AreTakenAs}
use Rattle.clip_protocol.specs.LineMeaning.{FirstRefused, judged, MeansRequest, after}
use Rattle.clip_listen.specs.Heard.{Hearer}
use Rattle.clip_front.specs.Outcome.{Outcome, nothing_given, followed_by, given, names_in, Gives}
use Rattle.clip_protocol.specs.Steps.Outline.{Outline, blank, refused, registers, deletes, clears, purges, counts}
use Rattle.clip_protocol.specs.Steps.Outline.{shows, matches, outline, MeansOutline}
use Rattle.clip_protocol.proofs.Meanings.{means_from, means_to}
use Rattle.clip_front.proofs.Outcomes.{followed_assoc}
use Rattle.clip_front.proofs.Readings.{no_query}

-- ---- a text is a query or none

decided : (text : List ℕ) → is_utf8 text ≡ true → IsRead text ⊎ IsRefused text → IsAQuery text
    ⊎ ((tree : Tree) → ¬ (IsQuery text tree))
decided text utf8 (inl r) = inl (r.0, record { utf8 = utf8; reads = r.1; kept = r.2 })
decided text utf8 (inr f) = inr (no_query text f.0 f.1 f.2)

by_utf8 : (text : List ℕ) (b : Bool) → is_utf8 text ≡ b → IsAQuery text ⊎ ((tree : Tree) → ¬ (IsQuery text tree))
by_utf8 text true e = decided text e (reads_or_faults text (IsUtf8-from_is_utf8 text e))
by_utf8 text false e = inr (λ tree q. unlike (sym e ∙ q.utf8))
  where
    unlike : false ≡ true → ⊥
    unlike e = cc

query_or_none : (text : List ℕ) → IsAQuery text ⊎ ((tree : Tree) → ¬ (IsQuery text tree))
query_or_none text = by_utf8 text (is_utf8 text) refl

-- ---- lists of texts

abbrev Parts : Type 0
Parts = List ℕ × (List ℕ × (Tree × Option (List ℕ)))

made : Parts → Standing
made p = record { id = p.0; text = p.1.0; tree = p.1.1.0; listener = p.1.1.1 }

same_standing : (s t : Standing) → s.id ≡ t.id → s.text ≡ t.text → s.tree ≡ t.tree → s.listener ≡ t.listener → s ≡ t
unfolding made
same_standing s t i x q l = ap made (ap₂ (λ a p. (a, p)) i (ap₂ (λ a p. (a, p)) x (ap₂ (λ a p. (a, p)) q l)))

read_once : (l : Listing) (s t : Standing) → IsReadAs l s → IsReadAs l t → s ≡ t
read_once l s t a b = same_standing s t (a.id ∙ sym b.id) (a.text
    ∙ sym b.text) (one_tree l.query s.tree t.tree a.query.reads b.query.reads) (a.listener ∙ sym b.listener)

list_read_once : (names : List (List ℕ)) (ls : List Listing) (ss ts : List Standing) → AreTakenAs names ls ss
    → AreTakenAs names ls ts → ss ≡ ts
list_read_once names [] [] [] a b = refl
list_read_once names [] [] (t ∷ ts) a b = absurd b
list_read_once names [] (s ∷ ss) ts a b = absurd a
list_read_once names (l ∷ ls) [] ts a b = absurd a
list_read_once names (l ∷ ls) (s ∷ ss) [] a b = absurd b
list_read_once names (l ∷ ls) (s ∷ ss) (t ∷ ts) a b =
    ap₂ (λ x xs. x ∷ xs) (read_once l s t a.0.read b.0.read) (list_read_once names ls ss ts a.1 b.1)

-- ---- a listed query is refused for one reason or taken

apart : (b : Bool) → b ≡ true → b ≡ false → ⊥
apart b holds fails = let same : true ≡ false = sym holds ∙ fails in cc

taken_and_refused : (names : List (List ℕ)) (l : Listing) (r : Refusal) → IsAQuery l.query
    → is_here names l.listener ≡ true → IsRefusedFor names l r → ⊥
taken_and_refused names l Query q here f = f q.0 q.1
taken_and_refused names l Listener q here f = apart (is_here names l.listener) here f.1
taken_and_refused names l Long q here f = f
taken_and_refused names l Json q here f = f
taken_and_refused names l Shape q here f = f
taken_and_refused names l Limit q here f = f
taken_and_refused names l Full q here f = f

abbrev IsReason : Refusal → Type 0
IsReason r = (r ≡ Query) ⊎ (r ≡ Listener)

is_reason : (names : List (List ℕ)) (l : Listing) (r : Refusal) → IsRefusedFor names l r → IsReason r
is_reason names l Query f = inl refl
is_reason names l Listener f = inr refl
is_reason names l Long f = absurd f
is_reason names l Json f = absurd f
is_reason names l Shape f = absurd f
is_reason names l Limit f = absurd f
is_reason names l Full f = absurd f

one_reason_of : (names : List (List ℕ)) (l : Listing) (r s : Refusal) → IsReason r → IsReason s
    → IsRefusedFor names l r → IsRefusedFor names l s → r ≡ s
one_reason_of names l r s (inl x) (inl y) a b = x ∙ sym y
one_reason_of names l r s (inr x) (inr y) a b = x ∙ sym y
one_reason_of names l r s (inl x) (inr y) a b =
    let none = subst (IsRefusedFor names l) x a in
    let some = subst (IsRefusedFor names l) y b in
    absurd (none some.0.0 some.0.1)
one_reason_of names l r s (inr x) (inl y) a b =
    let some = subst (IsRefusedFor names l) x a in
    let none = subst (IsRefusedFor names l) y b in
    absurd (none some.0.0 some.0.1)

one_reason : (names : List (List ℕ)) (l : Listing) (r s : Refusal) → IsRefusedFor names l r → IsRefusedFor names l s
    → r ≡ s
one_reason names l r s a b = one_reason_of names l r s (is_reason names l r a) (is_reason names l s b) a b

never_read : (names : List (List ℕ)) (ls : List Listing) (ss : List Standing) (r : Refusal) (k : ℕ)
    → AreTakenAs names ls ss → FirstRefused names ls r k → ⊥
never_read names [] ss r k a b = b
never_read names (l ∷ ls) [] r k a b = a
never_read names (l ∷ ls) (s ∷ ss) r zero a b = taken_and_refused names l r (s.tree, a.0.read.query) a.0.here b
never_read names (l ∷ ls) (s ∷ ss) r (suc k) a b = never_read names ls ss r k a.1 b.2

place_once : (names : List (List ℕ)) (ls : List Listing) (r s : Refusal) (j k : ℕ) → FirstRefused names ls r j
    → FirstRefused names ls s k → (r ≡ s) × (j ≡ k)
place_once names [] r s j k a b = absurd a
place_once names (l ∷ ls) r s zero zero a b = (one_reason names l r s a b, refl)
place_once names (l ∷ ls) r s zero (suc k) a b = absurd (taken_and_refused names l r b.0 b.1 a)
place_once names (l ∷ ls) r s (suc j) zero a b = absurd (taken_and_refused names l s a.0 a.1 b)
place_once names (l ∷ ls) r s (suc j) (suc k) a b = let rest = place_once names ls r s j k a.2 b.2 in
    (rest.0, ap suc rest.1)

abbrev IsJudged : List (List ℕ) → List Listing → Type 0
IsJudged names ls = ((r : Refusal) × (k : ℕ) × FirstRefused names ls r k)
    ⊎ ((ss : List Standing) × AreTakenAs names ls ss)

standing_of : (l : Listing) (tree : Tree) → Standing
standing_of l tree = record { id = l.id; text = l.query; tree = tree; listener = l.listener }

taken_as : (names : List (List ℕ)) (l : Listing) (q : IsAQuery l.query) → is_here names l.listener ≡ true
    → IsTakenAs names l (standing_of l q.0)
unfolding standing_of
taken_as names l q here = record { read = record { id = refl; text = refl; listener = refl; query = q.1 }; here = here }

one_more : (names : List (List ℕ)) (l : Listing) (ls : List Listing) → IsAQuery l.query
    → is_here names l.listener ≡ true → IsJudged names ls → IsJudged names (l ∷ ls)
one_more names l ls q here (inl f) = inl (f.0, suc f.1, (q, here, f.2))
one_more names l ls q here (inr r) = inr (standing_of l q.0 ∷ r.0, (taken_as names l q here, r.1))

by_listener : (names : List (List ℕ)) (l : Listing) (ls : List Listing) (b : Bool) → is_here names l.listener ≡ b
    → IsAQuery l.query → IsJudged names ls → IsJudged names (l ∷ ls)
by_listener names l ls true here q rest = one_more names l ls q here rest
by_listener names l ls false here q rest = inl (Listener, zero, (q, here))

list_first : (names : List (List ℕ)) (l : Listing) (ls : List Listing) → IsAQuery l.query
    ⊎ ((tree : Tree) → ¬ (IsQuery l.query tree)) → IsJudged names ls → IsJudged names (l ∷ ls)
list_first names l ls (inl q) rest = by_listener names l ls (is_here names l.listener) refl q rest
list_first names l ls (inr none) rest = inl (Query, zero, none)

list_judged : (names : List (List ℕ)) (ls : List Listing) → IsJudged names ls
list_judged names [] = inr ([], tt)
list_judged names (l ∷ ls) = list_first names l ls (query_or_none l.query) (list_judged names ls)

-- ---- one line

register_once : (names : List (List ℕ)) (h : History) (ls : List Listing) (m n : Meaning)
    → MeansRequest names h (register ls) m → MeansRequest names h (register ls) n → m ≡ n
register_once names h ls m n (inl a) (inl b) = let same = place_once names ls a.0 b.0 a.1 b.1 a.2 b.2 in
    a.3 ∙ ap₂ refusal_at same.0 same.1 ∙ sym b.3
register_once names h ls m n (inl a) (inr b) = absurd (never_read names ls b.0 a.0 a.1 b.1 a.2)
register_once names h ls m n (inr a) (inl b) = absurd (never_read names ls a.0 b.0 b.1 a.1 b.2)
register_once names h ls m n (inr a) (inr b) =
    a.2 ∙ ap (λ ss. judged h (Register ss)) (list_read_once names ls a.0 b.0 a.1 b.1) ∙ sym b.2

pub outline_once : (names : List (List ℕ)) (h : History) (o : Outline) (m n : Meaning) → MeansOutline names h o m
    → MeansOutline names h o n → m ≡ n
outline_once names h blank m n a b = a ∙ sym b
outline_once names h (refused w) m n a b = a ∙ sym b
outline_once names h (registers ls) m n a b = register_once names h ls m n a b
outline_once names h (deletes ids) m n a b = a ∙ sym b
outline_once names h clears m n a b = a ∙ sym b
outline_once names h purges m n a b = a ∙ sym b
outline_once names h counts m n a b = a ∙ sym b
outline_once names h (shows id) m n a b = a ∙ sym b
outline_once names h (matches articles) m n a b = a ∙ sym b

register_some : (names : List (List ℕ)) (h : History) (ls : List Listing) → IsJudged names ls
    → (m : Meaning) × MeansRequest names h (register ls) m
register_some names h ls (inl f) = (refusal_at f.0 f.1, inl (f.0, f.1, f.2, refl))
register_some names h ls (inr r) = (judged h (Register r.0), inr (r.0, r.1, refl))

pub outline_some : (names : List (List ℕ)) (h : History) (o : Outline) → (m : Meaning) × MeansOutline names h o m
outline_some names h blank = (nothing, refl)
outline_some names h (refused w) = (refusal w, refl)
outline_some names h (registers ls) = register_some names h ls (list_judged names ls)
outline_some names h (deletes ids) = (judged h (Delete ids), refl)
outline_some names h clears = (judged h Clear, refl)
outline_some names h purges = (purging, refl)
outline_some names h counts = (counting, refl)
outline_some names h (shows id) = (showing id, refl)
outline_some names h (matches articles) = (matching articles, refl)

-- ---- the whole input

pub gives_once : (hearers : List Hearer) (n : ℕ) (h : History) (lines : List (List ℕ)) (outcome other : Outcome)
    → Gives hearers n h lines outcome → Gives hearers n h lines other → outcome ≡ other
gives_once hearers n h [] outcome other a b = a ∙ sym b
gives_once hearers n h (line ∷ lines) outcome other a b =
    let names = names_in hearers in
    let same = outline_once names h (outline line) b.0 a.0 (means_to names h line b.0 b.2)
    (means_to names h line a.0 a.2) in
    let rest = gives_once hearers (suc n) (after h a.0) lines a.1 b.1 a.4
    (subst (λ m. Gives hearers (suc n) (after h m) lines b.1) same b.4) in
    a.3 ∙ ap (followed_by (given hearers n h a.0)) rest ∙ ap (λ m. followed_by (given hearers n h m) b.1) (sym same)
    ∙ sym b.3

pub gives_some : (hearers : List Hearer) (n : ℕ) (h : History) (lines : List (List ℕ))
    → (outcome : Outcome) × Gives hearers n h lines outcome
gives_some hearers n h [] = (nothing_given, refl)
gives_some hearers n h (line ∷ lines) =
    let m = outline_some (names_in hearers) h (outline line) in
    let rest = gives_some hearers (suc n) (after h m.0) lines in (
      followed_by (given hearers n h m.0) rest.0,
      (m.0, rest.0, means_from (names_in hearers) h line m.0 m.1, refl, rest.1),
    )

-- what more lines give stands behind what the first ones give
pub gives_on : (hearers : List Hearer) (n : ℕ) (h : History) (lines later : List (List ℕ)) (first : Outcome)
    → Gives hearers n h lines first → (more : Outcome) × Gives hearers n h (lines ++ later) (followed_by first more)
gives_on hearers n h [] later first g =
    let more = gives_some hearers n h later in
    (more.0, subst (λ o. Gives hearers n h later (followed_by o more.0)) (sym g) more.1)
gives_on hearers n h (line ∷ lines) later first g =
    let more = gives_on hearers (suc n) (after h g.0) lines later g.1 g.4 in (
      more.0,
      (
        g.0,
        followed_by g.1 more.0,
        g.2,
        ap (λ o. followed_by o more.0) g.3
            ∙ followed_assoc (given hearers n h g.0) g.1 more.0,
        more.1,
      ),
    )
