-- A plan is judged as its query holds.
use Rattle.std.proofs.Common.{◌≡◌, ℕ, zero, suc, ◌+◌, ◌<◌, ◌≤◌, max, arith, Bool, true, false, not, cond, ◌&&◌, ◌||◌}
use Rattle.std.proofs.Common.{List, [], ◌∷◌, ◌++◌, map, length, drop, get_or, reverse, unwrap_or, refl, sym, ap, ◌∙◌}
use Rattle.std.proofs.Common.{subst, append_assoc, append-nil}
use Rattle.std.specs.Prelude.{slice_get, Result, Ok, Err, IfOk}
use Rattle.std.specs.List.{list_all, list_any}
use Rattle.std.proofs.lemmas.Bool.{false≢true}
use Rattle.std.proofs.lemmas.List.{length-append, length-map, length_push, drop_all, drop-drop}
use Rattle.std.proofs.Math.Seq.{drop-append-add, drop-append_seam}
use Rattle.clip_grammar.specs.Tree.{Tree, Clauses, none, clause}
use Rattle.clip_grammar.specs.declared.query.Occur.{Occur}
use Rattle.clip_grammar.specs.declared.query.Occur.TheVariants.{Must, Should, MustNot}
use Rattle.clip_meaning.specs.Article.{Fields}
use Rattle.clip_meaning.specs.Meaning.{holds, verdicts, group_holds, meets_must, meets_must_not, meets_should, is_must}
use Rattle.clip_extract.specs.Keys.{KeyValue, Word}
use Rattle.clip_terms.specs.Reading.{has_key}
use Rattle.clip_terms.specs.Terms.{term_at}
use Rattle.clip_plan.specs.Plan.{Asks, Has, Run, Is, Mark, Leaf, Open, Close, clause_marks, group_marks, plan_of}
use Rattle.clip_plan.specs.Plan.{decoded}
use Rattle.clip_plan.specs.Steps.Plans.{mark_of}
use Rattle.clip_plan.specs.declared.step.Step.{Step}
use Rattle.clip_plan.specs.declared.step.Step.TheVariants as step
use Rattle.clip_plan.specs.Steps.Judging.{no_clauses, counted, counted_all, tally_holds, is_needless, leaf_holds}
use Rattle.clip_plan.specs.Steps.Judging.{mark_holds, meant, Groups, marked, passed, onward, is_absent, Left, Ends}
use Rattle.clip_plan.specs.Steps.Judging.{LeadTo}
use Rattle.clip_plan.specs.declared.judge.Tally.{Tally}
use Rattle.clip_plan.proofs.AskedKeys.{has_word_key, has_word_run}

-- ---- a group's clauses

-- A group of these clauses holds, behind others that all hold: with or without one that must hold or may and does.
group_with : Bool → List (Occur × Bool) → Bool
group_with met vs = list_all meets_must vs && list_all meets_must_not vs &&
    (met || (list_any is_must vs || list_any meets_should vs))

group_end : (m : Bool) → m ≡ group_with m []
unfolding group_with
group_end true = refl
group_end false = refl

more_must : (m : Bool) (vs : List (Occur × Bool)) → group_with true vs ≡ group_with m ((Must, true) ∷ vs)
unfolding group_with
more_must true vs = refl
more_must false vs = refl

or_over : (m h a b : Bool) → ((m || h) || (a || b)) ≡ (m || (a || (h || b)))
or_over true h a b = refl
or_over false true true b = refl
or_over false true false b = refl
or_over false false a b = refl

more_should : (m h : Bool) (vs : List (Occur × Bool)) → group_with (m || h) vs ≡ group_with m ((Should, h) ∷ vs)
unfolding group_with
more_should m h vs = ap (λ b. list_all meets_must vs && list_all meets_must_not vs && b)
    (or_over m h (list_any is_must vs) (list_any meets_should vs))

never : (a b : Bool) → false ≡ (a && false && b)
never true b = refl
never false b = refl

none_held : (m : Bool) (vs : List (Occur × Bool)) → false ≡ group_with m ((MustNot, true) ∷ vs)
unfolding group_with
none_held m vs = never (list_all meets_must vs) (m || (list_any is_must vs || list_any meets_should vs))

after_must : (a m held : Bool) (vs : List (Occur × Bool))
    → ((a && held) && group_with true vs) ≡ (a && group_with m ((Must, held) ∷ vs))
unfolding group_with
after_must true m true vs = more_must m vs
after_must true m false vs = refl
after_must false m held vs = refl

after_must_not : (a m held : Bool) (vs : List (Occur × Bool))
    → ((a && not held) && group_with m vs) ≡ (a && group_with m ((MustNot, held) ∷ vs))
unfolding group_with
after_must_not true m true vs = none_held m vs
after_must_not true m false vs = refl
after_must_not false m held vs = refl

tallied : (t : Tally) (vs : List (Occur × Bool)) → tally_holds (counted_all t vs) ≡
    (t.may_hold && group_with t.is_met vs)
tallied t [] = ap (λ b. t.may_hold && b) (group_end t.is_met)
tallied t ((Must, held) ∷ vs) = tallied (counted t Must held) vs ∙ after_must t.may_hold t.is_met held vs
tallied t ((Should, held) ∷ vs) = tallied (counted t Should held) vs
    ∙ ap (λ b. t.may_hold && b) (more_should t.is_met held vs)
tallied t ((MustNot, held) ∷ vs) = tallied (counted t MustNot held) vs ∙ after_must_not t.may_hold t.is_met held vs

group_tallied : (end : ℕ) (vs : List (Occur × Bool)) → tally_holds (counted_all (no_clauses end) vs) ≡ group_holds vs
unfolding group_with group_holds
group_tallied end vs = tallied (no_clauses end) vs

-- a group that may not hold does not, whatever clauses it has more
stays_dead : (t : Tally) (vs : List (Occur × Bool)) → t.may_hold ≡ false
    → tally_holds (counted_all t vs) ≡ tally_holds t
stays_dead t vs dead = tallied t vs ∙ ap (λ b. b && group_with t.is_met vs) dead ∙ ap (λ b. b && t.is_met) (sym dead)

-- a clause that changes nothing
unchanged : (t : Tally) (occur : Occur) (held : Bool) → is_needless t occur ≡ true → counted t occur held ≡ t
unchanged t Must held n = absurd (false≢true n)
unchanged t Should held n = ap (λ b. record { may_hold = t.may_hold; is_met = b; end = t.end })
    (ap (λ b. b || held) n ∙ sym n)
unchanged t MustNot held n = absurd (false≢true n)

kept_end : (t : Tally) (occur : Occur) (held : Bool) → (counted t occur held).end ≡ t.end
kept_end t Must held = refl
kept_end t Should held = refl
kept_end t MustNot held = refl

kept_ends : (t : Tally) (vs : List (Occur × Bool)) → (counted_all t vs).end ≡ t.end
kept_ends t [] = refl
kept_ends t (v ∷ vs) = kept_ends (counted t v.0 v.1) vs ∙ kept_end t v.0 v.1

-- a group of one clause that asks
pub alone_must : (held : Bool) → group_holds ((Must, held) ∷ []) ≡ held
unfolding group_holds
alone_must true = refl
alone_must false = refl

pub alone_should : (held : Bool) → group_holds ((Should, held) ∷ []) ≡ held
unfolding group_holds
alone_should true = refl
alone_should false = refl

only_must : (end : ℕ) (b : Bool) → tally_holds (counted (no_clauses end) Must b) ≡ b
only_must end true = refl
only_must end false = refl

-- a group's beginning is no leaf, and its end is neither
not_leaf : (occur : Occur) (inside : ℕ) (ms : List (Mark KeyValue)) (o : Occur) (a : Asks KeyValue)
    (rest : List (Mark KeyValue)) → Open occur inside ∷ ms ≡ Leaf o a ∷ rest → ⊥
not_leaf occur inside ms o a rest e = cc

close_no_leaf : (occur : Occur) (ms : List (Mark KeyValue)) (o : Occur) (a : Asks KeyValue)
    (rest : List (Mark KeyValue)) → Close occur ∷ ms ≡ Leaf o a ∷ rest → ⊥
close_no_leaf occur ms o a rest e = cc

close_no_open : (occur : Occur) (ms : List (Mark KeyValue)) (o : Occur) (inside : ℕ) (rest : List (Mark KeyValue))
    → Close occur ∷ ms ≡ Open o inside ∷ rest → ⊥
close_no_open occur ms o inside rest e = cc

no_marks : (m : Mark KeyValue) (ms : List (Mark KeyValue)) → [] ≡ m ∷ ms → ⊥
no_marks m ms e = cc

close_no_end : (occur : Occur) (ms : List (Mark KeyValue)) → Close occur ∷ ms ≡ [] → ⊥
close_no_end occur ms e = cc

-- ---- the marks that are left

module _ (fields : Fields) (verdict : Bool) where
  -- where a group ends depends on no more of its tally
  ends_same : (around : List Tally) (marks : List (Mark KeyValue)) (place : ℕ) (t u : Tally) → t.end ≡ u.end
      → tally_holds t ≡ tally_holds u → Ends fields verdict around marks place t
      → Ends fields verdict around marks place u
  ends_same [] marks place t u e h f = (f.0, sym e ∙ f.1, sym h ∙ f.2)
  ends_same (next ∷ around) marks place t u e h f = (
    f.0,
    f.1,
    f.2,
    sym e ∙ f.3,
    subst (λ b. Left (Ends fields verdict around) fields f.1 (place + 1)
        (counted next f.0 b)) h f.4,
  )

  ends_end : (around : List Tally) (marks : List (Mark KeyValue)) (place : ℕ) (t : Tally)
      → Ends fields verdict around marks place t → t.end ≡ place
  ends_end [] marks place t f = f.1
  ends_end (next ∷ around) marks place t f = f.3

  -- at another place and tally that are these
  ends_moved : (around : List Tally) (marks : List (Mark KeyValue)) (p q : ℕ) (t u : Tally) → p ≡ q → t ≡ u
      → Ends fields verdict around marks p t → Ends fields verdict around marks q u
  ends_moved around marks p q t u e same f = subst (λ v. Ends fields verdict around marks q v) same
      (subst (λ n. Ends fields verdict around marks n t) e f)

  -- a group ends at no leaf and at no other group's beginning
  no_leaf : (around : List Tally) (occur : Occur) (asks : Asks KeyValue) (marks ms : List (Mark KeyValue))
      (place : ℕ) (t : Tally) → Ends fields verdict around marks place t → Leaf occur asks ∷ ms ≡ marks → ⊥
  no_leaf [] occur asks marks ms place t f is = let none : Leaf occur asks ∷ ms ≡ [] = is ∙ f.0 in cc
  no_leaf (next ∷ around) occur asks marks ms place t f is = let close : Leaf occur asks ∷ ms ≡ Close f.0 ∷ f.1 = is
      ∙ f.2 in cc

  no_open : (around : List Tally) (occur : Occur) (inside : ℕ) (marks ms : List (Mark KeyValue)) (place : ℕ)
      (t : Tally) → Ends fields verdict around marks place t → Open occur inside ∷ ms ≡ marks → ⊥
  no_open [] occur inside marks ms place t f is = let none : Open occur inside ∷ ms ≡ [] = is ∙ f.0 in cc
  no_open (next ∷ around) occur inside marks ms place t f is = let close : Open occur inside ∷ ms ≡ Close f.0 ∷ f.1 =
      is ∙ f.2 in cc

  -- ---- what is next

  -- the end of the group that is open, or the first mark of a clause of it
  data Next (around : List Tally) (marks : List (Mark KeyValue)) (place : ℕ) (top : Tally) : Type 0 where
    AtEnd : Ends fields verdict around marks place top → Next around marks place top
    AtLeaf : (occur : Occur) (asks : Asks KeyValue) (cs : Clauses) (others : List (Mark KeyValue))
        → marks ≡ Leaf occur asks ∷ (group_marks cs ++ others)
        → Ends fields verdict around others (place + suc (length (group_marks cs)))
        (counted_all (counted top occur (leaf_holds fields asks)) (verdicts cs fields)) → Next around marks place top
    AtGroup : (occur : Occur) (inner cs : Clauses) (others : List (Mark KeyValue))
        → marks ≡ Open occur (length (group_marks inner)) ∷
        (((group_marks inner ++ Close occur ∷ []) ++ group_marks cs) ++ others)
        → Ends fields verdict around others (place + suc
        (length ((group_marks inner ++ Close occur ∷ []) ++ group_marks cs)))
        (counted_all (counted top occur (group_holds (verdicts inner fields))) (verdicts cs fields))
        → Next around marks place top

  -- where a clause's child is said to hold in other words
  end_by : (around : List Tally) (others : List (Mark KeyValue)) (end : ℕ) (top : Tally) (occur : Occur)
      (cs : Clauses) (held now : Bool) → held ≡ now
      → Ends fields verdict around others end (counted_all (counted top occur held) (verdicts cs fields))
      → Ends fields verdict around others end (counted_all (counted top occur now) (verdicts cs fields))
  end_by around others end top occur cs held now same = subst
      (λ b. Ends fields verdict around others end (counted_all (counted top occur b) (verdicts cs fields))) same

  first_of : (around : List Tally) (marks others : List (Mark KeyValue)) (place : ℕ) (top : Tally) (occur : Occur)
      (tree : Tree) (cs : Clauses) → marks ≡ (clause_marks occur tree ++ group_marks cs) ++ others
      → Ends fields verdict around others (place + length (clause_marks occur tree ++ group_marks cs))
      (counted_all (counted top occur (holds tree fields)) (verdicts cs fields)) → Next around marks place top
  first_of around marks others place top occur (Tree.Term field word) cs is end =
      AtLeaf occur (Has (Word field word)) cs others is
      (end_by around others _ top occur cs _ _ (sym (has_word_key fields field word)) end)
  first_of around marks others place top occur (Tree.Phrase field words) cs is end =
      AtLeaf occur (Run (map (Word field) words)) cs others is
      (end_by around others _ top occur cs _ _ (sym (has_word_run fields field words)) end)
  first_of around marks others place top occur (Tree.Prefix field front) cs is end =
      AtLeaf occur (Is (Tree.Prefix field front)) cs others is end
  first_of around marks others place top occur (Tree.Span field low high) cs is end =
      AtLeaf occur (Is (Tree.Span field low high)) cs others is end
  first_of around marks others place top occur Tree.All cs is end = AtLeaf occur (Is Tree.All) cs others is end
  first_of around marks others place top occur (Tree.Group (clause Must child none)) cs is end =
      first_of around marks others place top occur child cs is
      (end_by around others _ top occur cs _ _ (alone_must (holds child fields)) end)
  first_of around marks others place top occur (Tree.Group (clause Should child none)) cs is end =
      first_of around marks others place top occur child cs is
      (end_by around others _ top occur cs _ _ (alone_should (holds child fields)) end)
  first_of around marks others place top occur (Tree.Group inner) cs is end =
      AtGroup occur inner cs others is end

  next_by : (around : List Tally) (marks others : List (Mark KeyValue)) (place : ℕ) (top : Tally)
      (clauses : Clauses) → marks ≡ group_marks clauses ++ others
      → Ends fields verdict around others (place + length (group_marks clauses))
      (counted_all top (verdicts clauses fields)) → Next around marks place top
  next_by around marks others place top none is end = AtEnd (subst (λ l. Ends fields verdict around l place top)
      (sym is) (ends_moved around others (place + 0) place top top (omega arith) refl end))
  next_by around marks others place top (clause occur tree cs) is end =
      first_of around marks others place top occur tree cs is end

  next_in : (around : List Tally) (marks : List (Mark KeyValue)) (place : ℕ) (top : Tally)
      → Left (Ends fields verdict around) fields marks place top → Next around marks place top
  next_in around marks place top f = next_by around marks f.others place top f.clauses f.are f.end

  -- ---- a leaf

  leaf_first : (around : List Tally) (occur o : Occur) (asks a : Asks KeyValue) (ms others : List (Mark KeyValue))
      (place : ℕ) (top : Tally) (cs : Clauses)
      → Leaf occur asks ∷ ms ≡ Leaf o a ∷ (group_marks cs ++ others)
      → Ends fields verdict around others (place + suc (length (group_marks cs)))
      (counted_all (counted top o (leaf_holds fields a)) (verdicts cs fields))
      → Left (Ends fields verdict around) fields ms (place + 1) (counted top occur (leaf_holds fields asks))
  leaf_first around occur o asks a ms others place top cs is end =
      let same : o ≡ occur = cc in
      let one : a ≡ asks = cc in
      record {
        clauses = cs;
        others = others;
        are = cc;
        end = ends_moved around others (place + suc (length (group_marks cs))) (place + 1 + length (group_marks cs))
            (counted_all (counted top o (leaf_holds fields a)) (verdicts cs fields))
            (counted_all (counted top occur (leaf_holds fields asks)) (verdicts cs fields)) (omega arith)
            (ap (λ x. counted_all (counted top o (leaf_holds fields x)) (verdicts cs fields)) one
            ∙ ap (λ x. counted_all (counted top x (leaf_holds fields asks)) (verdicts cs fields)) same) end;
      }

  leaf_at : (around : List Tally) (occur : Occur) (asks : Asks KeyValue) (ms : List (Mark KeyValue)) (place : ℕ)
      (top : Tally) → Next around (Leaf occur asks ∷ ms) place top
      → Left (Ends fields verdict around) fields ms (place + 1) (counted top occur (leaf_holds fields asks))
  leaf_at around occur asks ms place top (AtEnd end) = absurd
      (no_leaf around occur asks (Leaf occur asks ∷ ms) ms place top end refl)
  leaf_at around occur asks ms place top (AtLeaf o a cs others is end) =
      leaf_first around occur o asks a ms others place top cs is end
  leaf_at around occur asks ms place top (AtGroup o inner cs others is end) = absurd
      (not_leaf o (length (group_marks inner)) _ occur asks ms (sym is))

  leaf_counted : (around : List Tally) (occur : Occur) (asks : Asks KeyValue) (ms : List (Mark KeyValue)) (place : ℕ)
      (top : Tally) → Left (Ends fields verdict around) fields (Leaf occur asks ∷ ms) place top
      → Left (Ends fields verdict around) fields ms (place + 1) (counted top occur (leaf_holds fields asks))
  leaf_counted around occur asks ms place top f = leaf_at around occur asks ms place top
      (next_in around (Leaf occur asks ∷ ms) place top f)

  -- ---- a group

  -- what a group's beginning leads into
  record GroupFirst (around : List Tally) (occur : Occur) (inside : ℕ) (ms : List (Mark KeyValue)) (place : ℕ)
      (top : Tally) : Type 0 where
    inner : Clauses
    cs : Clauses
    others : List (Mark KeyValue)
    many : inside ≡ length (group_marks inner)
    are : ms ≡ group_marks inner ++ Close occur ∷ (group_marks cs ++ others)
    end : Ends fields verdict around others (place + 1 + length (group_marks inner) + 1 + length (group_marks cs))
        (counted_all (counted top occur (group_holds (verdicts inner fields))) (verdicts cs fields))

  group_first : (around : List Tally) (occur o : Occur) (inside : ℕ) (ms others : List (Mark KeyValue)) (place : ℕ)
      (top : Tally) (inner cs : Clauses)
      → Open occur inside ∷ ms ≡ Open o (length (group_marks inner)) ∷
      (((group_marks inner ++ Close o ∷ []) ++ group_marks cs) ++ others)
      → Ends fields verdict around others (place + suc
      (length ((group_marks inner ++ Close o ∷ []) ++ group_marks cs)))
      (counted_all (counted top o (group_holds (verdicts inner fields))) (verdicts cs fields))
      → GroupFirst around occur inside ms place top
  group_first around occur o inside ms others place top inner cs is end =
      let same : o ≡ occur = cc in
      let tail : ms ≡ ((group_marks inner ++ Close o ∷ []) ++ group_marks cs) ++ others = cc in
      record {
        inner = inner;
        cs = cs;
        others = others;
        many = cc;
        are =
            tail ∙ ap (λ l. l ++ others) (append_assoc (group_marks inner) (Close o ∷ []) (group_marks cs))
            ∙ append_assoc (group_marks inner) (Close o ∷ group_marks cs) others
            ∙ ap (λ x. group_marks inner ++ Close x ∷ (group_marks cs ++ others)) same;
        end = ends_moved around others _ (place + 1 + length (group_marks inner) + 1 + length (group_marks cs)) _ _
            (omega (
              arith,
              length-append (group_marks inner ++ Close o ∷ []) (group_marks cs),
              length_push
                  (group_marks inner) (Close o),
            ))
            (ap (λ x. counted_all (counted top x (group_holds (verdicts inner fields))) (verdicts cs fields)) same)
            end;
      }

  group_at : (around : List Tally) (occur : Occur) (inside : ℕ) (ms : List (Mark KeyValue)) (place : ℕ) (top : Tally)
      → Next around (Open occur inside ∷ ms) place top → GroupFirst around occur inside ms place top
  group_at around occur inside ms place top (AtEnd end) = absurd
      (no_open around occur inside (Open occur inside ∷ ms) ms place top end refl)
  group_at around occur inside ms place top (AtLeaf o a cs others is end) = absurd
      (not_leaf occur inside ms o a _ is)
  group_at around occur inside ms place top (AtGroup o inner cs others is end) =
      group_first around occur o inside ms others place top inner cs is end

  group_of : (around : List Tally) (occur : Occur) (inside : ℕ) (ms : List (Mark KeyValue)) (place : ℕ) (top : Tally)
      → Left (Ends fields verdict around) fields (Open occur inside ∷ ms) place top
      → GroupFirst around occur inside ms place top
  group_of around occur inside ms place top f = group_at around occur inside ms place top
      (next_in around (Open occur inside ∷ ms) place top f)

  -- its clauses are next, and those of the group around it come behind its end
  group_entered : (around : List Tally) (occur : Occur) (inside : ℕ) (ms : List (Mark KeyValue)) (place : ℕ)
      (top : Tally) → GroupFirst around occur inside ms place top
      → Left (Ends fields verdict (top ∷ around)) fields ms (place + 1) (no_clauses (place + 1 + inside))
  group_entered around occur inside ms place top g =
      let fresh = no_clauses (place + 1 + inside) in
      let vs = verdicts g.inner fields in
      record {
        clauses = g.inner;
        others = Close occur ∷ (group_marks g.cs ++ g.others);
        are = g.are;
        end = (
          occur,
          group_marks g.cs ++ g.others,
          refl,
          omega (arith, kept_ends fresh vs, g.many),
          record {
            clauses = g.cs;
            others = g.others;
            are = refl;
            end = subst (λ b. Ends fields verdict around g.others
                (place + 1 + length (group_marks g.inner) + 1 + length (group_marks g.cs))
                (counted_all (counted top occur b) (verdicts g.cs fields)))
                (sym (group_tallied (place + 1 + inside) vs)) g.end;
          },
        );
      }

  -- it is passed
  group_passed : (around : List Tally) (occur : Occur) (inside : ℕ) (ms : List (Mark KeyValue)) (place : ℕ)
      (top : Tally) → is_needless top occur ≡ true → GroupFirst around occur inside ms place top
      → Left (Ends fields verdict around) fields (drop (inside + 1) ms) (place + (inside + 2)) top
  group_passed around occur inside ms place top needless g = record {
    clauses = g.cs;
    others = g.others;
    are =
        ap (λ l. drop (inside + 1) l) g.are ∙ ap (λ n. drop (n + 1)
        (group_marks g.inner ++ Close occur ∷ (group_marks g.cs ++ g.others))) g.many
        ∙ drop-append-add (group_marks g.inner) (Close occur ∷ (group_marks g.cs ++ g.others)) 1;
    end = ends_moved around g.others _ (place + (inside + 2) + length (group_marks g.cs)) _ _ (omega (arith, g.many))
        (ap (λ t. counted_all t (verdicts g.cs fields))
        (unchanged top occur (group_holds (verdicts g.inner fields)) needless)) g.end;
  }

  -- ---- a group's end

  close_at : (around : List Tally) (occur : Occur) (ms : List (Mark KeyValue)) (place : ℕ) (top : Tally)
      → Next around (Close occur ∷ ms) place top → Ends fields verdict around (Close occur ∷ ms) place top
  close_at around occur ms place top (AtEnd end) = end
  close_at around occur ms place top (AtLeaf o a cs others is end) = absurd (close_no_leaf occur ms o a _ is)
  close_at around occur ms place top (AtGroup o inner cs others is end) = absurd
      (close_no_open occur ms o _ _ is)

  close_of : (around : List Tally) (occur : Occur) (ms : List (Mark KeyValue)) (place : ℕ) (top : Tally)
      → Left (Ends fields verdict around) fields (Close occur ∷ ms) place top
      → Ends fields verdict around (Close occur ∷ ms) place top
  close_of around occur ms place top f = close_at around occur ms place top
      (next_in around (Close occur ∷ ms) place top f)

  -- the outermost group has no end among the marks
  close_alone : (occur : Occur) (ms : List (Mark KeyValue)) (place : ℕ) (top : Tally)
      → Left (Ends fields verdict []) fields (Close occur ∷ ms) place top → ⊥
  close_alone occur ms place top f = close_no_end occur ms (close_of [] occur ms place top f).0

  close_counted : (next : Tally) (around : List Tally) (occur : Occur) (ms : List (Mark KeyValue)) (place : ℕ)
      (top : Tally) → Left (Ends fields verdict (next ∷ around)) fields (Close occur ∷ ms) place top
      → Left (Ends fields verdict around) fields ms (place + 1) (counted next occur (tally_holds top))
  close_counted next around occur ms place top f =
      let at = close_of (next ∷ around) occur ms place top f in
      let same : at.0 ≡ occur = close_occur occur at.0 ms at.1 at.2 in
      let tail : at.1 ≡ ms = close_tail occur at.0 ms at.1 at.2 in
      subst (λ l. Left (Ends fields verdict around) fields l (place + 1) (counted next occur (tally_holds top))) tail
      (subst (λ o. Left (Ends fields verdict around) fields at.1 (place + 1) (counted next o (tally_holds top))) same
      at.4)
    where
      close_occur : (occur o : Occur) (ms ns : List (Mark KeyValue)) → Close occur ∷ ms ≡ Close o ∷ ns → o ≡ occur
      close_occur occur o ms ns e = cc

      close_tail : (occur o : Occur) (ms ns : List (Mark KeyValue)) → Close occur ∷ ms ≡ Close o ∷ ns → ns ≡ ms
      close_tail occur o ms ns e = cc

  -- ---- a mark

  mark_counted : (around : List Tally) (mark : Mark KeyValue) (ms : List (Mark KeyValue)) (place : ℕ) (top : Tally)
      → Left (Ends fields verdict around) fields (mark ∷ ms) place top
      → Left (Ends fields verdict (marked place mark (mark_holds fields mark) top around).1) fields ms (place + 1)
      (marked place mark (mark_holds fields mark) top around).0
  mark_counted around (Leaf occur asks) ms place top f = leaf_counted around occur asks ms place top f
  mark_counted around (Open occur inside) ms place top f = group_entered around occur inside ms place top
      (group_of around occur inside ms place top f)
  mark_counted [] (Close occur) ms place top f = absurd (close_alone occur ms place top f)
  mark_counted (next ∷ around) (Close occur) ms place top f = close_counted next around occur ms place top f

  mark_passed : (around : List Tally) (mark : Mark KeyValue) (ms : List (Mark KeyValue)) (place : ℕ) (top : Tally)
      → 0 < passed top mark → Left (Ends fields verdict around) fields (mark ∷ ms) place top
      → Left (Ends fields verdict around) fields (drop (passed top mark) (mark ∷ ms)) (place + passed top mark) top
  mark_passed around (Leaf occur asks) ms place top some f = by_need (is_needless top occur) refl some
    where
      by_need : (b : Bool) → is_needless top occur ≡ b → 0 < cond b 1 0
          → Left (Ends fields verdict around) fields (drop (cond b 1 0) (Leaf occur asks ∷ ms)) (place + cond b 1 0)
          top
      by_need true n some = subst (λ t. Left (Ends fields verdict around) fields ms (place + 1) t)
          (unchanged top occur (leaf_holds fields asks) n) (leaf_counted around occur asks ms place top f)
      by_need false n some = absurd (omega arith)
  mark_passed around (Open occur inside) ms place top some f = by_need (is_needless top occur) refl some
    where
      by_need : (b : Bool) → is_needless top occur ≡ b → 0 < cond b (inside + 2) 0
          → Left (Ends fields verdict around) fields (drop (cond b (inside + 2) 0) (Open occur inside ∷ ms))
          (place + cond b (inside + 2) 0) top
      by_need true n some =
          let one : suc (inside + 1) ≡ inside + 2 = omega arith in
          subst (λ k. Left (Ends fields verdict around) fields (drop k (Open occur inside ∷ ms))
          (place + (inside + 2)) top) one
          (group_passed around occur inside ms place top n (group_of around occur inside ms place top f))
      by_need false n some = absurd (omega arith)
  mark_passed around (Close occur) ms place top some f = absurd (omega arith)

  -- ---- a group that may not hold

  -- the marks of so many clauses are passed
  gone_on : (around : List Tally) (marks : List (Mark KeyValue)) (place : ℕ) (top : Tally)
      → LeadTo fields verdict marks place top around → LeadTo fields verdict marks (onward top place) top around
  gone_on around marks place top f = by_hope top.may_hold refl
    where
      by_hope : (b : Bool) → top.may_hold ≡ b → LeadTo fields verdict marks (cond b place (max place top.end)) top
          around
      by_hope true hope = f
      by_hope false dead =
          let count = length (group_marks f.clauses) in
          let vs = verdicts f.clauses fields in
          let at : max place top.end ≡ place + count = omega
          (arith, kept_ends top vs, ends_end around f.others (place + count) (counted_all top vs) f.end) in
          let behind : drop (place + count) marks ≡ f.others =
          sym (drop-drop count place marks) ∙ ap (drop count) f.are
          ∙ drop-append_seam (group_marks f.clauses) f.others in
          subst (λ p. LeadTo fields verdict marks p top around) (sym at)
          (record {
            clauses = none;
            others = f.others;
            are = behind;
            end = ends_moved around f.others (place + count) (place + count + 0) top top (omega arith) refl
                (ends_same around f.others (place + count) (counted_all top vs) top (kept_ends top vs)
                (stays_dead top vs dead) f.end);
          })

  -- ---- where all is judged

  none_at : (around : List Tally) (place : ℕ) (top : Tally) → Next around [] place top
      → Ends fields verdict around [] place top
  none_at around place top (AtEnd end) = end
  none_at around place top (AtLeaf o a cs others is end) = absurd (no_marks _ _ is)
  none_at around place top (AtGroup o inner cs others is end) = absurd (no_marks _ _ is)

  ended : (around : List Tally) (place : ℕ) (top : Tally) → Ends fields verdict around [] place top
      → tally_holds top ≡ verdict
  ended [] place top f = f.2
  ended (next ∷ around) place top f = absurd (no_marks _ _ f.2)

  -- no mark is left
  pub judged : (around : List Tally) (marks : List (Mark KeyValue)) (place : ℕ) (top : Tally) → length marks ≤ place
      → LeadTo fields verdict marks place top around → tally_holds top ≡ verdict
  judged around marks place top all f = ended around place top (none_at around place top (next_in around [] place top
      (subst (λ l. Left (Ends fields verdict around) fields l place top) (drop_all place marks all) f)))

before_none : (n : ℕ) → n ≡ 0 + n
before_none n = omega arith

-- the clauses of a plan are next
pub begun : (fields : Fields) (tree : Tree) → LeadTo fields (holds tree fields) (plan_of tree) 0
    (no_clauses (length (plan_of tree))) []
begun fields (Tree.Group (clause Must child none)) = subst
    (λ held. LeadTo fields held (plan_of child) 0 (no_clauses (length (plan_of child))) [])
    (sym (alone_must (holds child fields))) (begun fields child)
begun fields (Tree.Group (clause Should child none)) = subst
    (λ held. LeadTo fields held (plan_of child) 0 (no_clauses (length (plan_of child))) [])
    (sym (alone_should (holds child fields))) (begun fields child)
begun fields (Tree.Group clauses) =
    let fresh = no_clauses (length (group_marks clauses)) in
    record {
      clauses = clauses;
      others = [];
      are = sym (append-nil (group_marks clauses));
      end = (
        refl,
        kept_ends fresh (verdicts clauses fields)
            ∙ before_none (length (group_marks clauses)),
        group_tallied (length (group_marks clauses))
            (verdicts clauses fields),
      );
    }
begun fields (Tree.Term field word) = record {
  clauses = clause Must (Tree.Term field word) none;
  others = [];
  are =
      refl;
  end = (refl, refl, only_must 1 (holds (Tree.Term field word) fields));
}
begun fields (Tree.Phrase field words) = record {
  clauses = clause Must (Tree.Phrase field words) none;
  others = [];
  are = refl;
  end = (refl, refl, only_must 1 (holds (Tree.Phrase field words) fields));
}
begun fields (Tree.Prefix field front) = record {
  clauses = clause Must (Tree.Prefix field front) none;
  others = [];
  are = refl;
  end = (refl, refl, only_must 1 (holds (Tree.Prefix field front) fields));
}
begun fields (Tree.Span field low high) = record {
  clauses = clause Must (Tree.Span field low high) none;
  others =
      [];
  are = refl;
  end = (refl, refl, only_must 1 (holds (Tree.Span field low high) fields));
}
begun fields Tree.All = record {
  clauses = clause Must Tree.All none;
  others = [];
  are = refl;
  end =
      (refl, refl, refl);
}

pub not_false : (b : Bool) → not b ≡ false → b ≡ true
not_false true e = refl
not_false false e = absurd (false≢true (sym e))

-- after a first clause no group of these clauses holds: neither does the query
dead_at_first : (fields : Fields) (tree : Tree) (occur : Occur) (asks : Asks KeyValue) (left : List (Mark KeyValue))
    (met : Bool) → counted (no_clauses (suc (length left))) occur (leaf_holds fields asks)
    ≡ record { may_hold = false; is_met = met; end = suc (length left) }
    → Leaf occur asks ∷ left ≡ plan_of tree → holds tree fields ≡ false
dead_at_first fields tree occur asks left met dead plan =
    let verdict = holds tree fields in
    let marks = Leaf occur asks ∷ left in
    let start : LeadTo fields verdict marks 0 (no_clauses (length marks)) [] =
    subst (λ (ms : List (Mark KeyValue)). LeadTo fields verdict ms 0 (no_clauses (length ms)) []) (sym plan)
    (begun fields tree) in
    let top : Tally = record { may_hold = false; is_met = met; end = suc (length left) } in
    let next : LeadTo fields verdict marks 1 top [] =
    subst (λ (t : Tally). LeadTo fields verdict marks 1 t []) dead
    (leaf_counted fields verdict [] occur asks left 0 (no_clauses (length marks)) start) in
    sym (judged fields verdict [] marks (onward top 1) top (omega arith)
    (gone_on fields verdict [] marks 1 top next))

-- a first clause that must hold does not
pub first_fails : (fields : Fields) (tree : Tree) (asks : Asks KeyValue) (left : List (Mark KeyValue))
    → leaf_holds fields asks ≡ false → Leaf Must asks ∷ left ≡ plan_of tree → holds tree fields ≡ false
first_fails fields tree asks left fails plan =
    dead_at_first fields tree Must asks left true
    (ap (λ b. record { may_hold = b; is_met = true; end = suc (length left) }) fails) plan

-- a first clause that must not hold does
pub first_excludes : (fields : Fields) (tree : Tree) (asks : Asks KeyValue) (left : List (Mark KeyValue))
    → leaf_holds fields asks ≡ true → Leaf MustNot asks ∷ left ≡ plan_of tree → holds tree fields ≡ false
first_excludes fields tree asks left held plan =
    dead_at_first fields tree MustNot asks left false
    (ap (λ b. record { may_hold = not b; is_met = false; end = suc (length left) }) held) plan

-- a plan of one clause, which must hold
pub one_judged : (fields : Fields) (tree : Tree) (asks : Asks KeyValue) → Leaf Must asks ∷ [] ≡ plan_of tree
    → leaf_holds fields asks ≡ holds tree fields
one_judged fields tree asks plan =
    let verdict = holds tree fields in
    let marks = Leaf Must asks ∷ [] in
    let start : LeadTo fields verdict marks 0 (no_clauses (length marks)) [] =
    subst (λ (ms : List (Mark KeyValue)). LeadTo fields verdict ms 0 (no_clauses (length ms)) []) (sym plan)
    (begun fields tree) in
    let top = counted (no_clauses 1) Must (leaf_holds fields asks) in
    let next = leaf_counted fields verdict [] Must asks [] 0 (no_clauses 1) start in
    sym (only_must 1 (leaf_holds fields asks)) ∙ judged fields verdict [] marks 1 top (omega arith) next

-- a plan of two leaves
pub two_judged : (fields : Fields) (tree : Tree) (o p : Occur) (asks others : Asks KeyValue)
    → Leaf o asks ∷ Leaf p others ∷ [] ≡ plan_of tree
    → tally_holds (counted (counted (no_clauses 2) o (leaf_holds fields asks)) p (leaf_holds fields others))
    ≡ holds tree fields
two_judged fields tree o p asks others plan =
    let verdict = holds tree fields in
    let marks = Leaf o asks ∷ Leaf p others ∷ [] in
    let start : LeadTo fields verdict marks 0 (no_clauses (length marks)) [] =
    subst (λ (ms : List (Mark KeyValue)). LeadTo fields verdict ms 0 (no_clauses (length ms)) []) (sym plan)
    (begun fields tree) in
    let one = counted (no_clauses 2) o (leaf_holds fields asks) in
    let next = leaf_counted fields verdict [] o asks (Leaf p others ∷ []) 0 (no_clauses 2) start in
    let both = counted one p (leaf_holds fields others) in
    judged fields verdict [] marks 2 both (omega arith) (leaf_counted fields verdict [] p others [] 1 one next)

-- a leaf that may hold and does not leaves all as it is
absent_marked : (fields : Fields) (i : ℕ) (mark : Mark KeyValue) (top : Tally) (around : List Tally)
    → is_absent fields mark ≡ true → marked i mark (mark_holds fields mark) top around ≡ (top, around)
absent_marked fields i (Leaf Must asks) top around absent = absurd (false≢true absent)
absent_marked fields i (Leaf Should asks) top around absent =
    ap (λ b. (record { may_hold = top.may_hold; is_met = b; end = top.end }, around))
    (or_not top.is_met (leaf_holds fields asks) absent)
  where
    or_not : (m h : Bool) → not h ≡ true → (m || h) ≡ m
    or_not true h e = refl
    or_not false true e = absurd (false≢true e)
    or_not false false e = refl
absent_marked fields i (Leaf MustNot asks) top around absent = absurd (false≢true absent)
absent_marked fields i (Open occur inside) top around absent = absurd (false≢true absent)
absent_marked fields i (Close occur) top around absent = absurd (false≢true absent)

-- ---- steps

module _ (runs : List (List ℕ)) (queries : List Tree) (terms : List KeyValue) where
  pub decoded_step : (steps : List Step) → decoded terms (map (mark_of runs queries) steps) ≡ map
      (meant runs queries terms) steps
  decoded_step [] = refl
  decoded_step (step ∷ steps) = ap (λ marks. meant runs queries terms step ∷ marks) (decoded_step steps)

  -- a plan among plans
  pub decoded_at : (plans : List (List Step)) (place : ℕ)
      → decoded terms (unwrap_or (slice_get (map (map (mark_of runs queries)) plans) place) []) ≡ map
      (meant runs queries terms) (unwrap_or (slice_get plans place) [])
  decoded_at [] place = refl
  decoded_at (steps ∷ plans) zero = decoded_step steps
  decoded_at (steps ∷ plans) (suc place) = decoded_at plans place

  pub plan_of_steps : (marks : List (List (Mark ℕ))) (plans : List (List Step)) (place : ℕ) (steps : List Step)
      (tree : Tree) → map (map (mark_of runs queries)) plans ≡ marks → steps ≡ unwrap_or (slice_get plans place) []
      → decoded terms (unwrap_or (slice_get marks place) []) ≡ plan_of tree
      → map (meant runs queries terms) steps ≡ plan_of tree
  plan_of_steps marks plans place steps tree seen at plan =
      ap (map (meant runs queries terms)) at ∙ sym (decoded_at plans place)
      ∙ ap (λ ms. decoded terms (unwrap_or (slice_get ms place) [])) seen ∙ plan

  -- what is answered by its steps is answered by its marks
  pub judged_at : {E : Type 0} (fields : Fields) (marks : List (List (Mark ℕ))) (plans : List (List Step))
      (place : ℕ) (steps : List Step) (r : Result Bool E) → map (map (mark_of runs queries)) plans ≡ marks
      → steps ≡ unwrap_or (slice_get plans place) []
      → IfOk r (λ held. (tree : Tree) → map (meant runs queries terms) steps ≡ plan_of tree
      → held ≡ holds tree fields)
      → IfOk r (λ held. (tree : Tree) → decoded terms (unwrap_or (slice_get marks place) []) ≡ plan_of tree
      → held ≡ holds tree fields)
  judged_at fields marks plans place steps (Err e) seen at h = tt
  judged_at fields marks plans place steps (Ok held) seen at h =
      λ tree plan. h tree (plan_of_steps marks plans place steps tree seen at plan)

  -- the first step asks that a word is not there, and it is
  pub step_excludes : (fields : Fields) (tree : Tree) (steps : List Step) (s : Step) (o : Occur) (n : ℕ)
      → 0 < length steps → s ≡ get_or steps 0 s → s ≡ step.Term o n → o ≡ MustNot
      → has_key fields (term_at terms n) ≡ true → map (meant runs queries terms) steps ≡ plan_of tree
      → holds tree fields ≡ false
  step_excludes fields tree [] s o n some at is not_there had plan = absurd (omega arith)
  step_excludes fields tree (t ∷ steps) s o n some at is not_there had plan =
      let same : t ≡ step.Term MustNot n = sym at ∙ is ∙ ap (λ p. step.Term p n) not_there in
      first_excludes fields tree (Has (term_at terms n)) (map (meant runs queries terms) steps) had
      (ap (λ u. meant runs queries terms u ∷ map (meant runs queries terms) steps) (sym same) ∙ plan)

  -- ---- one step of those that are left

  next_mark : (steps : List Step) (i : ℕ) (d : Step) → i < length steps
      → drop i (map (meant runs queries terms) steps) ≡ meant runs queries terms (get_or steps i d) ∷ drop (i + 1)
      (map (meant runs queries terms) steps)
  next_mark [] i d h = absurd (omega arith)
  next_mark (s ∷ ss) zero d h = refl
  next_mark (s ∷ ss) (suc i) d h =
      let one : suc (i + 1) ≡ suc i + 1 = omega arith in
      subst (λ k. drop i (map (meant runs queries terms) ss) ≡ meant runs queries terms (get_or ss i d) ∷ drop k
      (map (meant runs queries terms) (s ∷ ss))) one (next_mark ss i d (omega arith))

  next_of : (steps : List Step) (marks : List (Mark KeyValue)) (i : ℕ) (d : Step) → i < length steps
      → map (meant runs queries terms) steps ≡ marks → drop i marks ≡ meant runs queries terms (get_or steps i d) ∷
      drop (i + 1) marks
  next_of steps marks i d inside same =
      ap (drop i) (sym same) ∙ next_mark steps i d inside
      ∙ ap (λ l. meant runs queries terms (get_or steps i d) ∷ drop (i + 1) l) same

  -- it changes nothing
  pub step_passed : (fields : Fields) (verdict : Bool) (steps : List Step) (marks : List (Mark KeyValue)) (i n : ℕ)
      (d : Step) (top : Tally) (around : List Tally) → i < length steps
      → n ≡ passed top (meant runs queries terms (get_or steps i d)) → 0 < n
      → map (meant runs queries terms) steps ≡ marks → LeadTo fields verdict marks i top around
      → LeadTo fields verdict marks (i + n) top around
  step_passed fields verdict steps marks i n d top around inside so some same f =
      let mark = meant runs queries terms (get_or steps i d) in
      let here : drop i marks ≡ mark ∷ drop (i + 1) marks = next_of steps marks i d inside same in
      let over : Left (Ends fields verdict around) fields (drop n (mark ∷ drop (i + 1) marks)) (i + n) top =
      subst (λ k. Left (Ends fields verdict around) fields (drop k (mark ∷ drop (i + 1) marks)) (i + k) top) (sym so)
      (mark_passed fields verdict around mark (drop (i + 1) marks) i top (subst (λ k. 0 < k) so some)
      (subst (λ l. Left (Ends fields verdict around) fields l i top) here f)) in
      subst (λ l. Left (Ends fields verdict around) fields l (i + n) top)
      (ap (drop n) (sym here) ∙ drop-drop n i marks) over

  -- it is counted
  step_counted : (fields : Fields) (verdict : Bool) (steps : List Step) (marks : List (Mark KeyValue)) (i : ℕ)
      (d : Step) (top next : Tally) (around left : List Tally) (held : Bool) → i < length steps
      → held ≡ mark_holds fields (meant runs queries terms (get_or steps i d))
      → (next, left) ≡ marked i (meant runs queries terms (get_or steps i d)) held top around
      → map (meant runs queries terms) steps ≡ marks → LeadTo fields verdict marks i top around
      → LeadTo fields verdict marks (i + 1) next left
  step_counted fields verdict steps marks i d top next around left held inside asks moved same f =
      let mark = meant runs queries terms (get_or steps i d) in
      let here : drop i marks ≡ mark ∷ drop (i + 1) marks = next_of steps marks i d inside same in
      let groups : (next, left) ≡ marked i mark (mark_holds fields mark) top around = moved
      ∙ ap (λ b. marked i mark b top around) asks in
      subst (λ (g : Groups). LeadTo fields verdict marks (i + 1) g.0 g.1) (sym groups)
      (mark_counted fields verdict around mark (drop (i + 1) marks) i top
      (subst (λ l. Left (Ends fields verdict around) fields l i top) here f))

  -- it may hold and does not
  pub step_absent : (fields : Fields) (verdict : Bool) (steps : List Step) (marks : List (Mark KeyValue)) (i : ℕ)
      (d : Step) (top : Tally) (around : List Tally) → i < length steps
      → is_absent fields (meant runs queries terms (get_or steps i d)) ≡ true
      → map (meant runs queries terms) steps ≡ marks → LeadTo fields verdict marks i top around
      → LeadTo fields verdict marks (i + 1) top around
  step_absent fields verdict steps marks i d top around inside absent same f =
      let mark = meant runs queries terms (get_or steps i d) in
      step_counted fields verdict steps marks i d top top around around (mark_holds fields mark) inside refl
      (sym (absent_marked fields i mark top around absent)) same f

  -- it is judged
  pub step_judged : (fields : Fields) (verdict : Bool) (steps : List Step) (marks : List (Mark KeyValue)) (i n : ℕ)
      (d : Step) (top next : Tally) (around left : List Tally) (held : Bool) → i < length steps
      → held ≡ mark_holds fields (meant runs queries terms (get_or steps i d))
      → (next, left) ≡ marked i (meant runs queries terms (get_or steps i d)) held top around
      → n ≡ onward next (i + 1)
      → map (meant runs queries terms) steps ≡ marks → LeadTo fields verdict marks i top around
      → LeadTo fields verdict marks n next left
  step_judged fields verdict steps marks i n d top next around left held inside asks moved on same f =
      subst (λ k. LeadTo fields verdict marks k next left) (sym on)
      (gone_on fields verdict left marks (i + 1) next
      (step_counted fields verdict steps marks i d top next around left held inside asks moved same f))

  -- ---- where judging begins and ends

  pub plan_begun : (fields : Fields) (tree : Tree) (steps : List Step) (stack : List Tally) (top : Tally)
      → map (meant runs queries terms) steps ≡ plan_of tree → top ≡ no_clauses (length steps) → stack ≡ []
      → LeadTo fields (holds tree fields) (plan_of tree) 0 top (reverse stack)
  plan_begun fields tree steps stack top plan fresh none_open =
      let long : length steps ≡ length (plan_of tree) = sym (length-map steps (meant runs queries terms))
      ∙ ap length plan in
      subst (λ (around : List Tally). LeadTo fields (holds tree fields) (plan_of tree) 0 top around)
      (sym (ap reverse none_open))
      (subst (λ (t : Tally). LeadTo fields (holds tree fields) (plan_of tree) 0 t [])
      (ap no_clauses (sym long) ∙ sym fresh) (begun fields tree))

  pub plan_judged : (fields : Fields) (tree : Tree) (steps : List Step) (place : ℕ) (top : Tally)
      (around : List Tally) → map (meant runs queries terms) steps ≡ plan_of tree → length steps ≤ place
      → LeadTo fields (holds tree fields) (plan_of tree) place top around → tally_holds top ≡ holds tree fields
  plan_judged fields tree steps place top around plan all f =
      judged fields (holds tree fields) around (plan_of tree) place top
      (omega (arith, length-map steps (meant runs queries terms), ap length plan)) f
