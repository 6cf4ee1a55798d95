-- What is known of a plan by its first marks, before the others are read, and what follows from it for an article.
use Rattle.std.specs.Prelude.{ℕ, Bool, true, false, ◌&&◌, ◌||◌, cond, List, [], ◌∷◌, Option, Some, None}
use Rattle.std.specs.List.{list_all}
use Rattle.clip_grammar.specs.declared.query.Occur.{Occur}
use Rattle.clip_grammar.specs.declared.query.Occur.TheVariants.{Must, Should, MustNot}
use Rattle.clip_plan.specs.Plan.{Has, Run, Is, Mark, Leaf, Open, Close}
use Rattle.clip_plan.specs.declared.outline.Outline.{Outline}
use Rattle.clip_plan.specs.declared.outline.Outline.TheVariants.{Unknown, AnyKey, Words, Pair, WordOrPair, Needs}
use Rattle.clip_plan.specs.declared.outline.Outline.TheVariants.{NeedsEither}

-- ---- words that may be there

abbrev pub may_be : Occur → Bool
may_be Must = false
may_be Should = true
may_be MustNot = false

-- the mark asks for a word that may be there
abbrev pub may_be_there : {K : Type 0} → Mark K → Bool
may_be_there (Leaf occur (Has key)) = may_be occur
may_be_there (Leaf occur (Run keys)) = false
may_be_there (Leaf occur (Is tree)) = false
may_be_there (Open occur inside) = false
may_be_there (Close occur) = false

-- ---- runs

-- of a run that must be there
abbrev pub run_needs : List ℕ → Outline
run_needs [] = Unknown
run_needs (a ∷ []) = Unknown
run_needs (a ∷ b ∷ []) = Needs a b b
run_needs (a ∷ b ∷ c ∷ others) = Needs a b c

-- of one that stands alone
abbrev pub run_alone : List ℕ → Outline
run_alone [] = Unknown
run_alone (a ∷ []) = Unknown
run_alone (a ∷ b ∷ []) = Pair a b
run_alone (a ∷ b ∷ c ∷ others) = Needs a b c

-- of a word or a run, of which one is enough
abbrev pub word_or_run : ℕ → List ℕ → Outline
word_or_run word [] = Unknown
word_or_run word (a ∷ []) = Unknown
word_or_run word (a ∷ b ∷ []) = WordOrPair word a b
word_or_run word (a ∷ b ∷ c ∷ others) = NeedsEither word b c

-- ---- plans

-- of a plan that begins with a mark
abbrev pub of_first : Mark ℕ → Outline
of_first (Leaf Must (Has n)) = Needs n n n
of_first (Leaf Must (Run ns)) = run_needs ns
of_first (Leaf Must (Is tree)) = Unknown
of_first (Leaf Should asks) = Unknown
of_first (Leaf MustNot asks) = Unknown
of_first (Open occur inside) = Unknown
of_first (Close occur) = Unknown

-- of a plan of one mark
abbrev pub of_one : Mark ℕ → Outline
of_one (Leaf Must (Has n)) = Words n n n
of_one (Leaf Must (Run ns)) = run_alone ns
of_one (Leaf Must (Is tree)) = Unknown
of_one (Leaf Should asks) = Unknown
of_one (Leaf MustNot asks) = Unknown
of_one (Open occur inside) = Unknown
of_one (Close occur) = Unknown

-- of a plan of two: two words, or a word or a run
abbrev pub of_two : Mark ℕ → Mark ℕ → Outline
of_two (Leaf Must (Has m)) (Leaf Must (Has n)) = Words m n n
of_two (Leaf Should (Has word)) (Leaf Should (Run ns)) = word_or_run word ns
of_two first second = of_first first

-- of a plan whose words are not just such as may be there
abbrev pub of_marks : List (Mark ℕ) → Outline
of_marks [] = Unknown
of_marks (m ∷ []) = of_one m
of_marks (m ∷ n ∷ []) = of_two m n
of_marks (m ∷ n ∷ o ∷ marks) = of_first m

abbrev pub outline : List (Mark ℕ) → Outline
outline [] = Unknown
outline (m ∷ marks) = cond (list_all may_be_there (m ∷ marks)) AnyKey (of_marks (m ∷ marks))

-- ---- articles

-- an article that has these terms may be one of those of which the query holds
abbrev pub may_hold_by : (has : ℕ → Bool) → Outline → Bool
may_hold_by has Unknown = true
may_hold_by has AnyKey = true
may_hold_by has (Words a b c) = (has a && has b) && has c
may_hold_by has (Pair a b) = has a && has b
may_hold_by has (WordOrPair word a b) = has word || (has a && has b)
may_hold_by has (Needs a b c) = (has a && has b) && has c
may_hold_by has (NeedsEither word a b) = has word || (has a && has b)

-- whether the query holds of an article that has these terms and pairs of terms, where that is known; and where it is
-- known whether it shares a key
abbrev pub settled_by : (has : ℕ → Bool) (stand : ℕ → ℕ → Bool) (shares : Bool) → Outline → Option Bool
settled_by has stand shares Unknown = None
settled_by has stand shares AnyKey = cond shares (Some true) None
settled_by has stand shares (Words a b c) = Some ((has a && has b) && has c)
settled_by has stand shares (Pair a b) = Some (stand a b)
settled_by has stand shares (WordOrPair word a b) = Some (has word || stand a b)
settled_by has stand shares (Needs a b c) = None
settled_by has stand shares (NeedsEither word a b) = None

-- no step is read
abbrev pub may_settle : Outline → Bool
may_settle Unknown = false
may_settle AnyKey = true
may_settle (Words a b c) = true
may_settle (Pair a b) = true
may_settle (WordOrPair word a b) = true
may_settle (Needs a b c) = false
may_settle (NeedsEither word a b) = false
