-- The tree that is built of the tokens of what is written.
use Rattle.std.proofs.Common.{◌≡◌, ℕ, Bool, true, false, ◌||◌, List, [], ◌∷◌, ◌++◌, map, Option, Some, None, refl, sym}
use Rattle.std.proofs.Common.{ap, ◌∙◌, append_assoc, append-nil, codes, length, arith}
use Rattle.std.proofs.Math.Bool.{or-false}
use Rattle.std.specs.Option.{option_to_list}
use Rattle.clip_words.specs.Words.{words_of}
use Rattle.clip_grammar.specs.Tokens as token
use Rattle.clip_grammar.specs.Tokens.{Token}
use Rattle.clip_grammar.specs.Tree.{Tree, clause, clauses_of}
use Rattle.clip_grammar.specs.declared.query.Occur.{Occur}
use Rattle.clip_grammar.specs.declared.query.Occur.TheVariants.{Must, Should, MustNot}
use Rattle.clip_grammar.specs.Steps.Parser.{begins_colon, begins_and}
use Rattle.clip_grammar.specs.Shape as shape
use Rattle.clip_grammar.specs.Shape.{Sign, Joint, Beside, is_and, beside_and, joint_tokens, Written, one, more}
use Rattle.clip_grammar.specs.Shape.{WrittenClause, item, everything, Item, tokens, clause_tokens, item_tokens}
use Rattle.clip_grammar.specs.Shape.{sign_tokens, field_tokens, occur_of, clauses_in, clause_tree, clause_occur}
use Rattle.clip_grammar.specs.Shape.{item_tree, written_tree}
use Rattle.clip_grammar.proofs.Parsing.{joined, joined_parts, joined_no_colon, joined_and}
use Rattle.clip_syntax.specs.Steps.TokenOf.{token_of}
use Rattle.clip_syntax.specs.declared.token.Token as code
use Rattle.clip_syntax.specs.Steps.Items.{item_text, item_texts, items_words}
use Rattle.clip_syntax.specs.Steps.Building.{Group, State, fresh, item_field, add, read, read_all, start}

-- the clauses of a group, the first of them after an AND or not, in its field
abbrev pairs : Written → Bool → List ℕ → List (Occur × Tree)
pairs (one c) after field = (beside_and after (clause_occur c), clause_tree c field) ∷ []
pairs (more c joint cs) after field =
    (beside_and (after || is_and joint) (clause_occur c), clause_tree c field) ∷ pairs cs (is_and joint) field

pairs_are : (w : Written) (after : Bool) (field : List ℕ) → clauses_of (pairs w after field) ≡ clauses_in w after field
pairs_are (one c) after field = refl
pairs_are (more c joint cs) after field =
    ap (clause (beside_and (after || is_and joint) (clause_occur c)) (clause_tree c field))
    (pairs_are cs (is_and joint) field)

-- an AND before it and one after it
beside_both : (before after : Bool) (occur : Occur) → beside_and after (beside_and before occur)
    ≡ beside_and (before || after) occur
beside_both before after Must = refl
beside_both before after MustNot = refl
beside_both true after Should = refl
beside_both false after Should = refl

-- the tokens are read, with the words of their items
abbrev reading : List Token → List Group → Group → State
reading ts around group = read_all ts (record { around = around; group = group; words = items_words ts })

-- before an item
abbrev before : List (Occur × Tree) → List ℕ → Occur → Option (List ℕ) → Group
before cs field occur nearer = record { clauses = cs; field = field; occur = occur; nearer = nearer }

-- before a clause, after an AND or not
abbrev opened : List (Occur × Tree) → List ℕ → Bool → Group
opened cs field after = before cs field (beside_and after Should) None

reading_sign : (sign : Sign) (after : Bool) (ts : List Token) (around : List Group) (cs : List (Occur × Tree))
    (field : List ℕ) → reading (sign_tokens sign ++ ts) around (opened cs field after)
    ≡ reading ts around (before cs field (beside_and after (occur_of sign)) None)
unfolding read_all
reading_sign shape.Unsigned after ts around cs field = refl
reading_sign shape.Plus after ts around cs field = refl
reading_sign shape.Minus after ts around cs field = refl
reading_sign shape.Bang after ts around cs field = refl
reading_sign shape.Not after ts around cs field = refl

reading_field : (nearer : Option (List ℕ)) (ts : List Token) (around : List Group) (cs : List (Occur × Tree))
    (field : List ℕ) (occur : Occur) → reading (field_tokens nearer ++ ts) around (before cs field occur None)
    ≡ reading ts around (before cs field occur nearer)
unfolding read_all
reading_field None ts around cs field occur = refl
reading_field (Some nearer) ts around cs field occur = refl

reading_joint : (joint : Joint) (ts : List Token) (around : List Group) (cs : List (Occur × Tree)) (field : List ℕ)
    → reading (joint_tokens joint ++ ts) around (fresh cs field) ≡ reading ts around (opened cs field (is_and joint))
unfolding read_all
reading_joint Beside ts around cs field = refl
reading_joint shape.And ts around cs field = refl
reading_joint shape.Or ts around cs field = refl

reading_everything : (ts : List Token) (around : List Group) (g : Group) → begins_colon ts ≡ false
    → reading (token.Star ∷ token.Colon ∷ token.Star ∷ ts) around g ≡ reading ts around (add g (begins_and ts) Tree.All)
unfolding read_all
reading_everything ts around g h =
    ap (λ b. read_all ts (read token.Star b (begins_and ts) (record {
      around = around;
      group = g;
      words =
          items_words ts;
    }))) h

reading_plain : (text : List ℕ) (ts : List Token) (around : List Group) (g : Group) → begins_colon ts ≡ false
    → reading (token.Plain text ∷ ts) around g
    ≡ reading ts around (add g (begins_and ts) (item_tree (shape.Plain text) (item_field g)))
unfolding read_all
reading_plain text ts around g h =
    ap (λ b. read_all ts (read (token.Plain text) b (begins_and ts) (record {
      around = around;
      group = g;
      words =
          map words_of (option_to_list (item_text (token.Plain text) b) ++ item_texts ts);
    }))) h

reading_phrase : (text : List ℕ) (ts : List Token) (around : List Group) (g : Group)
    → reading (token.Phrase text ∷ ts) around g
    ≡ reading ts around (add g (begins_and ts) (item_tree (shape.Phrase text) (item_field g)))
unfolding read_all
reading_phrase text ts around g = refl

reading_front : (text : List ℕ) (ts : List Token) (around : List Group) (g : Group)
    → reading (token.Front text ∷ ts) around g
    ≡ reading ts around (add g (begins_and ts) (item_tree (shape.Front text) (item_field g)))
unfolding read_all
reading_front text ts around g = refl

reading_range : (low high : token.End) (ts : List Token) (around : List Group) (g : Group)
    → reading (token.Range low high ∷ ts) around g
    ≡ reading ts around (add g (begins_and ts) (item_tree (shape.Range low high) (item_field g)))
unfolding read_all
reading_range low high ts around g = refl

reading_open : (ts : List Token) (around : List Group) (g : Group) → reading (token.Open ∷ ts) around g
    ≡ reading ts (g ∷ around) (fresh [] (item_field g))
unfolding read_all
reading_open ts around g = refl

reading_close : (ts : List Token) (outer : Group) (around : List Group) (g : Group)
    → reading (token.Close ∷ ts) (outer ∷ around) g
    ≡ reading ts around (add outer (begins_and ts) (Tree.Group (clauses_of g.clauses)))
unfolding read_all
reading_close ts outer around g = refl

-- a clause more, beside an AND or not
abbrev with_clause : List (Occur × Tree) → WrittenClause → Bool → List ℕ → List (Occur × Tree)
with_clause cs c joined field = cs ++ (beside_and joined (clause_occur c), clause_tree c field) ∷ []

mutual
  reading_from : (w : Written) (after : Bool) (ts : List Token) (around : List Group) (cs : List (Occur × Tree))
      (field : List ℕ) → begins_colon ts ≡ false → begins_and ts ≡ false
      → reading (tokens w ++ ts) around (opened cs field after)
      ≡ reading ts around (fresh (cs ++ pairs w after field) field)
  reading_from (one c) after ts around cs field h k =
      reading_clause c after ts around cs field h
      ∙ ap (λ b. reading ts around (fresh (with_clause cs c b field) field)) (ap (λ b. after || b) k ∙ or-false after)
  reading_from (more c joint ws) after ts around cs field h k =
      ap (λ us. reading us around (opened cs field after)) (joined_parts c joint ws ts)
      ∙ reading_clause c after (joined joint ws ts) around cs field (joined_no_colon joint ws ts)
      ∙ ap (λ b. reading (joined joint ws ts) around (fresh (with_clause cs c (after || b) field) field))
      (joined_and joint ws ts)
      ∙ reading_joint joint (tokens ws ++ ts) around (with_clause cs c (after || is_and joint) field) field
      ∙ reading_from ws (is_and joint) ts around (with_clause cs c (after || is_and joint) field) field h k
      ∙ ap (λ x. reading ts around (fresh x field))
      (append_assoc cs ((beside_and (after || is_and joint) (clause_occur c), clause_tree c field) ∷ [])
      (pairs ws (is_and joint) field))

  reading_clause : (c : WrittenClause) (after : Bool) (ts : List Token) (around : List Group)
      (cs : List (Occur × Tree)) (field : List ℕ) → begins_colon ts ≡ false
      → reading (clause_tokens c ++ ts) around (opened cs field after)
      ≡ reading ts around (fresh (with_clause cs c (after || begins_and ts) field) field)
  reading_clause (item sign nearer i) after ts around cs field h =
      ap (λ us. reading us around (opened cs field after))
      (append_assoc (sign_tokens sign ++ field_tokens nearer) (item_tokens i) ts
      ∙ append_assoc (sign_tokens sign) (field_tokens nearer) (item_tokens i ++ ts))
      ∙ reading_sign sign after (field_tokens nearer ++ (item_tokens i ++ ts)) around cs field
      ∙ reading_field nearer (item_tokens i ++ ts) around cs field (beside_and after (occur_of sign))
      ∙ reading_item i ts around (before cs field (beside_and after (occur_of sign)) nearer) h
      ∙ ap (λ occur. reading ts around (fresh (cs ++ (occur, clause_tree (item sign nearer i) field) ∷ []) field))
      (beside_both after (begins_and ts) (occur_of sign))
  reading_clause (everything sign) after ts around cs field h =
      ap (λ us. reading us around (opened cs field after))
      (append_assoc (sign_tokens sign) (token.Star ∷ token.Colon ∷ token.Star ∷ []) ts)
      ∙ reading_sign sign after (token.Star ∷ token.Colon ∷ token.Star ∷ ts) around cs field
      ∙ reading_everything ts around (before cs field (beside_and after (occur_of sign)) None) h
      ∙ ap (λ occur. reading ts around (fresh (cs ++ (occur, Tree.All) ∷ []) field))
      (beside_both after (begins_and ts) (occur_of sign))

  reading_item : (i : Item) (ts : List Token) (around : List Group) (g : Group) → begins_colon ts ≡ false
      → reading (item_tokens i ++ ts) around g ≡ reading ts around (add g (begins_and ts) (item_tree i (item_field g)))
  reading_item (shape.Plain text) ts around g h = reading_plain text ts around g h
  reading_item (shape.Front text) ts around g h = reading_front text ts around g
  reading_item (shape.Phrase text) ts around g h = reading_phrase text ts around g
  reading_item (shape.Range low high) ts around g h = reading_range low high ts around g
  reading_item (shape.Parens w) ts around g h =
      ap (λ us. reading (token.Open ∷ us) around g) (append_assoc (tokens w) (token.Close ∷ []) ts)
      ∙ reading_open (tokens w ++ token.Close ∷ ts) around g
      ∙ reading_from w false (token.Close ∷ ts) (g ∷ around) [] (item_field g) refl refl
      ∙ reading_close ts g around (fresh (pairs w false (item_field g)) (item_field g))
      ∙ ap (λ x. reading ts around (add g (begins_and ts) (Tree.Group x))) (pairs_are w false (item_field g))

-- the tree of what is written
pub grown : (w : Written) (ts : List Token) → tokens w ≡ ts
    → Tree.Group (clauses_of (read_all ts (start (items_words ts))).group.clauses) ≡ written_tree w
unfolding read_all
grown w ts e =
    ap (λ us. Tree.Group (clauses_of (read_all us (start (items_words us))).group.clauses)) (sym e
    ∙ sym (append-nil (tokens w)))
    ∙ ap (λ (s : State). Tree.Group (clauses_of s.group.clauses))
    (reading_from w false [] [] [] (codes "text") refl refl)
    ∙ ap Tree.Group (pairs_are w false (codes "text"))

pub read_end : (ts : List code.Token) (s : State) → length ts ≡ 0 → read_all (map token_of ts) s ≡ s
unfolding read_all
read_end [] s e = refl
read_end (t ∷ ts) s e = absurd (omega arith)
