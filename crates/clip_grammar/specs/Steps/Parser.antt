-- The clauses that tokens are, read from the left with the groups that are open.
use Rattle.std.specs.Prelude.{ℕ, zero, suc, Bool, true, false, List, [], ◌∷◌, Option, Some, None}
use Rattle.clip_grammar.specs.Tokens as token
use Rattle.clip_grammar.specs.Tokens.{Token, End}
use Rattle.clip_grammar.specs.Shape as shape
use Rattle.clip_grammar.specs.declared.stage.Stage.{Stage}
use Rattle.clip_grammar.specs.declared.stage.Stage.TheVariants.{Fresh, AfterSign, AfterField}
use Rattle.clip_grammar.specs.Shape.{Sign, Joint, Beside, Written, one, more, WrittenClause, item, everything, Item}

-- what has been read of a clause
pub data Pending : Type 0 where
  Nothing : Pending
  Signed : Sign → Pending
  Fielded : Sign → (field : List ℕ) → Pending

abbrev pub sign_of : Pending → Sign
sign_of Nothing = shape.Unsigned
sign_of (Signed sign) = sign
sign_of (Fielded sign field) = sign

abbrev pub field_of : Pending → Option (List ℕ)
field_of Nothing = None
field_of (Signed sign) = None
field_of (Fielded sign field) = Some field

-- the clauses of a group so far, the last one first, each with what stands after it
abbrev pub Clauses : Type 0
Clauses = List (WrittenClause × Joint)

-- a group that is open: its clauses so far, and what stands before the parenthesis
pub record Frame : Type 0 where
  pub clauses : Clauses
  pub pending : Pending

-- the clauses so far of a group, followed by other ones
abbrev pub written_after : Clauses → Written → Written
written_after [] w = w
written_after (c ∷ cs) w = written_after cs (more c.0 c.1 w)

abbrev pub ended : List Frame → Clauses → Pending → Option Written
ended [] ((c, Beside) ∷ cs) Nothing = Some (written_after cs (one c))
ended _ _ _ = None

-- the clauses so far of a group, with one more
abbrev pub with_clause : Clauses → WrittenClause → Clauses
with_clause cs c = (c, Beside) ∷ cs

abbrev pub with_item : Clauses → Pending → Item → Clauses
with_item cs pending i = with_clause cs (item (sign_of pending) (field_of pending) i)

unfoldable pub run : List Token → List Frame → Clauses → Pending → Option Written
run [] below cs pending = ended below cs pending
run (token.And ∷ ts) below ((c, Beside) ∷ cs) Nothing = run ts below ((c, shape.And) ∷ cs) Nothing
run (token.Or ∷ ts) below ((c, Beside) ∷ cs) Nothing = run ts below ((c, shape.Or) ∷ cs) Nothing
run (token.Plus ∷ ts) below cs Nothing = run ts below cs (Signed shape.Plus)
run (token.Plus ∷ ts) below cs _ = None
run (token.Minus ∷ ts) below cs Nothing = run ts below cs (Signed shape.Minus)
run (token.Minus ∷ ts) below cs _ = None
run (token.Bang ∷ ts) below cs Nothing = run ts below cs (Signed shape.Bang)
run (token.Bang ∷ ts) below cs _ = None
run (token.Not ∷ ts) below cs Nothing = run ts below cs (Signed shape.Not)
run (token.Not ∷ ts) below cs _ = None
run (token.Plain field ∷ token.Colon ∷ ts) below cs (Fielded sign other) = None
run (token.Plain field ∷ token.Colon ∷ ts) below cs pending = run ts below cs (Fielded (sign_of pending) field)
run (token.Plain text ∷ ts) below cs pending = run ts below (with_item cs pending (shape.Plain text)) Nothing
run (token.Front text ∷ ts) below cs pending = run ts below (with_item cs pending (shape.Front text)) Nothing
run (token.Phrase text ∷ ts) below cs pending = run ts below (with_item cs pending (shape.Phrase text)) Nothing
run (token.Range low high ∷ ts) below cs pending = run ts below (with_item cs pending (shape.Range low high)) Nothing
run (token.Star ∷ token.Colon ∷ token.Star ∷ ts) below cs (Fielded sign other) = None
run (token.Star ∷ token.Colon ∷ token.Star ∷ ts) below cs pending =
    run ts below (with_clause cs (everything (sign_of pending))) Nothing
run (token.Open ∷ ts) below cs pending = run ts (record { clauses = cs; pending = pending } ∷ below) [] Nothing
run (token.Close ∷ ts) (f ∷ below) ((c, Beside) ∷ cs) Nothing =
    run ts below (with_item f.clauses f.pending (shape.Parens (written_after cs (one c)))) Nothing
run (_ ∷ ts) below cs pending = None

-- the clauses of all the tokens
abbrev pub parse : List Token → Option Written
parse ts = run ts [] [] Nothing

-- ---- whether the tokens are clauses, by a count of the open groups

-- `may_end` says whether the group may end here: a clause stands last.
unfoldable pub accepts : List Token → (depth : ℕ) → (may_end : Bool) → Stage → Bool
accepts [] zero true Fresh = true
accepts [] _ _ _ = false
accepts (token.And ∷ ts) depth true Fresh = accepts ts depth false Fresh
accepts (token.Or ∷ ts) depth true Fresh = accepts ts depth false Fresh
accepts (token.Plus ∷ ts) depth may_end Fresh = accepts ts depth may_end AfterSign
accepts (token.Minus ∷ ts) depth may_end Fresh = accepts ts depth may_end AfterSign
accepts (token.Bang ∷ ts) depth may_end Fresh = accepts ts depth may_end AfterSign
accepts (token.Not ∷ ts) depth may_end Fresh = accepts ts depth may_end AfterSign
accepts (token.Plain field ∷ token.Colon ∷ ts) depth may_end AfterField = false
accepts (token.Plain field ∷ token.Colon ∷ ts) depth may_end stage = accepts ts depth may_end AfterField
accepts (token.Plain text ∷ ts) depth may_end stage = accepts ts depth true Fresh
accepts (token.Front text ∷ ts) depth may_end stage = accepts ts depth true Fresh
accepts (token.Phrase text ∷ ts) depth may_end stage = accepts ts depth true Fresh
accepts (token.Range low high ∷ ts) depth may_end stage = accepts ts depth true Fresh
accepts (token.Star ∷ token.Colon ∷ token.Star ∷ ts) depth may_end AfterField = false
accepts (token.Star ∷ token.Colon ∷ token.Star ∷ ts) depth may_end stage = accepts ts depth true Fresh
accepts (token.Open ∷ ts) depth may_end stage = accepts ts (suc depth) false Fresh
accepts (token.Close ∷ ts) (suc depth) true Fresh = accepts ts depth true Fresh
accepts (_ ∷ ts) depth may_end stage = false

abbrev pub begins_colon : List Token → Bool
begins_colon (token.Colon ∷ _) = true
begins_colon _ = false

abbrev pub begins_and : List Token → Bool
begins_and (token.And ∷ _) = true
begins_and _ = false
