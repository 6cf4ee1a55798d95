-- `parse` finds the clauses that the tokens write, and there are no others.
use Rattle.std.proofs.Common.{◌≡◌, ℕ, zero, Bool, true, false, List, [], ◌∷◌, ◌++◌, Option, Some, None, refl, sym, ap}
use Rattle.std.proofs.Common.{◌∙◌, append_assoc, append-nil, length}
use Rattle.std.specs.Prelude.{is_some}
use Rattle.std.proofs.lemmas.Option.{none-some}
use Rattle.clip_grammar.specs.Tokens as token
use Rattle.clip_grammar.specs.Tokens.{Token, End}
use Rattle.clip_grammar.specs.Shape as shape
use Rattle.clip_grammar.specs.Shape.{Sign, Joint, Beside, Written, one, more, WrittenClause, item, everything, Item}
use Rattle.clip_grammar.specs.Shape.{tokens, clause_tokens, item_tokens, sign_tokens, field_tokens, joint_tokens}
use Rattle.clip_grammar.specs.Steps.Parser.{Pending, Nothing, Signed, Fielded, sign_of, field_of, Clauses, Frame}
use Rattle.clip_grammar.specs.Steps.Parser.{written_after, ended, with_clause, with_item, run, parse, accepts}
use Rattle.clip_grammar.specs.Steps.Parser.{begins_and}
use Rattle.clip_grammar.specs.declared.stage.Stage.{Stage}
use Rattle.clip_grammar.specs.declared.stage.Stage.TheVariants.{Fresh, AfterSign, AfterField}

-- ---- what is written is read

-- the tokens begin with a colon
abbrev starts_colon : List Token → Bool
starts_colon (token.Colon ∷ _) = true
starts_colon _ = false

-- a word that no colon follows is an item
run_plain : (text : List ℕ) (ts : List Token) (below : List Frame) (cs : Clauses) (pending : Pending)
    → starts_colon ts ≡ false
    → run (token.Plain text ∷ ts) below cs pending ≡ run ts below (with_item cs pending (shape.Plain text)) Nothing
unfolding run
run_plain text [] below cs pending h = refl
run_plain text (token.Plus ∷ ts) below cs pending h = refl
run_plain text (token.Minus ∷ ts) below cs pending h = refl
run_plain text (token.Bang ∷ ts) below cs pending h = refl
run_plain text (token.Not ∷ ts) below cs pending h = refl
run_plain text (token.And ∷ ts) below cs pending h = refl
run_plain text (token.Or ∷ ts) below cs pending h = refl
run_plain text (token.Open ∷ ts) below cs pending h = refl
run_plain text (token.Close ∷ ts) below cs pending h = refl
run_plain text (token.Colon ∷ ts) below cs pending h = cc
run_plain text (token.Star ∷ ts) below cs pending h = refl
run_plain text (token.Plain _ ∷ ts) below cs pending h = refl
run_plain text (token.Front _ ∷ ts) below cs pending h = refl
run_plain text (token.Phrase _ ∷ ts) below cs pending h = refl
run_plain text (token.Range _ _ ∷ ts) below cs pending h = refl
run_plain text (token.Other ∷ ts) below cs pending h = refl

-- the clauses so far, and then those that are written
abbrev with_written : Clauses → Written → Clauses
with_written cs (one c) = with_clause cs c
with_written cs (more c joint w) = with_written ((c, joint) ∷ cs) w

-- what has been read of a clause, from its sign and its field
abbrev pending_of : Sign → Option (List ℕ) → Pending
pending_of sign (Some field) = Fielded sign field
pending_of shape.Unsigned None = Nothing
pending_of sign None = Signed sign

sign_pending : (sign : Sign) (field : Option (List ℕ)) → sign_of (pending_of sign field) ≡ sign
sign_pending sign (Some field) = refl
sign_pending shape.Unsigned None = refl
sign_pending shape.Plus None = refl
sign_pending shape.Minus None = refl
sign_pending shape.Bang None = refl
sign_pending shape.Not None = refl

field_pending : (sign : Sign) (field : Option (List ℕ)) → field_of (pending_of sign field) ≡ field
field_pending sign (Some field) = refl
field_pending shape.Unsigned None = refl
field_pending shape.Plus None = refl
field_pending shape.Minus None = refl
field_pending shape.Bang None = refl
field_pending shape.Not None = refl

-- a sign is read
run_sign : (sign : Sign) (ts : List Token) (below : List Frame) (cs : Clauses)
    → run (sign_tokens sign ++ ts) below cs Nothing ≡ run ts below cs (pending_of sign None)
unfolding run
run_sign shape.Unsigned ts below cs = refl
run_sign shape.Plus ts below cs = refl
run_sign shape.Minus ts below cs = refl
run_sign shape.Bang ts below cs = refl
run_sign shape.Not ts below cs = refl

-- and a field
run_field : (sign : Sign) (field : Option (List ℕ)) (ts : List Token) (below : List Frame) (cs : Clauses)
    → run (field_tokens field ++ ts) below cs (pending_of sign None) ≡ run ts below cs (pending_of sign field)
unfolding run
run_field sign None ts below cs = refl
run_field shape.Unsigned (Some field) ts below cs = refl
run_field shape.Plus (Some field) ts below cs = refl
run_field shape.Minus (Some field) ts below cs = refl
run_field shape.Bang (Some field) ts below cs = refl
run_field shape.Not (Some field) ts below cs = refl

run_everything : (sign : Sign) (ts : List Token) (below : List Frame) (cs : Clauses)
    → run (token.Star ∷ token.Colon ∷ token.Star ∷ ts) below cs (pending_of sign None)
    ≡ run ts below (with_clause cs (everything sign)) Nothing
unfolding run
run_everything shape.Unsigned ts below cs = refl
run_everything shape.Plus ts below cs = refl
run_everything shape.Minus ts below cs = refl
run_everything shape.Bang ts below cs = refl
run_everything shape.Not ts below cs = refl

-- no clause begins with a colon, nor with an AND
clause_first : (c : WrittenClause) (ts : List Token) → (starts_colon (clause_tokens c ++ ts) ≡ false)
    × (begins_and (clause_tokens c ++ ts) ≡ false)
clause_first (item shape.Unsigned None (shape.Plain text)) ts = (refl, refl)
clause_first (item shape.Unsigned None (shape.Front text)) ts = (refl, refl)
clause_first (item shape.Unsigned None (shape.Phrase text)) ts = (refl, refl)
clause_first (item shape.Unsigned None (shape.Range low high)) ts = (refl, refl)
clause_first (item shape.Unsigned None (shape.Parens cs)) ts = (refl, refl)
clause_first (item shape.Unsigned (Some field) i) ts = (refl, refl)
clause_first (item shape.Plus field i) ts = (refl, refl)
clause_first (item shape.Minus field i) ts = (refl, refl)
clause_first (item shape.Bang field i) ts = (refl, refl)
clause_first (item shape.Not field i) ts = (refl, refl)
clause_first (everything shape.Unsigned) ts = (refl, refl)
clause_first (everything shape.Plus) ts = (refl, refl)
clause_first (everything shape.Minus) ts = (refl, refl)
clause_first (everything shape.Bang) ts = (refl, refl)
clause_first (everything shape.Not) ts = (refl, refl)

pub no_colons : (cs : Written) (ts : List Token) → starts_colon (tokens cs ++ ts) ≡ false
no_colons (one c) ts = (clause_first c ts).0
no_colons (more c joint cs) ts = ap starts_colon (append_assoc (clause_tokens c) (joint_tokens joint ++ tokens cs) ts)
    ∙ (clause_first c ((joint_tokens joint ++ tokens cs) ++ ts)).0

no_ands : (cs : Written) (ts : List Token) → begins_and (tokens cs ++ ts) ≡ false
no_ands (one c) ts = (clause_first c ts).1
no_ands (more c joint cs) ts = ap begins_and (append_assoc (clause_tokens c) (joint_tokens joint ++ tokens cs) ts)
    ∙ (clause_first c ((joint_tokens joint ++ tokens cs) ++ ts)).1

-- the tokens after a clause that another one follows
abbrev pub joined : Joint → Written → List Token → List Token
joined joint w ts = joint_tokens joint ++ (tokens w ++ ts)

pub joined_parts : (c : WrittenClause) (joint : Joint) (w : Written) (ts : List Token) → tokens (more c joint w) ++ ts
    ≡ clause_tokens c ++ joined joint w ts
joined_parts c joint w ts =
    append_assoc (clause_tokens c) (joint_tokens joint ++ tokens w) ts
    ∙ ap (λ x. clause_tokens c ++ x) (append_assoc (joint_tokens joint) (tokens w) ts)

pub joined_no_colon : (joint : Joint) (w : Written) (ts : List Token) → starts_colon (joined joint w ts) ≡ false
joined_no_colon Beside w ts = no_colons w ts
joined_no_colon shape.And w ts = refl
joined_no_colon shape.Or w ts = refl

pub joined_and : (joint : Joint) (w : Written) (ts : List Token) → begins_and (joined joint w ts) ≡ shape.is_and joint
joined_and Beside w ts = no_ands w ts
joined_and shape.And w ts = refl
joined_and shape.Or w ts = refl

run_joint : (joint : Joint) (ts : List Token) (below : List Frame) (c : WrittenClause) (cs : Clauses)
    → run (joint_tokens joint ++ ts) below (with_clause cs c) Nothing ≡ run ts below ((c, joint) ∷ cs) Nothing
unfolding run
run_joint Beside ts below c cs = refl
run_joint shape.And ts below c cs = refl
run_joint shape.Or ts below c cs = refl

written_last : (cs : Clauses) (w : Written) → (c : WrittenClause) × (ds : Clauses)
    × (with_written cs w ≡ with_clause ds c) × (written_after ds (one c) ≡ written_after cs w)
written_last cs (one c) = (c, cs, refl, refl)
written_last cs (more c joint w) = written_last ((c, joint) ∷ cs) w

abbrev CloseIs : Type 0
CloseIs = (ts : List Token) (f : Frame) (below : List Frame) (w : Written)
    → run (token.Close ∷ ts) (f ∷ below) (with_written [] w) Nothing
    ≡ run ts below (with_item f.clauses f.pending (shape.Parens w)) Nothing

run_close : CloseIs
unfolding run
run_close ts f below w =
    let l = written_last [] w in
    ap (λ x. run (token.Close ∷ ts) (f ∷ below) x Nothing) l.2
    ∙ ap (λ x. run ts below (with_item f.clauses f.pending (shape.Parens x)) Nothing) l.3

run_open : (ts : List Token) (below : List Frame) (cs : Clauses) (pending : Pending)
    → run (token.Open ∷ ts) below cs pending ≡ run ts (record { clauses = cs; pending = pending } ∷ below) [] Nothing
unfolding run
run_open ts below cs pending = refl

run_front : (text : List ℕ) (ts : List Token) (below : List Frame) (cs : Clauses) (pending : Pending)
    → run (token.Front text ∷ ts) below cs pending ≡ run ts below (with_item cs pending (shape.Front text)) Nothing
unfolding run
run_front text ts below cs pending = refl

run_phrase : (text : List ℕ) (ts : List Token) (below : List Frame) (cs : Clauses) (pending : Pending)
    → run (token.Phrase text ∷ ts) below cs pending ≡ run ts below (with_item cs pending (shape.Phrase text)) Nothing
unfolding run
run_phrase text ts below cs pending = refl

run_range : (low high : End) (ts : List Token) (below : List Frame) (cs : Clauses) (pending : Pending)
    → run (token.Range low high ∷ ts) below cs pending
    ≡ run ts below (with_item cs pending (shape.Range low high)) Nothing
unfolding run
run_range low high ts below cs pending = refl

mutual
  run_written : (w : Written) (ts : List Token) (below : List Frame) (cs : Clauses) → starts_colon ts ≡ false
      → run (tokens w ++ ts) below cs Nothing ≡ run ts below (with_written cs w) Nothing
  run_written (one c) ts below cs h = run_clause c ts below cs h
  run_written (more c joint w) ts below cs h =
      ap (λ x. run x below cs Nothing) (joined_parts c joint w ts)
      ∙ run_clause c (joined joint w ts) below cs (joined_no_colon joint w ts)
      ∙ run_joint joint (tokens w ++ ts) below c cs
      ∙ run_written w ts below ((c, joint) ∷ cs) h

  run_clause : (c : WrittenClause) (ts : List Token) (below : List Frame) (cs : Clauses) → starts_colon ts ≡ false
      → run (clause_tokens c ++ ts) below cs Nothing ≡ run ts below (with_clause cs c) Nothing
  run_clause (item sign field i) ts below cs h =
      ap (λ x. run x below cs Nothing) (append_assoc (sign_tokens sign ++ field_tokens field) (item_tokens i) ts
      ∙ append_assoc (sign_tokens sign) (field_tokens field) (item_tokens i ++ ts))
      ∙ run_sign sign (field_tokens field ++ (item_tokens i ++ ts)) below cs
      ∙ run_field sign field (item_tokens i ++ ts) below cs
      ∙ run_item i ts below cs (pending_of sign field) h
      ∙ ap (λ x. run ts below (with_clause cs (item x (field_of (pending_of sign field)) i)) Nothing)
      (sign_pending sign field)
      ∙ ap (λ x. run ts below (with_clause cs (item sign x i)) Nothing) (field_pending sign field)
  run_clause (everything sign) ts below cs h =
      ap (λ x. run x below cs Nothing) (append_assoc (sign_tokens sign) (token.Star ∷ token.Colon ∷ token.Star ∷ []) ts)
      ∙ run_sign sign (token.Star ∷ token.Colon ∷ token.Star ∷ ts) below cs
      ∙ run_everything sign ts below cs

  run_item : (i : Item) (ts : List Token) (below : List Frame) (cs : Clauses) (pending : Pending)
      → starts_colon ts ≡ false → run (item_tokens i ++ ts) below cs pending
      ≡ run ts below (with_item cs pending i) Nothing
  run_item (shape.Plain text) ts below cs pending h = run_plain text ts below cs pending h
  run_item (shape.Front text) ts below cs pending h = run_front text ts below cs pending
  run_item (shape.Phrase text) ts below cs pending h = run_phrase text ts below cs pending
  run_item (shape.Range low high) ts below cs pending h = run_range low high ts below cs pending
  run_item (shape.Parens w) ts below cs pending h =
      ap (λ x. run (token.Open ∷ x) below cs pending) (append_assoc (tokens w) (token.Close ∷ []) ts)
      ∙ run_open (tokens w ++ token.Close ∷ ts) below cs pending
      ∙ run_written w (token.Close ∷ ts) (record { clauses = cs; pending = pending } ∷ below) [] refl
      ∙ run_close ts (record { clauses = cs; pending = pending }) below w

-- what is written is read
pub parse_again : (w : Written) → parse (tokens w) ≡ Some w
unfolding run
parse_again w =
    let l = written_last [] w in
    ap (λ x. run x [] [] Nothing) (sym (append-nil (tokens w))) ∙ run_written w [] [] [] refl
    ∙ ap (λ x. ended [] x Nothing) l.2 ∙ ap Some l.3

-- the clauses are written in one way
pub one_written : (v w : Written) → tokens v ≡ tokens w → v ≡ w
one_written v w e = let s : Some v ≡ Some w = sym (parse_again v) ∙ ap parse e ∙ parse_again w in cc

-- ---- what is read is written so

abbrev pending_tokens : Pending → List Token
pending_tokens pending = sign_tokens (sign_of pending) ++ field_tokens (field_of pending)

-- the tokens of what has been read
abbrev flat : Clauses → List Token
flat [] = []
flat (c ∷ cs) = flat cs ++ (clause_tokens c.0 ++ joint_tokens c.1)

abbrev before : List Frame → List Token
before [] = []
before (f ∷ below) = before below ++ (flat f.clauses ++ (pending_tokens f.pending ++ token.Open ∷ []))

tokens_after : (cs : Clauses) (w : Written) → tokens (written_after cs w) ≡ flat cs ++ tokens w
tokens_after [] w = refl
tokens_after (c ∷ cs) w = tokens_after cs (more c.0 c.1 w)
    ∙ parts (flat cs) (clause_tokens c.0) (joint_tokens c.1) (tokens w)
  where
    parts : (x y z ts : List Token) → x ++ (y ++ (z ++ ts)) ≡ (x ++ (y ++ z)) ++ ts
    parts x y z ts = simp append_assoc

tokens_last : (cs : Clauses) (c : WrittenClause) → tokens (written_after cs (one c)) ≡ flat (with_clause cs c)
tokens_last cs c = tokens_after cs (one c) ∙ ap (λ x. flat cs ++ x) (sym (append-nil (clause_tokens c)))

push_joint : (x y z : List Token) (t : Token) (ts : List Token) → x ++ ((y ++ (z ++ t ∷ [])) ++ ts)
    ≡ x ++ ((y ++ (z ++ [])) ++ t ∷ ts)
push_joint x y z t ts = simp (append_assoc, append-nil)

push_item : (x : List Token) (cs : Clauses) (pending : Pending) (i : Item) (ts : List Token)
    → x ++ (flat (with_item cs pending i) ++ ts) ≡ x ++ (flat cs ++ (pending_tokens pending ++ (item_tokens i ++ ts)))
push_item x cs pending i ts = parts (flat cs) (pending_tokens pending) (item_tokens i)
  where
    parts : (y z v : List Token) → x ++ ((y ++ ((z ++ v) ++ [])) ++ ts) ≡ x ++ (y ++ (z ++ (v ++ ts)))
    parts y z v = simp (append_assoc, append-nil)

push_field : (x y : List Token) (sign : Sign) (field : List ℕ) (ts : List Token)
    → x ++ (y ++ (pending_tokens (Fielded sign field) ++ ts))
    ≡ x ++ (y ++ ((sign_tokens sign ++ []) ++ token.Plain field ∷ token.Colon ∷ ts))
push_field x y sign field ts =
    ap (λ z. x ++ (y ++ z)) (append_assoc (sign_tokens sign) (token.Plain field ∷ token.Colon ∷ []) ts
    ∙ ap (λ z. z ++ token.Plain field ∷ token.Colon ∷ ts) (sym (append-nil (sign_tokens sign))))

push_everything : (x : List Token) (cs : Clauses) (sign : Sign) (ts : List Token)
    → x ++ (flat (with_clause cs (everything sign)) ++ ts)
    ≡ x ++ (flat cs ++ ((sign_tokens sign ++ []) ++ token.Star ∷ token.Colon ∷ token.Star ∷ ts))
push_everything x cs sign ts = parts (flat cs) (sign_tokens sign) (token.Star ∷ token.Colon ∷ token.Star ∷ [])
  where
    parts : (y z v : List Token) → x ++ ((y ++ ((z ++ v) ++ [])) ++ ts) ≡ x ++ (y ++ ((z ++ []) ++ (v ++ ts)))
    parts y z v = simp (append_assoc, append-nil)

push_open : (x y z ts : List Token) → (x ++ (y ++ (z ++ token.Open ∷ []))) ++ ts ≡ x ++ (y ++ (z ++ token.Open ∷ ts))
push_open x y z ts = simp append_assoc

push_close : (x : List Token) (f : Frame) (c : WrittenClause) (cs : Clauses) (ts : List Token)
    → x ++ (flat (with_item f.clauses f.pending (shape.Parens (written_after cs (one c)))) ++ ts)
    ≡ (x ++ (flat f.clauses ++ (pending_tokens f.pending ++ token.Open ∷ [])))
    ++ (flat (with_clause cs c) ++ token.Close ∷ ts)
push_close x f c cs ts =
    push_item x f.clauses f.pending (shape.Parens (written_after cs (one c))) ts
    ∙ ap (λ y. x ++ (flat f.clauses ++ (pending_tokens f.pending ++ token.Open ∷ y)))
    (append_assoc (tokens (written_after cs (one c))) (token.Close ∷ []) ts
    ∙ ap (λ y. y ++ token.Close ∷ ts) (tokens_last cs c))
    ∙ sym (push_open x (flat f.clauses) (pending_tokens f.pending) (flat (with_clause cs c) ++ token.Close ∷ ts))

end_sound : (below : List Frame) (cs : Clauses) (pending : Pending) (w : Written) → ended below cs pending ≡ Some w
    → tokens w ≡ before below ++ (flat cs ++ (pending_tokens pending ++ []))
end_sound [] ((c, Beside) ∷ cs) Nothing w e = let same : w ≡ written_after cs (one c) = cc in
    ap tokens same ∙ tokens_last cs c ∙ sym (append-nil (flat (with_clause cs c)))
end_sound below cs pending w e = absurd (none-some _ e)

pub run_sound : (ts : List Token) (below : List Frame) (cs : Clauses) (pending : Pending) (w : Written)
    → run ts below cs pending ≡ Some w → tokens w ≡ before below ++ (flat cs ++ (pending_tokens pending ++ ts))
unfolding run
run_sound [] below cs pending w e = end_sound below cs pending w e
run_sound (token.And ∷ ts) below ((c, Beside) ∷ cs) Nothing w e = run_sound ts below ((c, shape.And) ∷ cs) Nothing w e
    ∙ push_joint (before below) (flat cs) (clause_tokens c) token.And ts
run_sound (token.Or ∷ ts) below ((c, Beside) ∷ cs) Nothing w e = run_sound ts below ((c, shape.Or) ∷ cs) Nothing w e
    ∙ push_joint (before below) (flat cs) (clause_tokens c) token.Or ts
run_sound (token.Plus ∷ ts) below cs Nothing w e = run_sound ts below cs (Signed shape.Plus) w e
run_sound (token.Minus ∷ ts) below cs Nothing w e = run_sound ts below cs (Signed shape.Minus) w e
run_sound (token.Bang ∷ ts) below cs Nothing w e = run_sound ts below cs (Signed shape.Bang) w e
run_sound (token.Not ∷ ts) below cs Nothing w e = run_sound ts below cs (Signed shape.Not) w e
run_sound (token.Plain field ∷ token.Colon ∷ ts) below cs Nothing w e =
    run_sound ts below cs (Fielded shape.Unsigned field) w e
run_sound (token.Plain field ∷ token.Colon ∷ ts) below cs (Signed sign) w e =
    run_sound ts below cs (Fielded sign field) w e ∙ push_field (before below) (flat cs) sign field ts
run_sound (token.Plain field ∷ token.Colon ∷ ts) below cs (Fielded sign other) w e = absurd (none-some _ e)
run_sound (token.Plain text ∷ ts) below cs pending w e =
    run_sound ts below (with_item cs pending (shape.Plain text)) Nothing w e
    ∙ push_item (before below) cs pending (shape.Plain text) ts
run_sound (token.Front text ∷ ts) below cs pending w e =
    run_sound ts below (with_item cs pending (shape.Front text)) Nothing w e
    ∙ push_item (before below) cs pending (shape.Front text) ts
run_sound (token.Phrase text ∷ ts) below cs pending w e =
    run_sound ts below (with_item cs pending (shape.Phrase text)) Nothing w e
    ∙ push_item (before below) cs pending (shape.Phrase text) ts
run_sound (token.Range low high ∷ ts) below cs pending w e =
    run_sound ts below (with_item cs pending (shape.Range low high)) Nothing w e
    ∙ push_item (before below) cs pending (shape.Range low high) ts
run_sound (token.Star ∷ token.Colon ∷ token.Star ∷ ts) below cs Nothing w e =
    run_sound ts below (with_clause cs (everything shape.Unsigned)) Nothing w e
    ∙ push_everything (before below) cs shape.Unsigned ts
run_sound (token.Star ∷ token.Colon ∷ token.Star ∷ ts) below cs (Signed sign) w e =
    run_sound ts below (with_clause cs (everything sign)) Nothing w e ∙ push_everything (before below) cs sign ts
run_sound (token.Open ∷ ts) below cs pending w e =
    run_sound ts (record { clauses = cs; pending = pending } ∷ below) [] Nothing w e
    ∙ push_open (before below) (flat cs) (pending_tokens pending) ts
run_sound (token.Close ∷ ts) (f ∷ below) ((c, Beside) ∷ cs) Nothing w e =
    run_sound ts below (with_item f.clauses f.pending (shape.Parens (written_after cs (one c)))) Nothing w e
    ∙ push_close (before below) f c cs ts
run_sound (_ ∷ ts) below cs pending w e = absurd (none-some _ e)

-- what is read is written so
pub parse_sound : (ts : List Token) (w : Written) → parse ts ≡ Some w → tokens w ≡ ts
parse_sound ts w e = run_sound ts [] [] Nothing w e

-- ---- a count of the open groups says whether there are clauses

abbrev may_end : Clauses → Bool
may_end ((c, Beside) ∷ cs) = true
may_end _ = false

abbrev stage_of : Pending → Stage
stage_of Nothing = Fresh
stage_of (Signed _) = AfterSign
stage_of (Fielded _ _) = AfterField

end_accepts : (below : List Frame) (cs : Clauses) (pending : Pending) → is_some (ended below cs pending)
    ≡ accepts [] (length below) (may_end cs) (stage_of pending)
unfolding accepts
end_accepts [] [] pending = refl
end_accepts [] ((c, Beside) ∷ cs) Nothing = refl
end_accepts [] ((c, Beside) ∷ cs) (Signed sign) = refl
end_accepts [] ((c, Beside) ∷ cs) (Fielded sign field) = refl
end_accepts [] ((c, shape.And) ∷ cs) pending = refl
end_accepts [] ((c, shape.Or) ∷ cs) pending = refl
end_accepts (f ∷ below) cs pending = refl

pub run_accepts : (ts : List Token) (below : List Frame) (cs : Clauses) (pending : Pending)
    → is_some (run ts below cs pending) ≡ accepts ts (length below) (may_end cs) (stage_of pending)
unfolding run accepts
run_accepts [] below cs pending = end_accepts below cs pending
run_accepts (token.And ∷ ts) below ((c, Beside) ∷ cs) Nothing = run_accepts ts below ((c, shape.And) ∷ cs) Nothing
run_accepts (token.Or ∷ ts) below ((c, Beside) ∷ cs) Nothing = run_accepts ts below ((c, shape.Or) ∷ cs) Nothing
run_accepts (token.Plus ∷ ts) below cs Nothing = run_accepts ts below cs (Signed shape.Plus)
run_accepts (token.Minus ∷ ts) below cs Nothing = run_accepts ts below cs (Signed shape.Minus)
run_accepts (token.Bang ∷ ts) below cs Nothing = run_accepts ts below cs (Signed shape.Bang)
run_accepts (token.Not ∷ ts) below cs Nothing = run_accepts ts below cs (Signed shape.Not)
run_accepts (token.Plain field ∷ token.Colon ∷ ts) below cs Nothing =
    run_accepts ts below cs (Fielded shape.Unsigned field)
run_accepts (token.Plain field ∷ token.Colon ∷ ts) below cs (Signed sign) = run_accepts ts below cs (Fielded sign field)
run_accepts (token.Plain field ∷ token.Colon ∷ ts) below cs (Fielded sign other) = refl
run_accepts (token.Plain text ∷ ts) below cs pending =
    run_accepts ts below (with_item cs pending (shape.Plain text)) Nothing
run_accepts (token.Front text ∷ ts) below cs pending =
    run_accepts ts below (with_item cs pending (shape.Front text)) Nothing
run_accepts (token.Phrase text ∷ ts) below cs pending =
    run_accepts ts below (with_item cs pending (shape.Phrase text)) Nothing
run_accepts (token.Range low high ∷ ts) below cs pending =
    run_accepts ts below (with_item cs pending (shape.Range low high)) Nothing
run_accepts (token.Star ∷ token.Colon ∷ token.Star ∷ ts) below cs Nothing =
    run_accepts ts below (with_clause cs (everything shape.Unsigned)) Nothing
run_accepts (token.Star ∷ token.Colon ∷ token.Star ∷ ts) below cs (Signed sign) =
    run_accepts ts below (with_clause cs (everything sign)) Nothing
run_accepts (token.Open ∷ ts) below cs pending =
    run_accepts ts (record { clauses = cs; pending = pending } ∷ below) [] Nothing
run_accepts (token.Close ∷ ts) (f ∷ below) ((c, Beside) ∷ cs) Nothing =
    run_accepts ts below (with_item f.clauses f.pending (shape.Parens (written_after cs (one c)))) Nothing
run_accepts (token.Close ∷ ts) [] cs pending = refl
run_accepts (_ ∷ ts) below cs pending = refl

-- ---- whether there are clauses

pub accepted : (ts : List Token) → is_some (parse ts) ≡ accepts ts zero false Fresh
accepted ts = run_accepts ts [] [] Nothing
