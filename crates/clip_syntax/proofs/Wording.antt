-- The words of a query's items, and the items that have none.
use Rattle.std.proofs.Common.{◌≡◌, ℕ, Bool, true, false, ◌||◌, List, [], ◌∷◌, ◌++◌, map, Option, Some, None, refl, sym}
use Rattle.std.proofs.Common.{ap, ◌∙◌, append_assoc, append-nil, length, arith}
use Rattle.std.proofs.Math.Bool.{or_assoc, or-false}
use Rattle.std.specs.Option.{option_to_list}
use Rattle.std.specs.List.{list_any}
use Rattle.clip_words.specs.Words.{words_of}
use Rattle.clip_grammar.specs.Tokens as token
use Rattle.clip_grammar.specs.Tokens.{Token}
use Rattle.clip_grammar.specs.Steps.Parser.{begins_colon}
use Rattle.clip_grammar.specs.Shape as shape
use Rattle.clip_grammar.specs.Shape.{Sign, Joint, Beside, joint_tokens, Written, one, more, WrittenClause, item}
use Rattle.clip_grammar.specs.Shape.{everything, Item, tokens, clause_tokens, item_tokens, sign_tokens, field_tokens}
use Rattle.clip_grammar.specs.Shape.{is_empty, lacks_words, clause_lacks_words, item_lacks_words}
use Rattle.clip_grammar.proofs.Parsing.{joined, joined_parts, joined_no_colon}
use Rattle.clip_syntax.specs.Steps.TokenOf.{token_of}
use Rattle.clip_syntax.specs.declared.token.Token as code
use Rattle.clip_syntax.specs.Steps.Items.{item_text, item_texts, items_words}

-- some item of the tokens has no words
abbrev pub lacks : List Token → Bool
lacks ts = list_any is_empty (items_words ts)

lacks_sign : (sign : Sign) (ts : List Token) → lacks (sign_tokens sign ++ ts) ≡ lacks ts
lacks_sign shape.Unsigned ts = refl
lacks_sign shape.Plus ts = refl
lacks_sign shape.Minus ts = refl
lacks_sign shape.Bang ts = refl
lacks_sign shape.Not ts = refl

lacks_joint : (joint : Joint) (ts : List Token) → lacks (joint_tokens joint ++ ts) ≡ lacks ts
lacks_joint Beside ts = refl
lacks_joint shape.And ts = refl
lacks_joint shape.Or ts = refl

lacks_field : (field : Option (List ℕ)) (ts : List Token) → lacks (field_tokens field ++ ts) ≡ lacks ts
lacks_field None ts = refl
lacks_field (Some field) ts = refl

mutual
  lacks_from : (w : Written) (ts : List Token) → begins_colon ts ≡ false
      → lacks (tokens w ++ ts) ≡ (lacks_words w || lacks ts)
  lacks_from (one c) ts h = lacks_clause c ts h
  lacks_from (more c joint cs) ts h =
      ap lacks (joined_parts c joint cs ts)
      ∙ lacks_clause c (joined joint cs ts) (joined_no_colon joint cs ts)
      ∙ ap (λ b. clause_lacks_words c || b) (lacks_joint joint (tokens cs ++ ts) ∙ lacks_from cs ts h)
      ∙ sym (or_assoc (clause_lacks_words c) (lacks_words cs) (lacks ts))

  lacks_clause : (c : WrittenClause) (ts : List Token) → begins_colon ts ≡ false → lacks (clause_tokens c ++ ts)
      ≡ (clause_lacks_words c || lacks ts)
  lacks_clause (item sign field i) ts h =
      ap lacks (append_assoc (sign_tokens sign ++ field_tokens field) (item_tokens i) ts
      ∙ append_assoc (sign_tokens sign) (field_tokens field) (item_tokens i ++ ts))
      ∙ lacks_sign sign (field_tokens field ++ (item_tokens i ++ ts))
      ∙ lacks_field field (item_tokens i ++ ts)
      ∙ lacks_item i ts h
  lacks_clause (everything sign) ts h =
      ap lacks (append_assoc (sign_tokens sign) (token.Star ∷ token.Colon ∷ token.Star ∷ []) ts)
      ∙ lacks_sign sign (token.Star ∷ token.Colon ∷ token.Star ∷ ts)

  lacks_item : (i : Item) (ts : List Token) → begins_colon ts ≡ false → lacks (item_tokens i ++ ts)
      ≡ (item_lacks_words i || lacks ts)
  lacks_item (shape.Plain text) ts h =
      ap (λ b. list_any is_empty (map words_of (option_to_list (item_text (token.Plain text) b) ++ item_texts ts))) h
  lacks_item (shape.Front text) ts h = refl
  lacks_item (shape.Phrase text) ts h = refl
  lacks_item (shape.Range low high) ts h = refl
  lacks_item (shape.Parens w) ts h =
      ap lacks (append_assoc (tokens w) (token.Close ∷ []) ts) ∙ lacks_from w (token.Close ∷ ts) refl

-- the items of what is written
pub lacks_written : (w : Written) (ts : List Token) → tokens w ≡ ts → lacks ts ≡ lacks_words w
lacks_written w ts e = ap lacks (sym e ∙ sym (append-nil (tokens w))) ∙ lacks_from w [] refl ∙ or-false (lacks_words w)

-- ---- step by step

pub lacks_none : (ts : List code.Token) → length ts ≡ 0 → lacks (map token_of ts) ≡ false
lacks_none [] e = refl
lacks_none (t ∷ ts) e = absurd (omega arith)

-- the first token is an item with no words
pub lacks_here : {A : Type 0} (ts us : List Token) (t : Token) (text : List ℕ) (f : A → List ℕ) (words : List A)
    → ts ≡ t ∷ us → item_text t (begins_colon us) ≡ Some text → map f words ≡ words_of text → length words ≡ 0
    → lacks ts ≡ true
lacks_here ts us t text f [] parts found cut none =
    ap lacks parts
    ∙ ap (λ x. list_any is_empty (map words_of (option_to_list x ++ item_texts us))) found
    ∙ ap (λ x. is_empty x || lacks us) (sym cut)
lacks_here ts us t text f (w ∷ words) parts found cut none = absurd (omega arith)
