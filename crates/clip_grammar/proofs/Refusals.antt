-- Which refusal holds of a text, or that none does; and that it is read or refused.
use Rattle.std.proofs.Common.{◌≡◌, ℕ, zero, suc, ◌+◌, ◌<◌, ◌≤◌, ◌⊎◌, inl, inr, Bool, true, false, not, nat_lt, List, []}
use Rattle.std.proofs.Common.{◌∷◌, Option, Some, None, length, flat_map, refl, sym, ap, subst, ◌∙◌, arith}
use Rattle.std.proofs.Common.{length-append, encode_utf8_all}
use Rattle.std.specs.Prelude.{is_some}
use Rattle.std.specs.Str.{chars, IsUtf8}
use Rattle.std.proofs.lemmas.Str.{encodes-append, encodes-chars, length-le-encodes}
use Rattle.std.proofs.lemmas.Bool.{false≢true}
use Rattle.std.proofs.lemmas.Bool.Decides.{nat_tests}
use Rattle.clip_grammar.specs.Lexemes.{Lexeme, Blank, Word, Quoted, Range, Sign, Foreign, spell, spell_piece}
use Rattle.clip_grammar.specs.Lexemes.{spell_pieces, is_lexeme}
use Rattle.clip_grammar.specs.Steps.Lexer.{lexeme_at, Finds}
use Rattle.clip_grammar.specs.Tokens.{Token, tokens_of}
use Rattle.clip_grammar.specs.Shape.{Written, tokens, written_tree, lacks_words}
use Rattle.clip_grammar.specs.Steps.Parser.{parse, accepts}
use Rattle.clip_grammar.specs.Steps.LeftOut.{leaves_out}
use Rattle.clip_grammar.specs.Tree.{Tree, nodes, depth}
use Rattle.clip_grammar.specs.Reading.{IsLeftOut, IsTooBig, IsFault, HasNoFault, Reads, Says, Writes}
use Rattle.clip_grammar.specs.declared.limits.TheConstants.{MOST_TEXT_BYTES, MOST_NODES, MOST_OPEN}
use Rattle.clip_grammar.specs.Laws.{IsRead, IsRefused, ReadsApart, ReadsOrFaults}
use Rattle.clip_grammar.specs.declared.stage.Stage.TheVariants.{Fresh}
use Rattle.clip_grammar.specs.declared.fault.QueryFault.TheVariants.{TooLong, Lexical, LeftOut, Structure, NoWords}
use Rattle.clip_grammar.specs.declared.fault.QueryFault.TheVariants.{TooBig, NoMemory}
use Rattle.clip_grammar.proofs.Pieces.{spelled, if_some_at}
use Rattle.clip_grammar.proofs.Fronts.{LexemeFound, lexeme_found}
use Rattle.clip_grammar.proofs.Lexing.{stuck, found_spells, lexed}
use Rattle.clip_grammar.proofs.Parsing.{parse_again, parse_sound, accepted}
use Rattle.clip_grammar.proofs.Leaving.{left_out_found, found_left_out}
use Rattle.clip_grammar.proofs.Faults.{says_once, writes_once, stuck_unsaid}

-- ---- the lexemes

-- the bytes of a front and of the rest are those of the text
whole_bytes : (text : List ℕ) (ls : List Lexeme) (rest : List ℕ) → IsUtf8 text → Finds (chars text) ls rest
    → length (encode_utf8_all (flat_map spell ls)) + length (encode_utf8_all rest) ≡ length text
whole_bytes text ls rest utf8 finds =
    let front = flat_map spell ls in
    let whole = sym (encodes-append front rest) ∙ ap encode_utf8_all (found_spells ls (chars text) rest finds)
    ∙ encodes-chars text utf8 in
    sym (length-append (encode_utf8_all front) (encode_utf8_all rest)) ∙ ap length whole

-- the lexer stops before the end
pub lexical_fault : (text : List ℕ) (ls : List Lexeme) (rest : List ℕ) (at : ℕ) → IsUtf8 text
    → length text ≤ MOST_TEXT_BYTES → Finds (chars text) ls rest → lexeme_at rest ≡ None → 0 < length rest
    → at + length (encode_utf8_all rest) ≡ length text → IsFault text (Lexical at)
lexical_fault text ls rest at utf8 short finds end some place =
    let whole = whole_bytes text ls rest utf8 finds in
    let is : at ≡ length (encode_utf8_all (flat_map spell ls)) = omega arith in
    (short, omega (arith, length-le-encodes rest), stuck text ls rest at finds end is)

-- the lexer reaches the end
pub says_found : (text : List ℕ) (ls : List Lexeme) (rest : List ℕ) → length text ≤ MOST_TEXT_BYTES
    → Finds (chars text) ls rest → length rest ≡ 0 → Says text (tokens_of ls)
says_found text ls [] short finds end =
    record { short = short; lexemes = ls; lexes = lexed (chars text) ls finds; says = refl }
says_found text ls (c ∷ cs) short finds end = absurd (omega arith)

-- ---- the clauses

pub kept_tokens : (ts : List Token) → leaves_out false false ts ≡ false → ¬ (IsLeftOut ts)
kept_tokens ts h left = false≢true (sym h ∙ found_left_out ts left)

pub left_out_fault : (text : List ℕ) (ts : List Token) → Says text ts → leaves_out false false ts ≡ true
    → IsFault text LeftOut
left_out_fault text ts says h = (ts, says, left_out_found ts h)

unparsed : {A : Type 0} (r : Option A) → is_some r ≡ false → (x : A) → r ≡ Some x → ⊥
unparsed None h x e = cc
unparsed (Some y) h x e = false≢true (sym h)

pub structure_fault : (text : List ℕ) (ts : List Token) → Says text ts → leaves_out false false ts ≡ false
    → accepts ts zero false Fresh ≡ false → IsFault text Structure
structure_fault text ts says kept h = (
  ts,
  says,
  kept_tokens ts kept,
  λ written e. unparsed (parse ts) (accepted ts ∙ h) written (ap parse (sym e)
      ∙ parse_again written),
)

parsed : {A : Type 0} (r : Option A) → is_some r ≡ true → (x : A) × (r ≡ Some x)
parsed None h = absurd (false≢true h)
parsed (Some x) h = (x, refl)

-- the clauses that tokens are
pub written_found : (ts : List Token) → accepts ts zero false Fresh ≡ true → (written : Written) × (tokens written ≡ ts)
written_found ts h =
    let found = parsed (parse ts) (accepted ts ∙ h) in
    (found.0, parse_sound ts found.0 found.1)

pub writes_found : (text : List ℕ) (ts : List Token) (written : Written) → Says text ts
    → leaves_out false false ts ≡ false → tokens written ≡ ts → Writes text written
writes_found text ts written says kept e =
    record {
      says = subst (Says text) (sym e) says;
      kept =
          subst (λ us. ¬ (IsLeftOut us)) (sym e) (kept_tokens ts kept);
    }

-- ---- what is read

pub reads_found : (text : List ℕ) (written : Written) (tree : Tree) → Writes text written → tree ≡ written_tree written
    → Reads text tree
reads_found text written tree writes e =
    record {
      lexemes = writes.says.lexemes;
      written = written;
      lexes = writes.says.lexes;
      shape =
          writes.says.says;
      is_tree = e;
    }

-- a text that is written with words and is not too big has no fault
pub no_fault : (text : List ℕ) (written : Written) → IsUtf8 text → Writes text written → lacks_words written ≡ false
    → ¬ (IsTooBig (written_tree written)) → HasNoFault text
no_fault text written utf8 writes words small TooLong h fault = absurd (omega (arith, writes.says.short))
no_fault text written utf8 writes words small (Lexical at) h fault =
    stuck_unsaid text at (tokens written) utf8 fault.1 fault.2 writes.says
no_fault text written utf8 writes words small LeftOut h fault =
    writes.kept (subst IsLeftOut (says_once text fault.0 (tokens written) fault.1 writes.says) fault.2)
no_fault text written utf8 writes words small Structure h fault =
    fault.3 written (says_once text (tokens written) fault.0 writes.says fault.1)
no_fault text written utf8 writes words small NoWords h fault =
    false≢true (sym words ∙ ap lacks_words (writes_once text written fault.0 writes fault.1) ∙ fault.2)
no_fault text written utf8 writes words small TooBig h fault =
    small (subst (λ w. IsTooBig (written_tree w)) (writes_once text fault.0 written fault.1 writes) fault.3)
no_fault text written utf8 writes words small NoMemory h fault = h refl

-- ---- each text is read or refused

spelled_some : (l : Lexeme) → is_lexeme l ≡ true → 0 < length (spell l)
spelled_some (Blank c) ok = omega arith
spelled_some (Word []) ok = cc
spelled_some (Word (p ∷ ps)) ok = omega (arith, spelled p, length-append (spell_piece p) (spell_pieces ps))
spelled_some (Quoted ps) ok = omega arith
spelled_some (Range left a low b c high d right) ok = omega arith
spelled_some (Sign c) ok = omega arith
spelled_some (Foreign c) ok = omega arith

-- each lexeme takes some of the text
pub lexeme_shorter : (cs : List ℕ) (l : Lexeme) (rest : List ℕ) → lexeme_at cs ≡ Some (l, rest)
    → length rest < length cs
lexeme_shorter cs l rest e =
    let is = if_some_at (LexemeFound cs) e (lexeme_found cs) in
    omega (arith, spelled_some l is.is, ap length is.parts, length-append (spell l) rest)

-- what the lexer finds, up to where no lexeme begins
record Stops (cs : List ℕ) : Type 0 where
  pub lexemes : List Lexeme
  pub rest : List ℕ
  pub finds : Finds cs lexemes rest
  pub end : lexeme_at rest ≡ None

stops : (n : ℕ) (cs : List ℕ) → length cs ≤ n → Stops cs
unfolding lexeme_at
stops zero [] h = record { lexemes = []; rest = []; finds = refl; end = refl }
stops zero (c ∷ cs) h = absurd (omega arith)
stops (suc n) cs h = at (lexeme_at cs) refl (λ rest k. stops n rest k)
  where
    at : (r : Option (Lexeme × List ℕ)) → lexeme_at cs ≡ r → ((rest : List ℕ) → length rest ≤ n → Stops rest) → Stops cs
    at None e more = record { lexemes = []; rest = cs; finds = refl; end = e }
    at (Some (l, rest)) e more =
        let shorter = lexeme_shorter cs l rest e in
        let others = more rest (omega arith) in
        record { lexemes = l ∷ others.lexemes; rest = others.rest; finds = (rest, e, others.finds); end = others.end }

too_big : (tree : Tree) → IsTooBig tree ⊎ (¬ (IsTooBig tree))
too_big tree = at (nat_lt MOST_NODES (nodes tree)) refl (nat_lt (MOST_OPEN + 1) (depth tree)) refl
  where
    at : (a : Bool) → nat_lt MOST_NODES (nodes tree) ≡ a → (b : Bool) → nat_lt (MOST_OPEN + 1) (depth tree) ≡ b
        → IsTooBig tree ⊎ (¬ (IsTooBig tree))
    at true h b k = inl (inl (grind (arith, nat_tests)))
    at false h true k = inl (inr (grind (arith, nat_tests)))
    at false h false k = inr small
      where
        small : ¬ (IsTooBig tree)
        small (inl n) = absurd (grind (arith, nat_tests))
        small (inr n) = absurd (grind (arith, nat_tests))

judged : (text : List ℕ) (ts : List Token) → IsUtf8 text → Says text ts → IsRead text ⊎ IsRefused text
judged text ts utf8 says = kept (leaves_out false false ts) refl
  where
    sized : (written : Written) → Writes text written → lacks_words written ≡ false → IsTooBig (written_tree written)
        ⊎ (¬ (IsTooBig (written_tree written))) → IsRead text ⊎ IsRefused text
    sized written writes has (inl big) = inr (TooBig, λ e. cc, (written, writes, ap not has, big))
    sized written writes has (inr small) =
        inl (
          written_tree written,
          reads_found text written (written_tree written) writes refl,
          no_fault text written utf8 writes has small,
        )

    worded : (written : Written) → Writes text written → (b : Bool) → lacks_words written ≡ b → IsRead text
        ⊎ IsRefused text
    worded written writes true h = inr (NoWords, λ e. cc, (written, writes, h))
    worded written writes false h = sized written writes h (too_big (written_tree written))

    shaped : leaves_out false false ts ≡ false → (b : Bool) → accepts ts zero false Fresh ≡ b → IsRead text
        ⊎ IsRefused text
    shaped kept false h = inr (Structure, λ e. cc, structure_fault text ts says kept h)
    shaped kept true h =
        let written = written_found ts h in
        worded written.0 (writes_found text ts written.0 says kept written.1) (lacks_words written.0) refl

    kept : (b : Bool) → leaves_out false false ts ≡ b → IsRead text ⊎ IsRefused text
    kept true h = inr (LeftOut, λ e. cc, left_out_fault text ts says h)
    kept false h = shaped h (accepts ts zero false Fresh) refl

pub reads_or_faults : ReadsOrFaults
reads_or_faults text utf8 = short (nat_lt MOST_TEXT_BYTES (length text)) refl
  where
    whole : length text ≤ MOST_TEXT_BYTES → (s : Stops (chars text)) → (rest : List ℕ) → s.rest ≡ rest → IsRead text
        ⊎ IsRefused text
    whole short s [] e = judged text (tokens_of s.lexemes) utf8
        (says_found text s.lexemes s.rest short s.finds (ap length e))
    whole short s (c ∷ cs) e =
        let some : 0 < length s.rest = omega (arith, ap length e) in
        let fits = whole_bytes text s.lexemes s.rest utf8 s.finds in
        inr (
          Lexical (length (encode_utf8_all (flat_map spell s.lexemes))),
          λ e. cc,
          lexical_fault text s.lexemes s.rest _ utf8 short s.finds s.end some fits,
        )

    short : (b : Bool) → nat_lt MOST_TEXT_BYTES (length text) ≡ b → IsRead text ⊎ IsRefused text
    short true h = let long : MOST_TEXT_BYTES < length text = grind (arith, nat_tests) in inr (TooLong, λ e. cc, long)
    short false h =
        let fits : length text ≤ MOST_TEXT_BYTES = grind (arith, nat_tests) in
        let s = stops (length (chars text)) (chars text) (omega arith) in
        whole fits s s.rest refl

pub reads_apart : ReadsApart
reads_apart text read refused = read.2 refused.0 refused.1 refused.2
