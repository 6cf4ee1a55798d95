-- What a text says, or why it is refused, from what the passes over it tell.
use Rattle.std.proofs.Common.{◌≡◌, ℕ, zero, ◌+◌, ◌<◌, ◌≤◌, ◌↔◌, Bool, true, false, not, List, length, map}
use Rattle.std.proofs.Common.{encode_utf8_all, flat_map, length-append, IsTrue, sym, ap, subst, ◌∙◌, arith}
use Rattle.std.specs.Str.{chars, IsUtf8}
use Rattle.std.proofs.lemmas.Str.{encodes-append, encodes-chars}
use Rattle.std.proofs.lemmas.Bool.{false≢true, not-true, not-false}
use Rattle.clip_grammar.specs.Reading.{HasNoFault, IsFault, IsTooBig, Says, Writes}
use Rattle.clip_grammar.specs.Shape.{Written, tokens, lacks_words, written_tree}
use Rattle.clip_grammar.specs.Steps.LeftOut.{leaves_out}
use Rattle.clip_grammar.specs.Steps.Parser.{accepts}
use Rattle.clip_grammar.specs.Tokens.{Token}
use Rattle.clip_grammar.specs.declared.fault.QueryFault.TheVariants.{Lexical, NoWords, TooBig}
use Rattle.clip_grammar.specs.declared.limits.TheConstants.{MOST_TEXT_BYTES}
use Rattle.clip_grammar.specs.declared.stage.Stage.TheVariants.{Fresh}
use Rattle.clip_grammar.specs.Lexemes.{spell}
use Rattle.clip_grammar.proofs.Lexing.{found_spells}
use Rattle.clip_grammar.proofs.Refusals as refusals
use Rattle.clip_syntax.specs.Steps.Lexing.{IsLexed}
use Rattle.clip_syntax.specs.Steps.TokenOf.{token_of}
use Rattle.clip_syntax.specs.declared.token.Token as code

-- the bytes of the rest are among those of the text
pub rest_fits : (text cs : List ℕ) (ts : List Token) (rest : List ℕ) → IsUtf8 text → cs ≡ chars text
    → IsLexed cs ts rest → length (encode_utf8_all rest) ≤ length text
rest_fits text cs ts rest utf8 e lexed =
    let all = subst (λ x. IsLexed x ts rest) e lexed in let front = flat_map spell all.0.lexemes in
    let whole = sym (encodes-append front rest) ∙ ap encode_utf8_all (found_spells all.0.lexemes (chars text) rest
    all.0.finds) ∙ encodes-chars text utf8 in
    omega (arith, sym (length-append (encode_utf8_all front) (encode_utf8_all rest)) ∙ ap length whole)

pub lexical_fault : (text cs : List ℕ) (ts : List Token) (rest : List ℕ) (at : ℕ) → IsUtf8 text
    → length text ≤ MOST_TEXT_BYTES → cs ≡ chars text → IsLexed cs ts rest → 0 < length rest
    → at + length (encode_utf8_all rest) ≡ length text → IsFault text (Lexical at)
lexical_fault text cs ts rest at utf8 short e lexed some place =
    let all = subst (λ x. IsLexed x ts rest) e lexed in
    refusals.lexical_fault text all.0.lexemes rest at utf8 short all.0.finds all.1 some place

pub says_lexed : (text cs : List ℕ) (ts : List Token) (rest : List ℕ) → length text ≤ MOST_TEXT_BYTES → cs ≡ chars text
    → IsLexed cs ts rest → length rest ≡ 0 → Says text ts
says_lexed text cs ts rest short e lexed none =
    let all = subst (λ x. IsLexed x ts rest) e lexed in
    subst (Says text) (sym all.0.says) (refusals.says_found text all.0.lexemes rest short all.0.finds none)

-- ---- what is known of the tokens, pass by pass

-- the tokens of the text are these clauses
pub record AreClauses (text : List ℕ) (ts : List Token) : Type 0 where
  pub written : Written
  pub spelled : tokens written ≡ ts
  pub writes : Writes text written

pub says_slice : (text : List ℕ) (items slice : List code.Token) → slice ≡ items → Says text (map token_of items)
    → Says text (map token_of slice)
says_slice text items slice e says = subst (λ x. Says text (map token_of x)) (sym e) says

-- no form is left out, and the tokens are clauses
pub clauses_found : (text : List ℕ) (items slice : List code.Token) → slice ≡ items → Says text (map token_of items)
    → (left : Bool) → left ≡ leaves_out false false (map token_of slice) → left ≡ false
    → (clauses : Bool) → clauses ≡ accepts (map token_of slice) zero false Fresh → clauses ≡ true
    → AreClauses text (map token_of slice)
clauses_found text items slice e says left is_left none clauses are_clauses all =
    let found = refusals.written_found (map token_of slice) (sym are_clauses ∙ all) in record {
      written = found.0;
      spelled = found.1;
      writes = refusals.writes_found text _ found.0 (says_slice text items slice e says) (sym is_left ∙ none) found.1;
    }

-- some item has no words, as the answer tells, or each has some
pub no_words : {text : List ℕ} {ts : List Token} (c : AreClauses text ts) (answer : Bool)
    → ((w : Written) → tokens w ≡ ts → answer ≡ not (lacks_words w)) → answer ≡ false → IsFault text NoWords
no_words c answer tells none = (c.written, c.writes, not-false _ (sym (tells c.written c.spelled) ∙ none))

pub has_words : {text : List ℕ} {ts : List Token} (c : AreClauses text ts) (answer : Bool)
    → ((w : Written) → tokens w ≡ ts → answer ≡ not (lacks_words w)) → answer ≡ true → lacks_words c.written ≡ false
has_words c answer tells some = not-true _ (sym (tells c.written c.spelled) ∙ some)

-- the tree is too big, as the answer tells, or the text has no fault
pub too_big : {text : List ℕ} {ts : List Token} (c : AreClauses text ts) → lacks_words c.written ≡ false
    → (answer : Bool) → ((w : Written) → tokens w ≡ ts → (IsTrue answer ↔ IsTooBig (written_tree w))) → answer ≡ true
    → IsFault text TooBig
too_big c worded answer tells big = (c.written, c.writes, ap not worded, (tells c.written c.spelled).0 big)

pub no_fault : {text : List ℕ} {ts : List Token} (c : AreClauses text ts) → IsUtf8 text → lacks_words c.written ≡ false
    → (answer : Bool) → ((w : Written) → tokens w ≡ ts → (IsTrue answer ↔ IsTooBig (written_tree w))) → answer ≡ false
    → HasNoFault text
no_fault {text = text} c utf8 worded answer tells small =
    refusals.no_fault text c.written utf8 c.writes worded
    (λ big. false≢true (sym small ∙ (tells c.written c.spelled).1 big))
