-- A text has one fault, or one tree.
use Rattle.std.proofs.Common.{◌≡◌, ◌≢◌, ℕ, ◌<◌, Bool, true, false, not, ◌&&◌, nat_lt, List, [], length, refl, sym, ap}
use Rattle.std.proofs.Common.{subst, ◌∙◌, arith, append-nil, IsTrue}
use Rattle.std.specs.Str.{chars, IsUtf8}
use Rattle.std.proofs.lemmas.Str.{encodes-chars}
use Rattle.std.proofs.lemmas.Bool.Decides.{nat_tests}
use Rattle.std.proofs.lemmas.Bool.{false≢true}
use Rattle.clip_grammar.specs.Tokens.{Token, tokens_of}
use Rattle.clip_grammar.specs.Shape.{Written, tokens, lacks_words}
use Rattle.clip_grammar.specs.Reading.{IsStuck, IsLeftOut, IsFault, Says, Writes}
use Rattle.clip_grammar.specs.Laws.{OneFault}
use Rattle.clip_grammar.specs.declared.fault.QueryFault.{QueryFault}
use Rattle.clip_grammar.specs.declared.fault.QueryFault.TheVariants.{TooLong, Lexical, LeftOut, Structure, NoWords}
use Rattle.clip_grammar.specs.declared.fault.QueryFault.TheVariants.{TooBig, NoMemory}
use Rattle.clip_grammar.proofs.Lexing.{one_lexing}
use Rattle.clip_grammar.proofs.Parsing.{one_written}

-- ---- what a text says is one

pub says_once : (text : List ℕ) (ts us : List Token) → Says text ts → Says text us → ts ≡ us
says_once text ts us a b = a.says ∙ ap tokens_of (one_lexing (chars text) a.lexemes b.lexemes a.lexes b.lexes)
    ∙ sym b.says

pub writes_once : (text : List ℕ) (v w : Written) → Writes text v → Writes text w → v ≡ w
writes_once text v w a b = one_written v w (says_once text (tokens v) (tokens w) a.says b.says)

-- a text that is spelled whole stops nowhere before its end
pub stuck_unsaid : (text : List ℕ) (at : ℕ) (ts : List Token) → IsUtf8 text → at < length text → IsStuck text at
    → Says text ts → ⊥
stuck_unsaid text at ts utf8 within stuck says =
    let reached = stuck.furthest (chars text) [] says.lexemes (append-nil (chars text)) says.lexes in
    absurd (omega (arith, ap length (encodes-chars text utf8)))

stuck_once : (text : List ℕ) (at by : ℕ) → IsStuck text at → IsStuck text by → at ≡ by
stuck_once text at by a b =
    let first = a.furthest b.front b.rest b.lexemes b.parts b.lexes in
    let second = b.furthest a.front a.rest a.lexemes a.parts a.lexes in
    omega (arith, a.place, b.place)

left_unkept : (text : List ℕ) (ts us : List Token) → Says text ts → IsLeftOut ts → Says text us → ¬ (IsLeftOut us) → ⊥
left_unkept text ts us a left b kept = kept (subst IsLeftOut (says_once text ts us a b) left)

words_unlike : (text : List ℕ) (v w : Written) → Writes text v → IsTrue (lacks_words v) → Writes text w
    → IsTrue (not (lacks_words w)) → ⊥
words_unlike text v w a lacks b has =
    let bad : false ≡ true = sym (ap not lacks) ∙ ap (λ x. not (lacks_words x)) (writes_once text v w a b) ∙ has in cc

-- ---- no text has two faults

-- the order of the refusals
abbrev rank : QueryFault → ℕ
rank NoMemory = 0
rank TooLong = 1
rank (Lexical at) = 2
rank LeftOut = 3
rank Structure = 4
rank NoWords = 5
rank TooBig = 6

abbrev comes_before : QueryFault → QueryFault → Bool
comes_before f g = nat_lt 0 (rank f) && nat_lt (rank f) (rank g)

-- no refusal comes after the last
last_rank : (g : QueryFault) → comes_before TooBig g ≡ true → ⊥
last_rank TooLong h = absurd (false≢true h)
last_rank (Lexical at) h = absurd (false≢true h)
last_rank LeftOut h = absurd (false≢true h)
last_rank Structure h = absurd (false≢true h)
last_rank NoWords h = absurd (false≢true h)
last_rank TooBig h = absurd (false≢true h)
last_rank NoMemory h = absurd (false≢true h)

clash : (text : List ℕ) (f g : QueryFault) → IsUtf8 text → comes_before f g ≡ true → IsFault text f → IsFault text g → ⊥
clash text TooLong (Lexical at) utf8 h a b = absurd (omega (arith, b.0))
clash text TooLong LeftOut utf8 h a b = absurd (omega (arith, b.1.short))
clash text TooLong Structure utf8 h a b = absurd (omega (arith, b.1.short))
clash text TooLong NoWords utf8 h a b = absurd (omega (arith, b.1.says.short))
clash text TooLong TooBig utf8 h a b = absurd (omega (arith, b.1.says.short))
clash text (Lexical at) LeftOut utf8 h a b = stuck_unsaid text at b.0 utf8 a.1 a.2 b.1
clash text (Lexical at) Structure utf8 h a b = stuck_unsaid text at b.0 utf8 a.1 a.2 b.1
clash text (Lexical at) NoWords utf8 h a b = stuck_unsaid text at (tokens b.0) utf8 a.1 a.2 b.1.says
clash text (Lexical at) TooBig utf8 h a b = stuck_unsaid text at (tokens b.0) utf8 a.1 a.2 b.1.says
clash text LeftOut Structure utf8 h a b = left_unkept text a.0 b.0 a.1 a.2 b.1 b.2
clash text LeftOut NoWords utf8 h a b = left_unkept text a.0 (tokens b.0) a.1 a.2 b.1.says b.1.kept
clash text LeftOut TooBig utf8 h a b = left_unkept text a.0 (tokens b.0) a.1 a.2 b.1.says b.1.kept
clash text Structure NoWords utf8 h a b = a.3 b.0 (says_once text (tokens b.0) a.0 b.1.says a.1)
clash text Structure TooBig utf8 h a b = a.3 b.0 (says_once text (tokens b.0) a.0 b.1.says a.1)
clash text NoWords TooBig utf8 h a b = words_unlike text a.0 b.0 a.1 a.2 b.1 b.2
clash text TooBig g utf8 h a b = last_rank g h
clash text f g utf8 h a b = absurd (false≢true h)

same_rank : (text : List ℕ) (f g : QueryFault) → rank f ≡ rank g → IsFault text f → IsFault text g → f ≡ g
same_rank text NoMemory NoMemory e a b = refl
same_rank text TooLong TooLong e a b = refl
same_rank text (Lexical at) (Lexical by) e a b = ap Lexical (stuck_once text at by a.2 b.2)
same_rank text LeftOut LeftOut e a b = refl
same_rank text Structure Structure e a b = refl
same_rank text NoWords NoWords e a b = refl
same_rank text TooBig TooBig e a b = refl
same_rank text f g e a b = absurd (omega arith)

some_rank : (f : QueryFault) → f ≢ NoMemory → 0 < rank f
some_rank NoMemory h = absurd (h refl)
some_rank f h = omega arith

pub one_fault : OneFault
one_fault text f g utf8 hf hg a b =
    let pf = some_rank f hf in
    let pg = some_rank g hg in
    at (nat_lt (rank f) (rank g)) refl (nat_lt (rank g) (rank f)) refl
  where
    earlier : (f g : QueryFault) → 0 < rank f → nat_lt (rank f) (rank g) ≡ true → comes_before f g ≡ true
    earlier f g p h = grind (arith, nat_tests)

    at : (s : Bool) → nat_lt (rank f) (rank g) ≡ s → (t : Bool) → nat_lt (rank g) (rank f) ≡ t → f ≡ g
    at true e t k = absurd (clash text f g utf8 (earlier f g (some_rank f hf) e) a b)
    at false e true k = absurd (clash text g f utf8 (earlier g f (some_rank g hg) k) b a)
    at false e false k = same_rank text f g (grind (arith, nat_tests)) a b
