use Rattle.std.proofs.Common.{◌≡◌, ◌∙◌, ◌<◌, length, arith, rules, map}
use Rattle.std.proofs.lemmas.Bool.Decides.{nat_tests}
use Rattle.std.proofs.lemmas.Str.{chars_from_encodes}
use Rattle.std.specs.Str.{chars}
use Rattle.clip_syntax.specs.Steps.TokenOf.{token_of}
use Rattle.clip_syntax.proofs.Refusing.{rest_fits, lexical_fault, says_lexed}
use Rattle.clip_syntax.proofs.reader.tokens_of.Goals as goal
use Rattle.clip_syntax.proofs.reader.tokens_of.Goals.{In_ok-chars}

-- the characters are those of the text
letters : (c : In_ok-chars) → c.in_ok-chars.chars.items ≡ chars c.args.text.now
letters c = search (rules, chars_from_encodes)

pub byte_len-requires : goal.byte_len-requires
byte_len-requires c =
    let fits = rest_fits c.args.text.now _ (map token_of c.in_ok-tokens.tokens.items) c.in_ok-tokens.rest.now
    c.utf8.text (c.deref.ensures.value ∙ letters (goal.at.byte_len-requires c).In_ok-chars) c.in_ok-tokens.ensures
    in
    omega (arith, fits)

pub overflow_sub-place : goal.overflow_sub-place
overflow_sub-place c =
    let fits = rest_fits c.args.text.now _ (map token_of c.in_ok-tokens.tokens.items) c.in_ok-tokens.rest.now
    c.utf8.text (c.deref.ensures.value ∙ letters (goal.at.overflow_sub-place c).In_ok-chars) c.in_ok-tokens.ensures
    in
    omega (arith, fits)

pub returns-then-not-is_empty-clause-refused : goal.returns-then-not-is_empty-clause-refused
returns-then-not-is_empty-clause-refused c =
    let fits = rest_fits c.args.text.now _ (map token_of c.in_ok-tokens.tokens.items) c.in_ok-tokens.rest.now
    c.utf8.text (c.deref.ensures.value ∙ letters (goal.at.returns-then-not-is_empty-clause-refused c).In_ok-chars)
    c.in_ok-tokens.ensures in
    let some : 0 < length c.in_ok-tokens.rest.now = grind (arith, nat_tests) in
    lexical_fault c.args.text.now _ (map token_of c.in_ok-tokens.tokens.items) c.in_ok-tokens.rest.now _ c.utf8.text
    (omega arith) (c.deref.ensures.value
    ∙ letters (goal.at.returns-then-not-is_empty-clause-refused c).In_ok-chars) c.in_ok-tokens.ensures some
    (omega (arith, fits))

pub returns-clause-says : goal.returns-clause-says
returns-clause-says c =
    let none : length c.in_ok-tokens.rest.now ≡ 0 = grind (arith, nat_tests) in
    says_lexed c.args.text.now _ (map token_of c.in_ok-tokens.tokens.items) c.in_ok-tokens.rest.now (omega arith)
    (c.deref.ensures.value ∙ letters (goal.at.returns-clause-says c).In_ok-chars) c.in_ok-tokens.ensures none
