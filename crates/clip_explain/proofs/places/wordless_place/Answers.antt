use Rattle.std.proofs.Common.{◌≡◌, ◌∷◌, ◌∙◌, map, sym, ap, arith, Some, None, length, string_bytes}
use Rattle.std.proofs.lemmas.Bool.Decides.{nat_tests}
use Rattle.std.proofs.lemmas.Option.{none-some, same_Some}
use Rattle.clip_words.specs.Words.{words_of}
use Rattle.clip_grammar.specs.Steps.Parser.{begins_colon}
use Rattle.clip_syntax.specs.Steps.Items.{item_text}
use Rattle.clip_explain.specs.Lexemes.{placed_of}
use Rattle.clip_explain.specs.Places.{HasNoWords, tokens_in}
use Rattle.clip_explain.proofs.Placing.{search_start, search_more, search_here, search_end, no_words, some_words}
use Rattle.clip_explain.proofs.places.wordless_place.Goals as goal

pub loop-first-init : goal.loop-first-init
loop-first-init c = search_start HasNoWords _ _ _ tt

pub returns-then-is_empty : goal.returns-then-is_empty
returns-then-is_empty c =
    let first = placed_of c.in-Some.first.now in
    let later = map placed_of c.in-Some.later.now in
    let text = c.in-Some-item_text.text.now in
    let parts : map placed_of c.loop-first.rest.now ≡ first ∷ later = grind arith in
    let item : item_text first.token (begins_colon (tokens_in later)) ≡ Some text = grind arith in
    let none : length c.in_ok-words.field-0.items ≡ 0 = grind (arith, nat_tests) in
    search_here HasNoWords _ _ _ later first _ c.loop-first.invariant parts
    (text, item, no_words string_bytes _ (words_of text) c.in_ok-words.ensures none)

pub loop-first-preserved-else-is_empty : goal.loop-first-preserved-else-is_empty
loop-first-preserved-else-is_empty c =
    let first = placed_of c.in-Some.first.now in
    let later = map placed_of c.in-Some.later.now in
    let text = c.in-Some-item_text.text.now in
    let parts : map placed_of c.loop-first.rest.now ≡ first ∷ later = grind arith in
    let item : item_text first.token (begins_colon (tokens_in later)) ≡ Some text = grind arith in
    search_more HasNoWords _ _ _ _ later first _ c.loop-first.invariant parts
    (λ no.
    let same : text ≡ no.0 = same_Some _ _ (sym item ∙ no.1) in
    let none : length c.in_ok-words.field-0.items ≡ 0 =
    some_words string_bytes _ (words_of text) c.in_ok-words.ensures (ap words_of same ∙ no.2) in
    absurd (grind (arith, nat_tests)))
    tt

pub loop-first-preserved : goal.loop-first-preserved
loop-first-preserved c =
    let first = placed_of c.in-Some.first.now in
    let later = map placed_of c.in-Some.later.now in
    let parts : map placed_of c.loop-first.rest.now ≡ first ∷ later = grind arith in
    let item : item_text first.token (begins_colon (tokens_in later)) ≡ None = grind arith in
    search_more HasNoWords _ _ _ _ later first _ c.loop-first.invariant parts
    (λ no. none-some _ (sym item ∙ no.1)) tt

pub returns : goal.returns
returns c = search_end HasNoWords _ _ c.loop-first.rest.now _ c.loop-first.invariant c.in_default.ensures.cases
