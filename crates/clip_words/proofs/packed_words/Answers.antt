use Rattle.std.proofs.Common.{◌≡◌, ◌∙◌, length, arith, rules, tests, string_bytes}
use Rattle.std.proofs.lemmas.Bool.Decides.{nat_tests}
use Rattle.clip_words.specs.Steps.TextsView.{texts_in}
use Rattle.clip_words.specs.Words.{words_of}
use Rattle.clip_words.proofs.Lowered.{lowered}
use Rattle.clip_words.proofs.Splits.{all_added}
use Rattle.clip_words.proofs.packed_words.Goals as goal

pub add_front-requires-clause-inside : goal.add_front-requires-clause-inside
add_front-requires-clause-inside c =
    lowered c.args.text.now c.loop-rest.rest.now (string_bytes c.loop-rest.spans.all) c.split_front.result.0
    c.loop-rest.invariant.4 c.loop-rest.invariant.3 c.split_front.ensures.inside

pub returns : goal.returns
returns c =
    let none : length c.loop-rest.rest.now ≡ 0 = first_of (grind (arith, nat_tests), search (rules, tests)) in
    c.of.ensures ∙ all_added (texts_in c.loop-rest.spans) (words_of c.args.text.now) c.loop-rest.rest.now
    c.loop-rest.invariant.0 none
