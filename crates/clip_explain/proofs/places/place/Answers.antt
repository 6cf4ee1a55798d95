use Rattle.std.proofs.Common.{sym, subst}
use Rattle.std.proofs.lemmas.Result.{IfOk-weaker}
use Rattle.clip_grammar.specs.Reading.{IsFault}
use Rattle.clip_grammar.specs.Shape.{tokens}
use Rattle.clip_explain.specs.Places.{IsPlace, IsLeftOut, IsOutOfPlace, HasNoWords}
use Rattle.clip_explain.proofs.Placing.{first_of_slice}
use Rattle.clip_explain.proofs.places.place.Goals as goal

pub returns-in_ok-lexed-in-LeftOut-clause-place : goal.returns-in_ok-lexed-in-LeftOut-clause-place
returns-in_ok-lexed-in-LeftOut-clause-place c =
    let text = c.args.text.now in
    let fault = subst (IsFault text) c.in-LeftOut.is c.requires.fault in
    let lexed = c.in_ok-lexed-in-LeftOut.lexed in
    let slice = c.deref.ensures.value in
    let found = first_of_slice IsLeftOut text fault.0 lexed.lexemes.items _ lexed.end _ slice c.utf8.text
    fault.1 c.in_ok-lexed-in-LeftOut.ensures.cut c.left_out_place.ensures in
    subst (λ f. IsPlace text f c.left_out_place.result) (sym c.in-LeftOut.is) found.0

pub returns-in_ok-lexed-in-LeftOut-clause-within : goal.returns-in_ok-lexed-in-LeftOut-clause-within
returns-in_ok-lexed-in-LeftOut-clause-within c =
    let text = c.args.text.now in
    let fault = subst (IsFault text) c.in-LeftOut.is c.requires.fault in
    let lexed = c.in_ok-lexed-in-LeftOut.lexed in
    let slice = c.deref.ensures.value in
    let found = first_of_slice IsLeftOut text fault.0 lexed.lexemes.items _ lexed.end _ slice c.utf8.text
    fault.1 c.in_ok-lexed-in-LeftOut.ensures.cut c.left_out_place.ensures in
    found.1

pub returns-in_ok-lexed-in-Structure-clause-place : goal.returns-in_ok-lexed-in-Structure-clause-place
returns-in_ok-lexed-in-Structure-clause-place c =
    let text = c.args.text.now in
    let fault = subst (IsFault text) c.in-Structure.is c.requires.fault in
    let lexed = c.in_ok-lexed-in-Structure.lexed in
    let slice = c.deref-in-Structure.ensures.value in
    let found = first_of_slice IsOutOfPlace text fault.0 lexed.lexemes.items _ lexed.end _ slice c.utf8.text
    fault.1 c.in_ok-lexed-in-Structure.ensures.cut c.structure_place.ensures in
    subst (λ f. IsPlace text f c.structure_place.result) (sym c.in-Structure.is) found.0

pub returns-in_ok-lexed-in-Structure-clause-within : goal.returns-in_ok-lexed-in-Structure-clause-within
returns-in_ok-lexed-in-Structure-clause-within c =
    let text = c.args.text.now in
    let fault = subst (IsFault text) c.in-Structure.is c.requires.fault in
    let lexed = c.in_ok-lexed-in-Structure.lexed in
    let slice = c.deref-in-Structure.ensures.value in
    let found = first_of_slice IsOutOfPlace text fault.0 lexed.lexemes.items _ lexed.end _ slice c.utf8.text
    fault.1 c.in_ok-lexed-in-Structure.ensures.cut c.structure_place.ensures in
    found.1

pub returns-in_ok-lexed-in-NoWords-clause-place : goal.returns-in_ok-lexed-in-NoWords-clause-place
returns-in_ok-lexed-in-NoWords-clause-place c =
    let text = c.args.text.now in
    let fault = subst (IsFault text) c.in-NoWords.is c.requires.fault in
    let lexed = c.in_ok-lexed-in-NoWords.lexed in
    IfOk-weaker c.wordless_place.result _ _ (λ at first.
    let found = first_of_slice HasNoWords text (tokens fault.0) lexed.lexemes.items _ lexed.end at
    c.deref-in-NoWords.ensures.value c.utf8.text fault.1.says c.in_ok-lexed-in-NoWords.ensures.cut first in
    subst (λ f. IsPlace text f at) (sym c.in-NoWords.is) found.0) c.wordless_place.ensures

pub returns-in_ok-lexed-in-NoWords-clause-within : goal.returns-in_ok-lexed-in-NoWords-clause-within
returns-in_ok-lexed-in-NoWords-clause-within c =
    let text = c.args.text.now in
    let fault = subst (IsFault text) c.in-NoWords.is c.requires.fault in
    let lexed = c.in_ok-lexed-in-NoWords.lexed in
    IfOk-weaker c.wordless_place.result _ _ (λ at first.
    let found = first_of_slice HasNoWords text (tokens fault.0) lexed.lexemes.items _ lexed.end at
    c.deref-in-NoWords.ensures.value c.utf8.text fault.1.says c.in_ok-lexed-in-NoWords.ensures.cut first in
    found.1) c.wordless_place.ensures
