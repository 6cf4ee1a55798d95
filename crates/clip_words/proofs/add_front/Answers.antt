use Rattle.std.proofs.Common.{◌≡◌, ◌+◌, ◌∷◌, [], ◌++◌, true, map, length, slice_range, string_bytes}
use Rattle.std.proofs.Common.{sym, ap, subst, ◌∙◌, OnOk}
use Rattle.std.proofs.lemmas.Str.{IsUtf8-string_bytes}
use Rattle.clip_words.specs.Steps.Fronts.{front_words, has_letters, IsLowered}
use Rattle.clip_words.specs.Steps.TextsView.{texts_in}
use Rattle.clip_words.specs.Words.{fold_of}
use Rattle.clip_words.proofs.Folding.{fold_of_ascii}
use Rattle.clip_words.proofs.Lowered.{lowered_bounds}
use Rattle.clip_words.proofs.Splits.{letters_ascii}
use Rattle.clip_words.proofs.add_front.Goals as goal

pub push_span-requires-clause-from : goal.push_span-requires-clause-from
push_span-requires-clause-from c =
    let all = string_bytes c.args.spans.now.all in
    let ascii = letters_ascii c.in-Word.word.now (subst (λ f. has_letters f ≡ true) c.in-Word.is c.requires.letters) in
    let inside = subst (IsLowered all c.args.at) c.in-Word.is c.requires.inside in
    (lowered_bounds all c.in-Word.word.now (c.args.at + c.in-Word.start) (IsUtf8-string_bytes c.args.spans.now.all)
    ascii inside.0 inside.1 inside.2).0

pub push_span-requires-clause-upto : goal.push_span-requires-clause-upto
push_span-requires-clause-upto c =
    let all = string_bytes c.args.spans.now.all in
    let ascii = letters_ascii c.in-Word.word.now (subst (λ f. has_letters f ≡ true) c.in-Word.is c.requires.letters) in
    let inside = subst (IsLowered all c.args.at) c.in-Word.is c.requires.inside in
    (lowered_bounds all c.in-Word.word.now (c.args.at + c.in-Word.start) (IsUtf8-string_bytes c.args.spans.now.all)
    ascii inside.0 inside.1 inside.2).1

pub returns-in-Word-clause-texts : goal.returns-in-Word-clause-texts
returns-in-Word-clause-texts c =
    let all = string_bytes c.args.spans.now.all in
    let word = c.in-Word.word.now in
    let ascii = letters_ascii word (subst (λ f. has_letters f ≡ true) c.in-Word.is c.requires.letters) in
    let inside = subst (IsLowered all c.args.at) c.in-Word.is c.requires.inside in
    let added : texts_in c.args.spans.now
    ++ slice_range all (c.args.at + c.in-Word.start) (c.args.at + c.in-Word.start + length word) ∷ []
    ≡ texts_in c.args.spans.now ++ map fold_of (front_words c.args.front) =
    ap (λ text. texts_in c.args.spans.now ++ text ∷ []) (inside.2 ∙ sym (fold_of_ascii word ascii))
    ∙ ap (λ f. texts_in c.args.spans.now ++ map fold_of (front_words f)) (sym c.in-Word.is) in
    subst (λ texts. OnOk c.push_span.result (texts_in c.push_span.new.self ≡ texts)) added c.push_span.ensures.texts
