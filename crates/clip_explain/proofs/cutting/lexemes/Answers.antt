use Rattle.std.proofs.Common.{◌≡◌, ◌∙◌, rules}
use Rattle.std.proofs.lemmas.Result.{IfOk-weaker}
use Rattle.std.proofs.lemmas.Str.{chars_from_encodes}
use Rattle.std.specs.Str.{chars}
use Rattle.clip_explain.proofs.Lexing.{cut_up}
use Rattle.clip_explain.proofs.Standing.{cut_stands}
use Rattle.clip_explain.proofs.cutting.lexemes.Goals as goal

pub returns : goal.returns
returns c =
    let text = c.args.text.now in
    let letters : c.in_ok-chars.chars.items ≡ chars text = search (rules, chars_from_encodes) in
    let is = c.deref.ensures.value ∙ letters in
    record {
      cut = IfOk-weaker c.cut_lexemes.result _ _ (λ lexed h. cut_up text _ _ _ is h) c.cut_lexemes.ensures;
      apart = IfOk-weaker c.cut_lexemes.result _ _ (λ lexed h. cut_stands text _ _ c.utf8.text (cut_up text _ _ _ is h))
          c.cut_lexemes.ensures;
    }
