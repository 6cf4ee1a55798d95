use Rattle.std.proofs.Common.{All, ◌∙◌, subst}
use Rattle.std.specs.Str.{IsUtf8}
use Rattle.clip_meaning.specs.Meaning.{begins_with}
use Rattle.clip_meaning.proofs.Fields.{Entry}
use Rattle.clip_meaning.proofs.Numbered.{words_pass}
use Rattle.clip_meaning.proofs.field.Field.has_front.Goals as goal

pub returns-clause-front : goal.returns-clause-front
returns-clause-front c =
    c.has_front.ensures ∙ words_pass (begins_with c.args.front.now) _ _ c.postings.ensures.words

pub returns-clause-texts : goal.returns-clause-texts
returns-clause-texts c = subst (λ (e : Entry). All IsUtf8 e.1) c.self.view_is c.utf8_law.ensures
