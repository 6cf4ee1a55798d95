use Rattle.std.proofs.Common.{refl, ap, rules, ◌∙◌}
use Rattle.clip_grammar.specs.Tree.{tree_of}
use Rattle.clip_near.specs.Near.{near_holds}
use Rattle.clip_engine.specs.Texts.{fields_of}
use Rattle.clip_engine.specs.declared.code.TheConstants.{QUERY}
use Rattle.clip_engine.proofs.Untold.{first_untold, second_untold, article_untold, places_untold}
use Rattle.clip_engine.proofs.pair.near_told.Goals as goal

pub returns-in_err-first-clause-why : goal.returns-in_err-first-clause-why
returns-in_err-first-clause-why c = search (rules, first_untold)

pub returns-in_err-second-clause-why : goal.returns-in_err-second-clause-why
returns-in_err-second-clause-why c = search (rules, second_untold)

pub returns-in_err-article-clause-why : goal.returns-in_err-article-clause-why
returns-in_err-article-clause-why c = search (rules, article_untold)

pub returns-clause-why : goal.returns-clause-why
returns-clause-why c =
    places_untold (fields_of c.args.fields.now) c.args.pair.now (tree_of c.in_ok-first.first)
    (tree_of c.in_ok-second.second) QUERY refl (record {
      reads_first = c.in_ok-first.ensures.ok;
      reads_second = c.in_ok-second.ensures.ok;
      places = c.in-Err.ensures.refused;
    })

pub returns-in-Ok-clause-ok : goal.returns-in-Ok-clause-ok
returns-in-Ok-clause-ok c = record {
  texts = (c.in_ok-first.ensures.kept.0, c.in_ok-second.ensures.kept.0, c.in_ok-article.ensures.kept.0);
  may_be = c.in_ok-article.ensures.kept.1;
  no_fault = (c.in_ok-first.ensures.kept.1, c.in_ok-second.ensures.kept.1);
  first = tree_of c.in_ok-first.first;
  second = tree_of c.in_ok-second.second;
  are_read = record {
    reads_first = c.in_ok-first.ensures.ok;
    reads_second = c.in_ok-second.ensures.ok;
    places = c.in-Ok.ensures.taken;
  };
  holds =
      c.in-Ok.ensures.near
      ∙ ap (near_holds (tree_of c.in_ok-first.first) (tree_of c.in_ok-second.second) c.args.pair.now.between
      c.args.pair.now.ordered) c.in_ok-article.ensures.ok;
}
