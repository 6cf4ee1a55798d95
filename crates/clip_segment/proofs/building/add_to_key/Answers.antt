use Rattle.std.proofs.Common.{◌∙◌, [], ℕ, List, set, get_or, ap, arith}
use Rattle.clip_extract.specs.Keys.{key_of}
use Rattle.clip_terms.proofs.NumberedKeys.{term_of_number}
use Rattle.clip_segment.specs.Steps.Ends.{once_more}
use Rattle.clip_segment.proofs.Ended.{key_once}
use Rattle.clip_segment.proofs.building.add_to_key.Goals as goal

pub add_to_list-requires : goal.add_to_list-requires
add_to_list-requires c =
    omega (
      arith,
      c.requires.long,
      (term_of_number c.args.terms.now (key_of c.args.key.now) c.number_of.result c.number_of.ensures).1,
    )

pub returns-clause-added : goal.returns-clause-added
returns-clause-added c = λ before under fresh start.
    let n = c.number_of.result in
    let key = key_of c.args.key.now in
    c.in_ok-add_to_list.ensures
    ∙ ap (λ (xs : List (List ℕ)). set xs n (once_more (get_or xs n []) c.args.position)) start
    ∙ key_once key c.args.position under before c.args.terms.now n c.requires.rising c.number_of.ensures (fresh key)
