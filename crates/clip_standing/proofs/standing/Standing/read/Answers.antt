-- Answered here, so that a wrong body is refused at once.
use Rattle.std.proofs.Common.{rules, sym, subst, string_bytes, ◌∙◌}
use Rattle.clip_grammar.specs.Reading.{Reads, HasNoFault}
use Rattle.clip_grammar.specs.Tree.{tree_of}
use Rattle.clip_standing.specs.Steps.KeptReading.{KeptReading, kept_reading, read_as_kept}
use Rattle.clip_standing.proofs.standing.Standing.read.Goals as goal

pub fresh-requires : goal.fresh-requires
fresh-requires c =
    let tree = tree_of c.in_ok-query.query in
    subst (λ t. Reads t tree) (c.as_str-2.ensures.value ∙ sym c.in_ok-id.ensures.text) c.in_ok-query.ensures.read

pub invariant_of-result : goal.invariant_of-result
invariant_of-result c =
    let tree = tree_of c.in_ok-query.query in
    let read = subst (λ t. Reads t tree) c.as_str-2.ensures.value c.in_ok-query.ensures.read in
    (subst KeptReading (sym c.in_ok-id.ensures.text) (kept_reading (string_bytes c.args.text) tree read), tt)

pub invariant_of-result-2 : goal.invariant_of-result-2
invariant_of-result-2 c =
    let tree = tree_of c.in_ok-query.query in
    let is = c.as_str-2.ensures.value ∙ sym c.in_ok-id.ensures.text in
    record {
      id = search rules;
      kept = subst HasNoFault is c.in_ok-query.ensures.kept;
      reads = read_as_kept _ c.result-1.given.0 tree (subst (λ t. Reads t tree) is c.in_ok-query.ensures.read);
    }

pub returns-clause-standing : goal.returns-clause-standing
returns-clause-standing c =
    let tree = tree_of c.in_ok-query.query in
    let is = c.as_str-2.ensures.value ∙ sym c.in_ok-id.ensures.text in
    record {
      id = search rules;
      kept = subst HasNoFault is c.in_ok-query.ensures.kept;
      reads = read_as_kept _ c.result-1.given.0 tree (subst (λ t. Reads t tree) is c.in_ok-query.ensures.read);
    }

pub returns-in_err-query-clause-refused : goal.returns-in_err-query-clause-refused
returns-in_err-query-clause-refused c = rw (← c.as_str.ensures.value, ← c.as_str-2.ensures.value) (search rules)
