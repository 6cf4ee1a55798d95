use Rattle.std.proofs.Common.{sym, ap, ◌∙◌}
use Rattle.std.specs.Prelude.{is_some}
use Rattle.clip_grammar.proofs.Refusals.{left_out_fault, structure_fault, reads_found}
use Rattle.clip_syntax.proofs.Refusing.{says_slice, clauses_found, no_words, has_words, too_big, no_fault}
use Rattle.clip_syntax.proofs.reader.read_query.Goals as goal

pub returns-then-has_left_out-clause-refused : goal.returns-then-has_left_out-clause-refused
returns-then-has_left_out-clause-refused c =
    let says = says_slice _ _ _ c.as_slice-tokens.ensures.value c.in_ok-tokens.ensures.says in
    left_out_fault _ _ says (sym c.has_left_out.ensures ∙ c.if-has_left_out.true)

pub returns-then-not-are_clauses-clause-refused : goal.returns-then-not-are_clauses-clause-refused
returns-then-not-are_clauses-clause-refused c =
    let says = says_slice _ _ _ c.as_slice-tokens.ensures.value c.in_ok-tokens.ensures.says in
    structure_fault _ _ says (sym c.has_left_out.ensures ∙ c.if-has_left_out.false) (sym c.are_clauses.ensures
    ∙ c.if-not-are_clauses.true)

pub returns-in_default-clause-refused : goal.returns-in_default-clause-refused
returns-in_default-clause-refused c =
    let clauses = clauses_found _ _ _ c.as_slice-tokens.ensures.value c.in_ok-tokens.ensures.says _
    c.has_left_out.ensures c.if-has_left_out.false _ c.are_clauses.ensures c.if-not-are_clauses.false in
    no_words clauses _ c.in_ok-words.ensures.lacking (ap is_some c.in_default.is)

pub returns-then-is_too_big-clause-refused : goal.returns-then-is_too_big-clause-refused
returns-then-is_too_big-clause-refused c =
    let clauses = clauses_found _ _ _ c.as_slice-tokens.ensures.value c.in_ok-tokens.ensures.says _
    c.has_left_out.ensures c.if-has_left_out.false _ c.are_clauses.ensures c.if-not-are_clauses.false in
    let worded = has_words clauses _ c.in_ok-words.ensures.lacking (ap is_some c.in-Some.is) in
    too_big clauses worded _ c.is_too_big.ensures c.if-is_too_big.true

pub returns-clause-read : goal.returns-clause-read
returns-clause-read c =
    let clauses = clauses_found _ _ _ c.as_slice-tokens.ensures.value c.in_ok-tokens.ensures.says _
    c.has_left_out.ensures c.if-has_left_out.false _ c.are_clauses.ensures c.if-not-are_clauses.false in
    reads_found _ clauses.written _ clauses.writes (c.in_ok-build.ensures clauses.written clauses.spelled)

pub returns-clause-kept : goal.returns-clause-kept
returns-clause-kept c =
    let clauses = clauses_found _ _ _ c.as_slice-tokens.ensures.value c.in_ok-tokens.ensures.says _
    c.has_left_out.ensures c.if-has_left_out.false _ c.are_clauses.ensures c.if-not-are_clauses.false in
    let worded = has_words clauses _ c.in_ok-words.ensures.lacking (ap is_some c.in-Some.is) in
    no_fault clauses c.utf8.text worded _ c.is_too_big.ensures c.if-is_too_big.false
