use Rattle.std.proofs.Common.{◌++◌, ◌∙◌, map, ap, drop, ◌+◌}
use Rattle.clip_explain.specs.Lexemes.{placed_of}
use Rattle.clip_remarks.specs.Rules.{rules}
use Rattle.clip_remarks.specs.Remarks.{told}
use Rattle.clip_remarks.proofs.Telling.{told_more}
use Rattle.clip_remarks.proofs.remark.push_remarks.Goals as goal

pub loop-rule-preserved : goal.loop-rule-preserved
loop-rule-preserved c =
    let ls = map placed_of c.args.lexemes.now in
    let k = c.loop-rule.rule-index in
    ap (λ xs. xs ++ told ls c.args.i c.start_at-at.result (drop (k + 1) rules)) c.in_ok-push_told.ensures
    ∙ told_more ls c.args.i c.start_at-at.result rules k _ c.loop-rule.remarks.items c.loop-rule-test.true
    ∙ c.loop-rule.invariant
