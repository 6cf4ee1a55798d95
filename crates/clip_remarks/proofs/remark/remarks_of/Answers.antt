use Rattle.std.proofs.Common.{◌++◌, ◌∙◌, map, ap, add-one}
use Rattle.clip_explain.specs.Lexemes.{placed_of}
use Rattle.clip_remarks.specs.Remarks.{remarks_at}
use Rattle.clip_remarks.proofs.remark.remarks_of.Goals as goal

pub loop-i-preserved : goal.loop-i-preserved
loop-i-preserved c =
    rw add-one
    (c.in_ok-push_remarks.ensures
    ∙ ap (λ xs. xs ++ remarks_at (map placed_of c.args.lexemes.now) c.loop-i.i) c.loop-i.invariant)
