use Rattle.std.proofs.Common.{◌-◌, ◌∙◌, arith}
use Rattle.clip_stream.proofs.Bytes.{cut_extended}
use Rattle.clip_stream.proofs.lines.extend_cut.Goals as goal

pub returns : goal.returns
returns c = λ short. c.in_ok-extend_from_slice.ensures.items ∙
    cut_extended c.args.line.now.items c.args.bytes.now c.saturating_sub-room.result c.min-more.result short
    (omega arith) (omega arith)
