use Rattle.std.specs.Prelude.{take}
use Rattle.clip_stream.specs.Device.{HandsOver}
use Rattle.clip_journal.specs.Kept.{says}
use Rattle.clip_keeping.specs.Printed.{text_of}
use Rattle.clip_keeping.proofs.printing.print_lines.Given as goal

-- the lines so far are with the writer, or gathered
abbrev pub invariant-loop-line : goal.invariant-loop-line
invariant-loop-line g l = HandsOver (g.W.Sink.taken l.fn.writer) (text_of (says (take l.line-index l.lines)))
    (g.W.Sink.taken l.writer) l.outbox
