use Rattle.clip_stream.proofs.LinesRead.{come_first}
use Rattle.clip_stream.proofs.lines.lines_read_come_first.Goals as goal

pub returns : goal.returns
returns c = come_first
