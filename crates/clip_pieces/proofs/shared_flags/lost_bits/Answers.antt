use Rattle.clip_pieces.proofs.Lost.{lost_past, lost_test}
use Rattle.clip_pieces.proofs.shared_flags.lost_bits.Goals as goal

pub returns-clause-within : goal.returns-clause-within
returns-clause-within c place low = lost_test c.args.word c.args.other c.args.bit place c.ranges.other.fits low

pub returns-clause-past : goal.returns-clause-past
returns-clause-past c place past = lost_past c.args.word c.args.other c.args.bit place c.ranges.word.fits past
