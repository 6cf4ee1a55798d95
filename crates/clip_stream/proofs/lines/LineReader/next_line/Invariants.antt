use Rattle.std.proofs.Common.{◌≡◌, ◌+◌, ◌≤◌, min, length, true}
use Rattle.std.specs.Io.KnownBytes.{IsAtEnd}
use Rattle.clip_stream.specs.declared.limits.TheConstants.{MOST_READS}
use Rattle.clip_stream.specs.Steps.Reading.{fuel, has_feed, Gathers}
use Rattle.clip_stream.proofs.lines.LineReader.next_line.Given as goal

abbrev pub invariant-pieces : goal.invariant-pieces
invariant-pieces g l = record {
  budget : g.R.Source.reads l.reader + l.self.reads_left ≡ MOST_READS;
  ended : l.self.is_at_end ≡ true → IsAtEnd (g.R.Source.left l.reader);
  kept : length l.line.items ≤ 1048577;
  gathers : Gathers l.initial.self l.self (g.R.Source.left l.initial.reader) (g.R.Source.left l.reader) l.line.items;
  fuel_left : fuel l.self + min 1 (length l.line.items) ≤ fuel l.initial.self;
  untouched : has_feed l.initial.self.pending ≡ true → has_feed l.self.pending ≡ true;
  met : g.R.Source.met_end l.reader ≡ l.self.is_at_end;
  same_end : l.self.is_at_end ≡ l.initial.self.is_at_end;
  failed : g.R.Source.has_failed l.reader ≡ g.R.Source.has_failed l.initial.reader;
}

abbrev pub decreases-pieces : goal.decreases-pieces
decreases-pieces g l = l.self.reads_left
