use Rattle.std.proofs.Common.{List, ℕ, sym, subst, arith}
use Rattle.clip_journal.specs.Kept.{says}
use Rattle.clip_journal.proofs.Whole.{IsRead, read_none, read_more, read_shorter, says_push, length-says}
use Rattle.clip_journal.proofs.reading.whole_entries.Goals as goal

pub entries-init : goal.entries-init
entries-init c = read_none c.args.bytes.now c.new-said.result.items c.new-said.ensures.items

pub entries-smaller : goal.entries-smaller
entries-smaller c = read_shorter _ _ c.entries.rest.now c.in-Ok.found.0.now c.in-Ok.found.2.now c.in-Ok.ensures.entry

pub entries-preserved : goal.entries-preserved
entries-preserved c =
    let said = says c.entries.said.items in
    let one = c.in-Ok.found.0.now in
    let more = says_push c.entries.said.items c.push.new.self.items _ one c.in_ok-push.ensures.items
    c.in_ok-from_slice.ensures.items in
    let read = read_more c.args.bytes.now said c.entries.link c.entries.rest.now one c.in-Ok.found.1
    c.in-Ok.found.2.now _ c.entries.invariant (omega (arith, length-says c.entries.said.items))
    c.in-Ok.ensures.entry c.in-Ok.ensures.link in
    subst (λ (s : List (List ℕ)). IsRead c.args.bytes.now s c.in-Ok.found.1 c.in-Ok.found.2.now) (sym more) read
