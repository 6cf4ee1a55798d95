use Rattle.clip_meaning.proofs.Occurrences.{part_from}
use Rattle.clip_meaning.proofs.index.Postings.from.Goals as goal

pub invariant_of-result : goal.invariant_of-result
invariant_of-result c =
    let part = part_from c.self.inside.words.now c.self.inside.occurrences.now c.split_at.result.1.now c.args.place
    c.split_at.ensures.back c.self.invariant.order c.self.invariant.leads in
    record {
      order = part.0;
      leads = part.1;
    }
