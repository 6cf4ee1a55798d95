use Rattle.clip_meaning.proofs.Occurrences.{part_before}
use Rattle.clip_meaning.proofs.index.Postings.before.Goals as goal

pub invariant_of-result : goal.invariant_of-result
invariant_of-result c =
    let part = part_before c.self.inside.words.now c.self.inside.occurrences.now c.split_at.result.0.now c.args.place
    c.split_at.ensures.front c.self.invariant.order c.self.invariant.leads in
    record {
      order = part.0;
      leads = part.1;
    }
