use Rattle.std.proofs.Common.{refl, ◌∙◌, arith}
use Rattle.clip_journal.proofs.Fronts.{whole_front}
use Rattle.clip_journal.proofs.journal.Journal.sync.Goals as goal

pub returns-clause-synced : goal.returns-clause-synced
returns-clause-synced g c =
    λ kept safe s. record {
      bytes = c.sync.ensures.seen ∙ s.bytes;
      counted = s.counted;
      accepted = s.accepted;
      live = s.live;
      place = s.place;
      link = s.link;
      is_open = refl;
      enough = omega arith;
      stop = λ left l. whole_front kept left s.counted (c.in_ok-sync.ensures.durable left l ∙ s.bytes);
    }
