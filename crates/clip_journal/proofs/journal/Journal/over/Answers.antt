use Rattle.std.proofs.Common.{length, drop, refl, sym, ap, ◌∙◌, arith}
use Rattle.std.proofs.lemmas.List.{length-take-le, length-drop}
use Rattle.clip_journal.specs.Entries.{link_behind, first_link}
use Rattle.clip_journal.specs.Kept.{says}
use Rattle.clip_journal.proofs.Whole.{length-says}
use Rattle.clip_journal.proofs.Fronts.{whole_front}
use Rattle.clip_journal.proofs.journal.Journal.over.Goals as goal

pub overflow_add-result : goal.overflow_add-result
overflow_add-result g c =
    let len = sym (length-says c.since.result.now) ∙ ap length c.since.ensures in
    omega (arith, len, c.args.found.now.counted)

pub returns : goal.returns
returns g c =
    let found = c.args.found.now in
    let len = sym (length-says c.since.result.now) ∙ ap length c.since.ensures in
    λ bytes only. record {
      bytes = bytes;
      counted = found.counted;
      accepted = omega (arith, len);
      live = sym (length-take-le found.live (drop 1 (says found.said.items))
          (omega (arith, found.within, length-says found.said.items, length-drop 1 (says found.said.items))));
      place = omega (arith, ap length found.whole, length-says found.said.items);
      link = found.linked ∙ ap (link_behind first_link 0) found.whole;
      is_open = refl;
      enough = omega arith;
      stop = λ left l. whole_front _ left found.counted (only left l ∙ bytes);
    }
