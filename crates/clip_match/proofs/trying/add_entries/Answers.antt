use Rattle.std.proofs.Common.{◌≡◌, sym, arith}
use Rattle.std.proofs.lemmas.Grind.{common_steps}
use Rattle.clip_match.specs.declared.held.HitsFound.TheVariants.{AtOnce, WhenAsked}
use Rattle.clip_match.proofs.Added.{added_without, entry_added}
use Rattle.clip_match.proofs.trying.add_entries.Goals as goal

asked_apart : WhenAsked ≡ AtOnce → ⊥
asked_apart h = cc

pub loop-position-preserved : goal.loop-position-preserved
loop-position-preserved c =
    let now = c.loop-position.held.items in
    let after = c.push.new.self.items in
    record {
      entries =
          entry_added c.args.reading.now.entries c.args.positions.now c.loop-position.position-index
          c.args.held.now.items now after c.in-Some.one c.loop-position-test.true (sym c.in-Some.ensures.entry)
          c.in_ok-push.ensures.items c.loop-position.invariant.entries;
      hits =
          λ all before.
          added_without WhenAsked c.args.reading.now.article all now after c.in-Some.one c.in-Some.ensures.hits
          asked_apart c.in_ok-push.ensures.items (c.loop-position.invariant.hits all before);
    }

-- found by this tactic: they stand here so that no other is tried before it
pub returns-clause-entries : goal.returns-clause-entries
returns-clause-entries c = grind (arith, common_steps)

pub loop-position-preserved-in_default : goal.loop-position-preserved-in_default
loop-position-preserved-in_default c = grind (arith, common_steps)
