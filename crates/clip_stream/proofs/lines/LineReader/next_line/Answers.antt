use Rattle.std.proofs.Common.{◌≡◌, ◌<◌, length, sym, ap, ◌∙◌, arith, rules, not, ◌==◌, refl, true≢false}
use Rattle.std.proofs.lemmas.Bool.Decides.{nat_tests}
use Rattle.clip_stream.proofs.Bytes.{cut_short}
use Rattle.clip_stream.proofs.Cuts.{after_line-no_feed, gathered_found, gathered_more, gathered_end, gathers_nothing}
use Rattle.clip_stream.proofs.Cuts.{reads_same, reads_kept, finds_none}
use Rattle.clip_stream.proofs.Faults.{on_err}
use Rattle.clip_stream.proofs.Fuel.{fuel_found, fuel_end, fuel_more, some_before}
use Rattle.clip_stream.proofs.lines.LineReader.next_line.Goals as goal

pub returns-then-branch-clause-line : goal.returns-then-branch-clause-line
returns-then-branch-clause-line g c =
    let t = c.in_ok-take_front.ensures in
    gathered_found c.args.self.now c.pieces.self c.take_front.new.self (g.R.Source.left c.args.reader.now)
    (g.R.Source.left c.pieces.reader) c.pieces.line.items c.take_front.new.line.items c.pieces.invariant.gathers
    (sym t.found ∙ c.if-branch.true) t.line t.rest t.end

-- proved by search alone: it stands here so that a wrong body is refused at once
pub returns-then-branch-clause-none : goal.returns-then-branch-clause-none
returns-then-branch-clause-none g c = search rules

pub returns-then-branch-clause-fuel : goal.returns-then-branch-clause-fuel
returns-then-branch-clause-fuel g c =
    λ _. fuel_found c.args.self.now c.pieces.self c.take_front.new.self (length c.pieces.line.items)
    c.pieces.invariant.fuel_left c.in_ok-take_front.ensures.reads c.in_ok-take_front.ensures.end
    c.in_ok-take_front.ensures.rest (sym c.in_ok-take_front.ensures.found ∙ c.if-branch.true)

pub refill-requires-clause-empty : goal.refill-requires-clause-empty
refill-requires-clause-empty g c = c.in_ok-take_front.ensures.rest
    ∙ after_line-no_feed c.pieces.self.pending (sym c.in_ok-take_front.ensures.found ∙ c.if-branch.false)

pub returns-then-not-branch-clause-line : goal.returns-then-not-branch-clause-line
returns-then-not-branch-clause-line g c =
    let m = rw c.if-not-branch.true at c.in_ok-refill.ensures.fuel in
    let none = sym c.in_ok-take_front.ensures.found ∙ c.if-branch.false in
    let left = g.R.Source.left in
    let found : not c.is_empty.result ≡ not (length c.take_front.new.line.items == 0) =
    ap not c.is_empty.ensures ∙ ap (λ n. not (n == 0)) c.take_front.new.line.ok.0 in
    let more = gathered_more c.args.self.now c.pieces.self c.refill.new.self (left c.args.reader.now)
    (left c.pieces.reader) (left c.refill.new.reader) c.pieces.line.items c.take_front.new.line.items
    c.pieces.invariant.gathers none c.in_ok-take_front.ensures.line c.in_ok-refill.ensures.bytes (λ _. (m.0, m.1))
    in
    gathered_end (not c.is_empty.result) c.args.self.now c.refill.new.self (left c.args.reader.now)
    (left c.refill.new.reader) c.take_front.new.line.items more found m.0 m.1

pub returns-in_err-take_front-clause-given : goal.returns-in_err-take_front-clause-given
returns-in_err-take_front-clause-given g c =
    let left = g.R.Source.left in
    on_err c.from_residual.result
    (reads_same c.args.self.now c.pieces.self c.take_front.new.self (left c.args.reader.now) (left c.pieces.reader)
    c.pieces.invariant.gathers.reads c.take_front.ensures.end)

pub returns-in_err-refill-clause-given : goal.returns-in_err-refill-clause-given
returns-in_err-refill-clause-given g c =
    let left = g.R.Source.left in
    let before = sym c.pieces.invariant.same_end
    ∙ (sym c.in_ok-take_front.ensures.end ∙ c.in_err-refill.ensures.open.0) in
    on_err c.from_residual-in_err-refill.result
    (reads_kept c.args.self.now c.pieces.self c.refill.new.self (left c.args.reader.now) (left c.pieces.reader)
    (left c.refill.new.reader) c.pieces.invariant.gathers.reads c.in_err-refill.ensures.kept before)

pub returns-in_err-refill-clause-unfound : goal.returns-in_err-refill-clause-unfound
returns-in_err-refill-clause-unfound g c =
    let left = g.R.Source.left in
    let before = sym c.pieces.invariant.same_end
    ∙ (sym c.in_ok-take_front.ensures.end ∙ c.in_err-refill.ensures.open.0) in
    λ _. finds_none c.args.self.now c.pieces.self c.refill.new.self (left c.args.reader.now) (left c.pieces.reader)
    (left c.refill.new.reader) c.pieces.line.items c.pieces.invariant.gathers c.in_err-refill.ensures.kept before
    (sym c.in_ok-take_front.ensures.found ∙ c.if-branch.false) c.in_err-refill.ensures.open.1

pub returns-then-not-branch-clause-fuel : goal.returns-then-not-branch-clause-fuel
returns-then-not-branch-clause-fuel g c =
    let m = rw c.if-not-branch.true at c.in_ok-refill.ensures.fuel in
    let none = sym c.in_ok-take_front.ensures.found ∙ c.if-branch.false in
    λ any.
    let some : 0 < length c.take_front.new.line.items =
    grind (arith, nat_tests, c.is_empty.ensures, c.take_front.new.line.ok.0, any) in
    fuel_end c.args.self.now c.pieces.self c.take_front.new.self c.refill.new.self (length c.pieces.line.items)
    (length c.take_front.new.line.items) c.pieces.invariant.fuel_left c.in_ok-take_front.ensures.reads m.2 m.0 m.1
    (some_before c.pieces.line.items c.take_front.new.line.items c.pieces.self.pending c.in_ok-take_front.ensures.line
    none) some

pub pieces-init : goal.pieces-init
pieces-init g c = record {
  budget = c.requires.budget;
  ended = c.requires.ended;
  kept = omega (arith, ap length c.clear.ensures.items);
  gathers = gathers_nothing c.args.self.now (g.R.Source.left c.args.reader.now) c.clear.new.self.items
      c.clear.ensures.items;
  fuel_left = omega (arith, ap length c.clear.ensures.items);
  untouched = λ e. e;
  met = c.requires.met;
  same_end = refl;
  failed = refl;
}

pub pieces-preserved : goal.pieces-preserved
pieces-preserved g c =
    let m = rw c.if-not-branch.false at c.in_ok-refill.ensures.fuel in
    let none = sym c.in_ok-take_front.ensures.found ∙ c.if-branch.false in
    let before = sym c.pieces.invariant.same_end ∙ (sym c.in_ok-take_front.ensures.end ∙ m.3) in
    let left = g.R.Source.left in
    record {
      budget = c.in_ok-refill.ensures.budget;
      ended = c.in_ok-refill.ensures.ended;
      kept = rw c.in_ok-take_front.ensures.line (cut_short _);
      gathers = gathered_more c.args.self.now c.pieces.self c.refill.new.self (left c.args.reader.now)
          (left c.pieces.reader) (left c.refill.new.reader) c.pieces.line.items c.take_front.new.line.items
          c.pieces.invariant.gathers none c.in_ok-take_front.ensures.line c.in_ok-refill.ensures.bytes
          (λ e. absurd (true≢false (sym e ∙ before)));
      fuel_left = fuel_more c.args.self.now c.pieces.self c.take_front.new.self c.refill.new.self
          (length c.pieces.line.items) (length c.take_front.new.line.items) c.pieces.invariant.fuel_left
          c.in_ok-take_front.ensures.reads
          c.in_ok-take_front.ensures.end m.0 m.1 m.2 m.3
          (some_before c.pieces.line.items c.take_front.new.line.items c.pieces.self.pending
          c.in_ok-take_front.ensures.line none);
      untouched = λ e. absurd (true≢false (sym (c.pieces.invariant.untouched e) ∙ none));
      met = c.in_ok-refill.ensures.met;
      same_end = m.2 ∙ sym before;
      failed = c.in_ok-refill.ensures.failed ∙ c.pieces.invariant.failed;
    }
