use Rattle.std.proofs.Common.{◌≡◌, ◌||◌, Bool, false, List, filter, map, get_or, length, sym, ap, ◌∙◌}
use Rattle.std.proofs.Common.{arith}
use Rattle.std.specs.List.{list_any}
use Rattle.std.proofs.lemmas.List.{length-append, length-map}
use Rattle.std.proofs.lemmas.Result.{on_ok_weaker}
use Rattle.clip_extract.specs.Covering.{article_keys}
use Rattle.clip_meaning.specs.Meaning.{holds}
use Rattle.clip_model.specs.History.{Registered}
use Rattle.clip_segment.specs.Segment.{heard_of}
use Rattle.clip_match.specs.declared.held.Held.{Held}
use Rattle.clip_match.specs.Steps.Positions.{entries_at, has_listener, live_with}
use Rattle.clip_match.proofs.Positions.{heard_at}
use Rattle.clip_match.proofs.trying.Room.try_segment.Goals as goal
use Rattle.clip_match.proofs.trying.Room.try_segment.Goals.{then-judged, else-judged}

pub returns-clause-heard : goal.returns-clause-heard
returns-clause-heard c =
    let entries = c.args.reading.now.entries in
    let fields = c.args.reading.now.article.fields in
    let here : List Registered = filter (λ r. holds r.standing.tree fields)
    (live_with c.args.view.now.history (article_keys fields) entries) in
    let heard : Bool = list_any has_listener here in
    let is : c.if-judged.judged ≡ (c.args.judged.now.is_heard || heard) =
    elim c.if-judged.branch [
      | then-judged w ↦ w.judged-is ∙ w.if-judged.true ∙ sym (ap (λ b. b || heard) w.if-judged.true)
      | else-judged w ↦
          w.judged-is ∙ w.is_one_heard-judged.ensures
          ∙ ap (λ ps. list_any (λ p. get_or (heard_of entries) p false) ps) w.deref.ensures.value
          ∙ heard_at entries c.judge_segment.new.self.holding.items
          ∙ ap (list_any has_listener) c.in_ok-judged.ensures.holding
          ∙ sym (ap (λ b. b || heard) w.if-judged.false)
    ] in
    on_ok_weaker c.add_held.result (λ _. is) c.add_held.ensures.entries

pub returns-clause-most : goal.returns-clause-most
returns-clause-most c =
    let few = c.in_ok-judged.ensures.most in
    on_ok_weaker c.add_held.result (λ _. omega (arith, few, c.in_ok-judged.ensures.asked)) c.add_held.ensures.entries

pub returns-clause-least : goal.returns-clause-least
returns-clause-least c =
    let many = c.in_ok-judged.ensures.least in
    let old = c.args.judged.now.entries.held.items in
    let new = c.add_held.new.entries.held.items in
    on_ok_weaker c.add_held.result
    (λ added. omega (
      arith,
      many,
      ap length added,
      length-map old (λ (h : Held). h.registered.now),
      length-map new (λ (h : Held). h.registered.now),
      length-append (map (λ (h : Held). h.registered.now) old)
          (entries_at c.args.reading.now.entries c.deref-2.result.now),
      ap (λ ps. length (entries_at c.args.reading.now.entries ps)) c.deref-2.ensures.value,
    )) c.add_held.ensures.entries
