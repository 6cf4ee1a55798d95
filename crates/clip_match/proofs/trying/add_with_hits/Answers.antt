use Rattle.std.proofs.Common.{◌≡◌, ◌++◌, ◌∙◌, ◌∷◌, [], Some, All, arith, length, map, get_or}
use Rattle.std.proofs.Common.{sym, ap, subst}
use Rattle.std.specs.List.{slice_get}
use Rattle.std.specs.Option.{IfSome}
use Rattle.std.specs.Prelude.{is_some}
use Rattle.std.proofs.lemmas.Bool.{false≢true}
use Rattle.std.proofs.lemmas.List.{length-map}
use Rattle.std.proofs.lemmas.List.Elements.{All-append, All-cons, All-nil}
use Rattle.std.proofs.lemmas.Grind.{common_steps}
use Rattle.clip_meaning.specs.Hits.{hit_value, hits}
use Rattle.clip_model.specs.History.{Registered}
use Rattle.clip_segment.specs.Segment.{AskedValue}
use Rattle.clip_match.specs.declared.held.Held.{Held}
use Rattle.clip_match.specs.declared.held.HitPlaces.{HitPlaces}
use Rattle.clip_match.specs.Due.{StandAt}
use Rattle.clip_match.specs.Steps.Held.{HasItsHits}
use Rattle.clip_match.proofs.Places.{each_still, stand_last}
use Rattle.clip_match.proofs.Added.{added_without, entry_added}
use Rattle.clip_match.proofs.trying.add_with_hits.Goals as goal

pub loop-position-preserved : goal.loop-position-preserved
loop-position-preserved c =
    let es = c.args.reading.now.entries in
    let ps = c.args.positions.now in
    let i = c.loop-position.position-index in
    let p = get_or ps i 0 in
    let one : Held = c.with_hits.result in
    let now = c.loop-position.entries.held.items in
    let there : slice_get es p ≡ Some one.registered.now =
    sym c.in-Some.ensures.entry ∙ ap Some (sym c.with_hits.ensures.registered) in
    let article = c.args.reading.now.article in
    let all = map hit_value c.loop-position.entries.all_hits.items in
    let found = hits one.registered.now.standing.tree article.fields in
    let made : map hit_value c.add_hits.new.found.items ≡ all ++ found =
    subst (λ (a : AskedValue). (entry : Registered) → slice_get a.entries p ≡ Some entry
    → map hit_value c.add_hits.new.found.items ≡ all ++ hits entry.standing.tree a.article.fields) c.requires
    c.in_ok-add_hits.ensures one.registered.now there in
    let places : HitPlaces = record { start = c.len-start.result; end = c.len-end.result } in
    let start : places.start ≡ length all =
    omega (arith, c.len-start.ensures, length-map c.loop-position.entries.all_hits.items hit_value) in
    let end : places.end ≡ length (all ++ found) =
    omega (arith, c.len-end.ensures, length-map c.add_hits.new.found.items hit_value, ap length made) in
    record {
      entries =
          entry_added es ps i c.args.entries.now.held.items now c.push-in-loop-position.new.self.items one
          c.loop-position-test.true there c.in_ok-push-2.ensures.items c.loop-position.invariant.entries;
      hits =
          λ before.
          subst (All (HasItsHits c.args.hits article (map hit_value c.add_hits.new.found.items)))
          (sym c.in_ok-push-2.ensures.items)
          (subst (λ list. All (HasItsHits c.args.hits article list) (now ++ one ∷ [])) (sym made)
          (All-append (HasItsHits c.args.hits article (all ++ found)) now (one ∷ [])
          (each_still c.args.hits article all found now (c.loop-position.invariant.hits before))
          (All-cons (HasItsHits c.args.hits article (all ++ found)) one []
          (record {
            right = subst (λ o. IfSome o (StandAt (all ++ found) found)) (sym c.with_hits.ensures.hits)
                (stand_last all found places start end);
            there = λ _. ap is_some c.with_hits.ensures.hits;
          })
          (All-nil (HasItsHits c.args.hits article (all ++ found))))));
    }

pub loop-position-preserved-then-not-finds_more : goal.loop-position-preserved-then-not-finds_more
loop-position-preserved-then-not-finds_more c =
    let now = c.loop-position.entries.held.items in
    let after = c.push.new.self.items in
    record {
      entries =
          entry_added c.args.reading.now.entries c.args.positions.now c.loop-position.position-index
          c.args.entries.now.held.items now after c.in-Some.one c.loop-position-test.true (sym c.in-Some.ensures.entry)
          c.in_ok-push.ensures.items c.loop-position.invariant.entries;
      hits =
          λ before.
          added_without c.args.hits c.args.reading.now.article (map hit_value c.loop-position.entries.all_hits.items)
          now after c.in-Some.one c.in-Some.ensures.hits
          (λ at_once. false≢true (sym c.if-not-finds_more.true ∙ c.finds_more.ensures at_once))
          c.in_ok-push.ensures.items (c.loop-position.invariant.hits before);
    }

-- found by this tactic: they stand here so that no other is tried before it
pub returns-clause-entries : goal.returns-clause-entries
returns-clause-entries c = grind (arith, common_steps)

pub loop-position-preserved-in_default : goal.loop-position-preserved-in_default
loop-position-preserved-in_default c = grind (arith, common_steps)
