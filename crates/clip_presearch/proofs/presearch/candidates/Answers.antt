use Rattle.std.proofs.Common.{◌≡◌, ◌+◌, ◌<◌, List, ◌∷◌, ◌++◌, map, length, drop, sym, ap, subst, ◌∙◌, arith, Bor}
use Rattle.std.specs.Arc.{arc_value}
use Rattle.std.proofs.lemmas.List.{append_assoc, append-nil, drop_all, drop_more}
use Rattle.clip_extract.specs.Covering.{article_keys}
use Rattle.clip_model.specs.History.{Registered}
use Rattle.clip_indexed.specs.Segment.{IsRising, all_entries}
use Rattle.clip_match.specs.Candidates.{candidates_of, MissesNone, AreRegistered}
use Rattle.clip_match.specs.Steps.Positions.{live_with}
use Rattle.clip_match.proofs.Positions.{live_split}
use Rattle.clip_match.proofs.Whole.{misses_none, candidates_registered, candidates_rise}
use Rattle.clip_presearch.proofs.presearch.candidates.Goals as goal

pub loop-segment-preserved : goal.loop-segment-preserved
loop-segment-preserved c =
    let keys = article_keys c.args.article.now.fields in
    let h = c.args.view.now.history in
    let segments = c.segments-segment-items.result.now in
    let i = c.loop-segment.segment-index in
    let segment : List Registered = arc_value c.segment-item.result in
    let others : List Registered = all_entries (map arc_value (drop (i + 1) segments)) in
    let within : i < length segments = let l = c.loop-segment-test.true in omega arith in
    let parts : segment ++ others ≡ all_entries (map arc_value (drop i segments)) =
    ap (λ ss. all_entries (map arc_value ss)) (sym (drop_more segments i c.segment-item.result within
    ∙ ap (λ x. x ∷ drop (i + 1) segments) (sym c.segment-item.is))) in
    let found = map (λ (e : Bor Registered). e.now) c.loop-segment.found.items in
    ap (λ xs. xs ++ live_with h keys others)
    (c.in_ok-add_candidates.ensures
    ∙ ap (λ (es : List Registered). found ++ live_with h keys es) c.deref-in-loop-segment.ensures)
    ∙ append_assoc found (live_with h keys segment) (live_with h keys others)
    ∙ ap (λ xs. found ++ xs) (live_split h keys segment others)
    ∙ ap (λ es. found ++ live_with h keys es) parts
    ∙ c.loop-segment.invariant

pub returns : goal.returns
returns c =
    let found = map (λ (e : Bor Registered). e.now) c.loop-segment.found.items in
    let state = c.args.view.now in
    let article = c.args.article.now in
    let keys = article_keys article.fields in
    let segments = c.segments-segment-items.result.now in
    let whole = c.segments-segment-items.ensures.whole in
    let all : found ≡ candidates_of state article =
    sym (append-nil found)
    ∙ ap (λ xs. found ++ live_with state.history keys (all_entries (map arc_value xs)))
    (sym (drop_all c.loop-segment.segment-index segments c.loop-segment-test.false))
    ∙ c.loop-segment.invariant
    ∙ ap (λ xs. live_with state.history keys (all_entries xs)) c.segments-segment-items.ensures.segments in
    record {
      sharers = all;
      misses_none = subst (MissesNone state article) (sym all) (misses_none c.covering_law.ensures state article whole);
      registered = subst (AreRegistered state) (sym all) (candidates_registered state article whole);
      rising = subst IsRising (sym all) (candidates_rise state article whole);
    }
