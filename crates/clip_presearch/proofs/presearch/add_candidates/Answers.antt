use Rattle.std.proofs.Common.{◌≡◌, ℕ, ◌<◌, ◌≤◌, [], ◌∷◌, ◌++◌, map, filter, length, get_or, sym, ap, ◌∙◌, arith, Bor}
use Rattle.std.specs.Arc.{arc_value}
use Rattle.std.specs.List.{slice_get}
use Rattle.std.proofs.lemmas.List.{map-append, append_assoc, take_all, length-map}
use Rattle.clip_extract.specs.Covering.{article_keys}
use Rattle.clip_model.specs.History.{Registered, is_live}
use Rattle.clip_segment.specs.Segment.{positions_sharing}
use Rattle.clip_match.specs.Steps.Positions.{placed_with}
use Rattle.clip_match.proofs.Positions.{entry_there, live_front, dead_next, live_next, live_positions}
use Rattle.clip_presearch.proofs.presearch.add_candidates.Goals as goal

pub unreachable-requires : goal.unreachable-requires
unreachable-requires c =
    let es = c.args.segment.now in
    let ks = article_keys c.args.article.now.fields in
    let i = c.loop-position.position-index in
    let same : c.args.positions.now ≡ positions_sharing ks es = c.requires in
    let lt : i < length (positions_sharing ks es) = omega (arith, ap length same, c.loop-position-test.true) in
    entry_there ks es i lt (sym (c.in_default.ensures ∙ ap (λ ps. slice_get es (get_or ps i 0)) same))

pub loop-position-preserved-then-not-is_live : goal.loop-position-preserved-then-not-is_live
loop-position-preserved-then-not-is_live c =
    let es = c.args.segment.now in
    let ks = article_keys c.args.article.now.fields in
    let h = c.args.view.now.history in
    let old = map (λ (e : Bor Registered). e.now) c.args.found.now.items in
    let same : c.args.positions.now ≡ positions_sharing ks es = c.requires in
    let dead = c.if-not-is_live.ensures ∙ ap (λ (r : Registered). is_live h r.seq) c.deref.ensures in
    c.loop-position.invariant
    ∙ ap (λ xs. old ++ xs) (dead_next h ks es _ c.loop-position.position-index _ same c.loop-position-test.true
    c.in-Some.ensures (sym dead))

pub loop-position-preserved : goal.loop-position-preserved
loop-position-preserved c =
    let es = c.args.segment.now in
    let ks = article_keys c.args.article.now.fields in
    let h = c.args.view.now.history in
    let i = c.loop-position.position-index in
    let old = map (λ (e : Bor Registered). e.now) c.args.found.now.items in
    let x = arc_value c.in-Some.entry.now in
    let same : c.args.positions.now ≡ positions_sharing ks es = c.requires in
    let alive = c.if-not-is_live.ensures ∙ ap (λ (r : Registered). is_live h r.seq) c.deref.ensures in
    ap (map (λ (e : Bor Registered). e.now)) c.in_ok-push.ensures.items
    ∙ map-append (λ (e : Bor Registered). e.now) c.loop-position.found.items _
    ∙ ap (λ xs. map (λ (e : Bor Registered). e.now) c.loop-position.found.items ++ xs ∷ [])
    c.deref-in-loop-position.ensures
    ∙ ap (λ xs. xs ++ x ∷ []) c.loop-position.invariant
    ∙ append_assoc old (live_front h ks es i) (x ∷ [])
    ∙ ap (λ xs. old ++ xs) (live_next h ks es _ i x same c.loop-position-test.true c.in-Some.ensures (sym alive))

pub returns : goal.returns
returns c =
    let es = c.args.segment.now in
    let ks = article_keys c.args.article.now.fields in
    let h = c.args.view.now.history in
    let i = c.loop-position.position-index in
    let old = map (λ (e : Bor Registered). e.now) c.args.found.now.items in
    let same : c.args.positions.now ≡ positions_sharing ks es = c.requires in
    let all : length (placed_with ks es) ≤ i =
    omega (
      arith,
      ap length same,
      c.loop-position-test.false,
      length-map (placed_with ks es) (λ (e : ℕ × Registered). e.0),
    ) in
    c.loop-position.invariant
    ∙ ap (λ ps. old ++ filter (λ r. is_live h r.seq) (map (λ (e : ℕ × Registered). e.1) ps))
    (take_all i (placed_with ks es) all)
    ∙ ap (λ xs. old ++ xs) (live_positions h ks es)
