use Rattle.std.proofs.Common.{◌≡◌, ◌+◌, ◌<◌, Bool, List, [], ◌∷◌, ◌++◌, ◌||◌, All, Some, filter, length, map, drop}
use Rattle.std.proofs.Common.{option_map, slice_get, refl, sym, ap, subst, ◌∙◌, arith}
use Rattle.std.specs.List.{list_any}
use Rattle.std.specs.Arc.{arc_value}
use Rattle.std.proofs.lemmas.List.{append_assoc, append-nil, drop_all, drop_more}
use Rattle.std.proofs.lemmas.List.Folds.{list_any-append}
use Rattle.std.proofs.lemmas.Option.{slice_get-map, slice_get_read}
use Rattle.clip_extract.specs.Covering.{article_keys}
use Rattle.clip_extract.specs.Extraction.{query_keys, second_keys}
use Rattle.clip_meaning.specs.Article.{ArticleValue}
use Rattle.clip_meaning.specs.Hits.{hit_value}
use Rattle.clip_meaning.specs.Meaning.{holds}
use Rattle.clip_model.specs.History.{Registered}
use Rattle.clip_segment.specs.Index.{positions_under}
use Rattle.clip_indexed.specs.Segment.{all_entries}
use Rattle.clip_segment.specs.Segment.{AskedValue, trees_of}
use Rattle.clip_match.specs.Candidates.{candidates_of, under_keys}
use Rattle.clip_match.specs.declared.held.Held.{Held}
use Rattle.clip_match.specs.Steps.Held.{HasItsHits}
use Rattle.clip_match.specs.Steps.Positions.{has_listener, live_with}
use Rattle.clip_match.proofs.Few.{counted_next, few_candidates}
use Rattle.clip_match.proofs.Positions.{held_split}
use Rattle.clip_match.proofs.Readings.{keys_split, nothing_under}
use Rattle.clip_match.proofs.Whole.{misses_none, candidates_registered, candidates_rise}
use Rattle.clip_match.proofs.trying.judge_candidates.Goals as goal
use Rattle.clip_match.proofs.trying.judge_candidates.Goals.{In_ok-reading}

pub try_segment-requires-clause-place : goal.try_segment-requires-clause-place
try_segment-requires-clause-place c =
    let segments = c.segments-segments.result.now in
    let i = c.loop-place.place in
    let within : i < length segments = let l = c.loop-place-test.true in omega arith in
    let entries : c.in_ok-reading.reading.entries ≡ arc_value c.index-segments-place.result =
    ap (λ (r : AskedValue). r.entries) c.in_ok-reading.ensures.reading ∙ c.deref.ensures in
    ap (λ (ss : List (List Registered)). slice_get ss i) (sym c.segments-segments.ensures.segments)
    ∙ slice_get-map arc_value segments i
    ∙ ap (option_map arc_value)
    (slice_get_read segments (length segments) i c.index-segments-place.result refl within c.index-segments-place.is)
    ∙ ap Some (sym entries)

-- the reading is of the segment's entries and the article
value : (c : In_ok-reading)
    → c.in_ok-reading.reading ≡ record {
      entries = arc_value c.index-segments-place.result;
      article =
          c.args.article.now;
    }
value c =
    c.in_ok-reading.ensures.reading
    ∙ ap (λ (es : List Registered). record { entries = es; article = c.in_ok-asking.asking }) c.deref.ensures
    ∙ ap (λ (article : ArticleValue).
    record { entries = arc_value c.index-segments-place.result; article = article }) c.in_ok-asking.ensures

-- the segment, and those behind it
parts : (c : In_ok-reading)
    → arc_value c.index-segments-place.result
    ++ all_entries (map arc_value (drop (c.loop-place.place + 1) c.segments-segments.result.now))
    ≡ all_entries (map arc_value (drop c.loop-place.place c.segments-segments.result.now))
parts c =
    let segments = c.segments-segments.result.now in
    let i = c.loop-place.place in
    let within : i < length segments = let l = c.loop-place-test.true in omega arith in
    ap (λ ss. all_entries (map arc_value ss)) (sym (drop_more segments i c.index-segments-place.result within
    ∙ ap (λ x. x ∷ drop (i + 1) segments) (sym c.index-segments-place.is)))

-- the candidates of the segment, as its reading sees them, are counted
asked : (c : In_ok-reading) → c.loop-place.judged.asked
    + length (live_with c.args.view.now.history (article_keys c.in_ok-reading.reading.article.fields)
    c.in_ok-reading.reading.entries)
    + length (live_with c.args.view.now.history (article_keys c.args.article.now.fields)
    (all_entries (map arc_value (drop (c.loop-place.place + 1) c.segments-segments.result.now))))
    ≡ length (live_with c.args.view.now.history (article_keys c.args.article.now.fields)
    (all_entries (map arc_value c.segments-segments.result.now)))
asked c =
    let h = c.args.view.now.history in
    let ks = article_keys c.args.article.now.fields in
    let segment : List Registered = arc_value c.index-segments-place.result in
    let here = length (live_with h (article_keys c.in_ok-reading.reading.article.fields)
    c.in_ok-reading.reading.entries) in
    counted_next h ks segment
    (all_entries (map arc_value (drop (c.loop-place.place + 1) c.segments-segments.result.now)))
    (all_entries (map arc_value (drop c.loop-place.place c.segments-segments.result.now)))
    c.loop-place.judged.asked here _ (parts c) c.loop-place.invariant.asked
    (ap (λ (r : AskedValue). length (live_with h (article_keys r.article.fields) r.entries)) (value c))

pub try_segment-requires-clause-few : goal.try_segment-requires-clause-few
try_segment-requires-clause-few c =
    let state = c.args.view.now in
    let ks = article_keys c.args.article.now.fields in
    let few = few_candidates state c.args.article.now c.segments-segments.ensures.whole
    c.segments-segments.ensures.legal in
    let all : length (live_with state.history ks (all_entries (map arc_value c.segments-segments.result.now)))
    ≡ length (candidates_of state c.args.article.now) =
    ap (λ ss. length (live_with state.history ks (all_entries ss))) c.segments-segments.ensures.segments in
    let sum = asked (goal.at.try_segment-requires-clause-few c).In_ok-reading in
    omega (arith, few, all, sum)

pub loop-place-preserved : goal.loop-place-preserved
loop-place-preserved c =
    let at = (goal.at.loop-place-preserved c).In_ok-reading in
    let fields = c.args.article.now.fields in
    let ks = article_keys fields in
    let h = c.args.view.now.history in
    let held : Registered → Bool = λ r. holds r.standing.tree fields in
    let segment : List Registered = arc_value c.index-segments-place.result in
    let others : List Registered =
    all_entries (map arc_value (drop (c.loop-place.place + 1) c.segments-segments.result.now)) in
    let found = map (λ (x : Held). x.registered.now) c.loop-place.judged.entries.held.items in
    let holding : map (λ (x : Held). x.registered.now) c.try_segment.new.judged.entries.held.items
    ≡ found ++ filter held (live_with h ks segment) =
    subst (λ (r : AskedValue). map (λ (x : Held). x.registered.now) c.try_segment.new.judged.entries.held.items
    ≡ found ++ filter (λ x. holds x.standing.tree r.article.fields)
    (live_with h (article_keys r.article.fields) r.entries))
    (value at) c.in_ok-try_segment.ensures.held in
    record {
      asked = let counted = c.in_ok-try_segment.ensures.asked in let sum = asked at in omega (arith, counted, sum);
      held =
          ap (λ xs. xs ++ filter held (live_with h ks others)) holding
          ∙ append_assoc found (filter held (live_with h ks segment)) (filter held (live_with h ks others))
          ∙ ap (λ xs. found ++ xs) (held_split held h ks segment others)
          ∙ ap (λ es. found ++ filter held (live_with h ks es)) (parts at)
          ∙ c.loop-place.invariant.held;
      hits =
          subst (λ (r : AskedValue).
          All (HasItsHits c.args.hits r.article (map hit_value c.loop-place.judged.entries.all_hits.items))
          c.loop-place.judged.entries.held.items
          → All (HasItsHits c.args.hits r.article (map hit_value c.try_segment.new.judged.entries.all_hits.items))
          c.try_segment.new.judged.entries.held.items)
          (value at) c.in_ok-try_segment.ensures.hits c.loop-place.invariant.hits;
      most = let more = c.in_ok-try_segment.ensures.most in
          let before = c.loop-place.invariant.most in omega (arith, more, before);
      least = let more = c.in_ok-try_segment.ensures.least in
          let before = c.loop-place.invariant.least in omega (arith, more, before);
      read =
          let first = c.of-in-loop-place.new.read in
          let by_keys = subst (λ (r : AskedValue). c.try_segment.new.self.read
          ≡ first + positions_under query_keys (article_keys r.article.fields) (trees_of r.entries))
          (value at)
          c.in_ok-try_segment.ensures.read in
          let by_second : first ≡ c.loop-place.room.read + positions_under second_keys ks (trees_of segment) =
          c.in_ok-reading.ensures.counted
          ∙ ap (λ (es : List Registered). c.loop-place.room.read
          + positions_under second_keys (article_keys c.in_ok-asking.asking.fields) (trees_of es)) c.deref.ensures
          ∙ ap (λ (article : ArticleValue). c.loop-place.room.read
          + positions_under second_keys (article_keys article.fields) (trees_of segment)) c.in_ok-asking.ensures in
          omega (
            arith,
            by_keys,
            by_second,
            keys_split ks segment others,
            ap (under_keys ks) (parts at),
            c.loop-place.invariant.read,
          );
      heard =
          subst (λ (r : AskedValue). c.try_segment.new.judged.is_heard
          ≡ (c.loop-place.judged.is_heard || list_any has_listener (filter (λ x. holds x.standing.tree r.article.fields)
          (live_with h (article_keys r.article.fields) r.entries))))
          (value at) c.in_ok-try_segment.ensures.heard
          ∙ ap (λ b. b || list_any has_listener (filter held (live_with h ks segment))) c.loop-place.invariant.heard
          ∙ sym (list_any-append has_listener found (filter held (live_with h ks segment)))
          ∙ ap (list_any has_listener) (sym holding);
    }

pub returns : goal.returns
returns c =
    let fields = c.args.article.now.fields in
    let ks = article_keys fields in
    let state = c.args.view.now in
    let held : Registered → Bool = λ r. holds r.standing.tree fields in
    let segments = c.segments-segments.result.now in
    let whole = c.segments-segments.ensures.whole in
    let i = c.loop-place.place in
    let none : all_entries (map arc_value (drop i segments)) ≡ [] =
    ap (λ ss. all_entries (map arc_value ss)) (drop_all i segments c.loop-place-test.false) in
    let all : live_with state.history ks (all_entries (map arc_value segments))
    ≡ candidates_of state c.args.article.now =
    ap (λ ss. live_with state.history ks (all_entries ss)) c.segments-segments.ensures.segments in
    let found = map (λ (h : Held). h.registered.now) c.loop-place.judged.entries.held.items in
    record {
      asked =
          let rest : length (live_with state.history ks (all_entries (map arc_value (drop i segments)))) ≡ 0 =
          ap (λ es. length (live_with state.history ks es)) none in
          let total = ap length all in
          let counted = c.loop-place.invariant.asked in
          omega (arith, rest, total, counted);
      held =
          sym (append-nil found) ∙ ap (λ es. found ++ filter held (live_with state.history ks es)) (sym none)
          ∙ c.loop-place.invariant.held ∙ ap (filter held) all;
      hits = c.loop-place.invariant.hits;
      heard = c.loop-place.invariant.heard;
      most =
          let rest : length (live_with state.history ks (all_entries (map arc_value (drop i segments)))) ≡ 0 =
          ap (λ es. length (live_with state.history ks es)) none in
          omega (
            arith,
            rest,
            ap length all,
            c.loop-place.invariant.asked,
            c.loop-place.invariant.most,
            c.judged.ensures,
          );
      least = omega (arith, c.loop-place.invariant.least, c.judged.ensures);
      read =
          omega (
            arith,
            ap (under_keys ks) none,
            nothing_under ks,
            ap (λ ss. under_keys ks (all_entries ss)) c.segments-segments.ensures.segments,
            c.loop-place.invariant.read,
            c.count.ensures,
          );
      misses_none = misses_none c.covering_law.ensures state c.args.article.now whole;
      registered = candidates_registered state c.args.article.now whole;
      rising = candidates_rise state c.args.article.now whole;
    }
