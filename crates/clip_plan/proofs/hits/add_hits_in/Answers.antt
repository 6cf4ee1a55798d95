use Rattle.std.proofs.Common.{◌≡◌, ◌∙◌, ◌||◌, ◌++◌, ◌<◌, ℕ, [], List, ap, sym, arith, false, get_or, length, map}
use Rattle.std.proofs.Common.{replicate, append-nil}
use Rattle.std.specs.Prelude.{unwrap_or, slice_get}
use Rattle.std.specs.Arc.{arc_str_bytes}
use Rattle.std.proofs.lemmas.List.{get_or-replicate, length-replicate}
use Rattle.clip_grammar.specs.Tree.{Tree}
use Rattle.clip_meaning.specs.Hits.{hit_value, hits_in, is_named}
use Rattle.clip_meaning.specs.Steps.Marks.{is_up, raised}
use Rattle.clip_meaning.proofs.Marks.{raised_hits}
use Rattle.clip_plan.specs.Plan.{decoded, plan_of}
use Rattle.clip_plan.proofs.Named.{no_hits, on_each}
use Rattle.clip_plan.proofs.hits.add_hits_in.Goals as goal

pub returns-then-not-may_name : goal.returns-then-not-may_name
returns-then-not-may_name c = λ tree plan.
    let before = map hit_value c.args.found.now.items in
    sym (ap (λ hits. before ++ hits)
    (no_hits tree c.args.spots.now.field (c.may_name.ensures c.if-not-may_name.true tree plan)) ∙ append-nil before)

-- the flags that are up after the plan was walked through are those of the words that its query names
pub returns : goal.returns
returns c =
    let field = c.args.spots.now.field in
    let count = c.len.result in
    let words : count ≡ length field.1 =
    c.len.ensures ∙ ap length c.words.ensures
    ∙ ap (λ (f : List ℕ × List (List ℕ)). length f.1) c.field-field.ensures in
    let flags = c.restart.new.self in
    let start : flags ≡ replicate count 0 = c.in_ok-restart.ensures.ok in
    let started : length flags ≡ count = ap length start ∙ length-replicate count 0 in
    let down : (k : ℕ) → k < count → is_up (get_or flags k 0) ≡ false = λ k lt. ap (λ xs. is_up (get_or xs k 0)) start
    ∙ ap is_up (get_or-replicate count k 0 0 lt) in
    let long : length c.mark_hits.new.flags ≡ length field.1 = c.mark_hits.ensures.long ∙ started ∙ words in
    let up : (tree : Tree) → decoded c.args.spots.now.terms (unwrap_or (slice_get c.args.plans.now c.args.place) [])
    ≡ plan_of tree → (k : ℕ) → k < length field.1 → is_up (get_or c.mark_hits.new.flags k 0)
    ≡ is_named tree field.0 field.1 (get_or field.1 k [], k) =
    λ tree plan k lt.
    c.mark_hits.ensures.raised tree plan k (omega (arith, lt, started, words))
    ∙ ap (λ b. b || is_named tree field.0 field.1 (get_or field.1 k [], k)) (down k (omega (arith, lt, words))) in
    let name : arc_str_bytes c.name.result.now ≡ field.0 =
    c.name.ensures ∙ ap (λ (f : List ℕ × List (List ℕ)). f.0) c.field-field.ensures in
    on_each (λ (tree : Tree). decoded c.args.spots.now.terms (unwrap_or (slice_get c.args.plans.now c.args.place) [])
    ≡ plan_of tree) c.add_hits.result (map hit_value c.add_hits.new.found.items)
    (map hit_value c.args.found.now.items)
    (raised (arc_str_bytes c.name.result.now) c.mark_hits.new.flags) (λ tree. hits_in tree field)
    (λ tree plan. ap (λ n. raised n c.mark_hits.new.flags) name
    ∙ raised_hits (is_named tree field.0 field.1) field.0 field.1 c.mark_hits.new.flags long (up tree plan))
    c.add_hits.ensures
