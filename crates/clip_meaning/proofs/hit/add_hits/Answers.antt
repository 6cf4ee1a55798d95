use Rattle.std.proofs.Common.{◌≡◌, ◌∙◌, ◌||◌, ◌<◌, ◌++◌, ℕ, [], OnOk, ap, subst, arith, false, get_or, length, map}
use Rattle.std.proofs.Common.{replicate}
use Rattle.std.specs.Arc.{arc_str_bytes}
use Rattle.std.proofs.lemmas.List.{get_or-replicate, length-replicate}
use Rattle.clip_grammar.specs.Tree.{tree_of}
use Rattle.clip_meaning.specs.Hits.{hit_value, hits_in, is_named}
use Rattle.clip_meaning.specs.Steps.Marks.{is_up, raised}
use Rattle.clip_meaning.proofs.Marks.{raised_hits}
use Rattle.clip_meaning.proofs.hit.add_hits.Goals as goal

-- the flags that are up after the query was walked through are those of the words that it names
pub returns : goal.returns
returns c =
    let tree = tree_of c.args.query.now in
    let field = c.args.field.now in
    let count = c.len.result in
    let words : count ≡ length field.1 = c.len.ensures ∙ ap length c.words.ensures in
    let start : c.restart.new.self ≡ replicate count 0 = c.in_ok-restart.ensures.ok in
    let started : length c.restart.new.self ≡ count = ap length start ∙ length-replicate count 0 in
    let down : (k : ℕ) → k < count → is_up (get_or c.restart.new.self k 0) ≡ false =
    λ k lt. ap (λ xs. is_up (get_or xs k 0)) start ∙ ap is_up (get_or-replicate count k 0 0 lt) in
    let long : length c.mark.new.flags ≡ length field.1 = c.mark.ensures.long ∙ started ∙ words in
    let up : (k : ℕ) → k < length field.1 → is_up (get_or c.mark.new.flags k 0)
    ≡ is_named tree field.0 field.1 (get_or field.1 k [], k) = λ k lt.
    c.mark.ensures.raised k (omega (arith, lt, started, words))
    ∙ ap (λ b. b || is_named tree field.0 field.1 (get_or field.1 k [], k)) (down k (omega (arith, lt, words))) in
    let found : raised (arc_str_bytes c.name.result.now) c.mark.new.flags ≡ hits_in tree field =
    (λ i. raised (c.name.ensures i) c.mark.new.flags)
    ∙ raised_hits (is_named tree field.0 field.1) field.0 field.1 c.mark.new.flags long up in
    subst (λ hs. OnOk c.add_hits.result (map hit_value c.add_hits.new.found.items
    ≡ map hit_value c.args.found.now.items ++ hs)) found c.add_hits.ensures
