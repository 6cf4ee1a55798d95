use Rattle.std.proofs.Common.{Bool, false, ◌||◌, ◌+◌, ◌∷◌, drop, sym, ap, ◌∙◌}
use Rattle.clip_meaning.specs.Steps.Tally.{group_with}
use Rattle.clip_grammar.specs.Tree.{tree_of}
use Rattle.clip_grammar.proofs.Trees.{tree_of_group}
use Rattle.clip_meaning.specs.Meaning.{holds}
use Rattle.clip_meaning.proofs.Groups.{verdicts_of, group_start, next_verdict, all_read}
use Rattle.clip_meaning.proofs.meaning.+holds.Goals as goal

pub loop-occur-init : goal.loop-occur-init
loop-occur-init t c =
    let fs = c.args.article.now.fields in
    ap (λ x. group_with false false (verdicts_of fs x)) c.deref-occur-items.ensures.value
    ∙ group_start c.in-Group.clauses.items fs ∙ ap (λ q. holds q fs) (sym (tree_of_group c.in-Group.clauses))
    ∙ ap (λ q. holds (tree_of q) fs) (sym c.in-Group.is)

pub loop-occur-preserved : goal.loop-occur-preserved
loop-occur-preserved t c =
    let fs = c.args.article.now.fields in
    let cs = c.deref-occur-items.result.now in
    let i = c.loop-occur.occur-index in
    let x = c.loop-occur-item.result in
    let tally = c.loop-occur.tally in
    let rest = verdicts_of fs (drop (i + 1) cs) in
    sym (c.in-Some.ensures rest)
    ∙ ap (λ (held : Bool). group_with tally.has_must tally.has_should ((x.0, held) ∷ rest)) c.holds.ensures
    ∙ ap (group_with tally.has_must tally.has_should)
    (sym (next_verdict fs cs i x c.loop-occur-test.true c.loop-occur-item.is)) ∙ c.loop-occur.invariant

pub returns-in-None : goal.returns-in-None
returns-in-None t c =
    let fs = c.args.article.now.fields in
    let cs = c.deref-occur-items.result.now in
    let i = c.loop-occur.occur-index in
    let x = c.loop-occur-item.result in
    let tally = c.loop-occur.tally in
    let rest = verdicts_of fs (drop (i + 1) cs) in
    sym (c.in-None.ensures rest)
    ∙ ap (λ (held : Bool). group_with tally.has_must tally.has_should ((x.0, held) ∷ rest)) c.holds.ensures
    ∙ ap (group_with tally.has_must tally.has_should)
    (sym (next_verdict fs cs i x c.loop-occur-test.true c.loop-occur-item.is)) ∙ c.loop-occur.invariant

-- the disjunction, of which the first part is true, and of which it is false
pub returns-then-tally : goal.returns-then-tally
returns-then-tally t c =
    c.if-tally.true ∙ sym (ap (λ b. b || c.loop-occur.tally.has_should) c.if-tally.true)
    ∙ all_read c.loop-occur.tally.has_must c.loop-occur.tally.has_should c.args.article.now.fields
    c.deref-occur-items.result.now c.loop-occur.occur-index _ c.loop-occur-test.false c.loop-occur.invariant

pub returns-else-tally : goal.returns-else-tally
returns-else-tally t c =
    sym (ap (λ b. b || c.loop-occur.tally.has_should) c.if-tally.false)
    ∙ all_read c.loop-occur.tally.has_must c.loop-occur.tally.has_should c.args.article.now.fields
    c.deref-occur-items.result.now c.loop-occur.occur-index _ c.loop-occur-test.false c.loop-occur.invariant
