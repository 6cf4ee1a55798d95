use Rattle.std.proofs.Common.{◌≡◌, ℕ, ◌+◌, ◌<◌, List, [], ◌∷◌, ◌++◌, drop, get_or, length, append_assoc, append-nil}
use Rattle.std.proofs.Common.{sym, ap, ◌∙◌, arith}
use Rattle.std.proofs.lemmas.List.{drop_more, drop_all}
use Rattle.clip_meaning.specs.Index.{numbered}
use Rattle.clip_meaning.proofs.index.postings_of.Goals as goal

pub loop-position-init : goal.loop-position-init
loop-position-init c = ap (λ ps. ps ++ numbered 0 c.args.words.now) c.in_ok-postings.ensures.items

pub loop-position-preserved : goal.loop-position-preserved
loop-position-preserved c =
    let words = c.args.words.now in
    let i = c.loop-position.position in
    let old = c.loop-position.postings.items in
    let rest = numbered (i + 1) (drop (i + 1) words) in
    let lt : i < length words = omega (arith, c.loop-position-test.true, c.len-position-end.ensures) in
    let next : numbered i (drop i words) ≡ (get_or words i [], i) ∷ rest =
    ap (λ ws. numbered i ws) (drop_more words i [] lt) in
    ap (λ ps. ps ++ rest) c.in_ok-push.ensures.items ∙ append_assoc old _ rest
    ∙ ap (λ (w : List ℕ). old ++ (w, i) ∷ rest) c.word_at-word.ensures
    ∙ ap (λ ps. old ++ ps) (sym next) ∙ c.loop-position.invariant

pub returns : goal.returns
returns c =
    let i = c.loop-position.position in
    let postings = c.loop-position.postings.items in
    sym (append-nil postings)
    ∙ ap (λ ws. postings ++ numbered i ws)
    (sym (drop_all i c.args.words.now (omega (arith, c.loop-position-test.false, c.len-position-end.ensures))))
    ∙ c.loop-position.invariant
