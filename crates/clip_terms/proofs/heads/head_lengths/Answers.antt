use Rattle.std.proofs.Common.{◌≡◌, ◌+◌, List, ℕ, [], ◌∷◌, ◌++◌, take, sym, ap, ◌∙◌, subst}
use Rattle.std.proofs.lemmas.List.{take_more}
use Rattle.clip_extract.specs.Keys.{KeyValue, text_of}
use Rattle.clip_terms.specs.Steps.Leads.{IsShortLength, AreShortLengths}
use Rattle.clip_terms.proofs.LeadsOfTerms.{lengths_push}
use Rattle.clip_terms.proofs.heads.head_lengths.Goals as goal

pub loop-head-preserved : goal.loop-head-preserved
loop-head-preserved c =
    let heads : List KeyValue = c.args.heads.now in
    let i = c.loop-head.head-index in
    let key : KeyValue = c.head-item.result in
    let length = c.head.inside.length in
    let is = subst (λ (k : KeyValue). IsShortLength (text_of k) length) c.head.view_is c.head.invariant.1 in
    let more : take (i + 1) heads ≡ take i heads ++ key ∷ [] = take_more heads i key c.loop-head-test.true
    ∙ ap (λ (k : KeyValue). take i heads ++ k ∷ []) (sym c.head-item.is) in
    subst (λ (ts : List KeyValue). AreShortLengths ts c.push.new.self.items) (sym more)
    (subst (λ (ns : List ℕ). AreShortLengths (take i heads ++ key ∷ []) ns) (sym c.in_ok-push.ensures.items)
    (lengths_push (take i heads) c.loop-head.lengths.items key length c.loop-head.invariant is))
