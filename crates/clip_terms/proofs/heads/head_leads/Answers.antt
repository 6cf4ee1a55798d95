use Rattle.std.proofs.Common.{◌≡◌, ◌+◌, List, ℕ, [], ◌∷◌, ◌++◌, take, sym, ap, ◌∙◌, subst}
use Rattle.std.proofs.lemmas.List.{take_more}
use Rattle.clip_meaning.specs.Leads.{IsLead}
use Rattle.clip_extract.specs.Keys.{KeyValue, text_of}
use Rattle.clip_terms.specs.Steps.Leads.{AreLeads}
use Rattle.clip_terms.proofs.LeadsOfTerms.{leads_push}
use Rattle.clip_terms.proofs.heads.head_leads.Goals as goal

pub loop-head-preserved : goal.loop-head-preserved
loop-head-preserved c =
    let heads : List KeyValue = c.args.heads.now in
    let i = c.loop-head.head-index in
    let key : KeyValue = c.head-item.result in
    let lead = c.head.inside.lead in
    let is = subst (λ (k : KeyValue). IsLead (text_of k) lead) c.head.view_is c.head.invariant.0 in
    let more : take (i + 1) heads ≡ take i heads ++ key ∷ [] = take_more heads i key c.loop-head-test.true
    ∙ ap (λ (k : KeyValue). take i heads ++ k ∷ []) (sym c.head-item.is) in
    subst (λ (ts : List KeyValue). AreLeads ts c.push.new.self.items) (sym more)
    (subst (λ (ns : List ℕ). AreLeads (take i heads ++ key ∷ []) ns) (sym c.in_ok-push.ensures.items)
    (leads_push (take i heads) c.loop-head.leads.items key lead c.loop-head.invariant is))
