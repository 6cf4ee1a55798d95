use Rattle.std.proofs.Common.{◌≡◌, ◌+◌, List, ℕ, [], ◌∷◌, ◌++◌, map, take, sym, ap, ◌∙◌, subst}
use Rattle.std.proofs.lemmas.List.{map_more, take_all}
use Rattle.clip_meaning.specs.Leads.{IsLead}
use Rattle.clip_extract.specs.Keys.{KeyValue, key_of}
use Rattle.clip_extract.specs.declared.key.Key.{Key}
use Rattle.clip_terms.specs.Steps.Leads.{AreLeads}
use Rattle.clip_terms.proofs.LeadsOfTerms.{leads_push}
use Rattle.clip_terms.proofs.leads.leads_of.Goals as goal

pub loop-key-init : goal.loop-key-init
loop-key-init c = subst (AreLeads []) (sym c.in_ok-leads.ensures.items) tt

pub loop-key-preserved : goal.loop-key-preserved
loop-key-preserved c =
    let keys = c.args.keys.now in
    let i = c.loop-key.key-index in
    let k = c.key-item.result in
    let before = map key_of (take i keys) in
    let lead = c.lead_of.result in
    let is = subst (λ (text : List ℕ). IsLead text lead) c.text.ensures c.lead_of.ensures in
    let more : map key_of (take (i + 1) keys) ≡ before ++ key_of k ∷ [] = map_more key_of keys i k c.loop-key-test.true
    ∙ ap (λ (x : Key). before ++ key_of x ∷ []) (sym c.key-item.is) in
    subst (λ (ts : List KeyValue). AreLeads ts c.push.new.self.items) (sym more)
    (subst (λ (leads : List ℕ). AreLeads (before ++ key_of k ∷ []) leads) (sym c.in_ok-push.ensures.items)
    (leads_push before c.loop-key.leads.items (key_of k) lead c.loop-key.invariant is))

pub returns : goal.returns
returns c = subst (λ (keys : List Key). AreLeads (map key_of keys) c.loop-key.leads.items)
    (take_all c.loop-key.key-index c.args.keys.now c.loop-key-test.false) c.loop-key.invariant
