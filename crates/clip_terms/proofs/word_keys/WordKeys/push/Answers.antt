use Rattle.std.proofs.Common.{◌≡◌, ◌++◌, ◌∷◌, [], ℕ, List, map, ap, sym, subst, ◌∙◌, Bor}
use Rattle.std.specs.Arc.{arc_str_bytes}
use Rattle.std.proofs.lemmas.List.{map_push}
use Rattle.clip_meaning.specs.Leads.{IsLead}
use Rattle.clip_extract.specs.Keys.{KeyValue, Word}
use Rattle.clip_terms.specs.Steps.Leads.{AreLeads, AreShortLengths}
use Rattle.clip_terms.specs.Steps.WordKeys.{keys_in}
use Rattle.clip_terms.proofs.LeadsOfTerms.{leads_push, lengths_push}
use Rattle.clip_terms.proofs.word_keys.WordKeys.push.Goals as goal

pub returns-clause-kept : goal.returns-clause-kept
returns-clause-kept c =
    let self = c.args.self.now in
    let key = λ (w : Bor (List ℕ)). Word (arc_str_bytes self.field.now) w.now in
    let word = c.word-word.result in
    let all = keys_in self ++ key word ∷ [] in
    let more : map key c.push.new.self.items ≡ all = ap (map key) c.in_ok-push.ensures.items
    ∙ map_push key self.words.items word in
    let lead = subst (λ (text : List ℕ). IsLead text c.lead.result) (sym c.word-word.ensures) c.lead.ensures in
    record {
      leads = subst (λ (keys : List KeyValue). AreLeads keys c.push-2.new.self.items) (sym more)
          (subst (AreLeads all) (sym c.in_ok-push-2.ensures.items)
          (leads_push (keys_in self) self.leads.items (key word) c.lead.result c.requires.leads lead));
      lengths = subst (λ (keys : List KeyValue). AreShortLengths keys c.push-3.new.self.items) (sym more)
          (subst (AreShortLengths all) (sym c.in_ok-push-3.ensures.items)
          (lengths_push (keys_in self) self.lengths.items (key word) c.short_length.result c.requires.lengths
          c.short_length.ensures));
    }
