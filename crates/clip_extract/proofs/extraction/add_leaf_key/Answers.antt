use Rattle.std.proofs.Common.{◌≡◌, [], ◌∷◌, ◌++◌, map, ap, ◌∙◌, subst, IfOk}
use Rattle.std.specs.Arc.{arc_str_bytes}
use Rattle.std.proofs.lemmas.List.{map-append}
use Rattle.clip_extract.specs.Keys.{KeyValue, Word, key_of}
use Rattle.clip_extract.specs.Extraction.{Extracted}
use Rattle.clip_extract.specs.Steps.Leaves.{Adds}
use Rattle.clip_extract.proofs.extraction.add_leaf_key.Goals as goal

pub returns-in-Any-clause-added : goal.returns-in-Any-clause-added
returns-in-Any-clause-added c =
    subst (λ (e : Extracted). IfOk c.push_any.result (λ _. Adds e c.args.keys.now.items c.push_any.new.keys.items))
    (c.in-Any.ensures c.requires) c.push_any.ensures.added

pub returns-in-Any-clause-weight : goal.returns-in-Any-clause-weight
returns-in-Any-clause-weight c =
    subst (λ (e : Extracted). IfOk c.push_any.result (λ weight. weight ≡ e.weight)) (c.in-Any.ensures c.requires)
    c.push_any.ensures.weight

pub returns-in_ok-push-in-Word-clause-added : goal.returns-in_ok-push-in-Word-clause-added
returns-in_ok-push-in-Word-clause-added c =
    let old = c.args.keys.now.items in
    let key : Word (arc_str_bytes c.in_ok-clone-in-Word.field-0) (arc_str_bytes c.in_ok-clone-in-Word-2.field-0)
    ≡ Word (arc_str_bytes c.in-Word.field.now) (arc_str_bytes c.in-Word.word.now) =
    λ i. Word (c.in_ok-clone-in-Word.ensures.cases i) (c.in_ok-clone-in-Word-2.ensures.cases i) in
    subst (λ (e : Extracted). Adds e old c.push.new.self.items) (c.in-Word.ensures c.requires)
    (ap (map key_of) c.in_ok-push-in-Word.ensures.items ∙ map-append key_of old _
    ∙ ap (λ (k : KeyValue). map key_of old ++ k ∷ []) key)

pub returns-in_ok-push-in-Word-clause-weight : goal.returns-in_ok-push-in-Word-clause-weight
returns-in_ok-push-in-Word-clause-weight c = ap (λ (e : Extracted). e.weight) (c.in-Word.ensures c.requires)

pub returns-in-Front-clause-added : goal.returns-in-Front-clause-added
returns-in-Front-clause-added c =
    subst (λ (e : Extracted). IfOk c.push_front.result (λ _. Adds e c.args.keys.now.items c.push_front.new.keys.items))
    (c.in-Front.ensures c.requires) c.push_front.ensures.added

pub returns-in-Front-clause-weight : goal.returns-in-Front-clause-weight
returns-in-Front-clause-weight c =
    subst (λ (e : Extracted). IfOk c.push_front.result (λ weight. weight ≡ e.weight)) (c.in-Front.ensures c.requires)
    c.push_front.ensures.weight
