use Rattle.std.proofs.Common.{◌≡◌, [], ◌∷◌, ◌++◌, map, true, false, nat_eq, length, IfOk, sym, ap, ◌∙◌, subst}
use Rattle.std.specs.Arc.{arc_str_bytes}
use Rattle.std.specs.Str.{chars}
use Rattle.std.proofs.lemmas.List.{map-append}
use Rattle.clip_extract.specs.Keys.{KeyValue, Front, key_of}
use Rattle.clip_extract.specs.Extraction.{Extracted}
use Rattle.clip_extract.specs.Fronts.{key_front}
use Rattle.clip_extract.specs.Steps.Leaves.{Adds}
use Rattle.clip_extract.proofs.FrontsOfWords.{front_found, empty_found, front_weight}
use Rattle.clip_extract.proofs.extraction.push_front.Goals as goal

pub returns-then-is_empty-clause-added : goal.returns-then-is_empty-clause-added
returns-then-is_empty-clause-added c =
    let front = key_front (arc_str_bytes c.args.text.now) in
    let none : nat_eq (length front) 0 ≡ true =
    ap (λ bs. nat_eq (length bs) 0) (sym (c.deref.ensures.value ∙ c.in_ok-front.ensures)) ∙ sym c.is_empty.ensures
    ∙ c.if-is_empty.true in
    subst (λ (e : Extracted). IfOk c.push_any.result (λ _. Adds e c.args.keys.now.items c.push_any.new.keys.items))
    (sym (empty_found (arc_str_bytes c.args.field.now) front none)) c.push_any.ensures.added

pub returns-then-is_empty-clause-weight : goal.returns-then-is_empty-clause-weight
returns-then-is_empty-clause-weight c =
    let front = key_front (arc_str_bytes c.args.text.now) in
    let none : nat_eq (length front) 0 ≡ true =
    ap (λ bs. nat_eq (length bs) 0) (sym (c.deref.ensures.value ∙ c.in_ok-front.ensures)) ∙ sym c.is_empty.ensures
    ∙ c.if-is_empty.true in
    subst (λ (e : Extracted). IfOk c.push_any.result (λ weight. weight ≡ e.weight))
    (sym (empty_found (arc_str_bytes c.args.field.now) front none)) c.push_any.ensures.weight

pub returns-clause-added : goal.returns-clause-added
returns-clause-added c =
    let field = arc_str_bytes c.args.field.now in
    let front = key_front (arc_str_bytes c.args.text.now) in
    let some : nat_eq (length front) 0 ≡ false =
    ap (λ bs. nat_eq (length bs) 0) (sym (c.deref.ensures.value ∙ c.in_ok-front.ensures)) ∙ sym c.is_empty.ensures
    ∙ c.if-is_empty.false in
    let key : Front (arc_str_bytes c.in_ok-clone.field-0) (arc_str_bytes c.in_ok-front.front) ≡ Front field front =
    λ i. Front (c.in_ok-clone.ensures.cases i) (c.in_ok-front.ensures i) in
    subst (λ (e : Extracted). Adds e c.args.keys.now.items c.push.new.self.items) (sym (front_found field front some))
    (ap (map key_of) c.in_ok-push.ensures.items ∙ map-append key_of c.args.keys.now.items _
    ∙ ap (λ (k : KeyValue). map key_of c.args.keys.now.items ++ k ∷ []) key)

pub returns-clause-weight : goal.returns-clause-weight
returns-clause-weight c =
    c.characters-weight.ensures ∙ ap (λ bs. length (chars bs)) (c.deref-2.ensures.value ∙ c.in_ok-front.ensures)
    ∙ sym (front_weight (arc_str_bytes c.args.field.now) (key_front (arc_str_bytes c.args.text.now)))
