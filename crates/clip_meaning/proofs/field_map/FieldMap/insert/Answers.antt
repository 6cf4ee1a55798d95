use Rattle.std.proofs.Common.{◌≡◌, ◌∙◌, ap, ℕ, List}
use Rattle.std.specs.FinMap.{entries}
use Rattle.std.specs.Cmp.Lexicographic.{nat_list_cmp_total}
use Rattle.clip_words.specs.Order.{bytes_cmp}
use Rattle.clip_meaning.proofs.Fields.{inserted, place_within, count}
use Rattle.clip_meaning.proofs.field_map.FieldMap.insert.Goals as goal

pub insert-requires : goal.insert-requires
insert-requires c =
    let q = c.as_str.result.now in
    rw c.self.inside.fields.ok.0
    (place_within c.self.inside.fields.items c.args.self.now q c.place-place.result c.self.invariant c.self.view_is
    c.place-place.ensures)

pub invariant_of-self-2 : goal.invariant_of-self-2
invariant_of-self-2 c =
    let m = c.args.self.now in
    let name = c.as_str.ensures.value ∙ c.name.ensures in
    let is : c.place-place.result ≡ count bytes_cmp nat_list_cmp_total c.args.field.0 (entries m) =
    c.place-place.ensures ∙ ap (λ (q : List ℕ). count bytes_cmp nat_list_cmp_total q (entries m)) name in
    (inserted c.self.inside.fields.items c.insert.new.self.items m c.args.field.0 c.args.field.1 c.place-place.result
    c.self.invariant c.self.view_is is c.requires c.in_ok-insert.ensures.items).0

pub returns-clause-ok : goal.returns-clause-ok
returns-clause-ok c =
    let m = c.args.self.now in
    let name = c.as_str.ensures.value ∙ c.name.ensures in
    let is : c.place-place.result ≡ count bytes_cmp nat_list_cmp_total c.args.field.0 (entries m) =
    c.place-place.ensures ∙ ap (λ (q : List ℕ). count bytes_cmp nat_list_cmp_total q (entries m)) name in
    (inserted c.self.inside.fields.items c.insert.new.self.items m c.args.field.0 c.args.field.1 c.place-place.result
    c.self.invariant c.self.view_is is c.requires c.in_ok-insert.ensures.items).1
