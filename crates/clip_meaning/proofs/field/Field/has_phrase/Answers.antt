use Rattle.std.proofs.Common.{◌≡◌, ◌∙◌, ap, map, filter, bytes_eq, List, ℕ}
use Rattle.std.specs.Arc.{arc_str_bytes}
use Rattle.std.specs.List.{list_any}
use Rattle.clip_meaning.specs.declared.index.Occurrence.{Occurrence}
use Rattle.clip_meaning.specs.Steps.Searches.{stands_at}
use Rattle.clip_meaning.proofs.Fields.{Entry}
use Rattle.clip_meaning.proofs.Numbered.{run_at_posting}
use Rattle.clip_meaning.proofs.Occurrences.{any_position}
use Rattle.clip_meaning.proofs.WordOrder.{Place}
use Rattle.clip_meaning.proofs.field.Field.has_phrase.Goals as goal

pub returns : goal.returns
returns c =
    let phrase = map arc_str_bytes c.args.phrase.now in
    let words = c.args.self.now.1 in
    let found : c.occurrences.result
    ≡ filter (λ (p : Place). bytes_eq p.0 (arc_str_bytes c.in-Some.first.now)) c.postings.result =
    c.occurrences.ensures ∙ ap (λ (f : List ℕ). filter (λ (p : Place). bytes_eq p.0 f) c.postings.result)
    c.deref.ensures.value in
    c.stands_at_any.ensures
    ∙ ap (λ (e : Entry). list_any (λ (o : Occurrence). stands_at e.1 phrase o.position) c.as_slice.result.now)
    c.self.view_is
    ∙ any_position (stands_at words phrase) c.occurrences.result c.as_slice.result.now c.as_slice.ensures
    ∙ run_at_posting arc_str_bytes words c.args.phrase.now c.in-Some.first.now c.postings.result
    c.occurrences.result c.in-Some.ensures.item.3.0 c.in-Some.ensures.item.1 c.postings.ensures.words found
