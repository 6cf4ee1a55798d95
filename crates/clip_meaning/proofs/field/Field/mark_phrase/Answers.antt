use Rattle.std.proofs.Common.{◌≡◌, ◌∙◌, ◌||◌, [], List, ℕ, ap, sym, arith, bytes_eq, filter, get_or, map}
use Rattle.std.specs.Arc.{arc_str_bytes}
use Rattle.std.specs.List.{list_any}
use Rattle.std.proofs.lemmas.List.{nil_from_length}
use Rattle.clip_meaning.specs.declared.index.Occurrence.{Occurrence}
use Rattle.clip_meaning.specs.Hits.{covers}
use Rattle.clip_meaning.specs.Index.{numbered}
use Rattle.clip_meaning.specs.Steps.Marks.{is_up}
use Rattle.clip_meaning.proofs.Fields.{Entry}
use Rattle.clip_meaning.proofs.Marks.{or-false, runs_at_postings, empty_covers}
use Rattle.clip_meaning.proofs.Occurrences.{any_position}
use Rattle.clip_meaning.proofs.WordOrder.{Place}
use Rattle.clip_meaning.proofs.field.Field.mark_phrase.Goals as goal

pub returns-in-Some-clause-raised : goal.returns-in-Some-clause-raised
returns-in-Some-clause-raised c k lt =
    let old = is_up (get_or c.args.flags.now k 0) in
    let phrase = map arc_str_bytes c.args.phrase.now in
    let words = c.args.self.now.1 in
    let found : c.occurrences-found.result
    ≡ filter (λ (p : Place). bytes_eq p.0 (arc_str_bytes c.in-Some.first.now)) c.postings.result =
    c.occurrences-found.ensures ∙ ap (λ (f : List ℕ). filter (λ (p : Place). bytes_eq p.0 f) c.postings.result)
    c.deref.ensures.value in
    c.mark_runs.ensures.raised k lt
    ∙ ap (λ (e : Entry). old || list_any (λ (o : Occurrence). covers e.1 phrase k o.position) c.as_slice.result.now)
    c.self.view_is
    ∙ ap (λ b. old || b)
    (any_position (covers words phrase k) c.occurrences-found.result c.as_slice.result.now c.as_slice.ensures
    ∙ runs_at_postings arc_str_bytes words c.args.phrase.now c.in-Some.first.now
    c.postings.result c.occurrences-found.result k c.in-Some.ensures.item.3.0 c.in-Some.ensures.item.1
    c.postings.ensures.words found)

pub returns-in_default-clause-raised : goal.returns-in_default-clause-raised
returns-in_default-clause-raised c k lt =
    let old = is_up (get_or c.args.flags.now k 0) in
    let words = c.args.self.now.1 in
    let none : c.args.phrase.now ≡ [] = nil_from_length c.args.phrase.now (omega (arith, c.in_default.ensures.item)) in
    sym (ap (λ ph. old || list_any (λ (p : Place). covers words (map arc_str_bytes ph) k p.1) (numbered 0 words)) none
    ∙ ap (λ b. old || b) (empty_covers words k (numbered 0 words)) ∙ or-false old)
