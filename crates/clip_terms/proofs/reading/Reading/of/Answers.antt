use Rattle.std.proofs.Common.{◌≡◌, ◌++◌, ◌∷◌, [], ℕ, List, Option, option_to_list, map, flat_map, take, length, sym, ap}
use Rattle.std.proofs.Common.{◌<◌, All, ◌∙◌, subst, append-nil}
use Rattle.std.specs.FinMap as finite
use Rattle.std.proofs.lemmas.List.{map_more, take_all}
use Rattle.clip_meaning.specs.Article.{ArticleValue}
use Rattle.clip_extract.specs.Keys.{KeyValue, Any}
use Rattle.clip_extract.specs.Covering.{field_keys}
use Rattle.clip_terms.specs.Spots.{FieldValue}
use Rattle.clip_terms.specs.Terms.{term_at, number_of}
use Rattle.clip_terms.specs.Reading.{has_key}
use Rattle.clip_terms.specs.Steps.Fronts.{AddsNumbersOf}
use Rattle.clip_terms.specs.Steps.Numbers.{AreFlags}
use Rattle.clip_terms.proofs.AskedFronts.{keys_added, fields_added}
use Rattle.clip_terms.proofs.EachOnce.{each_below}
use Rattle.clip_terms.proofs.ReadingOf.{all_of_field, numbers_within, numbers_had}
use Rattle.clip_terms.proofs.reading.Reading.of.Goals as goal

pub loop-asked-init : goal.loop-asked-init
loop-asked-init c =
    let terms = c.args.terms.now in
    record {
      added = keys_added terms (Any ∷ []) [] c.add_known.new.numbers.items c.order_law.ensures
          (c.in_ok-add_known.ensures
          ∙ ap (λ (xs : List ℕ). xs ++ option_to_list c.number.result) c.in_ok-numbers.ensures.items
          ∙ ap (λ (o : Option ℕ). option_to_list o) c.number.ensures
          ∙ sym (append-nil (option_to_list (number_of terms Any))));
      fields = c.in_ok-fields.ensures.items;
    }

pub loop-asked-preserved : goal.loop-asked-preserved
loop-asked-preserved c =
    let terms = c.args.terms.now in
    let read = λ (field : FieldValue). map (number_of terms) (field_keys field) in
    let fields = c.fields-asked-items.result.now in
    let i = c.loop-asked.asked-index in
    let field = c.asked-item.result in
    let lt = c.loop-asked-test.true in
    let is = c.asked-item.is in
    record {
      added = fields_added terms (Any ∷ []) all_of_field fields i field [] c.loop-asked.numbers.items
          c.read_field.new.numbers.items lt is c.in_ok-read_field.ensures.added c.loop-asked.invariant.added;
      fields =
          c.in_ok-push.ensures.items
          ∙ ap (λ (all : List (List (Option ℕ))). all ++ c.in_ok-read_field.field-0 ∷ []) c.loop-asked.invariant.fields
          ∙ ap (λ (numbers : List (Option ℕ)). map read (take i fields) ++ numbers ∷ [])
          (c.in_ok-read_field.ensures.read ∙ ap read is)
          ∙ sym (map_more read fields i field lt);
    }

-- the numbers of all fields were added
all_added : (terms : List KeyValue) (fields items : List FieldValue) (i : ℕ) (new : List ℕ) → take i items ≡ fields
    → AddsNumbersOf terms (Any ∷ flat_map all_of_field (take i items)) [] new
    → AddsNumbersOf terms (Any ∷ flat_map all_of_field fields) [] new
all_added terms fields items i new all = subst (λ (fs : List FieldValue).
    AddsNumbersOf terms (Any ∷ flat_map all_of_field fs) [] new) all

pub marks_of_each-requires : goal.marks_of_each-requires
marks_of_each-requires c =
    let terms = c.args.terms.now in
    let fields = c.args.asking.now.fields in
    let new = c.loop-asked.numbers.items in
    let items = c.fields-asked-items.result.now in
    let i = c.loop-asked.asked-index in
    let all = take_all i items c.loop-asked-test.false ∙ c.fields-asked-items.ensures in
    subst (λ (bound : ℕ). All (λ n. n < bound) new) (sym c.len.ensures)
    (numbers_within terms fields new
    (all_added terms (finite.entries fields) items i new all c.loop-asked.invariant.added))

pub invariant_of-result : goal.invariant_of-result
invariant_of-result c =
    let terms = c.args.terms.now in
    let fields = c.args.asking.now.fields in
    let new = c.loop-asked.numbers.items in
    let each = c.marks_of_each.new.numbers.items in
    let left = c.in_ok-marks.ensures.left in
    let read = λ (field : FieldValue). map (number_of terms) (field_keys field) in
    let items = c.fields-asked-items.result.now in
    let i = c.loop-asked.asked-index in
    let all = take_all i items c.loop-asked-test.false ∙ c.fields-asked-items.ensures in
    let added = all_added terms (finite.entries fields) items i new all c.loop-asked.invariant.added in
    let had = numbers_had terms fields new added in
    let flags : AreFlags c.in_ok-marks.marks (length terms) new =
    subst (λ (m : ℕ). AreFlags c.in_ok-marks.marks m new) c.len.ensures c.in_ok-marks.ensures.flags in
    record {
      strict = c.order_law.ensures;
      once = left.once;
      within = each_below (length terms) new each (numbers_within terms fields new added) left.same;
      numbers = λ n lt. left.same n ∙ had n lt
          ∙ ap (λ (a : ArticleValue). has_key a.fields (term_at terms n)) (sym c.article.ensures);
      long = c.in_ok-marks.ensures.long ∙ c.len.ensures;
      flags = λ n lt. flags n lt ∙ had n lt
          ∙ ap (λ (a : ArticleValue). has_key a.fields (term_at terms n)) (sym c.article.ensures);
      fields = c.loop-asked.invariant.fields ∙ ap (map read) all
          ∙ ap (λ (a : ArticleValue). map read (finite.entries a.fields)) (sym c.article.ensures);
    }
