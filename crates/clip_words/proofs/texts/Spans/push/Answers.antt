use Rattle.std.proofs.Common.{◌≡◌, ◌∷◌, [], ◌++◌, map, length, slice_range, string_bytes}
use Rattle.std.proofs.Common.{sym, ap, ap₂, subst, ◌∙◌, OnOk}
use Rattle.std.specs.List.{All}
use Rattle.std.specs.Str.{IsCharBoundary}
use Rattle.std.proofs.lemmas.Str.{IsCharBoundary-end, IsUtf8-string_bytes}
use Rattle.clip_words.specs.Steps.TextsView.{text_in, texts_in, IsSpan}
use Rattle.clip_words.proofs.PackedTexts.{bound_before, behind, kept_spans, kept_texts}
use Rattle.clip_words.proofs.texts.Spans.push.Goals as goal

pub push_span-requires-clause-spans : goal.push_span-requires-clause-spans
push_span-requires-clause-spans c =
    let before = string_bytes c.args.self.now.all in
    let spans = c.args.self.now.spans.items in
    subst (λ all. All (IsSpan all) spans) (sym c.in_ok-push_str.ensures.bytes)
    (kept_spans before c.args.text.now spans (IsUtf8-string_bytes c.args.self.now.all) c.utf8.text c.requires)

pub push_span-requires-clause-from : goal.push_span-requires-clause-from
push_span-requires-clause-from c =
    let before = string_bytes c.args.self.now.all in
    subst (λ all. IsCharBoundary all c.end-start.result) (sym c.in_ok-push_str.ensures.bytes)
    (subst (IsCharBoundary (before ++ c.args.text.now)) (sym c.end-start.ensures)
    (bound_before before c.args.text.now (IsUtf8-string_bytes c.args.self.now.all) c.utf8.text (length before)
    (IsCharBoundary-end before)))

pub returns-clause-texts : goal.returns-clause-texts
returns-clause-texts c =
    let before = string_bytes c.args.self.now.all in
    let spans = c.args.self.now.spans.items in
    let text = c.args.text.now in
    let after = c.in_ok-push_str.ensures.bytes in
    let kept = ap (λ all. map (text_in all) spans) after ∙ kept_texts before text spans c.requires in
    let end = c.end-end.ensures ∙ ap length after in
    let added : slice_range (string_bytes c.push_str.new.self) c.end-start.result c.end-end.result ≡ text =
    (λ i. slice_range (after i) (c.end-start.ensures i) (end i)) ∙ behind before text in
    subst (λ texts. OnOk c.push_span.result (texts_in c.push_span.new.self ≡ texts))
    (ap₂ (λ texts one. texts ++ one ∷ []) kept added) c.push_span.ensures.texts
