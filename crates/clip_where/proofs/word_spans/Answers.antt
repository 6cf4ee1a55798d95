use Rattle.std.proofs.Common.{◌≡◌, ◌++◌, map, sym, ap, subst, ◌∙◌}
use Rattle.std.proofs.Common.{append_assoc}
use Rattle.std.proofs.Common.{rules}
use Rattle.std.specs.List.{All}
use Rattle.std.proofs.lemmas.List.Elements.{All-rest}
use Rattle.unicode_segmentation.specs.Iter.{unicode_word_indices_left}
use Rattle.unicode_segmentation.proofs.SegmentsLemmas.{IsPieceOf}
use Rattle.clip_words.specs.Words.{fold_of}
use Rattle.clip_where.specs.Spans.{piece, span_at, spans_of, AreApart, IsBetweenCharacters}
use Rattle.clip_where.specs.declared.WordSpan.{WordSpan}
use Rattle.clip_where.proofs.Standing.{all_pieces, folded_words, spans_apart, spans_whole}
use Rattle.clip_where.proofs.word_spans.Goals as goal

pub loop-start-init : goal.loop-start-init
loop-start-init c = record {
  pieces = rw (c.into_iter-start-iterator.ensures.into_iter_gives, c.unicode_word_indices-start-items.ensures.left)
      (all_pieces c.args.text.now c.utf8.text);
  spans =
      ap (λ xs. xs ++ map span_at
      (unicode_word_indices_left c.into_iter-start-iterator.result)) c.new-spans.ensures.items
      ∙ ap (λ it. map span_at (unicode_word_indices_left it)) c.into_iter-start-iterator.ensures.into_iter_gives
      ∙ ap (map span_at) c.unicode_word_indices-start-items.ensures.left;
}

pub loop-start-preserved : goal.loop-start-preserved
loop-start-preserved c = record {
  pieces = All-rest (IsPieceOf c.args.text.now) _ _ _ c.in-Some.ensures.steps c.loop-start.invariant.pieces;
  spans =
      let spans = c.loop-start.spans.items in
      let later = map span_at (unicode_word_indices_left c.next.new.self) in
      ap (λ xs. xs ++ later) c.in_ok-push.ensures.items
      ∙ append_assoc spans _ later
      ∙ ap (λ xs. spans ++ map span_at xs) (sym c.in-Some.ensures.steps)
      ∙ c.loop-start.invariant.spans;
}

pub returns-clause-words : goal.returns-clause-words
returns-clause-words c =
    let done : c.loop-start.spans.items ≡ spans_of c.args.text.now = search rules in
    ap (map (λ (span : WordSpan). fold_of (piece c.args.text.now span))) done
    ∙ folded_words c.args.text.now c.utf8.text

pub returns-clause-apart : goal.returns-clause-apart
returns-clause-apart c =
    let done : c.loop-start.spans.items ≡ spans_of c.args.text.now = search rules in
    subst (AreApart 0) (sym done) (spans_apart c.args.text.now)

pub returns-clause-whole : goal.returns-clause-whole
returns-clause-whole c =
    let done : c.loop-start.spans.items ≡ spans_of c.args.text.now = search rules in
    subst (All (IsBetweenCharacters c.args.text.now)) (sym done) (spans_whole c.args.text.now c.utf8.text)
