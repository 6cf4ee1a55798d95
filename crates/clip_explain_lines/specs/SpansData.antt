-- The words of a text as JSON, each with where it stands.
use Rattle.std.specs.Prelude.{ℕ, List, [], ◌∷◌, map, codes}
use Rattle.serde_json.specs.Data.{Data, string}
use Rattle.clip_words.specs.Words.{fold_of}
use Rattle.clip_where.specs.Spans.{piece, spans_of}
use Rattle.clip_where.specs.declared.WordSpan.{WordSpan}
use Rattle.clip_protocol.specs.Reply.{number_of}
use Rattle.clip_protocol.specs.Request.{object_of, array_of}

-- where a word stands in a text, and the word, folded
abbrev pub span_data : List ℕ → WordSpan → Data
span_data text span = object_of ((codes "end", number_of span.end) ∷ (codes "start", number_of span.start)
    ∷ (codes "word", string (fold_of (piece text span))) ∷ [])

-- words of a text that stand there
abbrev pub spans_data : List ℕ → List WordSpan → Data
spans_data text spans = object_of ((codes "words", array_of (map (span_data text) spans)) ∷ [])

-- all words of a text
abbrev pub words_data : List ℕ → Data
words_data text = spans_data text (spans_of text)
