-- The texts of a query's items, in the order of its tokens.
use Rattle.std.specs.Prelude.{ℕ, Bool, false, List, [], ◌∷◌, ◌++◌, map, Option, Some, None, option_to_list, Vec}
use Rattle.std.specs.Global.{Global}
use Rattle.std.specs.Arc.{arc_str_bytes}
use Rattle.std.specs.declared.sync.ArcStr.{ArcStr}
use Rattle.clip_words.specs.Words.{words_of}
use Rattle.clip_grammar.specs.Tokens as token
use Rattle.clip_grammar.specs.Tokens.{Token}
use Rattle.clip_grammar.specs.Steps.Parser.{begins_colon}

-- the text of a plain or quoted item; a word before a colon is a field
abbrev pub item_text : Token → (before_colon : Bool) → Option (List ℕ)
item_text (token.Plain text) false = Some text
item_text (token.Phrase text) _ = Some text
item_text _ _ = None

abbrev pub item_texts : List Token → List (List ℕ)
item_texts [] = []
item_texts (t ∷ ts) = option_to_list (item_text t (begins_colon ts)) ++ item_texts ts

-- the words of each plain or quoted item
abbrev pub items_words : List Token → List (List (List ℕ))
items_words ts = map words_of (item_texts ts)

-- the words of the code's items
abbrev pub words_of_items : List (Vec (ArcStr Global) Global) → List (List (List ℕ))
words_of_items = map (λ words. map arc_str_bytes words.items)
