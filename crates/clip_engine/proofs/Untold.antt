-- Why two queries are not told to be near or not.
use Rattle.std.proofs.Common.{◌≡◌, ◌⊎◌, ℕ, List, None, false, inl, inr}
use Rattle.std.specs.List.{All}
use Rattle.std.specs.Str.{IsUtf8}
use Rattle.clip_grammar.specs.Tree.{Tree}
use Rattle.clip_meaning.specs.Article.{fault_of}
use Rattle.clip_engine.specs.Near.{AreRead, IsNoQuery, IsUntold}
use Rattle.clip_engine.specs.Texts.{IsField, IsNoText}
use Rattle.clip_engine.specs.declared.code.TheConstants.{LIMIT, QUERY}
use Rattle.clip_engine.specs.declared.pair.TheConstants.{ASKED}
use Rattle.clip_engine.specs.declared.pair.Pair.{Pair}
use Rattle.clip_engine.proofs.Reading.{unread_of}

pub first_untold : (fields : List (List ℕ × List ℕ)) (pair : Pair) (code : ℕ)
    → IsNoText (IsUtf8 pair.first.now) code ⊎ ((code ≡ QUERY) × IsNoQuery pair.first.now) → IsUntold fields pair code
first_untold fields pair code (inl none) = inl (unread_of _ _ code (λ all. all.0) none)
first_untold fields pair code (inr out) = inr (inl (out.0, inl out.1))

pub second_untold : (fields : List (List ℕ × List ℕ)) (pair : Pair) (code : ℕ)
    → IsNoText (IsUtf8 pair.second.now) code ⊎ ((code ≡ QUERY) × IsNoQuery pair.second.now) → IsUntold fields pair code
second_untold fields pair code (inl none) = inl (unread_of _ _ code (λ all. all.1) none)
second_untold fields pair code (inr out) = inr (inl (out.0, inr (inl out.1)))

pub article_untold : (fields : List (List ℕ × List ℕ)) (pair : Pair) (code : ℕ)
    → IsNoText (All IsField fields) code ⊎ ((code ≡ LIMIT) × (fault_of ASKED.now fields ≡ None → ⊥))
    → IsUntold fields pair code
article_untold fields pair code (inl none) = inl (unread_of _ _ code (λ all. all.2) none)
article_untold fields pair code (inr out) = inr (inr out)

pub places_untold : (fields : List (List ℕ × List ℕ)) (pair : Pair) (first second : Tree) (code : ℕ) → code ≡ QUERY
    → AreRead pair first second false → IsUntold fields pair code
places_untold fields pair first second code told read = inr (inl (told, inr (inr (first, second, read))))
