-- What stands behind a place.
use Rattle.std.proofs.Common.{◌≡◌, ℕ, ◌+◌, ◌-◌, ◌≤◌, ◌∙◌, List, map, take, drop, length, ap, sym, arith}
use Rattle.std.proofs.lemmas.List.{drop-map, take_all, length-drop}
use Rattle.clip_explain.specs.Lexemes.{placed_of}
use Rattle.clip_explain.specs.declared.cutting.Lexeme.{Lexeme}
use Rattle.clip_remarks.specs.Kinds.{kinds}
use Rattle.clip_remarks.specs.Places.{later_kinds}

pub kinds_behind : (ls : List Lexeme) (i : ℕ)
    → kinds (map placed_of (take (length ls - (i + 1)) (drop (i + 1) ls))) ≡ later_kinds (map placed_of ls) i
kinds_behind ls i =
    let fits : length (drop (i + 1) ls) ≤ length ls - (i + 1) = omega (arith, length-drop (i + 1) ls) in
    ap (λ xs. kinds (map placed_of xs)) (take_all (length ls - (i + 1)) (drop (i + 1) ls) fits)
    ∙ ap kinds (sym (drop-map placed_of (i + 1) ls))
