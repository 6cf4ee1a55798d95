-- What may follow tokens that are the beginning of clauses.
use Rattle.std.specs.Prelude.{ℕ, zero, suc, Bool, true, false, List, [], ◌∷◌, Option, Some, None, if◌then◌else◌}
use Rattle.clip_grammar.specs.Tokens as token
use Rattle.clip_grammar.specs.Tokens.{Token}
use Rattle.clip_explain.specs.declared.fronts.Last.{Last}
use Rattle.clip_explain.specs.declared.fronts.Last.TheVariants.{Joint, Sign, Field, Word, Clause, Star, StarColon}
use Rattle.clip_explain.specs.declared.fronts.ClausesBegun.{ClausesBegun}

-- a clause stands last, so that its group may end
abbrev pub may_end : Last → Bool
may_end Word = true
may_end Clause = true
may_end _ = false

-- nothing of a clause is read, so that a sign may follow
abbrev pub is_fresh : Last → Bool
is_fresh Joint = true
is_fresh Word = true
is_fresh Clause = true
is_fresh _ = false

-- a part of `*:*` stands last
abbrev pub is_in_star : Last → Bool
is_in_star Star = true
is_in_star StarColon = true
is_in_star _ = false

abbrev pub with_last : ClausesBegun → Last → ClausesBegun
with_last f last = record { depth = f.depth; last = last }

-- after an operator, a sign, an item, a parenthesis that opens
abbrev pub after_operator : ClausesBegun → Option ClausesBegun
after_operator f = if may_end f.last then Some (with_last f Joint) else None

abbrev pub after_sign : ClausesBegun → Option ClausesBegun
after_sign f = if is_fresh f.last then Some (with_last f Sign) else None

abbrev pub after_item : ClausesBegun → Option ClausesBegun
after_item f = if is_in_star f.last then None else Some (with_last f Clause)

abbrev pub after_open : ClausesBegun → Option ClausesBegun
after_open f = if is_in_star f.last then None else Some (record { depth = suc f.depth; last = Joint })

-- after a plain word, a colon, a star
abbrev pub after_word : ClausesBegun → Last → Option ClausesBegun
after_word f Field = Some (with_last f Clause)
after_word f Star = None
after_word f StarColon = None
after_word f _ = Some (with_last f Word)

abbrev pub after_colon : ClausesBegun → Last → Option ClausesBegun
after_colon f Word = Some (with_last f Field)
after_colon f Star = Some (with_last f StarColon)
after_colon f _ = None

abbrev pub after_star : ClausesBegun → Last → Option ClausesBegun
after_star f StarColon = Some (with_last f Clause)
after_star f Star = None
after_star f Field = None
after_star f _ = Some (with_last f Star)

-- after a parenthesis that closes, where so many are open
abbrev pub close : ℕ → Option ClausesBegun
close zero = None
close (suc depth) = Some (record { depth = depth; last = Clause })

abbrev pub after_close : ClausesBegun → Option ClausesBegun
after_close f = if may_end f.last then close f.depth else None

-- after one token more; none where the tokens are then no beginning of clauses
abbrev pub after : ClausesBegun → Token → Option ClausesBegun
after f token.Plus = after_sign f
after f token.Minus = after_sign f
after f token.Bang = after_sign f
after f token.Not = after_sign f
after f token.And = after_operator f
after f token.Or = after_operator f
after f token.Open = after_open f
after f token.Close = after_close f
after f token.Colon = after_colon f f.last
after f token.Star = after_star f f.last
after f (token.Plain _) = after_word f f.last
after f (token.Front _) = after_item f
after f (token.Phrase _) = after_item f
after f (token.Range _ _) = after_item f
after f token.Other = None

-- before the first token
abbrev pub start : ClausesBegun
start = record { depth = 0; last = Joint }

abbrev pub after_front : Option ClausesBegun → Token → Option ClausesBegun
after_front None t = None
after_front (Some f) t = after f t

-- after these tokens, of which the last one comes first
abbrev pub after_all : List Token → Option ClausesBegun
after_all [] = Some start
after_all (t ∷ earlier) = after_front (after_all earlier) t
