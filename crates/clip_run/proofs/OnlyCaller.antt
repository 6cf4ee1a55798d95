-- What a desk of one caller says of its history.
use Rattle.std.proofs.Common.{◌≡◌, ℕ, suc, ◌+◌, ◌<◌, ◌≤◌, ◌==◌, List, [], ◌∷◌, ◌++◌, length, map, filter, Bool, true}
use Rattle.std.proofs.Common.{false, refl, sym, ap, subst, ◌∙◌, arith, append_assoc, append-nil, length-append, eq-eqb}
use Rattle.std.proofs.Common.{if◌then◌else◌, IsTrue, IsFalse}
use Rattle.std.specs.Prelude.{Some, None}
use Rattle.std.specs.FinMap as finite
use Rattle.clip_model.specs.History.{History, HistoryEntry, Command, IsLegal, own, next_entry, with_command, has_room}
use Rattle.clip_model.specs.History.{applied, replay}
use Rattle.clip_model.specs.declared.limits.TheConstants.{MOST_LIVE}
use Rattle.clip_model.proofs.Legal.{room_from}
use Rattle.clip_model.proofs.Replay.{replays_on}
use Rattle.clip_standing.specs.Command.{answer_of}
use Rattle.clip_standing.specs.declared.command.Applied.{Applied}
use Rattle.clip_desk.specs.Callers.{IsBy}
use Rattle.clip_front.specs.Steps.Registry.{IsJudged}
use Rattle.clip_run.specs.Alone.{then_alone, history_alone}

-- an entry that caller 1 gives next
next_alone : (h : History) (e : HistoryEntry) → e.caller ≡ 1 → e.number ≡ suc (length (own h e.caller))
    → e ≡ next_entry h 1 e.command
next_alone h e one next =
    let number : e.number ≡ suc (length (own h 1)) = next ∙ ap (λ c. suc (length (own h c))) one in
    λ i. record { caller = one i; number = number i; command = e.command }

own_alone : (e : HistoryEntry) (h : History) → e.caller ≡ 1 → own (e ∷ h) 1 ≡ e.command ∷ own h 1
own_alone e h one = ap (λ (b : Bool).
    map (λ e. e.command) (if b then e ∷ filter (λ e. e.caller == 1) h else filter (λ e. e.caller == 1) h))
    (eq-eqb e.caller 1 one)

only_one : (n : ℕ) → 0 < n → n ≤ 1 → n ≡ 1
only_one n low high = omega arith

alone_from : (front rest : History) → IsLegal (front ++ rest) → IsBy 1 rest
    → front ++ rest ≡ then_alone front (own rest 1)
alone_from front [] legal by = append-nil front
alone_from front (e ∷ rest) legal by =
    let here = by 0 e refl in
    let one : e.caller ≡ 1 = only_one e.caller here.0 here.1 in
    let next : e ≡ next_entry front 1 e.command = next_alone front e one (legal.numbers front rest e refl) in
    let moved : (front ++ e ∷ []) ++ rest ≡ front ++ e ∷ rest = append_assoc front (e ∷ []) rest in
    let more = alone_from (front ++ e ∷ []) rest (subst IsLegal (sym moved) legal) (λ k x at. by (suc k) x at) in
    sym moved ∙ more
    ∙ ap (λ x. then_alone (front ++ x ∷ []) (own rest 1)) next
    ∙ ap (then_alone front) (sym (own_alone e rest one))

-- a legal history of caller 1 alone is that of its commands
pub alone : (h : History) (n : ℕ) (mine : List Command) → IsLegal h → IsBy n h → n ≡ 1 → own h 1 ≡ mine
    → h ≡ history_alone mine
alone h n mine legal by one is = alone_from [] h legal (subst (λ m. IsBy m h) one by) ∙ ap history_alone is

then_more : (h : History) (mine : List Command) (c : Command) → then_alone h (mine ++ c ∷ [])
    ≡ with_command (then_alone h mine) 1 c
then_more h [] c = refl
then_more h (d ∷ mine) c = then_more (with_command h 1 d) mine c

pub alone_more : (mine : List Command) (c : Command) → history_alone (mine ++ c ∷ [])
    ≡ with_command (history_alone mine) 1 c
alone_more mine c = then_more [] mine c

then_long : (h : History) (mine : List Command) → length (then_alone h mine) ≡ length h + length mine
then_long h [] = omega arith
then_long h (c ∷ mine) =
    let rest = then_long (with_command h 1 c) mine in
    omega (arith, rest, length-append h (next_entry h 1 c ∷ []))

-- the history has an entry for each command
pub alone_long : (mine : List Command) → length (history_alone mine) ≡ length mine
alone_long mine = let h = then_long [] mine in omega (arith, h)

-- what a history was before its last entry
abbrev fronts : History → History
fronts [] = []
fronts (e ∷ []) = []
fronts (e ∷ f ∷ h) = e ∷ fronts (f ∷ h)

front_of : (h : History) (e : HistoryEntry) → fronts (h ++ e ∷ []) ≡ h
front_of [] e = refl
front_of (f ∷ []) e = refl
front_of (f ∷ g ∷ h) e = ap (λ t. f ∷ t) (front_of (g ∷ h) e)

-- the history before a command that was accepted
pub before_alone : (before after : History) (n : ℕ) (mine : List Command) (c : Command)
    → after ≡ with_command before 1 c → IsLegal after → IsBy n after → n ≡ 1 → own after 1 ≡ mine ++ c ∷ []
    → before ≡ history_alone mine
before_alone before after n mine c is legal by one all =
    sym (front_of before (next_entry before 1 c))
    ∙ ap fronts (sym is ∙ alone after n (mine ++ c ∷ []) legal by one all ∙ alone_more mine c)
    ∙ front_of (history_alone mine) (next_entry (history_alone mine) 1 c)

-- what was accepted had room
pub had_room : (before after : History) (c : Command) → after ≡ with_command before 1 c → IsLegal after
    → IsTrue (has_room before c)
had_room before after c is legal =
    let e = next_entry before 1 c in
    let small : finite.len (replay (before ++ e ∷ [])) ≤ MOST_LIVE =
    legal.small (before ++ e ∷ []) [] (is ∙ sym (append-nil _)) in
    let same = replays_on before e in
    let short = legal.short in
    let long : length after ≡ length before + 1 = ap length is ∙ length-append before (e ∷ []) in
    room_from before c (subst (λ r. finite.len r ≤ MOST_LIVE) same small) (omega (arith, short, long))

-- ---- what the desk's only caller learns

pub accepted : (before after : History) (n caller : ℕ) (old new : List Command) (c : Command) (a : Applied)
    → after ≡ with_command before caller c → a ≡ answer_of c (applied before c) → IsLegal after → IsBy n after → n ≡ 1
    → caller ≡ 1 → own after caller ≡ new → new ≡ old ++ c ∷ []
    → IsJudged (history_alone old) (history_alone new) c (Some a)
accepted before after n caller old new c a is answer legal by one first all grown =
    let added : after ≡ with_command before 1 c = is ∙ ap (λ k. with_command before k c) first in
    let mine : own after 1 ≡ old ++ c ∷ [] = ap (own after) (sym first) ∙ all ∙ grown in
    let same : before ≡ history_alone old = before_alone before after n old c added legal by one mine in (
      subst (λ h. has_room h c ≡ true) same (had_room before after c added legal),
      ap history_alone grown ∙ alone_more old c,
      answer ∙ ap (λ h. answer_of c (applied h c)) same,
    )

pub refused : (seen : History) (n caller : ℕ) (old new : List Command) (c : Command) → IsFalse (has_room seen c)
    → IsLegal seen → IsBy n seen → n ≡ 1 → caller ≡ 1 → own seen caller ≡ old → new ≡ old
    → IsJudged (history_alone old) (history_alone new) c None
refused seen n caller old new c full legal by one first all stays =
    let same : seen ≡ history_alone old = alone seen n old legal by one (ap (own seen) (sym first) ∙ all) in
    (subst (λ h. has_room h c ≡ false) same full, ap history_alone stays)

pub looked : (seen : History) (n caller : ℕ) (mine : List Command) → IsLegal seen → IsBy n seen → n ≡ 1 → caller ≡ 1
    → own seen caller ≡ mine → seen ≡ history_alone mine
looked seen n caller mine legal by one first all = alone seen n mine legal by one (ap (own seen) (sym first) ∙ all)
