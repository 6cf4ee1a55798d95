-- What a commit adds, over plain histories.
use Rattle.std.proofs.Common.{◌≡◌, ℕ, ◌+◌, ◌≤◌, ◌<◌, List, [], ◌∷◌, ◌++◌, length, take, sym, ap, ◌∙◌, subst, arith}
use Rattle.std.proofs.Common.{length-append, take_all, Result, Ok, Err, IfOk}
use mathlib.Core.List.{IsPrefix}
use Rattle.clip_model.specs.History.{History, Command, own, next_entry, with_command}
use Rattle.clip_registry.specs.RegistryState.{RegistryState, state_after}
use Rattle.clip_desk.specs.Callers.{IsBy}
use Rattle.clip_desk.proofs.Beginnings.{prefix_trans}
use Rattle.clip_desk.proofs.Histories.{own_next, by_more}

pub own_grown : (before after : History) (mine : List Command) (c : ℕ) (command : Command)
    → after ≡ with_command before c command → own before c ≡ mine → own after c ≡ mine ++ command ∷ []
own_grown before after mine c command is own_is = ap (λ l. own l c) is ∙ own_next before c command
    ∙ ap (λ m. m ++ command ∷ []) own_is

pub mine_grown : (before after : History) (mine : List Command) (c : ℕ) (command : Command)
    → after ≡ with_command before c command → own before c ≡ mine → take (length mine + 1) (own after c)
    ≡ mine ++ command ∷ []
mine_grown before after mine c command is own_is =
    ap (take (length mine + 1)) (own_grown before after mine c command is own_is)
    ∙ take_all (length mine + 1) (mine ++ command ∷ []) (omega (arith, length-append mine (command ∷ [])))

pub own_fits : (before after : History) (mine : List Command) (c : ℕ) (command : Command)
    → after ≡ with_command before c command → own before c ≡ mine
    → IsPrefix mine (own after c) × (length mine + 1 ≤ length (own after c))
own_fits before after mine c command is own_is =
    let o = own_grown before after mine c command is own_is in
    ((command ∷ [], sym o), omega (arith, ap length o, length-append mine (command ∷ [])))

pub seen_grown : (seen before after : History) (c : ℕ) (command : Command) → IsPrefix seen before
    → after ≡ with_command before c command → IsPrefix seen after
seen_grown seen before after c command p is =
    prefix_trans seen before after p (next_entry before c command ∷ [], sym is)

-- after a command of one of its callers the history has these callers
pub by_grown : (n c : ℕ) (before after : RegistryState) (command : Command) → after ≡ state_after before c command
    → 0 < c → c ≤ n → IsBy n before.history → IsBy n after.history
by_grown n c before after command is low high by =
    subst (λ (s : RegistryState). IsBy n s.history) (sym is)
    (by_more n before.history (next_entry before.history c command) by low high)

-- the chronicle, once it has followed the registrar that took the command
pub followed : (registrar next : RegistryState) (seen after : History) (c c' : ℕ) (command : Command)
    → after ≡ next.history → next ≡ state_after registrar c' command → seen ≡ registrar.history → c' ≡ c
    → after ≡ with_command seen c command
followed registrar next seen after c c' command added is log ca = added ∙ ap (λ s. s.history) is
    ∙ (λ i. with_command (sym log i) (ca i) command)

-- two facts of what is Ok
pub both_ok : {A E : Type 0} (P Q S : A → Type 0) (r : Result A E) → IfOk r P → IfOk r Q → ((a : A) → P a → Q a → S a)
    → IfOk r S
both_ok P Q S (Ok a) p q f = f a p q
both_ok P Q S (Err e) p q f = tt
