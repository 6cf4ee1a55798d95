-- Laws of histories.
use Rattle.std.proofs.Common.{◌≡◌, ℕ, zero, suc, ◌<◌, ◌≤◌, ◌==◌, Bool, List, [], ◌∷◌, ◌++◌, map, filter}
use Rattle.std.proofs.Common.{Some, slice_get, refl, ap, subst, ◌∙◌, eq-eqb, if◌then◌else◌, ◌⊎◌, inl, inr, ⊎_elim}
use Rattle.std.proofs.lemmas.List.{map-append}
use Rattle.std.proofs.lemmas.List.Elements.{filter-append}
use Rattle.clip_model.specs.History.{History, HistoryEntry, Command, own, next_entry, with_command}
use Rattle.clip_desk.specs.Callers.{IsBy}

abbrev by : ℕ → HistoryEntry → Bool
by c e = e.caller == c

abbrev given : HistoryEntry → Command
given e = e.command

pub own_append : (g h : History) (c : ℕ) → own (g ++ h) c ≡ own g c ++ own h c
own_append g h c = ap (map given) (filter-append (by c) g h) ∙ map-append given (filter (by c) g) (filter (by c) h)

own_last : (e : HistoryEntry) → own (e ∷ []) e.caller ≡ e.command ∷ []
own_last e = ap (λ (b : Bool). map given (if b then e ∷ [] else [])) (eq-eqb e.caller e.caller refl)

-- the caller's own commands, after its next one
pub own_next : (h : History) (c : ℕ) (command : Command) → own (with_command h c command) c ≡ own h c ++ command ∷ []
own_next h c command = own_append h (next_entry h c command ∷ []) c
    ∙ ap (λ (ys : List Command). own h c ++ ys) (own_last (next_entry h c command))

get_last : (h : History) (e x : HistoryEntry) (k : ℕ) → slice_get (h ++ e ∷ []) k ≡ Some x → (slice_get h k ≡ Some x)
    ⊎ (e ≡ x)
get_last [] e x zero is = inr (cc is)
get_last [] e x (suc k) is = absurd (cc is)
get_last (y ∷ h) e x zero is = inl is
get_last (y ∷ h) e x (suc k) is = get_last h e x k is

pub by_more : (n : ℕ) (h : History) (e : HistoryEntry) → IsBy n h → 0 < e.caller → e.caller ≤ n → IsBy n (h ++ e ∷ [])
by_more n h e all low high k x is =
    ⊎_elim (λ (t : slice_get h k ≡ Some x). all k x t)
    (λ (t : e ≡ x). subst (λ (z : HistoryEntry). (0 < z.caller) × (z.caller ≤ n)) t (low, high)) (get_last h e x k is)
