-- What a store has, and what a stop may leave of it, by what became of its calls.
use Rattle.std.specs.Prelude.{◌≡◌, ◌⊎◌, ℕ, ◌+◌, ◌≤◌, List, [], ◌∷◌, ◌++◌, length, Option, Some, None, Vec}
use Rattle.std.proofs.Common.{inl, inr}
use Rattle.std.proofs.Math.Nat.{not-suc-le_self}
use Rattle.std.specs.declared.alloc.Global.{Global}
use Rattle.clip_journal.specs.Stop.{IsLeft}
use Rattle.clip_file_store.specs.declared.told.Told.{Told}
use Rattle.clip_file_store.specs.declared.told.Told.TheVariants as told

-- what was synced, what was added since, and what a call that failed may have put in their place
pub record Content : Type 0 where
  pub synced : List ℕ
  pub added : List ℕ
  pub other : Option (List ℕ)

abbrev pub empty : Content
empty = record { synced = []; added = []; other = None }

-- all that is there
abbrev pub all_of : Content → List ℕ
all_of c = c.synced ++ c.added

-- A stop leaves what was synced with a front of what was added since, or what a call that failed may have put there.
abbrev pub MayLeave : Content → List ℕ → Type 0
MayLeave c left = IsLeft c.synced c.added left ⊎ (c.other ≡ Some left)

-- after a call with these bytes, of which this became
abbrev pub then_told : Content → List ℕ → Told → Content
then_told c bytes told.Added = record { synced = c.synced; added = c.added ++ bytes; other = c.other }
then_told c bytes told.CutOff = record { synced = c.synced; added = c.added ++ bytes; other = c.other }
then_told c bytes told.Synced = record { synced = c.synced ++ c.added; added = []; other = None }
then_told c bytes told.Put = record { synced = bytes; added = []; other = None }
then_told c bytes told.Tried = record { synced = c.synced; added = c.added; other = Some bytes }
then_told c bytes told.Failed = c

-- a call's bytes, and what became of it
abbrev pub Call : Type 0
Call = Vec ℕ Global × Told

-- after calls, of which the last stands first
abbrev pub content : List Call → Content
content [] = empty
content (call ∷ calls) = then_told (content calls) call.0.items call.1

-- What a stop might have left behind the first t of the calls, or behind more of them.
abbrev pub LeftSince : List Call → ℕ → List ℕ → Type 0
LeftSince [] t left = MayLeave empty left
LeftSince (call ∷ calls) t left = MayLeave (content (call ∷ calls)) left ⊎ ((t ≤ length calls) × LeftSince calls t left)

abbrev fails : Told → ℕ
fails told.Added = 0
fails told.CutOff = 1
fails told.Synced = 0
fails told.Put = 0
fails told.Tried = 1
fails told.Failed = 1

-- how many of the calls failed
abbrev pub failed : List Call → ℕ
failed [] = 0
failed (call ∷ calls) = fails call.1 + failed calls

-- ---- laws of a store

pub now_counts : (calls : List Call) (t : ℕ) (left : List ℕ) → t ≤ length calls → MayLeave (content calls) left
    → LeftSince calls t left
now_counts [] t left h l = l
now_counts (call ∷ calls) t left h l = inl l

pub now_only : (calls : List Call) (left : List ℕ) → LeftSince calls (length calls) left
    → MayLeave (content calls) left
now_only [] left l = l
now_only (call ∷ calls) left (inl l) = l
now_only (call ∷ calls) left (inr p) = absurd (not-suc-le_self (length calls) p.0)
