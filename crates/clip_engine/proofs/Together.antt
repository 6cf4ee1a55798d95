-- Queries that are registered together, and what is told of a refusal.
use Rattle.std.proofs.Common.{◌≡◌, ℕ, zero, suc, List, [], ◌∷◌, Option, Some, None, Err, true, false, refl}
use Rattle.std.proofs.Common.{sym, ap, subst, ◌<◌, arith, get_or, inl, inr, length, option_map}
use Rattle.std.specs.List.{slice_get}
use Rattle.clip_model.specs.History.{Registered}
use Rattle.clip_model.specs.Standing.{Standing}
use Rattle.clip_protocol.specs.Request.{Listing}
use Rattle.clip_protocol.specs.declared.listing.ListFault.{ListFault}
use Rattle.clip_protocol.specs.declared.listing.ListFault.TheVariants as fault
use Rattle.clip_protocol.specs.declared.refusal.Refusal.{Refusal}
use Rattle.clip_protocol.specs.declared.refusal.Refusal.TheVariants as reason
use Rattle.clip_protocol.specs.declared.refusal.Unread.TheVariants as unread
use Rattle.clip_engine.specs.Calls.{IsRefusedAt, IsShown}
use Rattle.clip_engine.specs.Code.{number_of}
use Rattle.clip_engine.specs.Engine.{EngineIs}
use Rattle.clip_engine.specs.Listed.{IsUnread, IsWhich}
use Rattle.clip_engine.specs.Many.{AreIn, IsOut, FirstOut, TakesMany, RegistersMany}
use Rattle.clip_engine.specs.Texts.{IsNoText, IsReadable, listing_at, listings_at}
use Rattle.clip_engine.specs.declared.listed.Listed.{Listed}

-- no query is the first to be refused for what none is refused for
never_first : (ls : List Listing) (r : Refusal) (k : ℕ) → ((l : Listing) → IsOut l r → ⊥) → FirstOut ls r k → ⊥
never_first [] r k never out = out
never_first (l ∷ ls) r zero never out = never l out
never_first (l ∷ ls) r (suc k) never out = never_first ls r k never out.1

-- what one of them is refused for, all are
pub refused_for_one : (old new : EngineIs) (ls : List Listing) (e : ListFault) → TakesMany ls (Err e)
    → RegistersMany old new ls (Err e)
refused_for_one old new ls (fault.Refused reason.Limit k) out = inr out
refused_for_one old new ls (fault.Refused reason.Query k) out = out
refused_for_one old new ls (fault.Refused reason.Listener k) out = out
refused_for_one old new ls (fault.Refused reason.Full k) out = absurd (never_first ls reason.Full k (λ l h. h) out)
refused_for_one old new ls (fault.Refused reason.Long k) out = never_first ls reason.Long k (λ l h. h) out
refused_for_one old new ls (fault.Refused reason.Json k) out = never_first ls reason.Json k (λ l h. h) out
refused_for_one old new ls (fault.Refused reason.Shape k) out = never_first ls reason.Shape k (λ l h. h) out
refused_for_one old new ls fault.NoMemory out = tt

-- as many are taken as are listed
pub as_many : (ls : List Listing) (ss : List Standing) → AreIn ls ss → length ls ≡ length ss
as_many [] [] all = refl
as_many (l ∷ ls) (s ∷ ss) all = ap suc (as_many ls ss all.1)
as_many [] (s ∷ ss) all = absurd all
as_many (l ∷ ls) [] all = absurd all

-- ---- the number and the place that are told

-- the query of these texts
abbrev pub listing_of_one : Listed → Listing
listing_of_one q = listing_at q.id.now q.query.now q.has_listener q.listener.now

got : {X : Type 0} (xs : List X) (i : ℕ) (d : X) → i < length xs → slice_get xs i ≡ Some (get_or xs i d)
got [] i d lt = absurd (omega arith)
got (x ∷ xs) zero d lt = refl
got (x ∷ xs) (suc i) d lt = got xs i d (omega arith)

-- the texts at a place are none
pub unread_at : (listed : List Listed) (i k : ℕ) (d : Listed) (code : ℕ) → i < length listed → i ≡ k
    → IsNoText (IsReadable (get_or listed i d)) code
    → IsUnread listed code k
unread_at listed i k d code lt place (inl none) =
    inl (
      none.0,
      get_or listed i d,
      subst (λ n. slice_get listed n ≡ Some (get_or listed i d)) place (got listed i d lt),
      none.1,
    )
unread_at listed i k d code lt place (inr short) = inr short

pub refused_at : (listed : List Listed) (old new : EngineIs) (ls : List Listing) → ls ≡ listings_at listed
    → (why : ListFault) (code which : ℕ) → IsWhich why code which → RegistersMany old new ls (Err why)
    → IsRefusedAt listed old new code which
refused_at listed old new ls are (fault.Refused r k) code which told refused =
    inr (
      r,
      told.0,
      subst (λ w. RegistersMany old new (listings_at listed) (Err (fault.Refused r w))) (sym told.1)
          (subst (λ xs. RegistersMany old new xs (Err (fault.Refused r k))) are refused),
    )
refused_at listed old new ls are fault.NoMemory code which told refused = inl (inr told)

some_reason : (r : Refusal) → number_of (unread.Refused r) ≡ 0 → ⊥
some_reason reason.Limit e = omega (arith, e)
some_reason reason.Query e = omega (arith, e)
some_reason reason.Listener e = omega (arith, e)
some_reason reason.Full e = omega (arith, e)
some_reason reason.Long e = omega (arith, e)
some_reason reason.Json e = omega (arith, e)
some_reason reason.Shape e = omega (arith, e)

-- a refusal has another number than what went well
pub some_number : (listed : List Listed) (old new : EngineIs) (code which : ℕ) → IsRefusedAt listed old new code which
    → code ≡ 0 → ⊥
some_number listed old new code which (inl (inl none)) e = omega (arith, none.0, e)
some_number listed old new code which (inl (inr short)) e = omega (arith, short, e)
some_number listed old new code which (inr refused) e =
    some_reason refused.0 (subst (λ n. n ≡ 0) refused.1 e)

-- ---- what is shown

pub shown_some : (o : Option Registered) (text : List ℕ) → Some text ≡ option_map (λ r. r.standing.text) o
    → IsShown o true text
shown_some None text e = absurd (other e)
  where
    other : {X : Type 0} {x : X} → Some x ≡ None → ⊥
    other h = cc
shown_some (Some r) text e = (refl, same e)
  where
    same : {X : Type 0} {x y : X} → Some x ≡ Some y → x ≡ y
    same h = cc

pub shown_none : (o : Option Registered) (text : List ℕ) → None ≡ option_map (λ r. r.standing.text) o
    → IsShown o false text
shown_none None text e = refl
shown_none (Some r) text e = absurd (other e)
  where
    other : {X : Type 0} {x : X} → None ≡ Some x → ⊥
    other h = cc
