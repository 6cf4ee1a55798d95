-- What a register leaves of segments.
use Rattle.std.proofs.Common.{◌≡◌, ℕ, ◌<◌, ◌≤◌, ◌++◌, List, [], ◌∷◌, length, refl, sym}
use Rattle.std.proofs.Common.{ap, arith, add-zero}
use Rattle.std.specs.FinMap as finite
use Rattle.std.specs.FinMap.{len-empty}
use Rattle.clip_words.specs.Order.{bytes_cmp}
use Rattle.clip_model.specs.Standing.{Standing}
use Rattle.clip_model.specs.History.{Registered, Registry, Register}
use Rattle.clip_model.specs.declared.limits.TheConstants.{MOST_LIVE}
use Rattle.clip_registry.specs.Steps.Change.{Content, IsChanged}
use Rattle.clip_standing.specs.declared.command.Applied.TheVariants as applied
use Rattle.clip_registry.specs.RegistryState.{standing_after, segments_after}

pub segments_register : (segments : List (List Registered)) (n : ℕ) (m : Registry) (ss : List Standing) → 0 < length ss
    → segments_after segments n m (Register ss) ≡ segments ++ standing_after n ss m ∷ []
segments_register segments n m [] some = absurd (omega arith)
segments_register segments n m (s ∷ ss) some = refl

-- to register nothing changes nothing
pub nothing_registered : (before : Content) → finite.len before.roster.registry ≤ MOST_LIVE
    → IsChanged (Register []) before before (applied.Registered 0)
nothing_registered before small = record {
  registry = refl;
  listed = sym (add-zero before.roster.listed);
  segments = refl;
  small = small;
  answer = ap applied.Registered (sym (len-empty bytes_cmp Registered));
}
