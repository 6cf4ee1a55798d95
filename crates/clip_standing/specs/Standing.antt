-- What holds of every standing query, and why one is refused.
use Rattle.std.specs.Prelude.{◌≡◌, ℕ, List, true, false, IsTrue}
use Rattle.clip_grammar.specs.Reading.{Reads, HasNoFault, IsFault}
use Rattle.clip_grammar.specs.declared.fault.QueryFault.{QueryFault}
use Rattle.clip_grammar.specs.declared.fault.QueryFault.TheVariants as query
use Rattle.clip_words.specs.Ids.{is_id}
use Rattle.clip_model.specs.Standing as value
use Rattle.clip_standing.specs.declared.standing.StandingFault.{StandingFault}
use Rattle.clip_standing.specs.declared.standing.StandingFault.TheVariants as fault

-- The id is 1 to 256 bytes, no refusal holds of the text, and the text is read as the tree.
pub record IsStanding (s : value.Standing) : Type 0 where
  pub id : IsTrue (is_id s.id)
  pub kept : HasNoFault s.text
  pub reads : Reads s.text s.tree

-- the refusal of a query's text, as that of a standing query
abbrev pub standing_fault : QueryFault → StandingFault
standing_fault query.NoMemory = fault.NoMemory
standing_fault f = fault.Query f

-- The first refusal that holds of the id and the text is this one.
abbrev pub IsStandingFault : List ℕ → List ℕ → StandingFault → Type 0
IsStandingFault id text fault.Id = is_id id ≡ false
IsStandingFault id text (fault.Query f) = (is_id id ≡ true) × (f ≡ query.NoMemory → ⊥) × IsFault text f
IsStandingFault id text fault.NoMemory = Unit {0}
