-- Objects of one member.
use Rattle.std.proofs.Common.{◌≡◌, ℕ, List, Option, Some, None, refl}
use Rattle.serde_json.specs.Data.{Data, Members, no_members, member}
use Rattle.clip_protocol.specs.Steps.Outline.{when_none_left}
use Rattle.clip_explain_lines.specs.Asked.{first_of}

some_none : {A : Type 0} {x : A} → Some x ≡ None → ⊥
some_none e = cc

none_some : {A : Type 0} {x : A} → None ≡ Some x → ⊥
none_some e = cc

-- where no first member is, none is left
pub left_none : (m : List ℕ × Data) (ms : Members) → first_of ms ≡ None → when_none_left m ms ≡ Some m
left_none m no_members e = refl
left_none m (member k d ms) e = absurd (some_none e)

-- where one is, some are left
pub left_some : (m : List ℕ × Data) (ms : Members) (p : (List ℕ × Data) × Members) → first_of ms ≡ Some p
    → when_none_left m ms ≡ None
left_some m no_members p e = absurd (none_some e)
left_some m (member k d ms) p e = refl
