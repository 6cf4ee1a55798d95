-- The first bytes of a text as one number, by which most texts are told apart.
use Rattle.std.specs.Prelude.{◌≡◌, ℕ, ◌+◌, ◌*◌, ◌<◌, List, [], ◌∷◌, zero, suc}
use Rattle.std.specs.List.{AllByRecursion}

-- each number is a byte
abbrev pub AreBytes : List ℕ → Type 0
AreBytes text = AllByRecursion (λ b. b < 256) text

-- the number that goes on from `lead` by so many bytes of the text, the greatest first, and by 0 past its end
abbrev pub lead_after : (lead left : ℕ) → List ℕ → ℕ
lead_after lead zero text = lead
lead_after lead (suc left) [] = lead_after (lead * 256) left []
lead_after lead (suc left) (byte ∷ text) = lead_after (lead * 256 + byte) left text

-- the number of a text's first eight bytes
unfoldable pub lead_of : List ℕ → ℕ
lead_of text = lead_after 0 8 text

-- The number is the lead of the text, which is of bytes.
pub record IsLead (text : List ℕ) (lead : ℕ) : Type 0 where
  pub bytes : AreBytes text
  pub number : lead ≡ lead_of text
