-- How what a journal says lies in its bytes: entries, one behind another, each with its place and a chain of digests.
use Rattle.std.specs.Prelude.{◌≡◌, ℕ, suc, ◌+◌, ◌<◌, ◌^◌, ◌⊎◌, List, [], ◌∷◌, ◌++◌, length, replicate}
use Rattle.std.specs.Int.{w64, to_be_bytes}
use Rattle.sha2.specs.Sha256.{sha256}

-- The digest. The proofs use only that it has 32 bytes. What is trusted of it is that nobody makes, by damage or by
-- will, two different entries with one digest: the second would be read in the place of the first.
unfoldable pub digest : List ℕ → List ℕ
digest bytes = sha256 bytes

-- two numbers below 2 ^ 64, as 8 bytes each
unfoldable pub numbers : ℕ → ℕ → List ℕ
numbers a b = to_be_bytes w64 a ++ to_be_bytes w64 b

-- the digest over the link of the entry before, an entry's place and its size
unfoldable pub check : List ℕ → ℕ → ℕ → List ℕ
check link place size = digest (link ++ to_be_bytes w64 place ++ to_be_bytes w64 size)

-- how an entry begins that says so many bytes: 48 bytes
unfoldable pub head : List ℕ → ℕ → ℕ → List ℕ
head link place size = numbers place size ++ check link place size

-- the link of an entry: the digest over its head's digest and over what it says
unfoldable pub link_after : List ℕ → ℕ → List ℕ → List ℕ
link_after link place said = digest (check link place (length said) ++ said)

-- an entry: its head, what it says, and its link
unfoldable pub entry : List ℕ → ℕ → List ℕ → List ℕ
entry link place said = head link place (length said) ++ (said ++ link_after link place said)

-- entries one behind another, from a place on
abbrev pub entries : List ℕ → ℕ → List (List ℕ) → List ℕ
entries link place [] = []
entries link place (said ∷ more) = entry link place said ++ entries (link_after link place said) (suc place) more

-- the link of the last of them
abbrev pub link_behind : List ℕ → ℕ → List (List ℕ) → List ℕ
link_behind link place [] = link
link_behind link place (said ∷ more) = link_behind (link_after link place said) (suc place) more

-- the link that the first entry goes on from
unfoldable pub first_link : List ℕ
first_link = replicate 32 0

-- Less than an entry: nothing, a part of a head, or a head with fewer bytes behind it than it says.
abbrev pub IsTorn : List ℕ → ℕ → List ℕ → Type 0
IsTorn link place rest = (length rest < 48)
    ⊎ ((size : ℕ) × (more : List ℕ) × (size < 2 ^ 64) × (rest ≡ head link place size ++ more)
    × (length more < size + 32))

-- no entry stands in front there
pub record StartsNone (link : List ℕ) (place : ℕ) (rest : List ℕ) : Type 0 where
  pub none : (said more : List ℕ) → length said < 2 ^ 64 → rest ≡ entry link place said ++ more → ⊥

-- neither an entry stands in front there, nor less than one
pub record IsWrong (link : List ℕ) (place : ℕ) (rest : List ℕ) : Type 0 where
  pub none : StartsNone link place rest
  pub not_torn : IsTorn link place rest → ⊥
