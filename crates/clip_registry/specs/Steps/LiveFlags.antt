-- Live flags beside segments: for each segment a flag for each of its entries, by position.
use Rattle.std.specs.Prelude.{ℕ, Bool, false, ◌==◌, ◌&&◌, ◌||◌, not, cond, List, [], ◌∷◌, map, filter}
use Rattle.clip_model.specs.History.{Registered, Registry, is_live_in}

-- the flags of entries by a test of their seqs
abbrev pub flags_of : (ℕ → Bool) → List Registered → List Bool
flags_of is entries = map (λ r. is r.seq) entries

abbrev pub flags_by : (ℕ → Bool) → List (List Registered) → List (List Bool)
flags_by is segments = map (flags_of is) segments

-- the flags of what is live in a registry
abbrev pub flags_in : Registry → List (List Registered) → List (List Bool)
flags_in registry segments = flags_by (is_live_in registry) segments

-- a test without a seq
abbrev pub without : ℕ → (ℕ → Bool) → ℕ → Bool
without gone is seq = cond (gone == seq) false (is seq)

-- a test without these seqs
abbrev pub without_all : List ℕ → (ℕ → Bool) → ℕ → Bool
without_all [] is = is
without_all (gone ∷ more) is = without_all more (without gone is)

-- the entry fails the one test of its seq, or passes the other
abbrev pub stays : (ℕ → Bool) → (ℕ → Bool) → Registered → Bool
stays is was r = not (is r.seq) || was r.seq

-- the entries that passed the one test and fail the other: those that died
abbrev pub died : (ℕ → Bool) → (ℕ → Bool) → List Registered → List Registered
died is was entries = filter (λ r. was r.seq && not (is r.seq)) entries
