-- What a journal shows.
use Rattle.std.specs.Prelude.{ℕ, List, Option}
use Rattle.std.specs.Io.KnownBytes.{Appends}
use Rattle.clip_front.specs.Outcome.{OfKept}
use Rattle.clip_keeping.specs.Live.{AreLive}
use Rattle.clip_keeping.specs.Printed.{text_of}

-- just the lines that register what the kept lines leave live, each with a line feed
abbrev pub PrintsLive : List (List ℕ) → Option (List ℕ) → Option (List ℕ) → List (List ℕ) → Type 0
PrintsLive names old new kept = OfKept names kept
    (λ begins. (lines : List (List ℕ)) × AreLive begins lines × Appends old new (text_of lines))
