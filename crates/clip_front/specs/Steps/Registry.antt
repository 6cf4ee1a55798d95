-- What a registry does with a command, and what it shows.
use Rattle.std.specs.Prelude.{◌≡◌, ℕ, List, Option, Some, None, option_map, true, false}
use Rattle.std.specs.FinMap as finite
use Rattle.clip_model.specs.History.{History, Command, has_room, applied, replay, with_command}
use Rattle.clip_standing.specs.Command.{answer_of}
use Rattle.clip_standing.specs.declared.command.Applied.{Applied}

-- From the first history to the second by a command of caller 1 and this answer to it; where there is no room for it,
-- nothing is answered, and the history stays.
abbrev pub IsJudged : History → History → Command → Option Applied → Type 0
IsJudged old new c None = (has_room old c ≡ false) × (new ≡ old)
IsJudged old new c (Some a) = (has_room old c ≡ true) × (new ≡ with_command old 1 c) × (a ≡ answer_of c (applied old c))

-- the text of the query under an id, if one is registered under it after the history
abbrev pub text_under : History → List ℕ → Option (List ℕ)
text_under h id = option_map (λ r. r.standing.text) (finite.get (replay h) id)
