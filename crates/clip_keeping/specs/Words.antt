-- What the program's words ask for.
use Rattle.std.specs.Prelude.{ℕ, Bool, ⊤, ◌≤◌, false, not, ◌==◌, List, [], ◌∷◌, if◌then◌else◌, bytes_eq, codes, String}
use Rattle.std.specs.Prelude.{string_bytes, Option, Some, None, option_map, option_and_then}
use Rattle.std.specs.declared.alloc.Global.{Global}
use Rattle.clip_stream.specs.declared.limits.TheConstants.{MOST_WORKERS}
use Rattle.clip_command_line.specs.CommandLine.{run_mode}
use Rattle.clip_command_line.specs.declared.mode.Mode.{Mode}
use Rattle.clip_command_line.specs.declared.mode.Mode.TheVariants as mode
use Rattle.clip_keeping.specs.declared.words.Asked.{Asked}
use Rattle.clip_keeping.specs.declared.words.Task.{Task}
use Rattle.clip_keeping.specs.declared.words.Task.TheVariants.{Run, Look}
use Rattle.clip_keeping.specs.declared.words.Look.TheVariants.{Dump, Check, Stats}

-- a folder may have any name but an option's
abbrev pub names_folder : List ℕ → Bool
names_folder [] = false
names_folder (byte ∷ bytes) = not (byte == 45)

-- what one word behind the folder's asks for that is no run's
abbrev pub shown_of : List ℕ → Option Task
shown_of word = if bytes_eq word (codes "--dump") then Some (Look Dump)
    else (if bytes_eq word (codes "--check") then Some (Look Check)
    else (if bytes_eq word (codes "--stats") then Some (Look Stats) else None))

-- it stands alone
abbrev pub shown_in : List (String Global) → Option Task
shown_in [] = None
shown_in (word ∷ []) = shown_of (string_bytes word)
shown_in (word ∷ other ∷ words) = None

abbrev pub run_in : Mode → Option Task
run_in (mode.Run workers form) = Some (Run workers form)
run_in mode.Trace = None
run_in mode.Version = None

-- the other only where the first asks for nothing
abbrev pub first_asked : Option Task → Option Task → Option Task
first_asked (Some task) other = Some task
first_asked None other = other

-- behind the folder's name: what may follow `run` as a word of the program `pressclip`, or one of the others
abbrev pub task_of : List (String Global) → Option Task
task_of words = first_asked (shown_in words) (option_and_then run_in (run_mode words))

abbrev pub asked_of : List (String Global) → Option Asked
asked_of [] = None
asked_of (folder ∷ words) = if names_folder (string_bytes folder)
    then option_map (λ task. record { folder = folder; task = task }) (task_of words) else None

-- a run has no more workers than a run may have
abbrev pub HasFewWorkers : Task → Type 0
HasFewWorkers (Run workers form) = workers ≤ MOST_WORKERS
HasFewWorkers (Look how) = ⊤
