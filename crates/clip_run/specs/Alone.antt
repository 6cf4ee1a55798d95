-- The history of one caller's commands.
use Rattle.std.specs.Prelude.{List, [], ◌∷◌}
use Rattle.clip_model.specs.History.{History, Command, with_command}

-- the history with these commands of caller 1 after it
abbrev pub then_alone : History → List Command → History
then_alone h [] = h
then_alone h (c ∷ cs) = then_alone (with_command h 1 c) cs

-- the history of these commands, all of caller 1
abbrev pub history_alone : List Command → History
history_alone cs = then_alone [] cs
