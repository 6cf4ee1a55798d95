use Rattle.std.proofs.Common.{◌≡◌, true, drop}
use Rattle.clip_listen.specs.Heard.{distinct, names_of}
use Rattle.clip_listen.specs.Steps.Index.{Indexes}
use Rattle.clip_listen.proofs.places.index_of.Given as goal

-- the names from the place on are in the index, and none stands twice among them
abbrev pub invariant-loop-at : goal.invariant-loop-at
invariant-loop-at g l =
    let names = names_of (drop l.at l.parts) in
    record { indexed : Indexes l.index l.at names; once : distinct names ≡ true }
