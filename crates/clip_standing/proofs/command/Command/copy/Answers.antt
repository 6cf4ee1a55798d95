use Rattle.std.proofs.Common.{◌≡◌, sym, ap, ◌∙◌, String, string_bytes}
use Rattle.std.specs.declared.alloc.Global.{Global}
use Rattle.clip_model.specs.History as model
use Rattle.clip_standing.specs.Command.{command_of}
use Rattle.clip_standing.proofs.Clones.{map_clones, map_shared}
use Rattle.clip_standing.proofs.command.Command.copy.Goals as goal

pub returns-in_ok-clone-in-Register : goal.returns-in_ok-clone-in-Register
returns-in_ok-clone-in-Register c =
    ap model.Register (map_shared c.in-Register.standings.items c.in_ok-clone-in-Register.field-0.items
    c.in_ok-clone-in-Register.ensures.cases.0) ∙ ap command_of (sym c.in-Register.is)

pub returns-in_ok-clone-in-Delete : goal.returns-in_ok-clone-in-Delete
returns-in_ok-clone-in-Delete c =
    ap model.Delete (map_clones (λ (x y : String Global). string_bytes y ≡ string_bytes x) string_bytes (λ x y e. e)
    c.in-Delete.ids.items c.in_ok-clone-in-Delete.field-0.items c.in_ok-clone-in-Delete.ensures.cases.0)
    ∙ ap command_of (sym c.in-Delete.is)
