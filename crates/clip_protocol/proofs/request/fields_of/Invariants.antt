use Rattle.std.proofs.Common.{◌≡◌, ◌++◌, option_map}
use Rattle.serde_json.specs.View.{members_view}
use Rattle.clip_protocol.specs.Steps.Outline.{fields_of}
use Rattle.clip_protocol.specs.Steps.Views.{fields_view}
use Rattle.clip_protocol.proofs.request.fields_of.Given as goal

abbrev pub invariant-loop-name : goal.invariant-loop-name
invariant-loop-name l = option_map (λ more. fields_view l.all.items ++ more) (fields_of (members_view l.name-iterator))
    ≡ fields_of (members_view l.fn.members.entries)
