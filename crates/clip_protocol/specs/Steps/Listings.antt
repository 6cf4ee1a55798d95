-- What the reading of a listed query comes to.
use Rattle.std.specs.Prelude.{◌≡◌, Result, Ok, Err, ⊤}
use Rattle.std.specs.Arc.{arc_value}
use Rattle.std.specs.declared.alloc.Global.{Global}
use Rattle.std.specs.declared.sync.Arc.{Arc}
use Rattle.clip_grammar.specs.Tree.{Tree}
use Rattle.clip_model.specs.Standing.{Standing}
use Rattle.clip_protocol.specs.Request.{Listing}
use Rattle.clip_protocol.specs.LineMeaning.{IsQuery, IsReadAs}
use Rattle.clip_protocol.specs.declared.refusal.Refusal.TheVariants as reason
use Rattle.clip_protocol.specs.declared.refusal.Unread.{Unread}
use Rattle.clip_protocol.specs.declared.refusal.Unread.TheVariants as unread

-- The listed query is read as this standing one, or its text is no query.
abbrev pub ReadsListing : Listing → Result (Arc Standing Global) Unread → Type 0
ReadsListing l (Ok s) = IsReadAs l (arc_value s)
ReadsListing l (Err (unread.Refused r)) = (r ≡ reason.Query) × ((tree : Tree) → ¬ (IsQuery l.query tree))
ReadsListing l (Err unread.NoMemory) = ⊤
