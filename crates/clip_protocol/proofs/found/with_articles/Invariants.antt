use Rattle.std.proofs.Common.{◌≡◌, ◌++◌, drop, false, map, nat_lt}
use Rattle.serde_json.specs.View.{items_of}
use Rattle.serde_json.specs.Written.{items_text}
use Rattle.clip_protocol.specs.Found.{found_value}
use Rattle.clip_protocol.specs.Reply.{alerts_data}
use Rattle.clip_protocol.specs.Steps.Views.{alerts_by_id}
use Rattle.clip_protocol.proofs.found.with_articles.Given as goal

abbrev pub invariant-loop-place : goal.invariant-loop-place
invariant-loop-place l =
    l.text.items ++ items_text (nat_lt 0 l.place)
    (items_of (map (alerts_data l.form) (map alerts_by_id (map found_value (drop l.place l.all)))))
    ≡ l.initial.text.items ++ items_text false
    (items_of (map (alerts_data l.form) (map alerts_by_id (map found_value l.all))))
