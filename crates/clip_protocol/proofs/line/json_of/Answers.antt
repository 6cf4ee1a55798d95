use Rattle.std.proofs.Common.{◌≡◌, ℕ, List, Bool, true, false, None, cond, refl, sym, ◌∙◌, true≢false}
use Rattle.std.specs.Str.{IsUtf8, is_utf8}
use Rattle.std.proofs.lemmas.Str.{IsUtf8-from_is_utf8, is_utf8-from_IsUtf8}
use Rattle.serde_json.specs.Read.{read}
use Rattle.clip_protocol.specs.LineMeaning.{json_of}
use Rattle.clip_protocol.proofs.line.json_of.Goals as goal

-- bytes that are no text, or text that is no value, are no value
refused_by : (line : List ℕ) (b : Bool) → is_utf8 line ≡ b → (IsUtf8 line → read line ≡ None)
    → cond b (read line) None ≡ None
refused_by line true e none = none (IsUtf8-from_is_utf8 line e)
refused_by line false e none = refl

refused : (line : List ℕ) → (IsUtf8 line → read line ≡ None) → json_of line ≡ None
unfolding json_of
refused line none = refused_by line (is_utf8 line) refl none

pub returns-in-Ok : goal.returns-in-Ok
unfolding json_of
returns-in-Ok c = let text = is_utf8-from_IsUtf8 c.args.line.now c.in-Ok.ensures.ok.0 in rw text c.in-Ok.ensures.ok.1

pub returns-else-is_memory : goal.returns-else-is_memory
returns-else-is_memory c = (
  refl,
  refused c.args.line.now
      (c.in-Err.ensures.err (λ m. true≢false (sym (c.is_memory.ensures.1 m) ∙ c.if-is_memory.false))),
)
