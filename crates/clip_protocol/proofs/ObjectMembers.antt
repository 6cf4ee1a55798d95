-- Objects taken apart, member by member.
use Rattle.std.proofs.Common.{◌≡◌, ℕ, List, [], ◌∷◌, length, Some, None, option_and_then, String, Global, refl, sym, ap}
use Rattle.std.proofs.Common.{◌∙◌}
use Rattle.serde_json.specs.Data.{Data, Members}
use Rattle.serde_json.specs.View.{members_view}
use Rattle.serde_json.specs.declared.value.Value.{Value}
use Rattle.clip_protocol.specs.Steps.Outline.{take_member, when_none_left, then_take, two_of}

pub two_of-taken : (first second : List ℕ) (x y : Data) (ms others rest : Members)
    → Some (x, others) ≡ take_member first ms → Some (y, rest) ≡ take_member second others
    → two_of first second ms ≡ when_none_left (x, y) rest
two_of-taken first second x y ms others rest one two = ap (option_and_then (then_take second)) (sym one)
    ∙ ap (option_and_then (λ q. when_none_left (x, q.0) q.1)) (sym two)

pub when_none_left-some : {A : Type 0} (x : A) (es : List (String Global × Value)) → ¬ (length es ≡ 0)
    → when_none_left x (members_view es) ≡ None
when_none_left-some x [] some = absurd (some refl)
when_none_left-some x (e ∷ es) some = refl
