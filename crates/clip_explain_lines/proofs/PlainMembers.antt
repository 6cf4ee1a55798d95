-- Objects, written member by member.
use Rattle.std.proofs.Common.{◌≡◌, ℕ, List, [], ◌∷◌, ◌++◌, flat_map, refl, ap, ◌∙◌, append_assoc}
use Rattle.json.specs.Token.{Token, begin_object, end_object}
use Rattle.json.specs.Tree.{members_tokens}
use Rattle.serde_json.specs.Data.{Data}
use Rattle.serde_json.specs.Written.{members_outline}
use Rattle.clip_protocol.specs.Request.{members_from, object_of}
use Rattle.clip_protocol.specs.Steps.Printing.{data_tokens}
use Rattle.clip_explain_lines.specs.Steps.Plain.{member_tokens}

members_closed : (ms : List (List ℕ × Data))
    → flat_map member_tokens ms ++ end_object ∷ [] ≡ members_tokens (members_outline (members_from ms))
members_closed [] = refl
members_closed (m ∷ ms) = append_assoc (member_tokens m) (flat_map member_tokens ms) (end_object ∷ [])
    ∙ ap (λ ts. member_tokens m ++ ts) (members_closed ms)

-- members in an object that has begun, and its end
pub object_tokens : (before : List Token) (ms : List (List ℕ × Data))
    → ((before ++ begin_object ∷ []) ++ flat_map member_tokens ms) ++ end_object ∷ []
    ≡ before ++ data_tokens (object_of ms)
object_tokens before ms =
    append_assoc (before ++ begin_object ∷ []) (flat_map member_tokens ms) (end_object ∷ [])
    ∙ append_assoc before (begin_object ∷ []) (flat_map member_tokens ms ++ end_object ∷ [])
    ∙ ap (λ ts. before ++ begin_object ∷ ts) (members_closed ms)
