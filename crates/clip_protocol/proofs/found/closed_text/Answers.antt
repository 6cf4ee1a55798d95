use Rattle.std.proofs.Common.{◌≡◌, [], ◌∷◌, ◌++◌, IfOk, List, ℕ, ap, ap₂, ◌∙◌, append_assoc, codes, map, subst, true}
use Rattle.std.specs.Arc.{arc_str_bytes}
use Rattle.json.specs.Print.{print}
use Rattle.json.specs.Token.{Token, end_array, end_object, key}
use Rattle.serde_json.specs.Data.{string}
use Rattle.serde_json.specs.Written.{members_text}
use Rattle.clip_protocol.specs.Reply.{number_of}
use Rattle.clip_protocol.specs.Request.{array_of, members_from}
use Rattle.clip_protocol.specs.Steps.Printing.{data_tokens}
use Rattle.clip_protocol.proofs.Printed.{print-close}
use Rattle.clip_protocol.proofs.found.closed_text.Goals as goal

regroup : (first second third : Token) (a b : List Token) → (((((first ∷ []) ++ second ∷ []) ++ a) ++ third ∷ []) ++ b)
    ++ end_object ∷ [] ≡ first ∷ second ∷ (a ++ third ∷ (b ++ end_object ∷ []))
regroup first second third a b = simp append_assoc

in_turn : (first second third : Token) (a b t0 t1 t2 t3 t4 t5 : List Token) → t0 ≡ [] → t1 ≡ t0 ++ first ∷ []
    → t2 ≡ t1 ++ second ∷ [] → t3 ≡ t2 ++ a → t4 ≡ t3 ++ third ∷ [] → t5 ≡ t4 ++ b
    → t5 ++ end_object ∷ [] ≡ first ∷ second ∷ (a ++ third ∷ (b ++ end_object ∷ []))
in_turn first second third a b t0 t1 t2 t3 t4 t5 e0 e1 e2 e3 e4 e5 =
    rw (e5, e4, e3, e2, e1, e0) (regroup first second third a b)

pub returns : goal.returns
returns c =
    let notes = array_of (map string (map (λ n. arc_str_bytes n.text) c.args.notes.now)) in
    let before = c.in_ok-write_notes.ensures.before ∙ c.in_ok-key-2.ensures.room.0
    ∙ c.in_ok-write_number.ensures.before ∙ c.in_ok-key.ensures.room.0 ∙ c.in_ok-end_array.ensures.room.0
    ∙ c.new-out.ensures.before in
    let tokens =
    in_turn end_array (key (codes "line")) (key (codes "notes")) (data_tokens (number_of c.args.number))
    (data_tokens notes) _ _ _ _ _ _
    c.new-out.ensures.tokens c.in_ok-end_array.ensures.ok c.in_ok-key.ensures.ok c.in_ok-write_number.ensures.tokens
    c.in_ok-key-2.ensures.ok c.in_ok-write_notes.ensures.tokens in
    let members = members_text true
    (members_from ((codes "line", number_of c.args.number) ∷ (codes "notes", notes) ∷ [])) in
    let text =
    ap₂ (λ b ts. b ++ print ts ++ 10 ∷ []) before tokens
    ∙ ap (λ t. c.args.text.items ++ t ++ 10 ∷ []) (print-close c.args.number notes)
    ∙ append_assoc c.args.text.items (93 ∷ members) (10 ∷ []) in
    let P : List ℕ → Type 0 = λ t. IfOk c.line_of.result (λ after. after.items ≡ t) in
    subst P text c.line_of.ensures
