-- An index of names, which is made from the last name to the first.
use Rattle.std.proofs.Common.{◌≡◌, ℕ, zero, suc, ◌+◌, ◌<◌, List, [], ◌∷◌, length, get_or, drop, true, false, not, cond}
use Rattle.std.proofs.Common.{◌&&◌, bytes_eq, sym, ap, ◌∙◌, add-one, Option, Some, is_some, String, string_bytes}
use Rattle.std.specs.List.{list_any, position_from}
use Rattle.std.specs.BTreeMap.{BTreeMap, get, Updates}
use Rattle.std.specs.String.{string_cmp}
use Rattle.std.specs.declared.alloc.Global.{Global}
use Rattle.std.proofs.Math.Bool.{and-false, and-true}
use Rattle.std.proofs.Math.Seq.{drop-cons}
use Rattle.std.proofs.lemmas.Bool.Decides.{same_from_decides}
use Rattle.std.proofs.lemmas.Map.Text.{btree_map_updates_text}
use Rattle.std.proofs.lemmas.Slice.Eq.{bytes_eq-Decides}
use Rattle.clip_listen.specs.Heard.{names_of, distinct}
use Rattle.clip_listen.specs.Steps.Index.{Indexes}
use Rattle.clip_listen.proofs.Names.{found-any}

swap : (a b : List ℕ) → bytes_eq a b ≡ bytes_eq b a
swap a b = same_from_decides _ _ (bytes_eq-Decides a b) (
  λ h. sym ((bytes_eq-Decides b a).0 h),
  λ e. (bytes_eq-Decides b a).1 (sym e),
)

-- where a name stands twice among the last ones, one stands twice
pub last_ones : {L : Type 0} (k : ℕ) (parts : List (String Global × L)) → distinct (names_of (drop k parts)) ≡ false
    → distinct (names_of parts) ≡ false
last_ones zero parts h = h
last_ones (suc k) [] h = h
last_ones (suc k) (part ∷ parts) h =
    let alone = not (list_any (bytes_eq (string_bytes part.0)) (names_of parts)) in
    ap (λ b. alone && b) (last_ones k parts h) ∙ and-false alone

-- the last parts from a place on are the one at the place and those after it
from_here : {L : Type 0} (parts : List (String Global × L)) (j k : ℕ) (part : String Global × L) → j + 1 ≡ k
    → j < length parts → part ≡ get_or parts j part → drop j parts ≡ part ∷ drop k parts
from_here parts j k part next within is =
    drop-cons parts j part within ∙ ap (λ p. p ∷ drop (suc j) parts) (sym is)
    ∙ ap (λ n. part ∷ drop n parts) (sym (add-one j) ∙ next)

module _ {L : Type 0} (parts : List (String Global × L)) (j k : ℕ) (part : String Global
    × L) (key : String Global) (next : j + 1 ≡ k) (within : j < length parts) (is : part
    ≡ get_or parts j part) (copy : string_bytes key ≡ string_bytes (get_or parts j part).0)
    (old : BTreeMap (String Global) ℕ) (indexed : Indexes old k (names_of (drop k parts))) where
  names_here : names_of (drop j parts) ≡ string_bytes key ∷ names_of (drop k parts)
  names_here =
      ap names_of (from_here parts j k part next within is)
      ∙ ap (λ (p : String Global × L). string_bytes p.0 ∷ names_of (drop k parts)) is
      ∙ ap (λ name. name ∷ names_of (drop k parts)) (sym copy)

  -- the name before the others goes into their index
  pub indexed_before : (new : BTreeMap (String Global) ℕ) → Updates string_cmp old new key (Some j)
      → Indexes new j (names_of (drop j parts))
  indexed_before new updates name =
      btree_map_updates_text (string_bytes key) old new (Some j) updates name
      ∙ ap (cond (bytes_eq (string_bytes key) name) (Some j)) (indexed name
      ∙ ap (λ n. position_from (bytes_eq name) n (names_of (drop k parts))) (sym next))
      ∙ ap (λ b. cond b (Some j) (position_from (bytes_eq name) (j + 1) (names_of (drop k parts))))
      (swap (string_bytes key) name)
      ∙ sym (ap (position_from (bytes_eq name) j) names_here)

  -- what the index had under the name says whether it stands again
  pub once_before : (had : Option ℕ) → had ≡ get string_cmp old key → distinct (names_of (drop k parts)) ≡ true
      → distinct (names_of (drop j parts)) ≡ not (is_some had)
  once_before had was once =
      let again = list_any (bytes_eq (string_bytes key)) (names_of (drop k parts)) in
      ap distinct names_here ∙ ap (λ b. not again && b) once ∙ and-true (not again)
      ∙ ap not (sym (ap is_some (was ∙ indexed (string_bytes key))
      ∙ found-any (bytes_eq (string_bytes key)) k (names_of (drop k parts))))
