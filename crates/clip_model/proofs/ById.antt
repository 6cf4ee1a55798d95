-- A map by ids, as the finite map that it is.
use Rattle.std.proofs.Common.{◌≡◌, ℕ, suc, Bool, true, false, cond, List, [], ◌∷◌, map, length, refl, sym, ap, subst}
use Rattle.std.proofs.Common.{◌∙◌, Some, None, is_some, String, string_bytes}
use Rattle.std.proofs.Math.Dec.{T}
use Rattle.std.specs.Option.{option_map}
use Rattle.std.specs.Map.{lookup, remove_entry, set_value}
use Rattle.std.specs.BTreeMap.{BTreeMap, insert_entry, is_at, IsOrdered}
use Rattle.std.specs.String.{string_cmp}
use Rattle.std.specs.List.{AllByRecursion}
use Rattle.std.specs.List.Sorted.{IsStrictlySortedBy}
use Rattle.std.specs.Cmp.Lexicographic.{slice_cmp}
use Rattle.std.specs.Ordering.{eq_by_cmp, nat_cmp, match_ordering, is_eq, is_lt}
use Rattle.std.proofs.lemmas.Cmp.{nat_list_cmp_total, eq_by_cmp_equiv}
use Rattle.std.proofs.lemmas.Map.Keys.{sorted_head, sorted_tail}
use Rattle.std.specs.declared.cmp.Ordering.TheVariants.{Less, Equal, Greater}
use Rattle.std.specs.declared.alloc.Global.{Global}
use Rattle.std.specs.FinMap as finite
use Rattle.std.specs.FinMap.{same_map, get-from_entries, get-from_sorted, get-insert, get-remove, len-entries}
use Rattle.std.specs.FinMap.{entries-from_sorted}
use Rattle.std.specs.FinMap.Entries.{find, put, find-put, by_order, is_sorted, below_all}
use Rattle.std.proofs.lemmas.Bool.{false≢true}
use Rattle.clip_words.specs.Order.{bytes_cmp}
use Rattle.clip_grammar.proofs.Booleans.{both}
use Rattle.clip_grammar.proofs.Orderings.{equal}
use Rattle.clip_meaning.proofs.Fields.{bytes_exact}
use Rattle.clip_model.specs.ById.{shown_pair, shown, map_of}

pub bytes_same : (a b : List ℕ) → eq_by_cmp bytes_cmp a b ≡ true → a ≡ b
bytes_same a b h = bytes_exact a b (equal _ h)

pub bytes_itself : (a : List ℕ) → eq_by_cmp bytes_cmp a a ≡ true
bytes_itself a = (eq_by_cmp_equiv nat_list_cmp_total).refl a

abbrev pub at_text : List ℕ → String Global → Bool
at_text id = is_at (λ k. slice_cmp nat_cmp id (string_bytes k))

-- two maps that give the same are one
pub same : {X : Type 0} (m k : finite.FinMap bytes_cmp X) → ((id : List ℕ) → finite.get m id ≡ finite.get k id) → m ≡ k
same m k = same_map nat_list_cmp_total bytes_exact m k

-- where two ids differ, what is under the one is not what the other finds
apart : (q id key : List ℕ) → eq_by_cmp bytes_cmp q id ≡ false → eq_by_cmp bytes_cmp id key ≡ true
    → eq_by_cmp bytes_cmp q key ≡ false
apart q id key other at = ap (eq_by_cmp bytes_cmp q) (sym (bytes_same id key at)) ∙ other

pub swapped : {A : Type 0} (a b : Bool) (x y z : A) → (a ≡ true → b ≡ false)
    → cond b x (cond a y z) ≡ cond a y (cond b x z)
swapped a b x y z off = elim a as (λ a. (a ≡ true → b ≡ false)
    → cond b x (cond a y z) ≡ cond a y (cond b x z)) [
      | true ↦ λ f. ap (λ c. cond c x y) (f refl)
      | false ↦
          λ _. refl
    ] off

shadowed : {A : Type 0} (a : Bool) (x y z : A) → cond a y z ≡ cond a y (cond a x z)
shadowed true x y z = refl
shadowed false x y z = refl

module _ {V X : Type 0} (value : V → X) where
  pub find_shown : (id : List ℕ) (es : List (String Global × V)) → option_map value (lookup (at_text id) es)
      ≡ find bytes_cmp id (map (shown_pair value) es)
  find_shown id [] = refl
  find_shown id (e ∷ es) =
      elim (is_eq (bytes_cmp id (string_bytes e.0)))
      as (λ b. option_map value (cond b (Some e.1) (lookup (at_text id) es))
      ≡ cond b (Some (value e.1)) (find bytes_cmp id (map (shown_pair value) es))) [
        | true ↦ refl
        | false ↦ find_shown id es
      ]

  pub get_shown : (id : List ℕ) (m : BTreeMap (String Global) V) → option_map value (lookup (at_text id) m.entries)
      ≡ finite.get (map_of value m) id
  get_shown id m = find_shown id m.entries ∙ sym (get-from_entries nat_list_cmp_total (shown value m) id)

  shown_insert : (k : String Global) (v : V) (es : List (String Global × V))
      → map (shown_pair value) (insert_entry string_cmp es k v)
      ≡ put bytes_cmp (string_bytes k) (value v) (map (shown_pair value) es)
  shown_insert k v [] = refl
  shown_insert k v (e ∷ es) =
      elim (bytes_cmp (string_bytes k) (string_bytes e.0))
      as (λ r. map (shown_pair value)
      (match_ordering r ((k, v) ∷ e ∷ es) ((e.0, v) ∷ es) (e ∷ insert_entry string_cmp es k v))
      ≡ by_order r ((string_bytes k, value v) ∷ map (shown_pair value) (e ∷ es)) ((string_bytes e.0, value v)
      ∷ map (shown_pair value) es) (shown_pair value e
      ∷ put bytes_cmp (string_bytes k) (value v) (map (shown_pair value) es))) [
        | Less ↦ refl
        | Equal ↦ refl
        | Greater ↦ ap (λ x. shown_pair value e ∷ x) (shown_insert k v es)
      ]

  pub insert_shown : (k : String Global) (v : V) (m n : BTreeMap (String Global) V)
      → n.entries ≡ insert_entry string_cmp m.entries k v
      → map_of value n ≡ finite.insert (map_of value m) (string_bytes k) (value v)
  insert_shown k v m n is = same _ _ (λ id.
      get-from_entries nat_list_cmp_total (shown value n) id
      ∙ ap (λ es. find bytes_cmp id (map (shown_pair value) es)) is
      ∙ ap (find bytes_cmp id) (shown_insert k v m.entries)
      ∙ find-put bytes_cmp nat_list_cmp_total id (string_bytes k) (value v) (shown value m)
      ∙ ap (cond (eq_by_cmp bytes_cmp id (string_bytes k)) (Some (value v)))
      (sym (get-from_entries nat_list_cmp_total (shown value m) id))
      ∙ sym (get-insert nat_list_cmp_total (map_of value m) (string_bytes k) (value v) id))

  find_set : (q id : List ℕ) (v : V) (es : List (String Global × V))
      → is_some (find bytes_cmp id (map (shown_pair value) es)) ≡ true
      → find bytes_cmp q (map (shown_pair value) (set_value (at_text id) es v))
      ≡ cond (eq_by_cmp bytes_cmp q id) (Some (value v)) (find bytes_cmp q (map (shown_pair value) es))
  find_set q id v [] some = absurd (false≢true some)
  find_set q id v (e ∷ es) some =
      let key = string_bytes e.0 in
      elim (eq_by_cmp bytes_cmp id key) as (λ b. eq_by_cmp bytes_cmp id key ≡ b
      → is_some (cond b (Some (value e.1)) (find bytes_cmp id (map (shown_pair value) es))) ≡ true
      → find bytes_cmp q (map (shown_pair value) (cond b ((e.0, v) ∷ es) (e ∷ set_value (at_text id) es v)))
      ≡ cond (eq_by_cmp bytes_cmp q id) (Some (value v)) (find bytes_cmp q (map (shown_pair value) (e ∷ es)))) [
        | true ↦ λ at _.
            let one : eq_by_cmp bytes_cmp q key ≡ eq_by_cmp bytes_cmp q id =
            ap (eq_by_cmp bytes_cmp q) (sym (bytes_same id key at)) in
            ap (λ b. cond b (Some (value v)) (find bytes_cmp q (map (shown_pair value) es))) one
            ∙ shadowed (eq_by_cmp bytes_cmp q id) (Some (value e.1)) (Some (value v))
            (find bytes_cmp q (map (shown_pair value) es))
            ∙ ap (λ b. cond (eq_by_cmp bytes_cmp q id) (Some (value v))
            (cond b (Some (value e.1)) (find bytes_cmp q (map (shown_pair value) es)))) (sym one)
        | false ↦ λ at there.
            ap (cond (eq_by_cmp bytes_cmp q key) (Some (value e.1))) (find_set q id v es there)
            ∙ swapped (eq_by_cmp bytes_cmp q id) (eq_by_cmp bytes_cmp q key) _ _ _
            (λ here. ap (λ (x : List ℕ). eq_by_cmp bytes_cmp x key) (bytes_same q id here) ∙ at)
      ] refl some

  pub set_shown : (id : List ℕ) (v : V) (m n : BTreeMap (String Global) V)
      → n.entries ≡ set_value (at_text id) m.entries v → is_some (finite.get (map_of value m) id) ≡ true
      → map_of value n ≡ finite.insert (map_of value m) id (value v)
  set_shown id v m n is some = same _ _ (λ q.
      get-from_entries nat_list_cmp_total (shown value n) q
      ∙ ap (λ es. find bytes_cmp q (map (shown_pair value) es)) is
      ∙ find_set q id v m.entries (ap is_some (sym (get-from_entries nat_list_cmp_total (shown value m) id)) ∙ some)
      ∙ ap (cond (eq_by_cmp bytes_cmp q id) (Some (value v)))
      (sym (get-from_entries nat_list_cmp_total (shown value m) q))
      ∙ sym (get-insert nat_list_cmp_total (map_of value m) id (value v) q))

  find_removed : (q id : List ℕ) (es : List (String Global × V)) → eq_by_cmp bytes_cmp q id ≡ false
      → find bytes_cmp q (map (shown_pair value) (remove_entry (at_text id) es))
      ≡ find bytes_cmp q (map (shown_pair value) es)
  find_removed q id [] other = refl
  find_removed q id (e ∷ es) other =
      elim (eq_by_cmp bytes_cmp id (string_bytes e.0)) as (λ b. eq_by_cmp bytes_cmp id (string_bytes e.0) ≡ b
      → find bytes_cmp q (map (shown_pair value) (cond b es (e ∷ remove_entry (at_text id) es)))
      ≡ find bytes_cmp q (map (shown_pair value) (e ∷ es))) [
        | true ↦ λ at. ap (λ b. cond b (Some (value e.1)) (find bytes_cmp q (map (shown_pair value) es)))
            (sym (apart q id (string_bytes e.0) other at))
        | false ↦ λ at. ap (cond (eq_by_cmp bytes_cmp q (string_bytes e.0)) (Some (value e.1)))
            (find_removed q id es other)
      ] refl

  pub remove_shown : (id : List ℕ) (m n : BTreeMap (String Global) V)
      → n.entries ≡ remove_entry (at_text id) m.entries → lookup (at_text id) n.entries ≡ None
      → map_of value n ≡ finite.remove (map_of value m) id
  remove_shown id m n is none = same _ _ (λ q.
      get-from_entries nat_list_cmp_total (shown value n) q
      ∙ elim (eq_by_cmp bytes_cmp q id) as (λ b. eq_by_cmp bytes_cmp q id ≡ b → find bytes_cmp q (shown value n)
      ≡ cond b None (finite.get (map_of value m) q)) [
        | true ↦ λ here. ap (λ (x : List ℕ). find bytes_cmp x (shown value n)) (bytes_same q id here)
            ∙ sym (find_shown id n.entries) ∙ ap (option_map value) none
        | false ↦ λ other. ap (λ es. find bytes_cmp q (map (shown_pair value) es)) is
            ∙ find_removed q id m.entries other ∙ sym (get-from_entries nat_list_cmp_total (shown value m) q)
      ] refl
      ∙ sym (get-remove nat_list_cmp_total (map_of value m) id q))

  -- ---- how many

  below_shown : (k : String Global) (es : List (String Global × V))
      → AllByRecursion (λ x. string_cmp k x ≡ Less) (map (λ e. e.0) es)
      → T (below_all bytes_cmp (string_bytes k) (map (shown_pair value) es))
  below_shown k [] h = tt
  below_shown k (e ∷ es) h = both _ _ (subst (λ r. T (is_lt r)) (sym h.0) tt) (below_shown k es h.1)

  sorted_shown : (es : List (String Global × V)) → IsStrictlySortedBy string_cmp (map (λ e. e.0) es)
      → T (is_sorted bytes_cmp (map (shown_pair value) es))
  sorted_shown [] h = tt
  sorted_shown (e ∷ es) h =
      both _ _ (below_shown e.0 es (sorted_head string_cmp e.0 (map (λ e. e.0) es) h))
      (sorted_shown es (sorted_tail string_cmp e.0 (map (λ e. e.0) es) h))

  length_shown : (es : List (String Global × V)) → length es ≡ length (map (shown_pair value) es)
  length_shown [] = refl
  length_shown (e ∷ es) = ap suc (length_shown es)

  -- the entries of a map in order are those of the finite map
  pub entries_shown : (m : BTreeMap (String Global) V) → IsOrdered string_cmp m
      → shown value m ≡ finite.entries (map_of value m)
  entries_shown m h =
      let sorted = sorted_shown m.entries h in
      let as_sorted : map_of value m ≡ finite.from_sorted (shown value m) =
      same _ _ (λ q. get-from_entries nat_list_cmp_total (shown value m) q
      ∙ sym (get-from_sorted bytes_cmp (shown value m) q sorted)) in
      sym (ap finite.entries as_sorted ∙ entries-from_sorted bytes_cmp (shown value m) sorted)

  pub len_shown : (m : BTreeMap (String Global) V) → IsOrdered string_cmp m
      → length m.entries ≡ finite.len (map_of value m)
  len_shown m h = length_shown m.entries ∙ ap length (entries_shown m h) ∙ sym (len-entries (map_of value m))
