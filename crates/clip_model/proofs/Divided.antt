-- A registry divided by ids.
use Rattle.std.proofs.Common.{◌≡◌, ℕ, zero, suc, ◌+◌, ◌-◌, ◌≤◌, ◌==◌, ◌||◌, nat_lt, Bool, true, false, cond, List, []}
use Rattle.std.proofs.Common.{◌∷◌, length, map, refl, sym, ap, ◌∙◌, arith, Option, Some, None, T}
use Rattle.std.proofs.lemmas.Cmp.{nat_list_cmp_total}
use Rattle.std.proofs.lemmas.List.{length-map}
use Rattle.std.proofs.lemmas.List.Elements.{filter_agree}
use Rattle.std.specs.List.{filter}
use Rattle.std.specs.Option.{option_map}
use Rattle.std.specs.Ordering.{eq_by_cmp}
use Rattle.std.specs.FinMap as finite
use Rattle.std.specs.FinMap.{get-empty, get-entries, get-insert, get-remove, len-entries, entries_sorted}
use Rattle.std.specs.FinMap.Entries.{find, is_sorted, below_all, is_sorted-where_key, find-where_key, same_entries}
use Rattle.clip_words.specs.Order.{bytes_cmp}
use Rattle.clip_grammar.proofs.Booleans.{both, first, second}
use Rattle.clip_meaning.specs.Article.{ArticleValue}
use Rattle.clip_meaning.proofs.Fields.{bytes_exact}
use Rattle.clip_model.specs.Standing.{Standing}
use Rattle.clip_model.specs.History.{History, Command, Register, Delete, Clear, Registered, Registry, register_all}
use Rattle.clip_model.specs.History.{remove_all, after_command, replay_onto, replay, lists}
use Rattle.clip_model.specs.Alerts.{Alert, alert_of, holds_of, alerts_in, alerts}
use Rattle.clip_model.specs.Shards.{Division, kept_command, kept, is_in, shard, sum_of, merged_of, is_for, heard}
use Rattle.clip_model.specs.Shards.{PartsAreRegistered, PartsAlert, PartsAreMerged, PartsAreCounted, PartsCount}
use Rattle.clip_model.specs.Shards.{PartsAreHeard, PartsAreHeardMerged}
use Rattle.clip_model.proofs.ById.{bytes_same}
use Rattle.clip_model.proofs.Counting.{len_removed}
use Rattle.clip_model.proofs.Filters.{filter_few, filter_none, filter_all, filter_swap, filter_either}
use Rattle.clip_model.proofs.Merging.{Rise, alerts_rise, rise_filter, merged_parts, not_below, below_more, none_below}
use Rattle.clip_model.proofs.Merging.{is_below}

-- ---- registries and their parts

abbrev pub stands : Registry → List ℕ → Option Standing
stands m id = option_map (λ r. r.standing) (finite.get m id)

-- the part has under each id that is kept what the whole has there, and no other id
pub record IsPart (keeps : List ℕ → Bool) (whole part : Registry) : Type 0 where
  pub at : (id : List ℕ) → stands part id ≡ cond (keeps id) (stands whole id) None

neither : (b : Bool) → cond {A = Option Standing} b None None ≡ None
neither true = refl
neither false = refl

module _ (keeps : List ℕ → Bool) where
  pub part_empty : IsPart keeps finite.empty finite.empty
  part_empty = record {
    at = λ id. ap (option_map (λ r. r.standing)) (get-empty bytes_cmp id) ∙ sym (neither (keeps id))
        ∙ sym (ap (λ o. cond (keeps id) (option_map (λ (r : Registered). r.standing) o) None) (get-empty bytes_cmp id));
  }

  -- the same query in both
  part_inserted : (m k : Registry) (id : List ℕ) (r s : Registered) → r.standing ≡ s.standing → keeps id ≡ true
      → IsPart keeps m k → IsPart keeps (finite.insert m id r) (finite.insert k id s)
  part_inserted m k id r s same inside are = record {
    at = λ q.
        ap (option_map (λ r. r.standing)) (get-insert nat_list_cmp_total k id s q)
        ∙ elim (eq_by_cmp bytes_cmp q id) as (λ b. eq_by_cmp bytes_cmp q id ≡ b
        → option_map (λ r. r.standing) (cond b (Some s) (finite.get k q))
        ≡ cond (keeps q) (option_map (λ r. r.standing) (cond b (Some r) (finite.get m q))) None) [
          | true ↦ λ is. ap Some (sym same)
              ∙ sym (ap (λ b. cond b (Some r.standing) None) (ap keeps (bytes_same q id is) ∙ inside))
          | false ↦ λ _. are.at q
        ] refl
        ∙ sym (ap (λ o. cond (keeps q) (option_map (λ (r : Registered). r.standing) o) None)
        (get-insert nat_list_cmp_total m id r q));
  }

  -- one that the part does not keep
  part_passed : (m k : Registry) (id : List ℕ) (r : Registered) → keeps id ≡ false → IsPart keeps m k
      → IsPart keeps (finite.insert m id r) k
  part_passed m k id r outside are = record {
    at = λ q.
        are.at q
        ∙ elim (eq_by_cmp bytes_cmp q id) as (λ b. eq_by_cmp bytes_cmp q id ≡ b → cond (keeps q) (stands m q) None
        ≡ cond (keeps q) (option_map (λ r. r.standing) (cond b (Some r) (finite.get m q))) None) [
          | true ↦ λ is. let off : keeps q ≡ false = ap keeps (bytes_same q id is) ∙ outside in
              ap (λ b. cond b (stands m q) None) off ∙ sym (ap (λ b. cond b (Some r.standing) None) off)
          | false ↦ λ _. refl
        ] refl
        ∙ sym (ap (λ o. cond (keeps q) (option_map (λ (r : Registered). r.standing) o) None)
        (get-insert nat_list_cmp_total m id r q));
  }

  part_removed : (m k : Registry) (id : List ℕ) → IsPart keeps m k
      → IsPart keeps (finite.remove m id) (finite.remove k id)
  part_removed m k id are = record {
    at = λ q.
        ap (option_map (λ r. r.standing)) (get-remove nat_list_cmp_total k id q)
        ∙ elim (eq_by_cmp bytes_cmp q id) as (λ b. option_map (λ r. r.standing) (cond b None (finite.get k q))
        ≡ cond (keeps q) (option_map (λ r. r.standing) (cond b None (finite.get m q))) None) [
          | true ↦ sym (neither (keeps q))
          | false ↦ are.at q
        ]
        ∙ sym (ap (λ o. cond (keeps q) (option_map (λ (r : Registered). r.standing) o) None)
        (get-remove nat_list_cmp_total m id q));
  }

  part_left : (m k : Registry) (id : List ℕ) → keeps id ≡ false → IsPart keeps m k → IsPart keeps (finite.remove m id) k
  part_left m k id outside are = record {
    at = λ q.
        are.at q
        ∙ elim (eq_by_cmp bytes_cmp q id) as (λ b. eq_by_cmp bytes_cmp q id ≡ b → cond (keeps q) (stands m q) None
        ≡ cond (keeps q) (option_map (λ r. r.standing) (cond b None (finite.get m q))) None) [
          | true ↦ λ is. let off : keeps q ≡ false = ap keeps (bytes_same q id is) ∙ outside in
              ap (λ b. cond b (stands m q) None) off ∙ sym (ap (λ b. cond b None None) off)
          | false ↦ λ _. refl
        ] refl
        ∙ sym (ap (λ o. cond (keeps q) (option_map (λ (r : Registered). r.standing) o) None)
        (get-remove nat_list_cmp_total m id q));
  }

  pub part_registered : (n p : ℕ) (ss : List Standing) (m k : Registry) → IsPart keeps m k
      → IsPart keeps (register_all n ss m) (register_all p (filter (λ s. keeps s.id) ss) k)
  part_registered n p [] m k are = are
  part_registered n p (s ∷ ss) m k are =
      elim (keeps s.id) as (λ b. keeps s.id ≡ b
      → IsPart keeps (register_all (suc n) ss (finite.insert m s.id (record { standing = s; seq = suc n })))
      (register_all p (cond b (s ∷ filter (λ s. keeps s.id) ss) (filter (λ s. keeps s.id) ss)) k)) [
        | true ↦ λ inside. part_registered (suc n) (suc p) ss _ _
            (part_inserted m k s.id (record { standing = s; seq = suc n }) (record { standing = s; seq = suc p }) refl
            inside are)
        | false ↦ λ outside. part_registered (suc n) p ss _ k
            (part_passed m k s.id (record { standing = s; seq = suc n }) outside are)
      ] refl

  pub part_deleted : (ids : List (List ℕ)) (m k : Registry) → IsPart keeps m k
      → IsPart keeps (remove_all ids m) (remove_all (filter keeps ids) k)
  part_deleted [] m k are = are
  part_deleted (id ∷ ids) m k are =
      elim (keeps id) as (λ b. keeps id ≡ b
      → IsPart keeps (remove_all ids (finite.remove m id))
      (remove_all (cond b (id ∷ filter keeps ids) (filter keeps ids)) k)) [
        | true ↦ λ inside. part_deleted ids _ _ (part_removed m k id are)
        | false ↦ λ outside. part_deleted ids _ k (part_left m k id outside are)
      ] refl

  pub part_after : (n p : ℕ) (c : Command) (m k : Registry) → IsPart keeps m k
      → IsPart keeps (after_command n c m) (after_command p (kept_command keeps c) k)
  part_after n p (Register ss) m k are = part_registered n p ss m k are
  part_after n p (Delete ids) m k are = part_deleted ids m k are
  part_after n p Clear m k are = part_empty

  part_onto : (n p : ℕ) (h : History) (m k : Registry) → IsPart keeps m k
      → IsPart keeps (replay_onto n h m) (replay_onto p (kept keeps h) k)
  part_onto n p [] m k are = are
  part_onto n p (e ∷ h) m k are =
      part_onto (n + lists e.command) (p + lists (kept_command keeps e.command)) h _ _
      (part_after n p e.command m k are)

  pub part_replayed : (h : History) → IsPart keeps (replay h) (replay (kept keeps h))
  part_replayed h = part_onto 0 0 h finite.empty finite.empty part_empty

pub parts_are_registered : PartsAreRegistered
parts_are_registered keeps h id = (part_replayed keeps h).at id

-- ---- entries, their seqs aside

abbrev pub plain : List ℕ × Registered → List ℕ × Standing
plain e = (e.0, e.1.standing)

abbrev pub plain_entries : Registry → List (List ℕ × Standing)
plain_entries m = map plain (finite.entries m)

find_plain : (q : List ℕ) (es : List (List ℕ × Registered)) → find bytes_cmp q (map plain es)
    ≡ option_map (λ r. r.standing) (find bytes_cmp q es)
find_plain q [] = refl
find_plain q (e ∷ es) =
    elim (eq_by_cmp bytes_cmp q e.0) as (λ b. cond b (Some e.1.standing) (find bytes_cmp q (map plain es))
    ≡ option_map (λ r. r.standing) (cond b (Some e.1) (find bytes_cmp q es))) [
      | true ↦ refl
      | false ↦
          find_plain q es
    ]

below_plain : (id : List ℕ) (es : List (List ℕ × Registered)) → T (below_all bytes_cmp id es)
    → T (below_all bytes_cmp id (map plain es))
below_plain id [] h = tt
below_plain id (e ∷ es) h = both _ _ (first _ _ h) (below_plain id es (second _ _ h))

sorted_plain : (es : List (List ℕ × Registered)) → T (is_sorted bytes_cmp es) → T (is_sorted bytes_cmp (map plain es))
sorted_plain [] h = tt
sorted_plain (e ∷ es) h = both _ _ (below_plain e.0 es (first _ _ h)) (sorted_plain es (second _ _ h))

get_plain : (m : Registry) (q : List ℕ) → find bytes_cmp q (plain_entries m) ≡ stands m q
get_plain m q = find_plain q (finite.entries m) ∙ ap (option_map (λ r. r.standing)) (sym (get-entries m q))

-- a part has the entries whose ids are kept
pub part_entries : (keeps : List ℕ → Bool) (m k : Registry) → IsPart keeps m k
    → plain_entries k ≡ filter (λ e. keeps e.0) (plain_entries m)
part_entries keeps m k are =
    let sorted = sorted_plain (finite.entries m) (entries_sorted m) in
    same_entries bytes_cmp nat_list_cmp_total bytes_exact (plain_entries k) (filter (λ e. keeps e.0) (plain_entries m))
    (sorted_plain (finite.entries k) (entries_sorted k)) (is_sorted-where_key bytes_cmp keeps (plain_entries m) sorted)
    (λ q. get_plain k q ∙ are.at q ∙ ap (λ o. cond (keeps q) o None) (sym (get_plain m q))
    ∙ sym (find-where_key bytes_cmp keeps q (λ x t. sym (ap keeps (bytes_exact q x t))) (plain_entries m)))

-- ---- alerts

-- an alert is that of the query, whatever its seq
abbrev numbered : List ℕ × Standing → List ℕ × Registered
numbered e = (e.0, record { standing = e.1; seq = 0 })

module _ (article : ArticleValue) where
  alerts_plain : (es : List (List ℕ × Registered)) → map (alert_of article) (filter (holds_of article) es)
      ≡ map (λ e. alert_of article (numbered e)) (filter (λ e. holds_of article (numbered e)) (map plain es))
  alerts_plain [] = refl
  alerts_plain (e ∷ es) =
      elim (holds_of article e)
      as (λ b. map (alert_of article) (cond b (e ∷ filter (holds_of article) es) (filter (holds_of article) es))
      ≡ map (λ e. alert_of article (numbered e))
      (cond b (plain e ∷ filter (λ e. holds_of article (numbered e)) (map plain es))
      (filter (λ e. holds_of article (numbered e)) (map plain es)))) [
        | true ↦ ap (λ xs. alert_of article e ∷ xs) (alerts_plain es)
        | false ↦ alerts_plain es
      ]

  alerts_filter : (keeps : List ℕ → Bool) (es : List (List ℕ × Standing))
      → filter (λ a. keeps a.query) (map (λ e. alert_of article (numbered e)) es)
      ≡ map (λ e. alert_of article (numbered e)) (filter (λ e. keeps e.0) es)
  alerts_filter keeps [] = refl
  alerts_filter keeps (e ∷ es) =
      elim (keeps e.0) as (λ b.
      cond b (alert_of article (numbered e)
      ∷ filter (λ a. keeps a.query) (map (λ e. alert_of article (numbered e)) es))
      (filter (λ a. keeps a.query) (map (λ e. alert_of article (numbered e)) es))
      ≡ map (λ e. alert_of article (numbered e))
      (cond b (e ∷ filter (λ e. keeps e.0) es) (filter (λ e. keeps e.0) es))) [
        | true ↦ ap (λ xs. alert_of article (numbered e) ∷ xs) (alerts_filter keeps es)
        | false ↦ alerts_filter keeps es
      ]

  pub part_alerts : (keeps : List ℕ → Bool) (m k : Registry) → IsPart keeps m k
      → alerts_in k article ≡ filter (λ a. keeps a.query) (alerts_in m article)
  part_alerts keeps m k are =
      let holding = λ (e : List ℕ × Standing). holds_of article (numbered e) in
      let alert = λ (e : List ℕ × Standing). alert_of article (numbered e) in
      alerts_plain (finite.entries k)
      ∙ ap (λ es. map alert (filter holding es)) (part_entries keeps m k are)
      ∙ ap (map alert) (filter_swap holding (λ e. keeps e.0) (plain_entries m))
      ∙ sym (alerts_filter keeps (filter holding (plain_entries m)))
      ∙ ap (filter (λ a. keeps a.query)) (sym (alerts_plain (finite.entries m)))

pub parts_alert : PartsAlert
parts_alert keeps h article = part_alerts article keeps (replay h) (replay (kept keeps h)) (part_replayed keeps h)

-- the parts of rising alerts merge to them
merged_division : (d : Division) (xs : List Alert) (give : ℕ → List Alert) → Rise xs
    → ((k : ℕ) → give k ≡ filter (λ a. is_in d k a.query) xs) → merged_of d.parts give ≡ xs
merged_division d xs give rise is =
    ap (merged_of d.parts) (λ i k. is k i)
    ∙ merged_parts d.parts (λ a. d.part a.query) xs rise
    ∙ filter_all (λ a. nat_lt (d.part a.query) d.parts) (λ a. is_below _ _ (d.within a.query)) xs

pub parts_are_merged : PartsAreMerged
parts_are_merged d h article =
    merged_division d (alerts h article) (λ k. alerts (shard d k h) article) (alerts_rise (replay h) article)
    (λ k. parts_alert (is_in d k) h article)

pub parts_are_heard : PartsAreHeard
parts_are_heard keeps h name article = ap (filter (is_for name)) (parts_alert keeps h article)
    ∙ filter_swap (is_for name) (λ a. keeps a.query) (alerts h article)

pub parts_are_heard_merged : PartsAreHeardMerged
parts_are_heard_merged d h name article =
    merged_division d (heard name h article) (λ k. heard name (shard d k h) article)
    (rise_filter (is_for name) (alerts h article) (alerts_rise (replay h) article))
    (λ k. parts_are_heard (is_in d k) h name article)

-- ---- how many

length_plain : (m : Registry) → length (plain_entries m) ≡ finite.len m
length_plain m = length-map (finite.entries m) plain ∙ sym (len-entries m)

part_len : (keeps : List ℕ → Bool) (m k : Registry) → IsPart keeps m k
    → finite.len k ≡ length (filter (λ e. keeps e.0) (plain_entries m))
part_len keeps m k are = sym (length_plain k) ∙ ap length (part_entries keeps m k are)

-- a part has no more than the whole
pub part_less : (keeps : List ℕ → Bool) (m k : Registry) → IsPart keeps m k → finite.len k ≤ finite.len m
part_less keeps m k are =
    let few = filter_few (λ e. keeps e.0) (plain_entries m) in
    let whole = length_plain m in
    let part = part_len keeps m k are in
    omega arith

counted_parts : {A : Type 0} (n : ℕ) (part : A → ℕ) (xs : List A)
    → sum_of n (λ k. length (filter (λ x. part x == k) xs)) ≡ length (filter (λ x. nat_lt (part x) n) xs)
counted_parts zero part xs = sym (ap length (filter_none (λ x. nat_lt (part x) 0) (λ x. none_below (part x)) xs))
counted_parts (suc n) part xs =
    ap (λ c. c + length (filter (λ x. part x == n) xs)) (counted_parts n part xs)
    ∙ filter_either (λ x. nat_lt (part x) n) (λ x. part x == n) (λ x. not_below (part x) n) xs
    ∙ ap length (filter_agree (λ x. nat_lt (part x) n || (part x == n)) (λ x. nat_lt (part x) (suc n))
    (λ x. below_more (part x) n) xs)

-- the parts of a registry have together as many queries as it has
pub division_len : (d : Division) (m : Registry) (give : ℕ → Registry) → ((k : ℕ) → IsPart (is_in d k) m (give k))
    → sum_of d.parts (λ k. finite.len (give k)) ≡ finite.len m
division_len d m give are =
    ap (sum_of d.parts) (λ i k. part_len (is_in d k) m (give k) (are k) i)
    ∙ counted_parts d.parts (λ e. d.part e.0) (plain_entries m)
    ∙ ap length (filter_all (λ e. nat_lt (d.part e.0) d.parts) (λ e. is_below _ _ (d.within e.0)) (plain_entries m))
    ∙ length_plain m

pub parts_are_counted : PartsAreCounted
parts_are_counted d h = division_len d (replay h) (λ k. replay (shard d k h)) (λ k. part_replayed (is_in d k) h)

-- sums of differences
sum_less : (n : ℕ) (f g : ℕ → ℕ) → ((k : ℕ) → g k ≤ f k) → sum_of n (λ k. f k - g k) + sum_of n g ≡ sum_of n f
sum_less zero f g less = refl
sum_less (suc n) f g less = let rest = sum_less n f g less in let last = less n in omega arith

difference : (a b c : ℕ) → a + b ≡ c → a ≡ c - b
difference a b c e = omega arith

pub parts_count : PartsCount
parts_count d h (Register ss) =
    division_len d (register_all 0 ss finite.empty) (λ k. register_all 0 (filter (λ s. is_in d k s.id) ss) finite.empty)
    (λ k. part_registered (is_in d k) 0 0 ss finite.empty finite.empty (part_empty (is_in d k)))
parts_count d h (Delete ids) =
    let before = parts_are_counted d h in
    let after = division_len d (remove_all ids (replay h))
    (λ k. remove_all (filter (is_in d k) ids) (replay (shard d k h)))
    (λ k. part_deleted (is_in d k) ids _ _ (part_replayed (is_in d k) h)) in
    difference _ _ _ (sum_less d.parts (λ k. finite.len (replay (shard d k h)))
    (λ k. finite.len (remove_all (filter (is_in d k) ids) (replay (shard d k h))))
    (λ k. len_removed (filter (is_in d k) ids) (replay (shard d k h))) ∙ before)
    ∙ ap (λ n. finite.len (replay h) - n) after
parts_count d h Clear = parts_are_counted d h
