-- The queries that registries hold are those that their histories listed, in the places that their seqs tell.
use Rattle.std.proofs.Common.{◌≡◌, ◌<◌, ◌+◌, ◌-◌, ℕ, suc, List, [], ◌∷◌, ◌++◌, length, refl, sym, ap, subst, ◌∙◌, arith}
use Rattle.std.proofs.Common.{Some, append-nil, append_assoc, length-append}
use Rattle.std.proofs.lemmas.List.{get_or_append_left}
use Rattle.std.proofs.lemmas.Option.{none-some, same_Some, slice_get_within, slice_get-get_or, get_or_from_slice_get}
use Rattle.std.proofs.Math.Seq.{get_or-append_seam}
use Rattle.std.specs.List.{slice_get}
use Rattle.std.specs.FinMap as finite
use Rattle.std.specs.FinMap.{get-empty}
use Rattle.clip_words.specs.Order.{bytes_cmp}
use Rattle.clip_model.specs.Standing.{Standing}
use Rattle.clip_model.specs.History.{History, Command, Register, Delete, Clear, Registered, Registry, lists, queries_of}
use Rattle.clip_model.specs.History.{listed_queries, register_all, remove_all, after_command, replay_onto, replay}
use Rattle.clip_model.specs.Laws.{ListedAreCounted, RegisteredAreListed, SeqsAreListed}
use Rattle.clip_model.proofs.Live.{new, old, after_insert, after_remove, live_given}
use Rattle.clip_model.proofs.Numbering.{replay_numbered}

counts : (c : Command) → length (queries_of c) ≡ lists c
counts (Register standings) = refl
counts (Delete ids) = refl
counts Clear = refl

pub listed_are_counted : ListedAreCounted
listed_are_counted [] = refl
listed_are_counted (e ∷ h) = let first = counts e.command in let rest = listed_are_counted h in
    omega (arith, length-append (queries_of e.command) (listed_queries h))

-- ---- places of a list

pub place_kept : {A : Type 0} (xs ys : List A) (k : ℕ) (x : A) → slice_get xs k ≡ Some x
    → slice_get (xs ++ ys) k ≡ Some x
place_kept xs ys k x is =
    let within : k < length xs = slice_get_within xs k x is in
    slice_get-get_or (xs ++ ys) k x (omega (arith, length-append xs ys))
    ∙ ap (λ y. Some y) (get_or_append_left xs ys x k within ∙ get_or_from_slice_get xs k x x is)

pub place_new : {A : Type 0} (xs ys : List A) (x : A) → slice_get (xs ++ x ∷ ys) (length xs) ≡ Some x
place_new xs ys x = slice_get-get_or (xs ++ x ∷ ys) (length xs) x (omega (arith, length-append xs (x ∷ ys)))
    ∙ ap (λ y. Some y) (get_or-append_seam xs x ys x)

-- ---- placed registries

-- each query with seq n is the n-th of these
pub record ArePlaced (queries : List Standing) (registry : Registry) : Type 0 where
  pub at : (id : List ℕ) (r : Registered) → finite.get registry id ≡ Some r → slice_get queries (r.seq - 1)
      ≡ Some r.standing

pub less_one : (n : ℕ) → suc n - 1 ≡ n
less_one n = omega arith

none_placed : (qs : List Standing) → ArePlaced qs finite.empty
none_placed qs = record { at = λ id r is. absurd (none-some _ (sym (get-empty bytes_cmp id) ∙ is)) }

more_placed : (qs more : List Standing) (m : Registry) → ArePlaced qs m → ArePlaced (qs ++ more) m
more_placed qs more m are = record { at = λ id r is. place_kept qs more (r.seq - 1) r.standing (are.at id r is) }

insert_placed : (qs : List Standing) (n : ℕ) (s : Standing) (m : Registry) → n ≡ length qs → ArePlaced qs m
    → ArePlaced (qs ++ s ∷ []) (finite.insert m s.id (record { standing = s; seq = suc n }))
insert_placed qs n s m count are = record {
  at = λ id r is. elim (after_insert m s.id (record { standing = s; seq = suc n }) id r is)
      as (λ _. slice_get (qs ++ s ∷ []) (r.seq - 1) ≡ Some r.standing) [
        | new _ same ↦
            subst (λ (q : Registered). slice_get (qs ++ s ∷ []) (q.seq - 1) ≡ Some q.standing) (sym same)
            (ap (slice_get (qs ++ s ∷ [])) (less_one n ∙ count) ∙ place_new qs [] s)
        | old _ was ↦ place_kept qs (s ∷ []) (r.seq - 1) r.standing (are.at id r was)
      ];
}

register_placed : (qs : List Standing) (n : ℕ) (ss : List Standing) (m : Registry) → n ≡ length qs → ArePlaced qs m
    → ArePlaced (qs ++ ss) (register_all n ss m)
register_placed qs n [] m count are = subst (λ q. ArePlaced q m) (sym (append-nil qs)) are
register_placed qs n (s ∷ ss) m count are =
    subst (λ q. ArePlaced q (register_all n (s ∷ ss) m)) (append_assoc qs (s ∷ []) ss)
    (register_placed (qs ++ s ∷ []) (suc n) ss _ (omega (arith, length-append qs (s ∷ [])))
    (insert_placed qs n s m count are))

removed_placed : (qs : List Standing) (ids : List (List ℕ)) (m : Registry) → ArePlaced qs m
    → ArePlaced qs (remove_all ids m)
removed_placed qs [] m are = are
removed_placed qs (gone ∷ ids) m are =
    removed_placed qs ids _ (record { at = λ id r is. are.at id r (after_remove m gone id r is).was })

command_placed : (qs : List Standing) (n : ℕ) (c : Command) (m : Registry) → n ≡ length qs → ArePlaced qs m
    → ArePlaced (qs ++ queries_of c) (after_command n c m)
command_placed qs n (Register standings) m count are = register_placed qs n standings m count are
command_placed qs n (Delete ids) m count are = more_placed qs [] _ (removed_placed qs ids m are)
command_placed qs n Clear m count are = none_placed _

history_placed : (qs : List Standing) (n : ℕ) (h : History) (m : Registry) → n ≡ length qs → ArePlaced qs m
    → ArePlaced (qs ++ listed_queries h) (replay_onto n h m)
history_placed qs n [] m count are = more_placed qs [] m are
history_placed qs n (e ∷ h) m count are =
    subst (λ q. ArePlaced q (replay_onto n (e ∷ h) m)) (append_assoc qs (queries_of e.command) (listed_queries h))
    (history_placed (qs ++ queries_of e.command) (n + lists e.command) h _ (let more = counts e.command in
    omega (arith, length-append qs (queries_of e.command))) (command_placed qs n e.command m count are))

pub replay_placed : (h : History) → ArePlaced (listed_queries h) (replay h)
replay_placed h = history_placed [] 0 h finite.empty refl (none_placed [])

pub registered_are_listed : RegisteredAreListed
registered_are_listed h id r is =
    let numbered = replay_numbered h in
    let within = numbered.within id r is in
    record { key = numbered.keyed id r is; from = within.0; to = within.1; place = (replay_placed h).at id r is }

pub seqs_are_listed : SeqsAreListed
seqs_are_listed h seq live =
    let numbered = replay_numbered h in
    let at = live_given (replay h) seq live in
    let key = numbered.keyed at.id at.entry at.given in
    let given : finite.get (replay h) at.entry.standing.id ≡ Some at.entry = ap (finite.get (replay h)) key
    ∙ at.given in
    record {
      query = at.entry;
      has = at.is;
      registered = given;
      listed = registered_are_listed h at.entry.standing.id at.entry given;
      alone = λ id r is has.
          let same : id ≡ at.id = numbered.distinct id at.id r at.entry is at.given (has ∙ sym at.is) in
          same_Some _ _ (sym is ∙ ap (finite.get (replay h)) same ∙ at.given);
    }
