-- What a change that is appended, or not, leaves.
use Rattle.std.proofs.Common.{◌≡◌, ℕ, ◌≤◌, List, [], ◌∷◌, ◌++◌, length, true, false, cond}
use Rattle.std.proofs.Common.{sym, ap, ◌∙◌, subst, arith, append_assoc, append-nil, length-append, true≢false, ⊎_elim}
use Rattle.std.proofs.Common.{inl, inr}
use Rattle.std.specs.Prelude.{nat_lt, Result, Ok, Err, OnOk}
use Rattle.std.proofs.lemmas.Bool.{cases_lt}
use Rattle.std.proofs.lemmas.Bool.Decides.{nat_tests}
use Rattle.std.proofs.lemmas.List.{take-append-le, take_all, length-take}
use Rattle.std.proofs.lemmas.List.Elements.{filter-append}
use Rattle.clip_stream.specs.Steps.Reading.{cut}
use Rattle.clip_protocol.specs.LineMeaning.{is_blank, json_of}
use Rattle.clip_protocol.specs.Steps.Outline.{outline, blank, refused, outline_of_value}
use Rattle.clip_protocol.specs.declared.refusal.Refusal.TheVariants.{Long}
use Rattle.clip_journal.specs.Kept.{Kept, Reads, with_command, front}
use Rattle.clip_journal.specs.Stands.{IsFront, Stands}
use Rattle.clip_journal.specs.Stop.{Elapses, LeavesOnly}
use Rattle.clip_journal.specs.declared.journal.Journal.{Journal}
use Rattle.clip_journal.specs.declared.store.Store as store
use Rattle.clip_ahead.specs.Changes.{is_change, asks_change, changes_of, with_changes}
use Rattle.clip_ahead.specs.Ahead.{Begun, synced_with, Appended, LeavesFronts}

-- ---- fronts of what is kept with more behind

front_further : (kept : Kept) (more : List (List ℕ)) (safe : ℕ) (left : List ℕ) → IsFront kept safe left
    → IsFront (record kept { since = kept.since ++ more }) safe left
front_further kept more safe left f =
    let same : front f.many kept ≡ front f.many (record kept { since = kept.since ++ more }) =
    ap (λ (s : List (List ℕ)). record kept { since = s }) (sym (take-append-le f.many kept.since more f.most)) in
    record {
      many = f.many;
      torn = f.torn;
      least = f.least;
      most = omega (arith, f.most, length-append kept.since more);
      reads = subst (λ (k : Kept). Reads left k f.torn) same f.reads;
    }

-- fewer are sure
less_safe : (kept : Kept) (safe fewer : ℕ) (left : List ℕ) → fewer ≤ safe → IsFront kept safe left
    → IsFront kept fewer left
less_safe kept safe fewer left le f = record {
  many = f.many;
  torn = f.torn;
  least = omega (arith, le, f.least);
  most = f.most;
  reads = f.reads;
}

-- ---- changes of more lines

with_more : (kept : Kept) (lines more : List (List ℕ)) → with_changes kept (lines ++ more)
    ≡ record (with_changes kept lines) { since = (with_changes kept lines).since ++ changes_of more }
with_more kept lines more =
    ap (λ (s : List (List ℕ)). record kept { since = s })
    (ap (λ cs. kept.since ++ cs) (filter-append asks_change lines more)
    ∙ sym (append_assoc kept.since (changes_of lines) (changes_of more)))

pub fronts_more : (kept : Kept) (lines more : List (List ℕ)) (safe : ℕ) (left : List ℕ)
    → IsFront (with_changes kept lines) safe left → IsFront (with_changes kept (lines ++ more)) safe left
fronts_more kept lines more safe left f =
    subst (λ (k : Kept). IsFront k safe left) (sym (with_more kept lines more))
    (front_further (with_changes kept lines) (changes_of more) safe left f)

-- ---- one line more

long_is : (n : ℕ) → 1048577 ≤ n → nat_lt 1048576 n ≡ true
long_is n le = grind (arith, nat_tests, le)

-- a line that is too long asks for no change
long_asks : (line : List ℕ) → 1048577 ≤ length line → asks_change line ≡ false
unfolding outline
long_asks line le =
    ap (λ b. is_change (cond b (refused Long) (cond (is_blank line) blank (outline_of_value (json_of line)))))
    (long_is (length line) le)

cut_whole : (line : List ℕ) → length line ≤ 1048577 → cut line ≡ line
unfolding cut
cut_whole line le = take_all 1048577 line le

cut_long : (line : List ℕ) → 1048578 ≤ length line → 1048577 ≤ length (cut line)
unfolding cut
cut_long line le = omega (arith, le, length-take 1048577 line)

-- what is held of a line tells whether it asks for a change
pub asks_cut : (line : List ℕ) → asks_change (cut line) ≡ asks_change line
asks_cut line = elim (cases_lt (length line) 1048578) [
  | inl short ↦ ap asks_change (cut_whole line (omega (arith, short)))
  | inr long ↦ long_asks (cut line) (cut_long line long) ∙ sym (long_asks line (omega (arith, long)))
]

-- and all of a line that does is held
pub change_is_whole : (line : List ℕ) → asks_change line ≡ true → cut line ≡ line
change_is_whole line asks = elim (cases_lt (length line) 1048577) [
  | inl short ↦ cut_whole line (omega (arith, short))
  | inr long ↦ absurd (true≢false (sym asks ∙ long_asks line long))
]

pub none_more : (lines : List (List ℕ)) (line : List ℕ) → asks_change line ≡ false
    → changes_of (lines ++ line ∷ []) ≡ changes_of lines
none_more lines line asks =
    filter-append asks_change lines (line ∷ []) ∙ ap (λ b. changes_of lines ++ cond b (line ∷ []) []) asks
    ∙ append-nil (changes_of lines)

pub one_more : (kept : Kept) (lines : List (List ℕ)) (line said : List ℕ) → asks_change line ≡ true → said ≡ cut line
    → with_command (with_changes kept lines) said ≡ with_changes kept (lines ++ line ∷ [])
one_more kept lines line said asks e =
    ap (with_command (with_changes kept lines)) (e ∙ change_is_whole line asks)
    ∙ ap (λ b. record (with_changes kept lines) { since = (with_changes kept lines).since ++ cond b (line ∷ []) [] })
    (sym asks)
    ∙ sym (with_more kept lines (line ∷ []))

-- ---- where the journal stands

module _ {S : Type 0} (calls : store.Ghosts S) (begun : Begun) where
  few_enough : (synced : List (List ℕ)) → length begun.kept.since ≤ synced_with begun synced
  few_enough synced = omega (arith, length-append begun.kept.since (changes_of synced))

  pub fronts_here : (synced lines : List (List ℕ)) (journal : Journal S) → Appended calls begun synced lines journal
      → LeavesFronts calls begun synced lines journal.store
  fronts_here synced lines journal a = record { stop = a.stands.stop; later = a.later; since = a.since }

  pub fronts_later : (synced lines more : List (List ℕ)) (s : S) → LeavesFronts calls begun synced lines s
      → LeavesFronts calls begun synced (lines ++ more) s
  fronts_later synced lines more s f = record {
    stop = λ left l. fronts_more begun.kept lines more (synced_with begun synced) left (f.stop left l);
    later = f.later;
    since = λ left l. fronts_more begun.kept lines more (length begun.kept.since) left (f.since left l);
  }

  -- no change more
  pub appended_none : (synced lines : List (List ℕ)) (line : List ℕ) (journal : Journal S) → asks_change line ≡ false
      → Appended calls begun synced lines journal → Appended calls begun synced (lines ++ line ∷ []) journal
  appended_none synced lines line journal asks a =
      let same : with_changes begun.kept lines ≡ with_changes begun.kept (lines ++ line ∷ []) =
      ap (λ (cs : List (List ℕ)). record begun.kept { since = begun.kept.since ++ cs })
      (sym (none_more lines line asks)) in
      record {
        stands = subst (λ (k : Kept). Stands calls.seen calls.may_leave journal k (synced_with begun synced)) same
            a.stands;
        later = a.later;
        since = λ left l. subst (λ (k : Kept). IsFront k (length begun.kept.since) left) same (a.since left l);
      }

  -- the journal went on, or was synced
  pub appended_moved : (synced now lines more : List (List ℕ)) (old new : Journal S)
      → Appended calls begun synced lines old
      → ((n : ℕ) (left : List ℕ) → IsFront (with_changes begun.kept lines) n left
      → IsFront (with_changes begun.kept more) n left)
      → Stands calls.seen calls.may_leave new (with_changes begun.kept more) (synced_with begun now)
      → Elapses (calls.moment old.store) (calls.moment new.store) (calls.left_since old.store)
      (calls.left_since new.store) (calls.may_leave new.store)
      → Appended calls begun now more new
  appended_moved synced now lines more old new a grow stands time = record {
    stands = stands;
    later = omega (arith, a.later, time.later);
    since = λ left l. ⊎_elim (λ before. grow (length begun.kept.since) left (a.since left before))
        (λ here. less_safe (with_changes begun.kept more) (synced_with begun now) (length begun.kept.since) left
        (few_enough now) (stands.stop left here)) (time.nothing_else begun.moment left a.later l);
  }

  -- or it failed
  pub fronts_moved : (synced lines more : List (List ℕ)) (old new : Journal S) → Appended calls begun synced lines old
      → ((n : ℕ) (left : List ℕ) → IsFront (with_changes begun.kept lines) n left
      → IsFront (with_changes begun.kept more) n left)
      → LeavesOnly calls.moment calls.left_since old.store new.store
      (IsFront (with_changes begun.kept more) (synced_with begun synced))
      → Elapses (calls.moment old.store) (calls.moment new.store) (calls.left_since old.store)
      (calls.left_since new.store) (calls.may_leave new.store)
      → ((t : ℕ) (left : List ℕ) → t ≤ calls.moment new.store → calls.may_leave new.store left
      → calls.left_since new.store t left)
      → LeavesFronts calls begun synced more new.store
  fronts_moved synced lines more old new a grow only time counts =
      let stop : (left : List ℕ) → calls.may_leave new.store left
      → IsFront (with_changes begun.kept more) (synced_with begun synced) left =
      λ left l. only.each left (counts (calls.moment old.store) left only.later l) in
      record {
        stop = stop;
        later = omega (arith, a.later, time.later);
        since = λ left l. ⊎_elim (λ before. grow (length begun.kept.since) left (a.since left before))
            (λ here. less_safe (with_changes begun.kept more) (synced_with begun synced) (length begun.kept.since)
            left (few_enough synced) (stop left here)) (time.nothing_else begun.moment left a.later l);
      }

  -- what is synced tells of more lines, where these ask for nothing more
  pub synced_too : (synced lines : List (List ℕ)) (journal : Journal S) → changes_of lines ≡ changes_of synced
      → Appended calls begun synced lines journal → Appended calls begun lines lines journal
  synced_too synced lines journal same a = record {
    stands = subst (λ cs. Stands calls.seen calls.may_leave journal (with_changes begun.kept lines)
        (length (begun.kept.since ++ cs))) (sym same) a.stands;
    later = a.later;
    since = a.since;
  }

-- ---- results

pub ok_mapped : {T E P Q : Type 0} (r : Result T E) → (P → Q) → OnOk r P → OnOk r Q
ok_mapped (Ok x) f p = f p
ok_mapped (Err x) f p = tt
