-- What a stop leaves of a journal: fronts of what it keeps.
use Rattle.std.proofs.Common.{◌≡◌, ◌⊎◌, inl, inr, ℕ, ◌+◌, ◌-◌, ◌<◌, ◌≤◌, ◌^◌, List, [], ◌∷◌, ◌++◌, length, take}
use Rattle.std.proofs.Common.{sym, ap, ap₂, ◌∙◌, subst, append_assoc, append-nil, arith, length-append}
use Rattle.std.proofs.lemmas.Bool.{cases_lt}
use Rattle.std.proofs.lemmas.List.{take_all, take-append-le, length-take}
use Rattle.std.proofs.Math.Seq.{take-append-add}
use Rattle.clip_journal.specs.Entries.{numbers, head, entry, entries, link_after, link_behind, first_link, IsTorn}
use Rattle.clip_journal.specs.Kept.{Kept, Reads, bytes_of, said_by, with_command, front}
use Rattle.clip_journal.specs.Stop.{IsLeft}
use Rattle.clip_journal.specs.Stands.{IsFront}
use Rattle.clip_journal.proofs.Heads.{length-entry, length-head, entry_parts}
use Rattle.clip_journal.proofs.Chains.{entries_push, link_push}

front_all : (kept : Kept) → front (length kept.since) kept ≡ kept
front_all kept =
    ap (λ (s : List (List ℕ)). record kept { since = s }) (take_all (length kept.since) kept.since (omega arith))

-- all of what is kept
pub whole_front : (kept : Kept) (left : List ℕ) → kept.changes + length kept.since < 2 ^ 63 → left ≡ bytes_of kept
    → IsFront kept (length kept.since) left
whole_front kept left small e = record {
  many = length kept.since;
  torn = [];
  least = omega arith;
  most = omega arith;
  reads = subst (λ (k : Kept). Reads left k []) (sym (front_all kept))
      (record { counted = small; parts = e ∙ sym (append-nil (bytes_of kept)); rest = inl (omega arith) });
}

-- a front of what was kept before is one of what is kept with a command more
pub front_more : (kept : Kept) (said : List ℕ) (safe : ℕ) (left : List ℕ) → IsFront kept safe left
    → IsFront (with_command kept said) safe left
front_more kept said safe left f =
    let same : front f.many kept ≡ front f.many (with_command kept said) =
    ap (λ (s : List (List ℕ)). record kept { since = s })
    (sym (take-append-le f.many kept.since (said ∷ []) f.most)) in
    record {
      many = f.many;
      torn = f.torn;
      least = f.least;
      most = omega (arith, f.most, length-append kept.since (said ∷ []));
      reads = subst (λ (k : Kept). Reads left k f.torn) same f.reads;
    }

zero_plus : (n : ℕ) → 0 + n ≡ n
zero_plus n = omega arith

pub said_more : (kept : Kept) (said : List ℕ) → said_by (with_command kept said) ≡ said_by kept ++ said ∷ []
said_more kept said =
    ap (λ (x : List (List ℕ)). numbers kept.changes (length kept.live) ∷ x)
    (sym (append_assoc kept.live kept.since (said ∷ [])))

pub bytes_more : (kept : Kept) (said : List ℕ) → bytes_of (with_command kept said)
    ≡ bytes_of kept ++ entry (link_behind first_link 0 (said_by kept)) (length (said_by kept)) said
bytes_more kept said =
    ap (entries first_link 0) (said_more kept said) ∙ entries_push first_link 0 (said_by kept) said
    ∙ ap (λ (n : ℕ). bytes_of kept ++ entry (link_behind first_link 0 (said_by kept)) n said)
    (zero_plus (length (said_by kept)))

pub link_more : (kept : Kept) (said : List ℕ) → link_behind first_link 0 (said_by (with_command kept said))
    ≡ link_after (link_behind first_link 0 (said_by kept)) (length (said_by kept)) said
link_more kept said =
    ap (link_behind first_link 0) (said_more kept said) ∙ link_push first_link 0 (said_by kept) said
    ∙ ap (λ (n : ℕ). link_after (link_behind first_link 0 (said_by kept)) n said) (zero_plus (length (said_by kept)))

-- a front of an entry that is not all of it is torn
torn_front : (link : List ℕ) (place : ℕ) (said : List ℕ) (k : ℕ) → length said < 2 ^ 64
    → k < length (entry link place said) → IsTorn link place (take k (entry link place said))
torn_front link place said k small less = elim (cases_lt k 48) [
  | inl short ↦ inl (omega (arith, short, length-take k (entry link place said)))
  | inr long ↦ inr (behind_head long)
]
  where
    behind_head : 48 ≤ k → (size : ℕ) × (more : List ℕ) × (size < 2 ^ 64)
        × (take k (entry link place said) ≡ head link place size ++ more) × (length more < size + 32)
    behind_head long =
        let h = head link place (length said) in
        let tail = said ++ link_after link place said in
        let whole : entry link place said ≡ h ++ tail =
        sym (append-nil (entry link place said)) ∙ entry_parts link place said []
        ∙ ap (λ (x : List ℕ). h ++ (said ++ x)) (append-nil (link_after link place said)) in
        let at : k ≡ length h + (k - 48) = omega (arith, long, length-head link place (length said)) in
        let len = length-entry link place said in (
          length said,
          take (k - 48) tail,
          small,
          ap (take k) whole ∙ ap (λ (n : ℕ). take n (h ++ tail)) at ∙ take-append-add h tail (k - 48),
          omega (arith, long, less, len, length-take (k - 48) tail),
        )

-- of an entry that is appended a stop leaves a front
left_front : (kept : Kept) (said : List ℕ) (safe k : ℕ) (left : List ℕ) → length said < 2 ^ 64
    → kept.changes + length kept.since + 1 < 2 ^ 63 → safe ≤ length kept.since
    → left ≡ bytes_of kept ++ take k (entry (link_behind first_link 0 (said_by kept)) (length (said_by kept)) said)
    → IsFront (with_command kept said) safe left
left_front kept said safe k left small few enough e = elim (cases_lt k (length one)) [
  | inl less ↦ front_more kept said safe left (record {
    many = length kept.since;
    torn = take k one;
    least = enough;
    most = omega arith;
    reads = subst (λ (x : Kept). Reads left x (take k one)) (sym (front_all kept))
        (record { counted = omega (arith, few); parts = e; rest = torn_front _ _ said k small less });
  })
  | inr long ↦ all (whole_front (with_command kept said) left
      (omega (arith, few, length-append kept.since (said ∷ [])))
      (e ∙ ap (λ (x : List ℕ). bytes_of kept ++ x) (take_all k one long) ∙ sym (bytes_more kept said)))
]
  where
    one : List ℕ
    one = entry (link_behind first_link 0 (said_by kept)) (length (said_by kept)) said

    all : IsFront (with_command kept said) (length (kept.since ++ said ∷ [])) left
        → IsFront (with_command kept said) safe left
    all f = record {
      many = f.many;
      torn = f.torn;
      least = omega (arith, enough, f.least, length-append kept.since (said ∷ []));
      most = f.most;
      reads = f.reads;
    }

-- an entry that the journal appends where it stands
pub record IsNext (kept : Kept) (last : List ℕ) (at : ℕ) (said there one : List ℕ) : Type 0 where
  pub before : there ≡ bytes_of kept
  pub link : last ≡ link_behind first_link 0 (said_by kept)
  pub place : at ≡ length (said_by kept)
  pub written : one ≡ entry last at said

one_is : (kept : Kept) (last : List ℕ) (at : ℕ) (said there one : List ℕ) → IsNext kept last at said there one
    → one ≡ entry (link_behind first_link 0 (said_by kept)) (length (said_by kept)) said
one_is kept last at said there one n = n.written ∙ ap₂ (λ (l : List ℕ) (p : ℕ). entry l p said) n.link n.place

pub next_bytes : (kept : Kept) (last : List ℕ) (at : ℕ) (said there one now : List ℕ)
    → IsNext kept last at said there one → now ≡ there ++ one → now ≡ bytes_of (with_command kept said)
next_bytes kept last at said there one now n e =
    e ∙ ap₂ (λ (x y : List ℕ). x ++ y) n.before (one_is kept last at said there one n) ∙ sym (bytes_more kept said)

pub next_stop : (kept : Kept) (last : List ℕ) (at : ℕ) (said there one : List ℕ) (safe : ℕ) (left : List ℕ)
    → IsNext kept last at said there one → length said < 2 ^ 64 → kept.changes + length kept.since + 1 < 2 ^ 63
    → safe ≤ length kept.since → IsFront kept safe left ⊎ IsLeft there one left
    → IsFront (with_command kept said) safe left
next_stop kept last at said there one safe left n small few enough (inl before) = front_more kept said safe left before
next_stop kept last at said there one safe left n small few enough (inr here) =
    left_front kept said safe here.0 left small few enough
    (here.1 ∙ ap₂ (λ (x y : List ℕ). x ++ take here.0 y) n.before (one_is kept last at said there one n))
