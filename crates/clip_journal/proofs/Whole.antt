-- What the reader of a journal keeps as it goes, and what its bytes are in the end.
use Rattle.std.proofs.Common.{◌≡◌, ℕ, suc, ◌+◌, ◌-◌, ◌<◌, ◌≤◌, ◌^◌, List, [], ◌∷◌, ◌++◌, length, take, drop}
use Rattle.std.proofs.Common.{replicate, Vec}
use Rattle.std.proofs.Common.{refl, sym, ap, ap₂, ◌∙◌, subst, append_assoc, arith, length-append}
use Rattle.std.proofs.lemmas.List.{drop_at, take-map, drop-map, take_rest, length-map, length-take-le, length-drop}
use Rattle.std.proofs.lemmas.List.{take-append-drop, map_push, take_at}
use Rattle.std.specs.declared.alloc.Global.{Global}
use Rattle.clip_journal.specs.Entries.{numbers, entry, entries, link_after, link_behind, first_link, IsTorn, IsWrong}
use Rattle.clip_journal.specs.Entries.{StartsNone}
use Rattle.clip_journal.specs.Kept.{Kept, Reads, said_by, kept_in, says, IsNone}
use Rattle.clip_journal.specs.Parts.{Parts, IsWrongFrom, IsBroken}
use Rattle.clip_journal.specs.declared.fault.ReadFault.{ReadFault}
use Rattle.clip_journal.specs.declared.fault.ReadFault.TheVariants as faults
use Rattle.clip_journal.proofs.Heads.{length-entry, same_front, one_pair}
use Rattle.clip_journal.proofs.Chains.{entries_push, link_push, entries_long, one_cut, torn_starts_none}

-- ---- lists of texts

pub says_live : (vs : List (Vec ℕ Global)) (m n : ℕ) → m ≡ n → says (take m (drop 1 vs)) ≡ take n (drop 1 (says vs))
says_live vs m n e =
    ap (λ (k : ℕ). says (take k (drop 1 vs))) e ∙ sym (take-map (λ (v : Vec ℕ Global). v.items) n (drop 1 vs))
    ∙ ap (take n) (sym (drop-map (λ (v : Vec ℕ Global). v.items) 1 vs))

pub says_since : (vs : List (Vec ℕ Global)) (k : ℕ) → says (take (length vs - k) (drop k vs)) ≡ drop k (says vs)
says_since vs k = ap says (take_rest vs k) ∙ sym (drop-map (λ (v : Vec ℕ Global). v.items) k vs)

pub length-says : (vs : List (Vec ℕ Global)) → length (says vs) ≡ length vs
length-says vs = length-map vs (λ (v : Vec ℕ Global). v.items)

-- ---- one entry more

pub record IsRead (bytes : List ℕ) (said : List (List ℕ)) (last rest : List ℕ) : Type 0 where
  pub parts : bytes ≡ entries first_link 0 said ++ rest
  pub link : last ≡ link_behind first_link 0 said

pub read_more : (bytes : List ℕ) (said : List (List ℕ)) (last rest one next behind : List ℕ) (place : ℕ)
    → IsRead bytes said last rest → place ≡ length said → rest ≡ entry last place one ++ behind
    → next ≡ link_after last place one → IsRead bytes (said ++ one ∷ []) next behind
read_more bytes said last rest one next behind place r at e next_is =
    let here : entry last place one ≡ entry (link_behind first_link 0 said) (0 + length said) one =
    ap₂ (λ (l : List ℕ) (n : ℕ). entry l n one) r.link (omega (arith, at)) in
    record {
      parts = r.parts ∙ ap (λ (x : List ℕ). entries first_link 0 said ++ x)
          (e ∙ ap (λ (x : List ℕ). x ++ behind) here)
          ∙ sym (append_assoc (entries first_link 0 said) (entry (link_behind first_link 0 said) (0 + length said) one)
          behind)
          ∙ ap (λ (x : List ℕ). x ++ behind) (sym (entries_push first_link 0 said one));
      link = next_is ∙ ap₂ (λ (l : List ℕ) (n : ℕ). link_after l n one) r.link (omega (arith, at))
          ∙ sym (link_push first_link 0 said one);
    }

pub read_shorter : (link : List ℕ) (place : ℕ) (rest one behind : List ℕ) → rest ≡ entry link place one ++ behind
    → length behind < length rest
read_shorter link place rest one behind e =
    omega (arith, ap length e, length-append (entry link place one) behind, length-entry link place one)

drop_back : (bytes front rest : List ℕ) → bytes ≡ front ++ rest → drop (length bytes - length rest) bytes ≡ rest
drop_back bytes front rest e =
    ap (drop (length bytes - length rest)) e
    ∙ drop_at front rest (length bytes - length rest) (omega (arith, ap length e, length-append front rest))

pub read_ends : (bytes : List ℕ) (said : List (List ℕ)) (last rest : List ℕ) → IsRead bytes said last rest
    → IsTorn last (length said) rest → Parts bytes said last (length bytes - length rest)
read_ends bytes said last rest r torn =
    let back = sym (drop_back bytes (entries first_link 0 said) rest r.parts) in
    record {
      within = omega arith;
      parts = r.parts ∙ ap (λ (x : List ℕ). entries first_link 0 said ++ x) back;
      link = r.link;
      torn = subst (IsTorn last (length said)) back torn;
    }

pub read_place : (bytes : List ℕ) (said : List (List ℕ)) (rest : List ℕ) → bytes ≡ entries first_link 0 said ++ rest
    → length bytes - length rest ≡ length (entries first_link 0 said)
read_place bytes said rest e = omega (arith, ap length e, length-append (entries first_link 0 said) rest)

-- ---- the one reading

pub reads_of : (bytes : List ℕ) (said : List (List ℕ)) (last : List ℕ) (at : ℕ) (kept : Kept) (torn : List ℕ)
    → Parts bytes said last at → said ≡ said_by kept → kept.changes + length kept.since < 2 ^ 63
    → torn ≡ drop at bytes → Reads bytes kept torn
reads_of bytes said last at kept torn p same small torn_is = record {
  counted = small;
  parts = p.parts ∙ ap₂ (λ (s : List (List ℕ)) (t : List ℕ). entries first_link 0 s ++ t) same (sym torn_is);
  rest = subst (λ (s : List (List ℕ)). IsTorn (link_behind first_link 0 s) (length s) torn) same
      (subst (λ (l : List ℕ). IsTorn l (length said) torn) p.link
      (subst (IsTorn last (length said)) (sym torn_is) p.torn));
}

from_0 : (said : List (List ℕ)) (rest : List ℕ) → StartsNone (link_behind first_link 0 said) (length said) rest
    → StartsNone (link_behind first_link 0 said) (0 + length said) rest
from_0 said rest none =
    subst (λ (n : ℕ). StartsNone (link_behind first_link 0 said) n rest) (omega arith) none

pub reads_one : (bytes : List ℕ) (kept : Kept) (torn : List ℕ) (said : List (List ℕ)) (rest : List ℕ)
    → length bytes < 2 ^ 64 → Reads bytes kept torn → bytes ≡ entries first_link 0 said ++ rest
    → StartsNone (link_behind first_link 0 said) (length said) rest → (said ≡ said_by kept) × (rest ≡ torn)
reads_one bytes kept torn said rest small r e none =
    one_cut first_link 0 said (said_by kept) rest torn (omega (arith, small, ap length e)) (sym e ∙ r.parts)
    (from_0 said rest none) (from_0 (said_by kept) torn (torn_starts_none _ _ torn r.rest))

-- what is wrong behind whole entries is no journal's
pub none_if_wrong : (bytes : List ℕ) (said : List (List ℕ)) (rest : List ℕ) → length bytes < 2 ^ 64
    → bytes ≡ entries first_link 0 said ++ rest → IsWrong (link_behind first_link 0 said) (length said) rest
    → IsNone bytes
none_if_wrong bytes said rest small e wrong kept torn r =
    let one = reads_one bytes kept torn said rest small r e wrong.none in
    wrong.not_torn (subst (IsTorn (link_behind first_link 0 said) (length said)) (sym one.1)
    (subst (λ (s : List (List ℕ)). IsTorn (link_behind first_link 0 s) (length s) torn) (sym one.0) r.rest))

pub parts_none : (bytes : List ℕ) (said : List (List ℕ)) (last : List ℕ) (at : ℕ) → Parts bytes said last at
    → StartsNone (link_behind first_link 0 said) (length said) (drop at bytes)
parts_none bytes said last at p =
    torn_starts_none _ _ (drop at bytes) (subst (λ (l : List ℕ). IsTorn l (length said) (drop at bytes)) p.link p.torn)

-- whole entries have one reading
pub parts_one : (bytes : List ℕ) (said : List (List ℕ)) (last : List ℕ) (at : ℕ) (kept : Kept) (torn : List ℕ)
    → length bytes < 2 ^ 64 → Parts bytes said last at → Reads bytes kept torn
    → (said ≡ said_by kept) × (drop at bytes ≡ torn)
parts_one bytes said last at kept torn small p r =
    reads_one bytes kept torn said (drop at bytes) small r p.parts (parts_none bytes said last at p)

pub parts_small : (bytes : List ℕ) (said : List (List ℕ)) (last : List ℕ) (at : ℕ) → Parts bytes said last at
    → length said ≤ length bytes
parts_small bytes said last at p =
    omega (
      arith,
      entries_long first_link 0 said,
      ap length p.parts,
      length-append (entries first_link 0 said) (drop at bytes),
    )

pub parts_place : (bytes : List ℕ) (said : List (List ℕ)) (last : List ℕ) (at : ℕ) → Parts bytes said last at
    → at ≡ length (entries first_link 0 said)
parts_place bytes said last at p =
    omega (
      arith,
      p.within,
      ap length p.parts,
      length-append (entries first_link 0 said) (drop at bytes),
      length-drop at bytes,
    )

abbrev kept_in_parts : List (List ℕ) → List (List ℕ) → ℕ → Kept
kept_in_parts live since changes = record { changes = changes; live = live; since = since }

-- what entries say is what one journal keeps
pub kept_one : (a b : Kept) → a.changes + length a.since < 2 ^ 63 → b.changes + length b.since < 2 ^ 63
    → length (said_by a) < 2 ^ 64
    → said_by a ≡ said_by b → a ≡ b
kept_one a b la lb small e =
    let lens = ap length e in
    let la' = length-append a.live a.since in
    let lb' = length-append b.live b.since in
    let p = one_pair a.changes (length a.live) b.changes (length b.live) (omega arith) (omega arith) (omega arith)
    (omega arith)
    (ap first_of e) in
    let t = same_front a.live a.since b.live b.since p.1 (ap (λ (l : List (List ℕ)). drop 1 l) e) in
    made a b p.0 t.0 t.1
  where
    first_of : List (List ℕ) → List ℕ
    first_of [] = []
    first_of (x ∷ xs) = x

    made : (a b : Kept) → a.changes ≡ b.changes → a.live ≡ b.live → a.since ≡ b.since → a ≡ b
    made a b c l s =
        ap (kept_in_parts a.live a.since) c ∙ ap (λ (x : List (List ℕ)). kept_in_parts x a.since b.changes) l
        ∙ ap (λ (x : List (List ℕ)). kept_in_parts b.live x b.changes) s

-- what stands behind the first entry, cut by how many queries were live
pub said_cut : (changes live : ℕ) (first : List ℕ) (behind : List (List ℕ)) → live ≤ length behind
    → first ≡ numbers changes live → first ∷ behind ≡ said_by (kept_in changes live (first ∷ behind))
said_cut changes live first behind le is =
    ap₂ (λ (f : List ℕ) (b : List (List ℕ)). f ∷ b)
    (is ∙ ap (numbers changes) (sym (length-take-le live behind le)))
    (sym (take-append-drop live behind) ∙ ap (λ (n : ℕ). take live behind ++ drop n (first ∷ behind)) one)
  where
    one : suc live ≡ 1 + live
    one = omega arith

-- ---- what a loop of the reader begins with and adds

pub read_none : (bytes : List ℕ) (vs : List (Vec ℕ Global)) → vs ≡ [] → IsRead bytes (says vs) (replicate 32 0) bytes
unfolding first_link
read_none bytes vs e =
    subst (λ (s : List (Vec ℕ Global)). IsRead bytes (says s) (replicate 32 0) bytes) (sym e)
    (record { parts = refl; link = refl })

pub says_push : (vs ws : List (Vec ℕ Global)) (v : Vec ℕ Global) (one : List ℕ) → ws ≡ vs ++ v ∷ [] → v.items ≡ one
    → says ws ≡ says vs ++ one ∷ []
says_push vs ws v one e is =
    ap says e ∙ map_push (λ (w : Vec ℕ Global). w.items) vs v ∙ ap (λ (x : List ℕ). says vs ++ x ∷ []) is

-- what a first entry and those behind it say
pub opening_some : (changes live behind : ℕ) (first : List ℕ) (said : List (List ℕ)) → behind ≡ length said
    → live ≤ behind → changes + (behind - live) < 2 ^ 63
    → changes + length (drop (1 + live) (first ∷ said)) < 2 ^ 63
opening_some changes live behind first said len le small =
    omega (arith, len, le, small, length-drop (1 + live) (first ∷ said))

pub opening_none : (behind : ℕ) (first : List ℕ) (said : List (List ℕ)) → behind ≡ length said
    → ((a b : ℕ) → b ≤ behind → a + (behind - b) < 2 ^ 63 → first ≡ numbers a b → ⊥)
    → (kept : Kept) → kept.changes + length kept.since < 2 ^ 63 → first ∷ said ≡ said_by kept → ⊥
opening_none behind first said len none kept small e =
    let tails : said ≡ kept.live ++ kept.since = ap (λ (l : List (List ℕ)). drop 1 l) e in
    let lens = ap length tails in
    let both = length-append kept.live kept.since in
    none kept.changes (length kept.live) (omega (arith, len, lens, both)) (omega (arith, len, lens, both, small))
    (ap first_is e)
  where
    first_is : List (List ℕ) → List ℕ
    first_is [] = []
    first_is (x ∷ xs) = x

-- what is wrong is broken
pub broken_of : (bytes : List ℕ) (fault : ReadFault) → length bytes < 2 ^ 64 → IsWrongFrom bytes fault
    → IsBroken bytes fault
broken_of bytes (faults.Broken place) small w =
    (none_if_wrong bytes w.0 w.1 small w.2 w.4, w.0, w.1, w.2, w.3, w.4.none)
broken_of bytes faults.NoMemory small w = tt

-- the whole entries of bytes, without what stands torn behind them
pub cut_front : (bytes front torn : List ℕ) (n : ℕ) → bytes ≡ front ++ torn → n ≡ length bytes - length torn
    → take n bytes ≡ front
cut_front bytes front torn n e at =
    ap (take n) e ∙ take_at front torn n (omega (arith, at, ap length e, length-append front torn))
