-- A journal that is written anew, entry by entry.
use Rattle.std.proofs.Common.{◌≡◌, ℕ, ◌+◌, ◌<◌, List, [], ◌∷◌, ◌++◌, length, get_or, take, Vec, replicate}
use Rattle.std.proofs.Common.{sym, ap, ap₂, ◌∙◌, append-nil, arith}
use Rattle.std.specs.Int.{w64, to_be_bytes}
use Rattle.std.specs.declared.alloc.Global.{Global}
use Rattle.std.proofs.lemmas.List.{take_more, map_push}
use Rattle.clip_journal.specs.Entries.{numbers, entry, entries, link_after, link_behind, first_link}
use Rattle.clip_journal.specs.Kept.{says, bytes_of, said_by, compacted}
use Rattle.clip_journal.proofs.Chains.{entries_push, link_push}

pub record IsSpelled (first : List ℕ) (said : List (List ℕ)) (written last : List ℕ) : Type 0 where
  pub bytes : written ≡ entries first_link 0 (first ∷ said)
  pub link : last ≡ link_behind first_link 0 (first ∷ said)

-- what the first entry says
pub opening_is : (changes live : ℕ) (none first both : List ℕ) → none ≡ [] → first ≡ none ++ to_be_bytes w64 changes
    → both ≡ first ++ to_be_bytes w64 live → both ≡ numbers changes live
unfolding numbers
opening_is changes live none first both e p q =
    q ∙ ap (λ (x : List ℕ). x ++ to_be_bytes w64 live) (p ∙ ap (λ (x : List ℕ). x ++ to_be_bytes w64 changes) e)

pub spelled_first : (first given none written last : List ℕ) → given ≡ first → none ≡ []
    → written ≡ none ++ entry (replicate 32 0) 0 given → last ≡ link_after (replicate 32 0) 0 given
    → IsSpelled first [] written last
unfolding first_link
spelled_first first given none written last is e w l = record {
  bytes = w ∙ ap₂ (λ (x y : List ℕ). x ++ entry (replicate 32 0) 0 y) e is
      ∙ sym (append-nil (entry (replicate 32 0) 0 first));
  link = l ∙ ap (link_after (replicate 32 0) 0) is;
}

pub spelled_more : (first : List ℕ) (said : List (List ℕ)) (written last one more next : List ℕ) (place : ℕ)
    → IsSpelled first said written last → place ≡ length said + 1 → more ≡ written ++ entry last place one
    → next ≡ link_after last place one → IsSpelled first (said ++ one ∷ []) more next
spelled_more first said written last one more next place s at w l =
    let here : place ≡ 0 + length (first ∷ said) = omega (arith, at) in
    record {
      bytes = w ∙ ap₂ (λ (x y : List ℕ). x ++ entry y place one) s.bytes s.link
          ∙ ap (λ (n : ℕ). entries first_link 0 (first ∷ said) ++ entry (link_behind first_link 0 (first ∷ said)) n one)
          here
          ∙ sym (entries_push first_link 0 (first ∷ said) one);
      link = l ∙ ap₂ (λ (y : List ℕ) (n : ℕ). link_after y n one) s.link here
          ∙ sym (link_push first_link 0 (first ∷ said) one);
    }

-- one query more
pub says_more : (vs : List (Vec ℕ Global)) (i : ℕ) (v : Vec ℕ Global) → i < length vs → v ≡ get_or vs i v
    → says (take (i + 1) vs) ≡ says (take i vs) ++ v.items ∷ []
says_more vs i v lt is =
    ap says (take_more vs i v lt ∙ ap (λ (w : Vec ℕ Global). take i vs ++ w ∷ []) (sym is))
    ∙ map_push (λ (w : Vec ℕ Global). w.items) (take i vs) v

-- all of them
pub spelled_all : (changes n : ℕ) (live said : List (List ℕ)) (written last : List ℕ)
    → IsSpelled (numbers changes n) said written last → n ≡ length live → said ≡ live
    → (written ≡ bytes_of (compacted changes live))
    × (last ≡ link_behind first_link 0 (said_by (compacted changes live)))
spelled_all changes n live said written last s len e =
    let same : numbers changes n ∷ said ≡ said_by (compacted changes live) =
    ap₂ (λ (m : ℕ) (l : List (List ℕ)). numbers changes m ∷ l) len (e ∙ sym (append-nil live)) in
    (s.bytes ∙ ap (entries first_link 0) same, s.link ∙ ap (link_behind first_link 0) same)
