-- Entries whose seqs rise.
use Rattle.std.proofs.Common.{◌≡◌, ℕ, ◌+◌, ◌<◌, List, [], ◌∷◌, ◌++◌, length, map, arith, length-append}
use Rattle.std.proofs.Math.ListN.{get_or-map}
use Rattle.std.proofs.lemmas.List.{length-map}
use Rattle.std.proofs.lemmas.List.Elements.{All-append, All-cons, All-nil, All-weaker}
use Rattle.std.proofs.lemmas.List.Quantifiers.{all_pairs_push}
use Rattle.std.specs.List.{All}
use Rattle.clip_merge.specs.Live.{AreRising}
use Rattle.clip_model.specs.History.{Registered}
use Rattle.clip_indexed.specs.Segment.{IsRising}

-- where the seqs rise, the entries do
pub entries_rise : (entries : List Registered) → AreRising (map (λ e. e.seq) entries) → IsRising entries
entries_rise entries are = record {
  rises = λ i j d before inside.
      let seq_of = λ (e : Registered). e.seq in
      let below = are.rises i j d.seq before (omega (arith, length-map entries seq_of)) in
      rw (get_or-map seq_of entries i d, get_or-map seq_of entries j d) at below;
}

-- there are so many entries, whose seqs rise and are below that number
pub record IsFilled (n : ℕ) (entries : List Registered) : Type 0 where
  pub count : length entries ≡ n
  pub rising : IsRising entries
  pub below : All (λ e. e.seq < n) entries

pub filled_more : (n : ℕ) (entries : List Registered) (next : Registered) → IsFilled n entries → next.seq ≡ n
    → IsFilled (n + 1) (entries ++ next ∷ [])
filled_more n entries next is seq = record {
  count = let before = is.count in omega (arith, length-append entries (next ∷ []));
  rising = record {
    rises = all_pairs_push (λ e f. e.seq < f.seq) entries next is.rising.rises (λ k d inside. let low =
        is.below k d inside in omega arith);
  };
  below =
      All-append (λ e. e.seq < n + 1) entries (next ∷ [])
      (All-weaker (λ e. e.seq < n) (λ e. e.seq < n + 1) (λ e low. omega arith) entries is.below)
      (All-cons (λ e. e.seq < n + 1) next [] (omega arith) (All-nil (λ e. e.seq < n + 1)));
}
