-- A small history, divided in two.
use Rattle.std.proofs.Common.{◌≡◌, ℕ, ◌<◌, cond, List, [], ◌∷◌, refl, Some, codes, arith, true, false, bytes_eq}
use Rattle.clip_grammar.specs.Tree.{Tree}
use Rattle.clip_meaning.specs.Article.{ArticleValue}
use Rattle.clip_model.specs.Standing.{Standing}
use Rattle.clip_model.specs.History.{History, HistoryEntry, Command, Register, Delete, Clear}
use Rattle.clip_model.specs.Alerts.{Alert, alert_of}
use Rattle.clip_model.specs.Shards.{Division, shard, merged, is_for, sum_of}

-- the query q1, q2, .. of its listener
abbrev asks : List ℕ → Standing
asks id = record {
  id = id;
  text = codes "tea";
  tree = Tree.Term (codes "text") (codes "tea");
  listener =
      Some (codes "desk");
}

abbrev entry : ℕ → ℕ → Command → HistoryEntry
entry caller number command = record { caller = caller; number = number; command = command }

-- q2 belongs to part 1, each other id to part 0
abbrev halves : Division
halves = record {
  parts = 2;
  part = λ id. cond (bytes_eq id (codes "q2")) 1 0;
  within =
      λ id. elim (bytes_eq id (codes "q2")) as (λ b. cond b 1 0 < 2) [ true ↦ omega arith | false ↦ omega arith ];
}

abbrev day : History
day =
    entry 1 1 (Register (asks (codes "q1") ∷ asks (codes "q2") ∷ asks (codes "q3") ∷ asks (codes "q2") ∷ []))
    ∷ entry 2 1 (Delete (codes "q2" ∷ codes "q1" ∷ []))
    ∷ entry 1 2 Clear
    ∷ []

-- each part has its own ids in order, under each caller and number, and each clear
pub row_first : shard halves 0 day ≡ entry 1 1 (Register (asks (codes "q1") ∷ asks (codes "q3") ∷ []))
    ∷ entry 2 1 (Delete (codes "q1" ∷ [])) ∷ entry 1 2 Clear ∷ []
row_first = refl

pub row_second : shard halves 1 day ≡ entry 1 1 (Register (asks (codes "q2") ∷ asks (codes "q2") ∷ []))
    ∷ entry 2 1 (Delete (codes "q2" ∷ [])) ∷ entry 1 2 Clear ∷ []
row_second = refl

-- an entry in which a part has no id stays
pub row_none : shard halves 1 (entry 1 1 (Delete (codes "q1" ∷ [])) ∷ []) ≡ entry 1 1 (Delete []) ∷ []
row_none = refl

abbrev alert : ArticleValue → List ℕ → Alert
alert article id = alert_of article (id, record { standing = asks id; seq = 1 })

-- alerts merge by the bytes of their ids, q10 before q2
pub row_merged : (article : ArticleValue)
    → merged (alert article (codes "q1") ∷ alert article (codes "q2") ∷ []) (alert article (codes "q10")
    ∷ alert article (codes "q3") ∷ [])
    ≡ alert article (codes "q1") ∷ alert article (codes "q10") ∷ alert article (codes "q2")
    ∷ alert article (codes "q3") ∷ []
row_merged article = refl

pub row_heard : (article : ArticleValue) → is_for (codes "desk") (alert article (codes "q1")) ≡ true
row_heard article = refl

pub row_not_heard : (article : ArticleValue) → is_for (codes "des") (alert article (codes "q1")) ≡ false
row_not_heard article = refl

pub row_sum : sum_of 3 (λ k. k) ≡ 3
row_sum = refl
