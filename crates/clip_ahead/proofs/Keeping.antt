-- The turns of a keeper over the lines of what was read.
use Rattle.std.proofs.Common.{◌≡◌, ℕ, ◌+◌, ◌≤◌, ◌<◌, ◌==◌, List, [], ◌∷◌, ◌++◌, length, take, drop, Bool, true, false}
use Rattle.std.proofs.Common.{refl, sym, ap, ◌∙◌, subst, arith, append_assoc, append-nil}
use Rattle.std.proofs.lemmas.Bool.Decides.{nat_tests}
use Rattle.std.specs.Prelude.{Option, None, Some, Result, Ok, Err, OnOk, OnErr, MatchResult}
use Rattle.std.specs.Io.KnownBytes.{IsAtEnd}
use Rattle.clip_stream.specs.Lines.{lines_of, ended_lines}
use Rattle.clip_stream.specs.Steps.Reading.{has_feed, after_line, cut, FeedsAt}
use Rattle.clip_stream.proofs.Bytes.{cut_none, cut_nothing}
use Rattle.clip_journal.specs.declared.store.Store as store
use Rattle.clip_journal.specs.declared.journal_fault.JournalFault.{JournalFault}
use Rattle.clip_ahead.specs.Changes.{changes_of}
use Rattle.clip_ahead.specs.Pieces.{last_piece, line_of_piece}
use Rattle.clip_ahead.specs.Ahead.{Begun, Appended, LeavesFronts}
use Rattle.clip_ahead.specs.Keeping.{Holds, Takes, TimeGoesOn}
use Rattle.clip_ahead.specs.Handing.{KeepsAhead}
use Rattle.clip_ahead.specs.declared.keeper.Keeper.{Keeper}
use Rattle.clip_ahead.proofs.Pieces.{ended_behind, piece_behind, ended_first, first_parts, first_has_none, all_lines}
use Rattle.clip_ahead.proofs.Appending.{fronts_here, fronts_later}
use Rattle.clip_ahead.proofs.Times.{time_none, time_on}

-- ---- what stands up to a line feed

pub feed_parts : (rest piece after : List ℕ) (at : ℕ) → FeedsAt rest at → piece ≡ take at rest
    → after ≡ drop (at + 1) rest → rest ≡ (piece ++ 10 ∷ []) ++ after
feed_parts rest piece after at f p a =
    let line = f.first ∙ sym p in
    let behind = f.after ∙ sym a in
    first_parts rest f.has ∙ ap (λ xs. xs ++ 10 ∷ after_line rest) line ∙ ap (λ xs. piece ++ 10 ∷ xs) behind
    ∙ sym (append_assoc piece (10 ∷ []) after)

pub feed_none : (rest piece : List ℕ) (at : ℕ) → FeedsAt rest at → piece ≡ take at rest → has_feed piece ≡ false
feed_none rest piece at f p = ap has_feed (p ∙ sym f.first) ∙ first_has_none rest

pub more_parts : (bytes taken piece after rest : List ℕ) → bytes ≡ taken ++ rest → rest ≡ piece ++ after
    → bytes ≡ (taken ++ piece) ++ after
more_parts bytes taken piece after rest e f =
    e ∙ ap (λ xs. taken ++ xs) f ∙ sym (append_assoc taken piece after)

pub no_bytes : (xs : List ℕ) → length xs ≡ 0 → xs ≡ []
no_bytes [] e = refl
no_bytes (x ∷ xs) e = absurd (omega arith)

module _ {S : Type 0} (calls : store.Ghosts S) where
  -- ---- the turns

  pub takes_none : (keeper : Keeper S) (bytes : List ℕ) → Takes calls keeper keeper bytes bytes false
  takes_none keeper bytes = record {
    on = λ begun before h. record {
      taken = [];
      parts = refl;
      holds = subst (λ xs. Holds calls begun before xs keeper) (sym (append-nil before)) h;
      unchanged = λ _. ap (λ xs. changes_of (ended_lines xs)) (append-nil before);
    };
    faults = omega arith;
    time = time_none calls keeper.journal.store;
  }

  pub takes_line : (old now next : Keeper S) (bytes rest piece after : List ℕ) (at : ℕ) (asks asked later : Bool)
      → Takes calls old now bytes rest asks → FeedsAt rest at → piece ≡ take at rest → after ≡ drop (at + 1) rest
      → ((begun : Begun) (synced before : List ℕ) → Holds calls begun synced before now → has_feed piece ≡ false
      → Holds calls begun synced (before ++ (piece ++ 10 ∷ [])) next)
      → ((begun : Begun) (synced before : List ℕ) → Holds calls begun synced before now → has_feed piece ≡ false
      → asked ≡ false
      → changes_of (ended_lines (before ++ (piece ++ 10 ∷ []))) ≡ changes_of (ended_lines before))
      → calls.faults now.journal.store ≤ calls.faults next.journal.store
      → TimeGoesOn calls now.journal.store next.journal.store
      → (later ≡ false → (asks ≡ false) × (asked ≡ false)) → Takes calls old next bytes after later
  takes_line old now next bytes rest piece after at asks asked later t f p a holds unchanged faults time neither =
      let none = feed_none rest piece at f p in
      record {
        on = λ begun before h.
            let o = t.on begun before h in
            let line = piece ++ 10 ∷ [] in
            let whole : (before ++ o.taken) ++ line ≡ before ++ (o.taken ++ line) =
            append_assoc before o.taken line in
            record {
              taken = o.taken ++ line;
              parts = more_parts bytes o.taken line after rest o.parts (feed_parts rest piece after at f p a);
              holds = subst (λ xs. Holds calls begun before xs next) whole
                  (holds begun before (before ++ o.taken) o.holds none);
              unchanged = λ none_asks.
                  let both = neither none_asks in
                  ap (λ xs. changes_of (ended_lines xs)) (sym whole)
                  ∙ unchanged begun before (before ++ o.taken) o.holds none both.1 ∙ o.unchanged both.0;
            };
        faults = omega (arith, t.faults, faults);
        time = time_on calls old.journal.store now.journal.store next.journal.store t.time time;
      }

  -- ---- where it failed

  pub fronts_ended : (begun : Begun) (synced : List (List ℕ)) (some more all : List ℕ) (s : S) → all ≡ some ++ more
      → LeavesFronts calls begun synced (ended_lines some) s → LeavesFronts calls begun synced (ended_lines all) s
  fronts_ended begun synced some more all s e f =
      let later = ended_first some more in
      subst (λ ls. LeavesFronts calls begun synced ls s) (sym (ap ended_lines e ∙ later.1))
      (fronts_later calls begun synced (ended_lines some) later.0 s f)

  pub line_failed : (old now : Keeper S) (bytes rest piece after : List ℕ) (at : ℕ) (asks : Bool) (s : S)
      → Takes calls old now bytes rest asks → FeedsAt rest at → piece ≡ take at rest → after ≡ drop (at + 1) rest
      → ((begun : Begun) (synced before : List ℕ) → Holds calls begun synced before now → has_feed piece ≡ false
      → LeavesFronts calls begun (ended_lines synced) (ended_lines (before ++ (piece ++ 10 ∷ []))) s)
      → (begun : Begun) (before : List ℕ) → Holds calls begun before before old
      → LeavesFronts calls begun (ended_lines before) (ended_lines (before ++ bytes)) s
  line_failed old now bytes rest piece after at asks s t f p a fronts begun before h =
      let o = t.on begun before h in
      let line = piece ++ 10 ∷ [] in
      let parts = more_parts bytes o.taken line after rest o.parts (feed_parts rest piece after at f p a) in
      fronts_ended begun (ended_lines before) ((before ++ o.taken) ++ line) after (before ++ bytes) s
      (ap (λ xs. before ++ xs) parts ∙ sym (append_assoc before (o.taken ++ line) after)
      ∙ ap (λ xs. xs ++ after) (sym (append_assoc before o.taken line)))
      (fronts begun before (before ++ o.taken) o.holds (feed_none rest piece at f p))

  pub piece_failed : (old now : Keeper S) (bytes rest : List ℕ) (asks : Bool) → Takes calls old now bytes rest asks
      → (begun : Begun) (before : List ℕ) → Holds calls begun before before old
      → LeavesFronts calls begun (ended_lines before) (ended_lines (before ++ bytes)) now.journal.store
  piece_failed old now bytes rest asks t begun before h =
      let o = t.on begun before h in
      fronts_ended begun (ended_lines before) (before ++ o.taken) rest (before ++ bytes) now.journal.store
      (ap (λ xs. before ++ xs) o.parts ∙ sym (append_assoc before o.taken rest))
      (fronts_here calls begun (ended_lines before) (ended_lines (before ++ o.taken)) now.journal o.holds.appended)

  -- ---- where all of it was taken

  all_ended : (before bytes taken rest : List ℕ) → bytes ≡ taken ++ rest → has_feed rest ≡ false
      → ended_lines (before ++ taken) ≡ ended_lines (before ++ bytes)
  all_ended before bytes taken rest e none =
      sym (ap ended_lines (ap (λ xs. before ++ xs) e ∙ sym (append_assoc before taken rest))
      ∙ ended_behind (before ++ taken) rest none)

  pub all_taken : (old now new : Keeper S) (bytes rest : List ℕ) (asks : Bool) → Takes calls old now bytes rest asks
      → has_feed rest ≡ false → new.journal ≡ now.journal
      → ((front : List ℕ) → now.piece.items ≡ cut front → new.piece.items ≡ cut (front ++ rest)) → (begun : Begun)
      (before : List ℕ) → Holds calls begun before before old → Holds calls begun before (before ++ bytes) new
  all_taken old now new bytes rest asks t none same piece begun before h =
      let o = t.on begun before h in
      record {
        appended = subst (λ j. Appended calls begun (ended_lines before) (ended_lines (before ++ bytes)) j) (sym same)
            (subst (λ ls. Appended calls begun (ended_lines before) ls now.journal)
            (all_ended before bytes o.taken rest o.parts none) o.holds.appended);
        piece = piece (last_piece (before ++ o.taken)) o.holds.piece
            ∙ ap cut (sym (ap last_piece (ap (λ xs. before ++ xs) o.parts ∙ sym (append_assoc before o.taken rest))
            ∙ piece_behind (before ++ o.taken) rest none));
      }

  pub all_unchanged : (old now : Keeper S) (bytes rest : List ℕ) (asks : Bool) → Takes calls old now bytes rest asks
      → has_feed rest ≡ false → (begun : Begun) (before : List ℕ) → Holds calls begun before before old → asks ≡ false
      → changes_of (ended_lines (before ++ bytes)) ≡ changes_of (ended_lines before)
  all_unchanged old now bytes rest asks t none begun before h quiet =
      let o = t.on begun before h in
      ap changes_of (sym (all_ended before bytes o.taken rest o.parts none)) ∙ o.unchanged quiet

  -- ---- the last line

  pub last_none : (begun : Begun) (before : List ℕ) (keeper : Keeper S) → Holds calls begun before before keeper
      → length keeper.piece.items ≡ 0 → Appended calls begun (lines_of before) (lines_of before) keeper.journal
  last_none begun before keeper h none =
      let nothing : last_piece before ≡ [] =
      no_bytes (last_piece before) (cut_none (last_piece before) (ap length (sym h.piece) ∙ none)) in
      let same : ended_lines before ≡ lines_of before =
      sym (all_lines before ∙ ap (λ p. ended_lines before ++ line_of_piece p) nothing
      ∙ append-nil (ended_lines before)) in
      subst (λ ls. Appended calls begun ls ls keeper.journal) same h.appended

  -- where there is a piece, it is one line more
  pub last_some : (begun : Begun) (before : List ℕ) (keeper : Keeper S) → Holds calls begun before before keeper
      → 0 < length keeper.piece.items → lines_of before ≡ ended_lines before ++ last_piece before ∷ []
  last_some begun before keeper h some =
      all_lines before ∙ ap (λ ls. ended_lines before ++ ls)
      (one (last_piece before) (λ e. omega (
        arith,
        some,
        ap length h.piece,
        ap (λ p. length (cut p)) e,
        ap length cut_nothing,
      )))
    where
      one : (xs : List ℕ) → (xs ≡ [] → ⊥) → line_of_piece xs ≡ xs ∷ []
      one [] any = absurd (any refl)
      one (x ∷ xs) any = refl

  -- ---- what a read comes to

  pub took_last : (begun : Begun) (left : Option (List ℕ)) (handed bytes : List ℕ) (keeper : Keeper S) (met : Bool)
      → bytes ≡ [] → IsAtEnd left → met ≡ true
      → Appended calls begun (lines_of handed) (lines_of handed) keeper.journal
      → KeepsAhead calls begun left (handed ++ bytes) [] keeper met None
  took_last begun left handed bytes keeper met none end e a =
      subst (λ m. KeepsAhead calls begun left (handed ++ bytes) [] keeper m None) (sym e) (
        refl,
        end,
        subst (λ xs. Appended calls begun (lines_of xs) (lines_of xs) keeper.journal)
            (sym (ap (λ xs. handed ++ xs) none ∙ append-nil handed)) a,
      )

  pub took_more : (begun : Begun) (left : Option (List ℕ)) (handed bytes : List ℕ) (keeper : Keeper S) (met : Bool)
      → met ≡ false → Holds calls begun (handed ++ bytes) (handed ++ bytes) keeper
      → KeepsAhead calls begun left (handed ++ bytes) [] keeper met None
  took_more begun left handed bytes keeper met e h =
      subst (λ m. KeepsAhead calls begun left (handed ++ bytes) [] keeper m None) (sym e) (refl, h)

  pub failed_last : (begun : Begun) (left : Option (List ℕ)) (handed bytes : List ℕ) (keeper : Keeper S)
      (why : JournalFault) → bytes ≡ []
      → LeavesFronts calls begun (ended_lines handed) (lines_of handed) keeper.journal.store
      → KeepsAhead calls begun left handed bytes keeper false (Some why)
  failed_last begun left handed bytes keeper why none f = (
    true,
    subst (λ xs. LeavesFronts calls begun (ended_lines handed) (lines_of xs) keeper.journal.store)
        (sym (ap (λ xs. handed ++ xs) none ∙ append-nil handed)) f,
  )

  pub failed_more : (begun : Begun) (left : Option (List ℕ)) (handed bytes : List ℕ) (keeper : Keeper S)
      (why : JournalFault)
      → LeavesFronts calls begun (ended_lines handed) (ended_lines (handed ++ bytes)) keeper.journal.store
      → KeepsAhead calls begun left handed bytes keeper false (Some why)
  failed_more begun left handed bytes keeper why f = (false, f)

-- ---- lengths and tests

pub is_zero : (n m : ℕ) (b : Bool) → b ≡ (n == 0) → n ≡ m → b ≡ true → m ≡ 0
is_zero n m b e same is = grind (arith, nat_tests, e, same, is)

pub is_some : (n m : ℕ) (b : Bool) → b ≡ (n == 0) → n ≡ m → b ≡ false → 0 < m
is_some n m b e same is = grind (arith, nat_tests, e, same, is)

-- ---- results

pub by_result : {T P Q X : Type 0} {Y : JournalFault → Type 0} (r : Result T JournalFault) → OnOk r P → OnErr r Q
    → (P → X) → ((fault : JournalFault) → Q → Y fault) → MatchResult r (λ _. X) Y
by_result (Ok x) p q f e = f p
by_result (Err fault) p q f e = e fault q
