-- The stages of a run whose journal is written anew.
use Rattle.std.proofs.Common.{◌≡◌, ◌⊎◌, ℕ, ◌+◌, ◌-◌, ◌≤◌, ◌<◌, List, [], ◌∷◌, ◌++◌, length, take, Bool, true, false}
use Rattle.std.proofs.Common.{refl, sym, ap, ◌∙◌, subst, arith, append_assoc, append-nil, length-append, ⊎_elim}
use Rattle.std.proofs.Common.{inl, inr}
use Rattle.std.proofs.Common.{true≢false}
use Rattle.std.proofs.lemmas.List.{take-append-le}
use Rattle.std.proofs.lemmas.List.Elements.{filter-append}
use Rattle.std.proofs.Math.Seq.{take-append-add}
use Rattle.std.specs.Prelude.{Option, None, Some}
use Rattle.std.specs.Io.KnownBytes.{Consumes, Keeps, IsAtEnd}
use Rattle.clip_stream.specs.Lines.{ended_lines, lines_read}
use Rattle.clip_stream.specs.Steps.Reading.{cut}
use Rattle.clip_stream.proofs.Bytes.{consumes_none, consumes_more}
use Rattle.clip_journal.specs.Kept.{Kept, compacted, front, HasDigestOf}
use Rattle.clip_journal.specs.Stands.{IsFront, Stands}
use Rattle.clip_journal.specs.Stop.{Elapses, LeavesOnly}
use Rattle.clip_journal.specs.declared.journal.Journal.{Journal}
use Rattle.clip_journal.specs.declared.journal_fault.JournalFault.{JournalFault}
use Rattle.clip_journal.specs.declared.journal_fault.JournalFault.TheVariants as fault
use Rattle.clip_journal.specs.declared.store.StoreFault.TheVariants as stored
use Rattle.clip_journal.specs.declared.store.Store as store
use Rattle.clip_ahead.specs.Ahead.{Begun, synced_with, Appended, LeavesFronts}
use Rattle.clip_ahead.specs.Anew.{Rewriting, with_commands, written_anew}
use Rattle.clip_ahead.specs.Anew.{ComesOf, IsFrontAnew, LeavesKept, HasKept}
use Rattle.clip_ahead.specs.Changes.{asks_change, changes_of, with_changes}
use Rattle.clip_ahead.specs.Handing.{put_back, KeepsAhead, IsAhead, WasAhead}
use Rattle.clip_ahead.specs.Keeping.{Holds, TimeGoesOn}
use Rattle.clip_ahead.specs.Pieces.{last_piece}
use Rattle.clip_ahead.specs.Stages.{IsStage, IsAheadAnew}
use Rattle.clip_ahead.specs.declared.keeper.Keeper.{Keeper}
use Rattle.clip_ahead.proofs.Appending.{fronts_here, appended_moved}
use Rattle.clip_ahead.proofs.Handing.{put_none, ahead_unread, ahead_refused, ahead_failed, ahead_more}
use Rattle.clip_ahead.proofs.Pieces.{ended_join, piece_join, read_join, piece_ends_none, piece_of_piece, piece_parts}
use Rattle.clip_ahead.proofs.Times.{time_call}

-- ---- what is left of known bytes

front_given : (old new : Option (List ℕ)) (all front piece : List ℕ) → all ≡ front ++ piece → Consumes old new all
    → Consumes old (put_back piece new) front
front_given None new all front piece e c = tt
front_given (Some xs) None all front piece e c = absurd c
front_given (Some xs) (Some ys) all front piece e c =
    c ∙ ap (λ zs. zs ++ ys) e ∙ append_assoc front piece ys

piece_given : (left : Option (List ℕ)) (piece : List ℕ) → Consumes (put_back piece left) left piece
piece_given None piece = tt
piece_given (Some xs) piece = refl

none_held : (old left : Option (List ℕ)) (held handed : List ℕ) → held ≡ [] → Consumes old (put_back held left) handed
    → Consumes old left handed
none_held old left held handed none c =
    subst (λ l. Consumes old l handed) (ap (λ xs. put_back xs left) none ∙ put_none left) c

module _ {S : Type 0} (StandFor : List (List ℕ) → List (List ℕ) → Type 0) (calls : store.Ghosts S) where
  -- ---- fronts

  pub front_anew_more : (kept : Kept) (changes more : List (List ℕ)) (safe less : ℕ) (left : List ℕ) → less ≤ safe
      → IsFrontAnew StandFor kept changes safe left → IsFrontAnew StandFor kept (changes ++ more) less left
  front_anew_more kept changes more safe less left le f = record {
    many = f.many;
    least = omega (arith, le, f.least);
    most = omega (arith, f.most, length-append changes more);
    now = f.now;
    comes = subst (λ cs. ComesOf StandFor kept cs f.now) (sym (take-append-le f.many changes more f.most)) f.comes;
    torn = f.torn;
    reads = f.reads;
  }

  front_of_stage : (begun stage : Begun) (past : List ℕ) (s : S) → IsStage StandFor calls begun stage past s
      → (lines : List (List ℕ)) (safe n : ℕ) (left : List ℕ) → length stage.kept.since + n ≤ safe
      → IsFront (with_changes stage.kept lines) safe left
      → IsFrontAnew StandFor begun.kept (changes_of (ended_lines past ++ lines))
      (length (changes_of (ended_lines past)) + n) left
  front_of_stage begun stage past s st lines safe n left le f =
      let since = stage.kept.since in
      let first = changes_of (ended_lines past) in
      let own = changes_of lines in
      let k = f.many - length since in
      let all : changes_of (ended_lines past ++ lines) ≡ first ++ own =
      filter-append asks_change (ended_lines past) lines in
      let many : f.many ≡ length since + k = omega (arith, le, f.least) in
      record {
        many = length first + k;
        least = omega (arith, le, f.least);
        most = omega (arith, f.most, length-append since own, ap length all, length-append first own);
        now = front f.many (with_changes stage.kept lines);
        comes = record {
          rewritings = st.rewritings;
          are = st.are;
          more = take k own;
          changes_are = ap (take (length first + k)) all ∙ take-append-add first own k
              ∙ ap (λ xs. xs ++ take k own) (sym st.changes);
          now_is = ap (λ (xs : List (List ℕ)). record stage.kept { since = xs })
              (ap (λ m. take m (since ++ own)) many ∙ take-append-add since own k)
              ∙ ap (λ (kept : Kept). with_commands kept (take k own)) st.kept;
        };
        torn = f.torn;
        reads = f.reads;
      }

  pub fronts_of_stage : (begun stage : Begun) (past : List ℕ) (s : S) → IsStage StandFor calls begun stage past s
      → (synced lines : List (List ℕ)) → LeavesFronts calls stage synced lines s
      → LeavesKept StandFor calls begun (ended_lines past ++ synced) (ended_lines past ++ lines) s
  fronts_of_stage begun stage past s st synced lines f =
      let first = changes_of (ended_lines past) in
      let all : changes_of (ended_lines past ++ lines) ≡ first ++ changes_of lines =
      filter-append asks_change (ended_lines past) lines in
      let sure = filter-append asks_change (ended_lines past) synced in
      record {
        stop = λ left l.
            let n = length (changes_of synced) in
            let found = front_of_stage begun stage past s st lines (synced_with stage synced) n left
            (omega (arith, length-append stage.kept.since (changes_of synced))) (f.stop left l) in
            subst (λ m. IsFrontAnew StandFor begun.kept (changes_of (ended_lines past ++ lines)) m left)
            (sym (ap length sure ∙ length-append first (changes_of synced))) found;
        later = omega (arith, st.later, f.later);
        since = λ left l. ⊎_elim
            (λ here.
            let found = front_of_stage begun stage past s st lines (length stage.kept.since) 0 left (omega arith)
            (f.since left here) in
            subst (λ cs. IsFrontAnew StandFor begun.kept cs 0 left)
            (append-nil (changes_of (ended_lines past ++ lines)))
            (front_anew_more begun.kept (changes_of (ended_lines past ++ lines)) []
            (length (changes_of (ended_lines past)) + 0) 0 left (omega arith) found))
            (λ before. subst (λ cs. IsFrontAnew StandFor begun.kept cs 0 left) (sym all)
            (front_anew_more begun.kept first (changes_of lines) 0 0 left (omega arith) before)) (st.since left l);
      }

  -- ---- stages

  pub first_stage : (begun : Begun) (s : S) → IsStage StandFor calls begun begun [] s
  first_stage begun s = record {
    rewritings = [];
    are = tt;
    kept = refl;
    changes = refl;
    whole = refl;
    given = consumes_none begun.left;
    later = omega arith;
    faults = omega arith;
    since = λ left l. inl l;
  }

  -- the store went on
  pub stage_on : (begun stage : Begun) (past : List ℕ) (old new : S) → stage.moment ≤ calls.moment old
      → TimeGoesOn calls old new → IsStage StandFor calls begun stage past old
      → IsStage StandFor calls begun stage past new
  stage_on begun stage past old new le time st = record {
    rewritings = st.rewritings;
    are = st.are;
    kept = st.kept;
    changes = st.changes;
    whole = st.whole;
    given = st.given;
    later = st.later;
    faults = st.faults;
    since = λ left l. ⊎_elim
        (λ before. ⊎_elim (λ here. inl (time.keeps stage.moment left le here)) (λ past_left. inr past_left)
        (st.since left before)) (λ here. inl here)
        (time.nothing_else begun.moment stage.moment left (omega (arith, st.later, le)) le l);
  }

  abbrev anew_of : Begun → List ℕ → Kept → List (List ℕ) → Rewriting
  anew_of stage handed read lines =
      record { changes = changes_of (ended_lines handed); read = read; lines = lines }

  -- the stage that begins where the journal is written anew
  abbrev stage_of : Begun → List ℕ → Kept → List (List ℕ) → Option (List ℕ) → S → Begun
  stage_of stage handed read lines left s = record {
    kept = written_anew stage.kept (anew_of stage handed read lines);
    moment = calls.moment s;
    faults = calls.faults s;
    left = put_back (last_piece handed) left;
  }

  stage_anew : (begun stage : Begun) (past handed : List ℕ) (left : Option (List ℕ)) (journal : Journal S) (new : S)
      (read : Kept) (lines : List (List ℕ)) → IsStage StandFor calls begun stage past journal.store
      → Appended calls stage (ended_lines handed) (ended_lines handed) journal → Consumes stage.left left handed
      → HasDigestOf read (with_changes stage.kept (ended_lines handed)) → StandFor (read.live ++ read.since) lines
      → Elapses (calls.moment journal.store) (calls.moment new) (calls.left_since journal.store)
      (calls.left_since new) (calls.may_leave new)
      → ((t : ℕ) (left : List ℕ) → t ≤ calls.moment new → calls.may_leave new left → calls.left_since new t left)
      → calls.faults journal.store ≤ calls.faults new → stage.faults ≤ calls.faults journal.store
      → IsStage StandFor calls begun (stage_of stage handed read lines left new)
      (past ++ (piece_parts handed).front) new
  stage_anew begun stage past handed left journal new read lines st a given digest stand time counts faults more =
      let r = anew_of stage handed read lines in
      let parts = piece_parts handed in
      let joined : ended_lines (past ++ parts.front) ≡ ended_lines past ++ ended_lines handed =
      ended_join past parts.front st.whole ∙ ap (λ ls. ended_lines past ++ ls) parts.ended in
      record {
        rewritings = r ∷ st.rewritings;
        are = (
          st.are,
          subst (λ (kept : Kept). HasDigestOf read (with_commands kept r.changes)) st.kept digest,
          stand,
        );
        kept = ap (λ (kept : Kept). written_anew kept r) st.kept;
        changes = ap (λ cs. cs ++ r.changes) st.changes
            ∙ sym (ap changes_of joined ∙ filter-append asks_change (ended_lines past) (ended_lines handed));
        whole = piece_join past parts.front st.whole ∙ parts.whole;
        given = consumes_more begun.left stage.left (put_back (last_piece handed) left) past parts.front st.given
            (front_given stage.left left handed parts.front (last_piece handed) parts.parts given);
        later = omega (arith, st.later, a.later, time.later);
        faults = omega (arith, st.faults, faults, more);
        since = λ l here. ⊎_elim
            (λ before. inr (subst (λ ls. IsFrontAnew StandFor begun.kept (changes_of ls) 0 l) (sym joined)
            ((fronts_of_stage begun stage past journal.store st (ended_lines handed) (ended_lines handed)
            (fronts_here calls stage (ended_lines handed) (ended_lines handed) journal a)).since l before)))
            (λ may. inl (counts (calls.moment new) l (omega arith) may))
            (time.nothing_else begun.moment l (omega (arith, st.later, a.later)) here);
      }

  -- ---- the reader

  pub anew_goes_on : (begun : Begun) (left : Option (List ℕ)) (held : List ℕ) (keeper : Keeper S) (met_end : Bool)
      (failed : Option JournalFault) → IsAheadAnew StandFor calls begun left held keeper met_end failed
      → met_end ≡ false → failed ≡ None → IsAheadAnew StandFor calls begun left held keeper false None
  anew_goes_on begun left held keeper met_end failed a unended well =
      subst (λ m. IsAheadAnew StandFor calls begun left held keeper m None) unended
      (subst (λ f. IsAheadAnew StandFor calls begun left held keeper met_end f) well a)

  -- it failed in this stage
  failed_in_stage : (begun stage : Begun) (past : List ℕ) (left : Option (List ℕ)) (held : List ℕ) (keeper : Keeper S)
      (why : JournalFault) → IsStage StandFor calls begun stage past keeper.journal.store
      → IsAhead calls stage left held keeper false (Some why)
      → IsAheadAnew StandFor calls begun left held keeper false (Some why)
  failed_in_stage begun stage past left held keeper why st a =
      let at_end = a.keeps.0 in
      let synced = sym (ended_join past a.handed st.whole) in
      let lines = sym (ap (lines_read at_end) (append_assoc past a.handed held)
      ∙ read_join at_end past (a.handed ++ held) st.whole) in (
        refl,
        record {
          handed = past ++ a.handed;
          given = consumes_more begun.left stage.left (put_back held left) past a.handed st.given a.given;
          at_end = at_end;
          fronts = subst (λ ls. LeavesKept StandFor calls begun ls
              (lines_read at_end ((past ++ a.handed) ++ held)) keeper.journal.store) synced
              (subst (λ ls. LeavesKept StandFor calls begun (ended_lines past ++ ended_lines a.handed) ls
              keeper.journal.store) lines
              (fronts_of_stage begun stage past keeper.journal.store st (ended_lines a.handed)
              (lines_read at_end (a.handed ++ held)) a.keeps.1));
          cause = λ e. omega (arith, st.faults, a.cause (ap Some e));
        },
      )

  -- a read gave nothing
  pub anew_unread : (begun : Begun) (left new : Option (List ℕ)) (held now : List ℕ) (keeper : Keeper S)
      → IsAheadAnew StandFor calls begun left held keeper false None → Keeps left new → now ≡ []
      → IsAheadAnew StandFor calls begun new now keeper false None
  anew_unread begun left new held now keeper a kept none =
      (a.0, a.1, a.2, ahead_unread calls a.0 left new held now keeper a.3 kept none)

  -- or there was no memory for it
  pub anew_refused : (begun : Begun) (left new : Option (List ℕ)) (held now : List ℕ) (keeper : Keeper S)
      → IsAheadAnew StandFor calls begun left held keeper false None → Keeps left new → now ≡ []
      → IsAheadAnew StandFor calls begun new now keeper false (Some fault.NoMemory)
  anew_refused begun left new held now keeper a kept none =
      failed_in_stage begun a.0 a.1 new now keeper fault.NoMemory a.2
      (ahead_refused calls a.0 left new held now keeper a.3 kept none)

  -- what it gave could not be kept
  pub anew_failed : (begun : Begun) (left new : Option (List ℕ)) (held bytes : List ℕ) (old keeper : Keeper S)
      (why : JournalFault) → IsAheadAnew StandFor calls begun left held old false None → Consumes left new bytes
      → ((stage : Begun) (handed : List ℕ) → Holds calls stage handed handed old
      → KeepsAhead calls stage new handed bytes keeper false (Some why))
      → TimeGoesOn calls old.journal.store keeper.journal.store
      → calls.faults old.journal.store ≤ calls.faults keeper.journal.store
      → (why ≡ fault.Store stored.Failed → calls.faults old.journal.store < calls.faults keeper.journal.store)
      → IsAheadAnew StandFor calls begun new bytes keeper false (Some why)
  anew_failed begun left new held bytes old keeper why a consumed keeps time faults cause =
      failed_in_stage begun a.0 a.1 new bytes keeper why
      (stage_on begun a.0 a.1 old.journal.store keeper.journal.store a.3.keeps.1.appended.later time a.2)
      (ahead_failed calls a.0 left new held bytes old keeper why a.3 consumed (keeps a.0 a.3.handed a.3.keeps.1) faults
      cause)

  -- it was kept
  pub anew_more : (begun : Begun) (left new : Option (List ℕ)) (held bytes now : List ℕ) (old keeper : Keeper S)
      (met_end : Bool) → IsAheadAnew StandFor calls begun left held old false None → Consumes left new bytes
      → ((stage : Begun) (handed : List ℕ) → Holds calls stage handed handed old
      → KeepsAhead calls stage new (handed ++ bytes) [] keeper met_end None)
      → TimeGoesOn calls old.journal.store keeper.journal.store
      → calls.faults old.journal.store ≤ calls.faults keeper.journal.store → now ≡ []
      → IsAheadAnew StandFor calls begun new now keeper met_end None
  anew_more begun left new held bytes now old keeper met_end a consumed keeps time faults none =
      let kept = keeps a.0 a.3.handed a.3.keeps.1 in (
        a.0,
        a.1,
        stage_on begun a.0 a.1 old.journal.store keeper.journal.store a.3.keeps.1.appended.later time a.2,
        ahead_more calls a.0 left new held bytes now old keeper met_end a.3 consumed kept faults none,
      )

  -- ---- the journal was to be written anew

  held_again : (begun : Begun) (left : Option (List ℕ)) (held : List ℕ) (old new : Keeper S)
      → (a : IsAhead calls begun left held old false None)
      → calls.faults old.journal.store ≤ calls.faults new.journal.store
      → Appended calls begun (ended_lines a.handed) (ended_lines a.handed) new.journal
      → new.piece.items ≡ old.piece.items → IsAhead calls begun left held new false None
  held_again begun left held old new a faults appended piece = record {
    handed = a.handed;
    given = a.given;
    keeps = (a.keeps.0, record { appended = appended; piece = piece ∙ a.keeps.1.piece });
    faults = omega (arith, a.faults, faults);
    cause = λ e. cc;
  }

  -- it goes on as it was
  pub anew_undone : (begun : Begun) (left : Option (List ℕ)) (held : List ℕ) (old new : Keeper S)
      → IsAheadAnew StandFor calls begun left held old false None
      → ((kept : Kept) (safe : ℕ) → Stands calls.seen calls.may_leave old.journal kept safe
      → Stands calls.seen calls.may_leave new.journal kept safe)
      → Elapses (calls.moment old.journal.store) (calls.moment new.journal.store)
      (calls.left_since old.journal.store) (calls.left_since new.journal.store) (calls.may_leave new.journal.store)
      → ((t : ℕ) (left : List ℕ) → t ≤ calls.moment new.journal.store → calls.may_leave new.journal.store left
      → calls.left_since new.journal.store t left)
      → calls.faults old.journal.store ≤ calls.faults new.journal.store → new.piece.items ≡ old.piece.items
      → IsAheadAnew StandFor calls begun left held new false None
  anew_undone begun left held old new a stands time counts faults piece =
      let ended = ended_lines a.3.handed in
      let before = a.3.keeps.1.appended in (
        a.0,
        a.1,
        stage_on begun a.0 a.1 old.journal.store new.journal.store before.later
            (time_call calls old.journal.store new.journal.store time counts) a.2,
        held_again a.0 left held old new a.3 faults
            (appended_moved calls a.0 ended ended ended ended old.journal new.journal before (λ n l f. f)
            (stands (with_changes a.0.kept ended) (synced_with a.0 ended) before.stands) time) piece,
      )

  -- nothing was done
  pub anew_same : (begun : Begun) (left : Option (List ℕ)) (held : List ℕ) (old new : Keeper S)
      → IsAheadAnew StandFor calls begun left held old false None → new.journal ≡ old.journal
      → new.piece.items ≡ old.piece.items → IsAheadAnew StandFor calls begun left held new false None
  anew_same begun left held old new a journal piece =
      let ended = ended_lines a.3.handed in
      let appended : Appended calls a.0 ended ended new.journal =
      subst (λ j. Appended calls a.0 ended ended j) (sym journal) a.3.keeps.1.appended in
      let faults : calls.faults old.journal.store ≤ calls.faults new.journal.store =
      subst (λ j. calls.faults old.journal.store ≤ calls.faults j.store) (sym journal) (omega arith) in (
        a.0,
        a.1,
        subst (λ j. IsStage StandFor calls begun a.0 a.1 j.store) (sym journal) a.2,
        held_again a.0 left held old new a.3 faults appended piece,
      )

  -- it was written anew
  pub anew_done : (begun : Begun) (left : Option (List ℕ)) (held : List ℕ) (old new : Keeper S)
      (lines : List (List ℕ)) → IsAheadAnew StandFor calls begun left held old false None
      → ((kept : Kept) (safe : ℕ) → Stands calls.seen calls.may_leave old.journal kept safe
      → (read : Kept) × HasDigestOf read kept × StandFor (read.live ++ read.since) lines)
      → Stands calls.seen calls.may_leave new.journal (compacted old.journal.accepted lines) 0
      → Elapses (calls.moment old.journal.store) (calls.moment new.journal.store)
      (calls.left_since old.journal.store) (calls.left_since new.journal.store) (calls.may_leave new.journal.store)
      → ((t : ℕ) (left : List ℕ) → t ≤ calls.moment new.journal.store → calls.may_leave new.journal.store left
      → calls.left_since new.journal.store t left)
      → ((left : List ℕ) → calls.left_since new.journal.store (calls.moment new.journal.store) left
      → calls.may_leave new.journal.store left)
      → calls.faults old.journal.store ≤ calls.faults new.journal.store → new.piece.items ≡ old.piece.items
      → IsAheadAnew StandFor calls begun left held new false None
  anew_done begun left held old new lines a shorter stands time counts only_now faults piece =
      let stage = a.0 in
      let handed = a.3.handed in
      let before = a.3.keeps.1.appended in
      let found = shorter (with_changes stage.kept (ended_lines handed)) (synced_with stage (ended_lines handed))
      before.stands in
      let given = none_held stage.left left held handed a.3.keeps.0 a.3.given in
      let next = stage_of stage handed found.0 lines left new.journal.store in
      let none = piece_ends_none handed in
      let here : Stands calls.seen calls.may_leave new.journal next.kept 0 =
      subst (λ n. Stands calls.seen calls.may_leave new.journal (compacted n lines) 0) before.stands.accepted stands in
      let fresh : Appended calls next [] [] new.journal =
      record {
        stands = here;
        later = omega arith;
        since = λ l since. here.stop l (only_now l since);
      } in (
        next,
        a.1 ++ (piece_parts handed).front,
        stage_anew begun stage a.1 handed left old.journal new.journal.store found.0 lines a.2 before given found.1
            found.2 time counts faults a.3.faults,
        record {
          handed = last_piece handed;
          given = subst (λ l. Consumes next.left l (last_piece handed))
              (sym (ap (λ xs. put_back xs left) a.3.keeps.0 ∙ put_none left)) (piece_given left (last_piece handed));
          keeps = (
            a.3.keeps.0,
            record {
              appended = subst (λ ls. Appended calls next ls ls new.journal) (sym none) fresh;
              piece = piece ∙ a.3.keeps.1.piece ∙ ap cut (sym (piece_of_piece handed));
            },
          );
          faults = omega arith;
          cause = λ e. cc;
        },
      )

  -- the store failed
  pub anew_broken : (begun : Begun) (left : Option (List ℕ)) (held : List ℕ) (old new : Keeper S)
      (lines : List (List ℕ)) (why : JournalFault) → IsAheadAnew StandFor calls begun left held old false None
      → ((kept : Kept) (safe : ℕ) → Stands calls.seen calls.may_leave old.journal kept safe
      → (read : Kept) × HasDigestOf read kept × StandFor (read.live ++ read.since) lines)
      → ((kept : Kept) (safe : ℕ) → Stands calls.seen calls.may_leave old.journal kept safe
      → LeavesOnly calls.moment calls.left_since old.journal.store new.journal.store (λ left.
      IsFront kept safe left ⊎ IsFront (compacted old.journal.accepted lines) 0 left))
      → Elapses (calls.moment old.journal.store) (calls.moment new.journal.store)
      (calls.left_since old.journal.store) (calls.left_since new.journal.store) (calls.may_leave new.journal.store)
      → ((t : ℕ) (left : List ℕ) → t ≤ calls.moment new.journal.store → calls.may_leave new.journal.store left
      → calls.left_since new.journal.store t left)
      → calls.faults old.journal.store < calls.faults new.journal.store
      → IsAheadAnew StandFor calls begun left held new false (Some why)
  anew_broken begun left held old new lines why a shorter only time counts faults =
      let stage = a.0 in
      let handed = a.3.handed in
      let before = a.3.keeps.1.appended in
      let kept = with_changes stage.kept (ended_lines handed) in
      let safe = synced_with stage (ended_lines handed) in
      let found = shorter kept safe before.stands in
      let given = none_held stage.left left held handed a.3.keeps.0 a.3.given in
      let next = stage_of stage handed found.0 lines left new.journal.store in
      let parts = piece_parts handed in
      let past = a.1 ++ parts.front in
      let st = stage_anew begun stage a.1 handed left old.journal new.journal.store found.0 lines a.2 before given
      found.1 found.2 time counts (omega (arith, faults)) a.3.faults in
      let joined : ended_lines past ≡ ended_lines a.1 ++ ended_lines handed =
      ended_join a.1 parts.front a.2.whole ∙ ap (λ ls. ended_lines a.1 ++ ls) parts.ended in
      let all : ended_lines (a.1 ++ handed) ≡ ended_lines a.1 ++ ended_lines handed =
      ended_join a.1 handed a.2.whole in
      let there = fronts_of_stage begun stage a.1 old.journal.store a.2 (ended_lines handed) (ended_lines handed)
      (fronts_here calls stage (ended_lines handed) (ended_lines handed) old.journal before) in
      let Fits = λ (n : ℕ) (l : List ℕ). IsFrontAnew StandFor begun.kept
      (changes_of (ended_lines a.1 ++ ended_lines handed)) n l in
      let stop : (l : List ℕ) → calls.may_leave new.journal.store l
      → Fits (length (changes_of (ended_lines a.1 ++ ended_lines handed))) l =
      λ l may. ⊎_elim (λ f. old_front begun stage a.1 old.journal.store a.2 (ended_lines handed) l f)
      (λ f. new_front begun next past new.journal.store st (ended_lines a.1 ++ ended_lines handed) joined refl l
      (subst (λ n. IsFront (compacted n lines) 0 l) before.stands.accepted f))
      ((only kept safe before.stands).each l (counts (calls.moment old.journal.store) l time.later may)) in (
        refl,
        record {
          handed = a.1 ++ handed;
          given = subst (λ l. Consumes begun.left l (a.1 ++ handed))
              (sym (ap (λ xs. put_back xs left) a.3.keeps.0 ∙ put_none left))
              (consumes_more begun.left stage.left left a.1 handed a.2.given given);
          at_end = false;
          fronts = subst (λ xs. LeavesKept StandFor calls begun (ended_lines (a.1 ++ handed)) (ended_lines xs)
              new.journal.store) (sym (ap (λ xs. (a.1 ++ handed) ++ xs) a.3.keeps.0 ∙ append-nil (a.1 ++ handed)))
              (subst (λ ls. LeavesKept StandFor calls begun ls ls new.journal.store) (sym all) (record {
                stop = stop;
                later = omega (arith, there.later, time.later);
                since = λ l since. ⊎_elim (λ was. there.since l was)
                    (λ may. less begun.kept (changes_of (ended_lines a.1 ++ ended_lines handed)) l (stop l may))
                    (time.nothing_else begun.moment l there.later since);
              }));
          cause = λ e. omega (arith, a.2.faults, a.3.faults, faults);
        },
      )
    where
      less : (kept : Kept) (changes : List (List ℕ)) (l : List ℕ) → IsFrontAnew StandFor kept changes (length changes) l
          → IsFrontAnew StandFor kept changes 0 l
      less kept changes l f =
          subst (λ cs. IsFrontAnew StandFor kept cs 0 l) (append-nil changes)
          (front_anew_more kept changes [] (length changes) 0 l (omega arith) f)

      old_front : (begun stage : Begun) (past : List ℕ) (s : S) → IsStage StandFor calls begun stage past s
          → (lines : List (List ℕ)) (l : List ℕ) → IsFront (with_changes stage.kept lines) (synced_with stage lines) l
          → IsFrontAnew StandFor begun.kept (changes_of (ended_lines past ++ lines))
          (length (changes_of (ended_lines past ++ lines))) l
      old_front begun stage past s st lines l f =
          subst (λ m. IsFrontAnew StandFor begun.kept (changes_of (ended_lines past ++ lines)) m l)
          (sym (ap length (filter-append asks_change (ended_lines past) lines)
          ∙ length-append (changes_of (ended_lines past)) (changes_of lines)))
          (front_of_stage begun stage past s st lines (synced_with stage lines) (length (changes_of lines)) l
          (omega (arith, length-append stage.kept.since (changes_of lines))) f)

      new_front : (begun next : Begun) (past : List ℕ) (s : S) → IsStage StandFor calls begun next past s
          → (lines : List (List ℕ)) → ended_lines past ≡ lines → next.kept.since ≡ [] → (l : List ℕ)
          → IsFront next.kept 0 l
          → IsFrontAnew StandFor begun.kept (changes_of lines) (length (changes_of lines)) l
      new_front begun next past s st lines joined none l f =
          let first = changes_of (ended_lines past) in
          let some : length first + 0 ≡ length first = omega arith in
          let found = front_of_stage begun next past s st [] 0 0 l (omega (arith, ap length none))
          (subst (λ (cs : List (List ℕ)). IsFront (record next.kept { since = cs }) 0 l)
          (sym (append-nil next.kept.since)) f) in
          subst (λ ls. IsFrontAnew StandFor begun.kept (changes_of ls) (length (changes_of ls)) l) joined
          (subst (λ ls. IsFrontAnew StandFor begun.kept (changes_of ls) (length first) l)
          (append-nil (ended_lines past))
          (subst (λ m. IsFrontAnew StandFor begun.kept (changes_of (ended_lines past ++ [])) m l) some found))

  -- ---- at the end of all

  kept_in_stage : (begun stage : Begun) (past : List ℕ) (lines : List (List ℕ)) (journal : Journal S)
      → IsStage StandFor calls begun stage past journal.store → Appended calls stage lines lines journal
      → HasKept StandFor calls begun (ended_lines past ++ lines) journal
  kept_in_stage begun stage past lines journal st a =
      let here = fronts_here calls stage lines lines journal a in
      record {
        now = with_changes stage.kept lines;
        comes = record {
          rewritings = st.rewritings;
          are = st.are;
          more = changes_of lines;
          changes_are = filter-append asks_change (ended_lines past) lines
              ∙ ap (λ cs. cs ++ changes_of lines) (sym st.changes);
          now_is = ap (λ (kept : Kept). with_commands kept (changes_of lines)) st.kept;
        };
        stands = a.stands;
        fronts = fronts_of_stage begun stage past journal.store st lines lines here;
      }

  well_ahead : (begun stage : Begun) (past : List ℕ) (left : Option (List ℕ)) (held handed : List ℕ)
      (keeper : Keeper S) (met_end : Bool) → IsStage StandFor calls begun stage past keeper.journal.store
      → Consumes stage.left (put_back held left) handed → held ≡ [] → (met_end ≡ true → IsAtEnd left)
      → Appended calls stage (lines_read met_end handed) (lines_read met_end handed) keeper.journal
      → WasAhead StandFor calls begun left held met_end None keeper.journal
  well_ahead begun stage past left held handed keeper met_end st given none ended a =
      let has : HasKept StandFor calls begun (lines_read met_end (past ++ handed)) keeper.journal =
      subst (λ ls. HasKept StandFor calls begun ls keeper.journal) (sym (read_join met_end past handed st.whole))
      (kept_in_stage begun stage past (lines_read met_end handed) keeper.journal st a) in
      record {
        handed = past ++ handed;
        given = consumes_more begun.left stage.left (put_back held left) past handed st.given given;
        well = λ _. (none, has);
        ended = λ e. (none, ended e);
        at_end = met_end;
        fronts = subst (λ xs. LeavesKept StandFor calls begun (lines_read met_end (past ++ handed))
            (lines_read met_end xs) keeper.journal.store)
            (sym (ap (λ xs. (past ++ handed) ++ xs) none ∙ append-nil (past ++ handed))) has.fronts;
        cause = λ e. cc;
      }

  pub was_ahead_anew : (begun : Begun) (left : Option (List ℕ)) (held : List ℕ) (keeper : Keeper S) (met_end : Bool)
      (failed : Option JournalFault) → IsAheadAnew StandFor calls begun left held keeper met_end failed
      → WasAhead StandFor calls begun left held met_end failed keeper.journal
  was_ahead_anew begun left held keeper true None a =
      well_ahead begun a.0 a.1 left held a.3.handed keeper true a.2 a.3.given a.3.keeps.0 (λ _. a.3.keeps.1) a.3.keeps.2
  was_ahead_anew begun left held keeper false None a =
      well_ahead begun a.0 a.1 left held a.3.handed keeper false a.2 a.3.given a.3.keeps.0 (λ e. cc)
      a.3.keeps.1.appended
  was_ahead_anew begun left held keeper met_end (Some why) a =
      let f = a.1 in
      let met : met_end ≡ false = a.0 in
      record {
        handed = f.handed;
        given = f.given;
        well = λ e. cc;
        ended = λ e. absurd (true≢false (sym e ∙ met));
        at_end = f.at_end;
        fronts = subst (λ m. LeavesKept StandFor calls begun (lines_read m f.handed)
            (lines_read f.at_end (f.handed ++ held)) keeper.journal.store) (sym met) f.fronts;
        cause = λ e. f.cause (some_is e);
      }
    where
      some_is : {x y : JournalFault} → Some x ≡ Some y → x ≡ y
      some_is e = cc
