-- How far a server has come.
use Rattle.std.proofs.Common.{◌≡◌, ℕ, suc, ◌+◌, ◌<◌, ◌≤◌, List, [], ◌∷◌, ◌++◌, length, Bool, true, false, Option}
use Rattle.std.proofs.Common.{refl, sym, ap, ap₂, ◌∙◌, subst, arith, append_assoc, append-nil}
use Rattle.std.proofs.Common.{length-append, true≢false, inl, inr, ◌⊎◌, ◌==◌, ◌||◌}
use Rattle.std.specs.Prelude.{Result, Ok, Err, OnOk, OnErr}
use Rattle.std.specs.Io.KnownBytes.{Appends, Consumes, IsAtEnd}
use Rattle.clip_stream.specs.Device.{AppendsFront, HandsOver}
use Rattle.clip_stream.specs.Lines.{lines_of, lines_read, OfInput, OfLinesRead}
use Rattle.clip_stream.specs.Steps.Reading.{Reading, Reads, FindsLine, FindsNone, first_line, has_feed, cut, fuel}
use Rattle.clip_stream.specs.declared.limits.TheConstants.{MOST_READS}
use Rattle.clip_stream.proofs.Bytes.{consumes_none, consumes_more}
use Rattle.clip_stream.proofs.Flows.{appends_on, appends_none, front_on}
use Rattle.clip_stream.proofs.Fuel.{fuel_new}
use Rattle.clip_stream.proofs.LinesRead.{lines_read-first, ended_lines-no_feed, of_input}
use Rattle.clip_front.specs.Devices.{Devices, AreFresh}
use Rattle.clip_front.specs.Steps.Serving.{Answering, Breaking, AnswersInto, BreaksInto, Serves, StopsAt, ServesAll}
use Rattle.clip_front.specs.Steps.Serving.{ServesFront, ServesLines}

-- ---- the path

-- one line more
serves_more : {S : Type 0} (answers : Answering S) (s t u : S) (k n : ℕ) (front : List (List ℕ))
    (line text bytes : List ℕ) → Serves answers s t k front text → n ≡ k + length front
    → answers t u n (cut line) bytes → Serves answers s u k (front ++ line ∷ []) (text ++ bytes)
serves_more answers s t u k n [] line text bytes p e a =
    let here : n ≡ k = omega (arith, e) in (
      u,
      bytes,
      [],
      subst (λ x. answers x u k (cut line) bytes) p.0
          (subst (λ j. answers t u j (cut line) bytes) here a),
      ap (λ x. x ++ bytes) p.1
          ∙ sym (append-nil bytes),
      (refl, refl),
    )
serves_more answers s t u k n (l ∷ front) line text bytes p e a = (
  p.0,
  p.1,
  p.2 ++ bytes,
  p.3,
  ap (λ x. x ++ bytes) p.4
      ∙ append_assoc p.1 p.2 bytes,
  serves_more answers p.0 t u (suc k) n front line p.2 bytes p.5 (omega (arith, e)) a,
)

stops_here : {S : Type 0} (breaks : Breaking S) (s : S) (n : ℕ) (later : List (List ℕ)) → StopsAt breaks s s n later []
stops_here breaks s n [] = (refl, refl)
stops_here breaks s n (line ∷ lines) = inl (refl, refl)

-- Of all that is given, however much more it is, these lines come first, and then those of what is pending and what
-- comes.
abbrev Splits : Reading → List ℕ → List (List ℕ) → Type 0
Splits reading bytes front =
    (met_end : Bool) (more : List ℕ) → (reading.is_at_end ≡ true → (met_end ≡ true) × (more ≡ []))
    → lines_read met_end (bytes ++ more) ≡ front ++ lines_read met_end (reading.pending ++ more)

-- After n lines, of the bytes that were given, some of their answers are sent and some gathered.
pub record Progress {S : Type 0} (answers : Answering S) (first now : S) (left_first left : Option (List ℕ))
    (reading : Reading) (taken_first taken : Option (List ℕ)) (gathered : List ℕ) (n : ℕ) : Type 0 where
  pub bytes : List ℕ
  pub given : Consumes left_first left bytes
  pub front : List (List ℕ)
  pub sent : List ℕ
  pub served : Serves answers first now 1 front (sent ++ gathered)
  pub written : Appends taken_first taken sent
  pub split : Splits reading bytes front
  pub counted : length front ≡ n

progress_first : {S : Type 0} (answers : Answering S) (first : S) (left : Option (List ℕ)) (reading : Reading)
    (taken : Option (List ℕ)) (gathered : List ℕ) → reading.pending ≡ [] → gathered ≡ []
    → Progress answers first first left left reading taken taken gathered 0
progress_first answers first left reading taken gathered nothing none = record {
  bytes = [];
  given = consumes_none left;
  front = [];
  sent = [];
  served = (refl, none);
  written = appends_none taken;
  split = λ met_end more last. sym (ap (λ xs. lines_read met_end (xs ++ more)) nothing);
  counted = refl;
}

-- answers were handed over
progress_handed : {S : Type 0} {answers : Answering S} {first now : S} {left_first left : Option (List ℕ)}
    {reading : Reading} {taken_first taken new_taken : Option (List ℕ)} {gathered held : List ℕ} {n : ℕ}
    → Progress answers first now left_first left reading taken_first taken gathered n
    → HandsOver taken gathered new_taken held
    → Progress answers first now left_first left reading taken_first new_taken held n
progress_handed {answers = answers} {first = first} {now = now} {taken_first = taken_first} {taken =
    taken} {new_taken = new_taken} {held = held} p h = record {
      bytes = p.bytes;
      given = p.given;
      front = p.front;
      sent = p.sent ++ h.moved;
      served = subst (Serves answers first now 1 p.front) (ap (λ g. p.sent ++ g) h.parts
          ∙ sym (append_assoc p.sent h.moved held)) p.served;
      written = appends_on taken_first taken new_taken p.sent h.moved p.written h.taken;
      split = p.split;
      counted = p.counted;
    }

-- a line was found
split_line : (reading new_reading : Reading) (left left_new : Option (List ℕ)) (line bytes : List ℕ)
    (front : List (List ℕ)) → Splits reading bytes front → (f : FindsLine true reading new_reading left left_new line)
    → (met_end : Bool) (more : List ℕ) → (new_reading.is_at_end ≡ true → (met_end ≡ true) × (more ≡ []))
    → lines_read met_end ((bytes ++ f.reads.bytes) ++ more) ≡ front ++ first_line (reading.pending ++ f.reads.bytes)
    ∷ lines_read met_end (new_reading.pending ++ more)
split_line reading new_reading left left_new line bytes front split f met_end more last =
    let given = f.reads.bytes in
    let all = reading.pending ++ given in
    ap (lines_read met_end) (append_assoc bytes given more)
    ∙ split met_end (given ++ more) (λ e. let i = f.reads.idle e in let l = last i.1 in
    (l.0, ap₂ (λ x y. x ++ y) i.0 l.1))
    ∙ ap (λ xs. front ++ lines_read met_end xs) (sym (append_assoc reading.pending given more))
    ∙ ap (λ ls. front ++ ls) (lines_read-first new_reading.is_at_end met_end all more f.takes.0 last)
    ∙ ap (λ xs. front ++ first_line all ∷ lines_read met_end (xs ++ more)) (sym f.takes.2)

-- it was answered
progress_line : {S : Type 0} {answers : Answering S} {first now next : S} {left_first left left_new : Option (List ℕ)}
    {reading new_reading : Reading} {line text : List ℕ} {taken_first taken : Option (List ℕ)} {gathered more : List ℕ}
    {n k : ℕ} → Progress answers first now left_first left reading taken_first taken gathered n
    → FindsLine true reading new_reading left left_new line → k ≡ n + 1 → answers now next k line text
    → more ≡ gathered ++ text → Progress answers first next left_first left_new new_reading taken_first taken more k
progress_line {answers = answers} {first = first} {now = now} {next = next} {left_first = left_first} {left =
    left} {left_new = left_new} {reading = reading} {new_reading = new_reading} {line = line} {text = text} {gathered =
    gathered} {more = more} {k = k} p f e answered grown =
    let found = first_line (reading.pending ++ f.reads.bytes) in
    record {
      bytes = p.bytes ++ f.reads.bytes;
      given = consumes_more left_first left left_new p.bytes f.reads.bytes p.given f.reads.given;
      front = p.front ++ found ∷ [];
      sent = p.sent;
      served =
          subst (Serves answers first next 1 (p.front ++ found ∷ [])) (append_assoc p.sent gathered text
          ∙ ap (λ g. p.sent ++ g) (sym grown))
          (serves_more answers first now next 1 k p.front found (p.sent ++ gathered) text p.served
          (omega (arith, e, p.counted)) (subst (λ l. answers now next k l text) f.takes.1 answered));
      written = p.written;
      split = λ met_end more last. split_line reading new_reading left left_new line p.bytes p.front p.split f met_end
          more last ∙ sym (append_assoc p.front (found ∷ []) _);
      counted = length-append p.front (found ∷ []) ∙ ap (λ j. j + 1) p.counted ∙ sym e;
    }

-- ---- the end

no_feed_in_front : (pending rest : List ℕ) → pending ++ rest ≡ [] → has_feed pending ≡ false
no_feed_in_front [] rest e = refl
no_feed_in_front (b ∷ pending) rest e = absurd (omega (arith, ap length e))

-- no line was left, so that all was handed over
progress_end : {S : Type 0} {answers : Answering S} {first now : S} {left_first left left_new : Option (List ℕ)}
    {reading new_reading : Reading} {line : List ℕ} {taken_first taken : Option (List ℕ)} {gathered : List ℕ} {n : ℕ}
    → Progress answers first now left_first left reading taken_first taken gathered n
    → FindsLine false reading new_reading left left_new line → IsAtEnd left_new
    → (has_feed reading.pending ≡ false → gathered ≡ [])
    → OfInput left_first (ServesAll answers first now taken_first taken n)
progress_end {answers = answers} {first = first} {now = now} {left_first = left_first} {left = left} {left_new =
    left_new} {reading = reading} {gathered = gathered} p f end held =
    let given = f.reads.bytes in
    let none : gathered ≡ [] = held (no_feed_in_front reading.pending given f.takes.0) in
    let lines : lines_of (p.bytes ++ given) ≡ p.front = p.split true given (λ e. (refl, (f.reads.idle e).0))
    ∙ ap (λ xs. p.front ++ lines_of xs) f.takes.0 ∙ append-nil p.front in
    let all : p.sent ++ gathered ≡ p.sent = ap (λ g. p.sent ++ g) none ∙ append-nil p.sent in
    of_input left_first left_new (p.bytes ++ given) _
    (consumes_more left_first left left_new p.bytes given p.given f.reads.given) end
    (record {
      text = p.sent;
      served = subst (λ ls. Serves answers first now 1 ls p.sent) (sym lines)
          (subst (Serves answers first now 1 p.front) all p.served);
      written = p.written;
      counted = sym (ap length lines ∙ p.counted);
    })

-- ---- a fault

pub feed_before : (pending given : List ℕ) → has_feed (pending ++ given) ≡ false → has_feed pending ≡ false
feed_before [] given e = refl
feed_before (b ∷ pending) given e = or_before (b == 10) _ _ e (feed_before pending given)
  where
    or_before : (t r s : Bool) → (t || s) ≡ false → (s ≡ false → r ≡ false) → (t || r) ≡ false
    or_before true r s h more = h
    or_before false r s h more = more h

-- no line stood read, so that all that were read are answered and all was handed over
progress_unfound : {S : Type 0} {answers : Answering S} {first now : S} {left_first left left_new : Option (List ℕ)}
    {reading new_reading : Reading} {met_end : Bool} {taken_first taken : Option (List ℕ)} {gathered : List ℕ} {n : ℕ}
    → Progress answers first now left_first left reading taken_first taken gathered n
    → FindsNone reading new_reading left left_new → met_end ≡ new_reading.is_at_end
    → (has_feed reading.pending ≡ false → gathered ≡ [])
    → OfLinesRead left_first left_new met_end (ServesLines answers first now taken_first taken)
progress_unfound {answers = answers} {first = first} {now = now} {left_first = left_first} {left = left} {left_new =
    left_new} {reading = reading} {met_end = met_end} {gathered = gathered} p f met held =
    let given = f.reads.bytes in
    let none : gathered ≡ [] = held (feed_before reading.pending given f.unended) in
    let unmet : met_end ≡ false = met ∙ f.unmet in
    let lines : lines_read met_end (p.bytes ++ given) ≡ p.front =
    ap (λ e. lines_read e (p.bytes ++ given)) unmet
    ∙ p.split false given (λ e. absurd (true≢false (sym (f.reads.idle e).1 ∙ f.unmet)))
    ∙ ap (λ ls. p.front ++ ls) (ended_lines-no_feed (reading.pending ++ given) f.unended) ∙ append-nil p.front in
    let all : p.sent ++ gathered ≡ p.sent = ap (λ g. p.sent ++ g) none ∙ append-nil p.sent in (
      p.bytes ++ given,
      consumes_more left_first left left_new p.bytes given p.given f.reads.given,
      record {
        text = p.sent;
        served = subst (λ ls. Serves answers first now 1 ls p.sent) (sym lines)
            (subst (Serves answers first now 1 p.front) all p.served);
        written = p.written;
      },
    )

-- nothing was read
pub fault_first : {S : Type 0} (answers : Answering S) (breaks : Breaking S) (first : S) (left : Option (List ℕ))
    (met_end : Bool) (taken : Option (List ℕ))
    → OfLinesRead left left met_end (ServesFront answers breaks first first taken taken)
fault_first answers breaks first left met_end taken = (
  [],
  consumes_none left,
  record {
    between = first;
    front = [];
    later = lines_read met_end [];
    text = [];
    begun = [];
    parts = refl;
    served = (refl, refl);
    stops = stops_here breaks first 1 (lines_read met_end []);
    written = (0, appends_none taken);
  },
)

-- whatever was given meanwhile, a front of what is gathered was written
fault_reading : {S : Type 0} {answers : Answering S} {breaks : Breaking S} {first now : S}
    {left_first left left_new : Option (List ℕ)} {reading new_reading : Reading} {met_end : Bool}
    {taken_first taken new_taken : Option (List ℕ)} {gathered : List ℕ} {n : ℕ}
    → Progress answers first now left_first left reading taken_first taken gathered n
    → Reads reading new_reading left left_new → met_end ≡ new_reading.is_at_end → AppendsFront taken new_taken gathered
    → OfLinesRead left_first left_new met_end (ServesFront answers breaks first now taken_first new_taken)
fault_reading {breaks = breaks} {now = now} {left_first = left_first} {left = left} {left_new = left_new} {reading =
    reading} {met_end = met_end} {taken_first = taken_first} {taken = taken} {new_taken = new_taken} {gathered =
    gathered} p r met some =
    let later = lines_read met_end (reading.pending ++ r.bytes) in (
      p.bytes ++ r.bytes,
      consumes_more left_first left left_new p.bytes r.bytes p.given r.given,
      record {
        between = now;
        front = p.front;
        later = later;
        text = p.sent ++ gathered;
        begun = [];
        parts = p.split met_end r.bytes (λ e. let i = r.idle e in (met ∙ i.1, i.0));
        served = p.served;
        stops = stops_here breaks now (suc (length p.front)) later;
        written = subst (AppendsFront taken_first new_taken) (sym (append-nil (p.sent ++ gathered)))
            (front_on taken_first taken new_taken p.sent gathered p.written some);
      },
    )

-- nothing more was written
fault_held : {S : Type 0} {answers : Answering S} {breaks : Breaking S} {first now : S}
    {left_first left left_new : Option (List ℕ)} {reading new_reading : Reading} {met_end : Bool}
    {taken_first taken : Option (List ℕ)} {gathered : List ℕ} {n : ℕ}
    → Progress answers first now left_first left reading taken_first taken gathered n
    → Reads reading new_reading left left_new → met_end ≡ new_reading.is_at_end
    → OfLinesRead left_first left_new met_end (ServesFront answers breaks first now taken_first taken)
fault_held {taken = taken} p r met = fault_reading p r met (0, appends_none taken)

-- nothing more was given
reads_none : (reading : Reading) (left : Option (List ℕ)) → Reads reading reading left left
reads_none reading left = record { bytes = []; given = consumes_none left; idle = λ e. (refl, e) }

-- the answering of a line was broken off
fault_broken : {S : Type 0} {answers : Answering S} {breaks : Breaking S} {first now next : S}
    {left_first left left_new : Option (List ℕ)} {reading new_reading : Reading} {met_end : Bool} {line : List ℕ}
    {taken_first taken new_taken : Option (List ℕ)} {gathered : List ℕ} {n k : ℕ} (text : List ℕ)
    → Progress answers first now left_first left reading taken_first taken gathered n
    → FindsLine true reading new_reading left left_new line → met_end ≡ new_reading.is_at_end → k ≡ n + 1
    → breaks now next k line text → AppendsFront taken new_taken (gathered ++ text)
    → OfLinesRead left_first left_new met_end (ServesFront answers breaks first next taken_first new_taken)
fault_broken {breaks = breaks} {now = now} {next = next} {left_first = left_first} {left = left} {left_new =
    left_new} {reading = reading} {new_reading = new_reading} {met_end = met_end} {line = line} {taken_first =
    taken_first} {taken = taken} {new_taken = new_taken} {gathered = gathered} {k = k} text p f met e broken some =
    let number : k ≡ suc (length p.front) = omega (arith, e, p.counted) in
    let found = first_line (reading.pending ++ f.reads.bytes) in
    let later = lines_read met_end (new_reading.pending ++ []) in (
      p.bytes ++ f.reads.bytes,
      consumes_more left_first left left_new p.bytes f.reads.bytes p.given f.reads.given,
      record {
        between = now;
        front = p.front;
        later = found ∷ later;
        text = p.sent ++ gathered;
        begun = text;
        parts = ap (lines_read met_end) (sym (append-nil (p.bytes ++ f.reads.bytes)))
            ∙ split_line reading new_reading left left_new line p.bytes p.front p.split f met_end []
            (λ at_end. (met ∙ at_end, refl));
        served = p.served;
        stops = inr (subst (λ j. breaks now next j (cut found) text) number
            (subst (λ l. breaks now next k l text) f.takes.1 broken));
        written = subst (AppendsFront taken_first new_taken) (sym (append_assoc p.sent gathered text))
            (front_on taken_first taken new_taken p.sent (gathered ++ text) p.written some);
      },
    )

-- ---- the loop over lines

-- How far a loop has come after n lines: what it may still read, that its devices are well, and that nothing is owed
-- where the reader is asked next.
pub record Goes {S : Type 0} (answers : Answering S) (IsSettled : S
    → Type 0) (first now : S) (old devices : Devices) (reading : Reading) (gathered : List ℕ) (has_more : Bool)
    (n : ℕ) : Type 0 where
  pub budget : devices.reads + reading.reads_left ≡ MOST_READS
  pub ended : reading.is_at_end ≡ true → IsAtEnd devices.left
  pub met : devices.met_end ≡ reading.is_at_end
  pub reader_well : devices.read_failed ≡ false
  pub writer_well : devices.write_failed ≡ false
  pub pending : has_more ≡ has_feed reading.pending
  pub settled : has_more ≡ false → IsSettled now
  pub fuel_left : n + fuel reading ≤ 72057594037927937
  pub progress : Progress answers first now old.left devices.left reading old.taken devices.taken gathered n

-- it begins
pub goes_first : {S : Type 0} (answers : Answering S) (IsSettled : S
    → Type 0) (first : S) (devices : Devices) (reading : Reading) (gathered : List ℕ) → AreFresh devices
    → IsSettled first → (reading.pending ≡ []) × (reading.reads_left ≡ MOST_READS) × (reading.is_at_end ≡ false)
    → gathered ≡ []
    → Goes answers IsSettled first first devices devices reading gathered false 0
goes_first answers IsSettled first devices reading gathered fresh settled new none =
    let unread = fresh.unread in
    record {
      budget = omega (arith, unread, new.1);
      ended = λ e. absurd (true≢false (sym e ∙ new.2));
      met = fresh.unended ∙ sym new.2;
      reader_well = fresh.reader_well;
      writer_well = fresh.writer_well;
      pending = sym (ap has_feed new.0);
      settled = λ _. settled;
      fuel_left = omega (arith, fuel_new reading new.0 new.1 new.2);
      progress = progress_first answers first devices.left reading devices.taken gathered new.0 none;
    }

-- What was gathered was handed over, a line was found and answered, and its answer flows.
pub goes_flowing : {S : Type 0} {answers : Answering S} {IsSettled : S
    → Type 0} {first now next : S} {old before : Devices} {taken : Option (List ℕ)} {well : Bool} {devices : Devices}
    {reading new_reading : Reading} {gathered held more line : List ℕ} {has_more new_more : Bool} {n : ℕ}
    → Goes answers IsSettled first now old before reading gathered has_more n
    → HandsOver before.taken gathered taken held → well ≡ before.write_failed
    → FindsLine true reading new_reading before.left devices.left line → devices.reads + new_reading.reads_left
    ≡ MOST_READS → (new_reading.is_at_end ≡ true → IsAtEnd devices.left) → devices.met_end ≡ new_reading.is_at_end
    → devices.read_failed ≡ before.read_failed
    → fuel new_reading < fuel reading → new_more ≡ has_feed new_reading.pending → (new_more ≡ false → IsSettled next)
    → AnswersInto answers now next (n + 1) line taken held devices.taken more → devices.write_failed ≡ well
    → Goes answers IsSettled first next old devices new_reading more new_more (n + 1)
goes_flowing {held = held} goes handed write_well found budget ended met read_well less pending settled a still_well =
    let left = goes.fuel_left in
    record {
      budget = budget;
      ended = ended;
      met = met;
      reader_well = read_well ∙ goes.reader_well;
      writer_well = still_well ∙ write_well ∙ goes.writer_well;
      pending = pending;
      settled = settled;
      fuel_left = omega (arith, less, left);
      progress = progress_handed (progress_line {more =
          held ++ a.text} (progress_handed goes.progress handed) found refl a.answered refl) a.handed;
    }

-- It ends where no line was found.
pub goes_to_end : {S : Type 0} {answers : Answering S} {IsSettled : S
    → Type 0} {first now : S} {old before : Devices} {left taken : Option (List ℕ)} {reading new_reading : Reading}
    {gathered held line : List ℕ} {has_more : Bool} {n : ℕ}
    → Goes answers IsSettled first now old before reading gathered has_more n
    → HandsOver before.taken gathered taken held → (has_more ≡ false → held ≡ [])
    → FindsLine false reading new_reading before.left left line → (new_reading.is_at_end ≡ true → IsAtEnd left)
    → OfInput old.left (ServesAll answers first now old.taken taken n)
goes_to_end goes handed none_held found ended =
    progress_end (progress_handed goes.progress handed) found (ended found.takes.2) (λ none. none_held (goes.pending
    ∙ none))

-- ---- its faults

-- A read failed where no line stood read: what was gathered had been handed over.
pub breaks_unfound : {S : Type 0} {answers : Answering S} {IsSettled : S
    → Type 0} {first now : S} {old before : Devices} {left taken : Option (List ℕ)} {met_end : Bool}
    {reading new_reading : Reading} {gathered held : List ℕ} {has_more : Bool} {n : ℕ}
    → Goes answers IsSettled first now old before reading gathered has_more n
    → HandsOver before.taken gathered taken held → (has_more ≡ false → held ≡ [])
    → FindsNone reading new_reading before.left left → met_end ≡ new_reading.is_at_end
    → IsSettled now × OfLinesRead old.left left met_end (ServesLines answers first now old.taken taken)
breaks_unfound {reading = reading} goes handed none_held found met =
    let none : has_feed reading.pending ≡ false = feed_before reading.pending found.reads.bytes found.unended in (
      goes.settled (goes.pending ∙ none),
      progress_unfound (progress_handed goes.progress handed) found met (λ n. none_held (goes.pending ∙ n)),
    )

-- What was gathered was not handed over.
pub breaks_handing : {S : Type 0} {answers : Answering S} {breaks : Breaking S} {IsSettled : S
    → Type 0} {first now : S} {old before : Devices} {reading : Reading} {taken : Option (List ℕ)} {gathered : List ℕ}
    {has_more : Bool} {n : ℕ} → Goes answers IsSettled first now old before reading gathered has_more n
    → AppendsFront before.taken taken gathered
    → OfLinesRead old.left before.left before.met_end (ServesFront answers breaks first now old.taken taken)
breaks_handing {before = before} {reading = reading} goes some =
    fault_reading goes.progress (reads_none reading before.left) goes.met some

-- It is not known whether there is a next line.
pub breaks_reading : {S : Type 0} {answers : Answering S} {breaks : Breaking S} {IsSettled : S
    → Type 0} {first now : S} {old before : Devices} {left taken : Option (List ℕ)} {met_end : Bool}
    {reading new_reading : Reading} {gathered held : List ℕ} {has_more : Bool} {n : ℕ}
    → Goes answers IsSettled first now old before reading gathered has_more n
    → HandsOver before.taken gathered taken held → Reads reading new_reading before.left left
    → met_end ≡ new_reading.is_at_end
    → OfLinesRead old.left left met_end (ServesFront answers breaks first now old.taken taken)
breaks_reading goes handed read met = fault_held (progress_handed goes.progress handed) read met

broken_or_answered : {S : Type 0} {answers : Answering S} {breaks : Breaking S} {first now next : S}
    {left_first left left_new : Option (List ℕ)} {reading new_reading : Reading} {met_end : Bool} {line : List ℕ}
    {taken_first taken new_taken : Option (List ℕ)} {gathered : List ℕ} {n k : ℕ} (text : List ℕ)
    → Progress answers first now left_first left reading taken_first taken gathered n
    → FindsLine true reading new_reading left left_new line → met_end ≡ new_reading.is_at_end → k ≡ n + 1
    → breaks now next k line text ⊎ answers now next k line text → AppendsFront taken new_taken (gathered ++ text)
    → OfLinesRead left_first left_new met_end (ServesFront answers breaks first next taken_first new_taken)
broken_or_answered text p f met e (inl broken) some = fault_broken text p f met e broken some
broken_or_answered {left_new = left_new} {new_reading = new_reading} {gathered =
    gathered} text p f met e (inr answered) some =
    fault_reading (progress_line {more = gathered ++ text} p f e answered refl) (reads_none new_reading left_new) met
    some

-- It was broken off, or not all of the answer was gathered; a front of it was written.
pub breaks_flowing : {S : Type 0} {answers : Answering S} {breaks : Breaking S} {IsSettled : S
    → Type 0} {first now next : S} {old before : Devices} {left taken new_taken : Option (List ℕ)} {met_end : Bool}
    {reading new_reading : Reading} {gathered held line : List ℕ} {has_more : Bool} {n : ℕ}
    → Goes answers IsSettled first now old before reading gathered has_more n
    → HandsOver before.taken gathered taken held → FindsLine true reading new_reading before.left left line
    → met_end ≡ new_reading.is_at_end → BreaksInto answers breaks now next (n + 1) line taken held new_taken
    → OfLinesRead old.left left met_end (ServesFront answers breaks first next old.taken new_taken)
breaks_flowing goes handed found met b =
    broken_or_answered b.text (progress_handed goes.progress handed) found met refl b.broken b.written

-- ---- by what the writer has taken in the end

pub front_at : {S : Type 0} (answers : Answering S) (breaks : Breaking S) (s t : S) (left left_new : Option (List ℕ))
    (met_end : Bool) (taken_old : Option (List ℕ)) {taken taken_new : Option (List ℕ)} → taken ≡ taken_new
    → OfLinesRead left left_new met_end (ServesFront answers breaks s t taken_old taken)
    → OfLinesRead left left_new met_end (ServesFront answers breaks s t taken_old taken_new)
front_at answers breaks s t left left_new met_end taken_old e p =
    subst (λ w. OfLinesRead left left_new met_end (ServesFront answers breaks s t taken_old w)) e p

pub lines_at : {S : Type 0} (answers : Answering S) (s t : S) (left left_new : Option (List ℕ)) (met_end : Bool)
    (taken_old : Option (List ℕ)) {taken taken_new : Option (List ℕ)} → taken ≡ taken_new
    → OfLinesRead left left_new met_end (ServesLines answers s t taken_old taken)
    → OfLinesRead left left_new met_end (ServesLines answers s t taken_old taken_new)
lines_at answers s t left left_new met_end taken_old e p =
    subst (λ w. OfLinesRead left left_new met_end (ServesLines answers s t taken_old w)) e p

pub all_at : {S : Type 0} (answers : Answering S) (s t : S) (left taken_old : Option (List ℕ)) (count : ℕ)
    {taken taken_new : Option (List ℕ)} → taken ≡ taken_new
    → OfInput left (ServesAll answers s t taken_old taken count)
    → OfInput left (ServesAll answers s t taken_old taken_new count)
all_at answers s t left taken_old count e p = subst (λ w. OfInput left (ServesAll answers s t taken_old w count)) e p

-- ---- answers that are put into a flow

-- a line that was answered by a text that was put
pub answers_put : {S T E : Type 0} (answers : Answering S) (s t : S) (n : ℕ) (line text : List ℕ)
    (taken taken_new : Option (List ℕ)) (gathered held : List ℕ) (result : Result T E) → answers s t n line text
    → OnOk result (HandsOver taken (gathered ++ text) taken_new held)
    → OnOk result (AnswersInto answers s t n line taken gathered taken_new held)
answers_put answers s t n line text taken taken_new gathered held (Ok x) answered handed =
    record { text = text; answered = answered; handed = handed }
answers_put answers s t n line text taken taken_new gathered held (Err e) answered handed = tt

pub breaks_put : {S T E : Type 0} (answers : Answering S) (breaks : Breaking S) (s t : S) (n : ℕ) (line text : List ℕ)
    (taken taken_new : Option (List ℕ)) (gathered : List ℕ) (result : Result T E) → answers s t n line text
    → OnErr result (AppendsFront taken taken_new (gathered ++ text))
    → OnErr result (BreaksInto answers breaks s t n line taken gathered taken_new)
breaks_put answers breaks s t n line text taken taken_new gathered (Ok x) answered front = tt
breaks_put answers breaks s t n line text taken taken_new gathered (Err e) answered front =
    record { text = text; broken = inr answered; written = front }

-- one that was broken off before anything was put
pub breaks_unwritten : {S : Type 0} (answers : Answering S) (breaks : Breaking S) (s t : S) (n : ℕ) (line : List ℕ)
    (taken : Option (List ℕ)) (gathered : List ℕ) → breaks s t n line []
    → BreaksInto answers breaks s t n line taken gathered taken
breaks_unwritten answers breaks s t n line taken gathered broken =
    record { text = []; broken = inl broken; written = (0, appends_none taken) }
