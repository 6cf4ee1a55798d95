-- What a run leaves at its end, and after a fault.
use Rattle.std.proofs.Common.{◌≡◌, ℕ, List, [], Bool, true, false, Option, refl, sym, ap, subst, arith}
use Rattle.std.specs.Prelude.{Result, Ok, Err, IfOk, OnOk, OnErr}
use Rattle.std.proofs.lemmas.Result.{on_err_weaker}
use Rattle.core.specs.Result.{IsErrAnd}
use Rattle.clip_stream.specs.Lines.{lines_read, OfInput, OfLinesRead}
use Rattle.clip_stream.proofs.Bytes.{consumes_none}
use Rattle.clip_stream.proofs.Flows.{appends_none}
use Rattle.clip_stream.specs.declared.fault.RunFault.{RunFault}
use Rattle.clip_stream.specs.declared.fault.RunFault.TheVariants as fault
use Rattle.clip_listen.specs.Heard.{Hearer}
use Rattle.clip_listen.proofs.Hearing.{no_front}
use Rattle.clip_ledger.specs.Rows.{RowValue}
use Rattle.clip_model.specs.History.{History}
use Rattle.clip_front.specs.Devices.{IsHonest}
use Rattle.clip_front.specs.Outcome.{Follows, nothing_given, OfKept, names_in}
use Rattle.clip_front.specs.Outcome.{GivesAllFrom, GivesFrontFrom, GivesLinesFrom}
use Rattle.clip_front.proofs.Following.{follows_some}
use Rattle.clip_front.specs.declared.settings.Settings.{Settings}
use Rattle.clip_stream.specs.declared.form.Form.{Form}
use Rattle.clip_front.specs.Steps.Serving.{ServesAll, ServesFront}
use Rattle.clip_run.specs.Crews.{CrewIs, course_at}
use Rattle.clip_run.specs.Owed.{TurnsIn, BreaksIn}
use Rattle.clip_front.specs.declared.session.Ended.{Ended}
use Rattle.clip_run.specs.Ran.{Told, Ran, RanAgain, RanToEnd}
use Rattle.clip_run.proofs.Headline.{run_gives, run_gives_front}

pub ended_err : {A : Type 0} (hearers : A → List Hearer) (c d : CrewIs) (a b : A) (left left_new : Option (List ℕ))
    (met_end : Bool) (taken_old taken : Option (List ℕ)) (result : Result ℕ RunFault) → c.owed ≡ []
    → OnErr result (OfLinesRead left left_new met_end
    (ServesFront (TurnsIn (course_at hearers)) (BreaksIn (course_at hearers)) (c, a) (d, b) taken_old taken))
    → OnErr result (OfLinesRead left left_new met_end
    (GivesFrontFrom c.history (hearers a) (hearers b) c.settings.form taken_old taken))
ended_err hearers c d a b left left_new met_end taken_old taken result none_owed front =
    on_err_weaker result
    (run_gives_front (course_at hearers) (c, a) (d, b) c.settings left left_new met_end taken_old taken refl none_owed)
    front

pub ended_ok : {A : Type 0} (hearers : A → List Hearer) (c d : CrewIs) (rows : List RowValue) (a b : A)
    (left taken_old taken : Option (List ℕ)) (result : Result ℕ RunFault) → c.rows ≡ [] → c.owed ≡ []
    → rows ≡ d.rows → OnOk result (d.owed ≡ [])
    → IfOk result (λ n. OfInput left (ServesAll (TurnsIn (course_at hearers)) (c, a) (d, b) taken_old taken n))
    → IfOk result (λ n. OfInput left
    (GivesAllFrom c.history (hearers a) (hearers b) c.settings taken_old taken n rows))
ended_ok hearers c d rows a b left taken_old taken (Ok n) no_rows none_owed same settled served =
    subst (λ rs. OfInput left (GivesAllFrom c.history (hearers a) (hearers b) c.settings taken_old taken n rs))
    (sym same)
    (run_gives (course_at hearers) (c, a) (d, b) c.settings left taken_old taken n no_rows refl none_owed settled
    served)
ended_ok hearers c d rows a b left taken_old taken (Err e) no_rows none_owed same settled served = tt

-- ---- a run that was refused memory before it began

no_lines : (met_end : Bool) → lines_read met_end [] ≡ []
no_lines true = refl
no_lines false = refl

gives_none : (begins : History) (form : Form) (hearers : List Hearer) (left : Option (List ℕ)) (met_end : Bool)
    (taken : Option (List ℕ)) → OfLinesRead left left met_end (GivesFrontFrom begins hearers hearers form taken taken)
gives_none begins form hearers left met_end taken = (
  [],
  consumes_none left,
  subst (GivesFrontFrom begins hearers hearers form taken taken) (sym (no_lines met_end)) (record {
    outcome =
        nothing_given;
    gives = refl;
    replies = (0, appends_none taken);
    told = no_front [] hearers;
  }),
)

ran_refused : {T : Type 0} (begins : History) (lines : T → ℕ) (rows : T → List RowValue) (settings : Settings)
    (told : Told) → told.devices.reads ≡ 0 → Ran begins lines rows settings told told (Err fault.NoMemory)
ran_refused begins lines rows settings told unread =
    let here = told.devices in
    record {
      outcome = tt;
      honest = record {
        flushed = tt;
        ended = tt;
        ok = tt;
        read = λ e. absurd (cc e);
        write = λ e. absurd (cc e);
        reads =
            omega (arith, unread);
      };
      front = gives_none begins settings.form told.hearers here.left here.met_end here.taken;
      none_held = λ e. absurd (cc e);
    }

pub ran_none : {T : Type 0} (begins : History) (lines : T → ℕ) (rows : T → List RowValue) (settings : Settings)
    (told : Told) (result : Result T RunFault) → result ≡ Err fault.NoMemory → told.devices.reads ≡ 0
    → Ran begins lines rows settings told told result
ran_none begins lines rows settings told result is unread =
    subst (Ran begins lines rows settings told told) (sym is) (ran_refused begins lines rows settings told unread)

-- whatever lines were kept
pub kept_refused : (kept : List (List ℕ)) (form : Form) (hearers : List Hearer) (left : Option (List ℕ))
    (met_end : Bool) (taken : Option (List ℕ)) → OfKept (names_in hearers) kept (λ begins.
    OfLinesRead left left met_end (GivesFrontFrom begins hearers hearers form taken taken))
kept_refused kept form hearers left met_end taken =
    let begins = follows_some (names_in hearers) [] kept in
    (begins.0, begins.1, gives_none begins.0 form hearers left met_end taken)

pub ran_again : (kept : List (List ℕ)) (settings : Settings) (old new : Told) (result : Result Ended RunFault)
    (start begins : History) → start ≡ [] → Follows (names_in old.hearers) start kept begins
    → RanToEnd begins settings old new result → RanAgain kept settings old new result
ran_again kept settings old new result start begins none follows ran =
    (begins, subst (λ h. Follows (names_in old.hearers) h kept begins) none follows, ran)

pub ran_again_none : (kept : List (List ℕ)) (settings : Settings) (told : Told) (result : Result Ended RunFault)
    → result ≡ Err fault.NoMemory → told.devices.reads ≡ 0 → RanAgain kept settings told told result
ran_again_none kept settings told result is unread =
    let begins = follows_some (names_in told.hearers) [] kept in (
      begins.0,
      begins.1,
      ran_none begins.0 (λ ended. ended.lines) (λ ended. ended.ledger) settings told result is unread,
    )

-- the fault of a conversion that gives just this one
pub refused_is : {T : Type 0} (result : Result T RunFault) → IsErrAnd result (λ e. e ≡ fault.NoMemory)
    → result ≡ Err fault.NoMemory
refused_is (Ok t) e = absurd e
refused_is (Err f) e = ap Err e

-- ---- a run that began with kept lines

pub again_honest : (kept : List (List ℕ)) (settings : Settings) (old new : Told) (result : Result Ended RunFault)
    → RanAgain kept settings old new result → IsHonest result new.devices
again_honest kept settings old new result ran = ran.2.honest

pub again_ok : (kept : List (List ℕ)) (settings : Settings) (old new : Told) (result : Result Ended RunFault)
    → RanAgain kept settings old new result
    → IfOk result (λ ended. OfKept (names_in old.hearers) kept (λ begins. OfInput old.devices.left
    (GivesAllFrom begins old.hearers new.hearers settings old.devices.taken new.devices.taken ended.lines
    ended.ledger)))
again_ok kept settings old new (Ok ended) ran = (ran.0, ran.1, ran.2.outcome)
again_ok kept settings old new (Err e) ran = tt

pub again_err : (kept : List (List ℕ)) (settings : Settings) (old new : Told) (result : Result Ended RunFault)
    → RanAgain kept settings old new result
    → OnErr result (OfKept (names_in old.hearers) kept (λ begins.
    OfLinesRead old.devices.left new.devices.left new.devices.met_end
    (GivesFrontFrom begins old.hearers new.hearers settings.form old.devices.taken new.devices.taken)))
again_err kept settings old new (Ok ended) ran = tt
again_err kept settings old new (Err e) ran = (ran.0, ran.1, ran.2.front)

pub again_none_held : (kept : List (List ℕ)) (settings : Settings) (old new : Told) (result : Result Ended RunFault)
    → RanAgain kept settings old new result → result ≡ Err fault.Read → (new.devices.is_flushed ≡ true)
    × OfKept (names_in old.hearers) kept (λ begins.
    OfLinesRead old.devices.left new.devices.left new.devices.met_end
    (GivesLinesFrom begins old.hearers new.hearers settings.form old.devices.taken new.devices.taken))
again_none_held kept settings old new result ran failed =
    let held = ran.2.none_held failed in (held.0, (ran.0, ran.1, held.1))

-- where none were kept, it began with nothing
pub from_nothing : (names kept : List (List ℕ)) (P : History → Type 0) → kept ≡ [] → OfKept names kept P → P []
from_nothing names kept P none p = nothing_kept (subst (λ lines. OfKept names lines P) none p)
  where
    nothing_kept : OfKept names [] P → P []
    nothing_kept q = subst P q.1 q.2

pub ran_from_nothing : (kept : List (List ℕ)) (settings : Settings) (old new : Told) (result : Result Ended RunFault)
    → kept ≡ [] → RanAgain kept settings old new result → RanToEnd [] settings old new result
ran_from_nothing kept settings old new result none ran =
    from_nothing (names_in old.hearers) kept (λ begins. RanToEnd begins settings old new result) none ran

pub ok_from_nothing : {T E : Type 0} (names kept : List (List ℕ)) (result : Result T E) (P : T → History → Type 0)
    → kept ≡ [] → IfOk result (λ t. OfKept names kept (P t)) → IfOk result (λ t. P t [])
ok_from_nothing names kept (Ok t) P none p = from_nothing names kept (P t) none p
ok_from_nothing names kept (Err e) P none p = tt

pub err_from_nothing : {T E : Type 0} (names kept : List (List ℕ)) (result : Result T E) (P : History → Type 0)
    → kept ≡ [] → OnErr result (OfKept names kept P) → OnErr result (P [])
err_from_nothing names kept (Ok t) P none p = tt
err_from_nothing names kept (Err e) P none p = from_nothing names kept P none p
