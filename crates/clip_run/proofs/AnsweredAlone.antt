-- What a run on one thread gives, whatever its lines purge.
use Rattle.std.proofs.Common.{◌≡◌, ℕ, List, [], Bool, Option}
use Rattle.std.specs.Prelude.{Result, Ok, Err, OnOk, OnErr}
use Rattle.clip_stream.specs.Lines.{OfInput, OfLinesRead}
use Rattle.clip_listen.specs.Heard.{Hearer}
use Rattle.clip_model.specs.History.{History}
use Rattle.clip_front.specs.Outcome.{GivesAllFrom, GivesFrontFrom, GivesLinesFrom}
use Rattle.clip_front.specs.declared.settings.Settings.{Settings}
use Rattle.clip_front.specs.Steps.Answers.{AnswersIn, BreaksIn}
use Rattle.clip_front.specs.Steps.Serving.{ServesAll, ServesFront, ServesLines}
use Rattle.clip_front.proofs.Served.{run_gives, run_gives_front, run_gives_lines}
use Rattle.clip_front.proofs.Serving.{AreAmong, serves_all_weaker, serves_front_weaker, serves_lines_weaker}
use Rattle.clip_run.specs.RunServer.{AnswersAlone, held_at}
use Rattle.clip_run.specs.declared.alone.RunServer.{RunServer}

answers_held : {A : Type 0} (hearers : A → List Hearer) → AreAmong (AnswersAlone hearers) (AnswersIn (held_at hearers))
answers_held hearers s t n line text a = a.answers

pub alone_gives : {A : Type 0} (hearers : A → List Hearer) (s t : RunServer × A) (begins : History)
    (settings : Settings) (left taken_old taken : Option (List ℕ)) (count : ℕ) → (held_at hearers s).history ≡ begins
    → (held_at hearers s).rows ≡ [] → (held_at hearers s).settings ≡ settings
    → OfInput left (ServesAll (AnswersAlone hearers) s t taken_old taken count)
    → OfInput left
    (GivesAllFrom begins (hearers s.1) (hearers t.1) settings taken_old taken count (held_at hearers t).rows)
alone_gives hearers s t begins settings left taken_old taken count start none same p =
    run_gives (held_at hearers) s t begins settings left taken_old taken count start none same
    (serves_all_weaker (AnswersAlone hearers) (AnswersIn (held_at hearers)) (answers_held hearers) s t left
    taken_old taken count p)

pub alone_gives_front : {A : Type 0} (hearers : A → List Hearer) (s t : RunServer × A) (begins : History)
    (settings : Settings) (left left_new : Option (List ℕ)) (met_end : Bool) (taken_old taken : Option (List ℕ))
    → (held_at hearers s).history ≡ begins → (held_at hearers s).settings ≡ settings
    → OfLinesRead left left_new met_end
    (ServesFront (AnswersAlone hearers) (BreaksIn (held_at hearers)) s t taken_old taken)
    → OfLinesRead left left_new met_end
    (GivesFrontFrom begins (hearers s.1) (hearers t.1) settings.form taken_old taken)
alone_gives_front hearers s t begins settings left left_new met_end taken_old taken start same p =
    run_gives_front (held_at hearers) s t begins settings left left_new met_end taken_old taken start same
    (serves_front_weaker (AnswersAlone hearers) (AnswersIn (held_at hearers)) (BreaksIn (held_at hearers))
    (answers_held hearers) s t left left_new met_end taken_old taken p)

pub alone_gives_lines : {A : Type 0} (hearers : A → List Hearer) (s t : RunServer × A) (begins : History)
    (settings : Settings) (left left_new : Option (List ℕ)) (met_end : Bool) (taken_old taken : Option (List ℕ))
    → (held_at hearers s).history ≡ begins → (held_at hearers s).settings ≡ settings
    → OfLinesRead left left_new met_end (ServesLines (AnswersAlone hearers) s t taken_old taken)
    → OfLinesRead left left_new met_end
    (GivesLinesFrom begins (hearers s.1) (hearers t.1) settings.form taken_old taken)
alone_gives_lines hearers s t begins settings left left_new met_end taken_old taken start same p =
    run_gives_lines (held_at hearers) s t begins settings left left_new met_end taken_old taken start same
    (serves_lines_weaker (AnswersAlone hearers) (AnswersIn (held_at hearers)) (answers_held hearers) s t left left_new
    met_end taken_old taken p)

-- ---- what two facts of a result say together

pub both_ok : {T E P Q R : Type 0} (r : Result T E) → (P → Q → R) → OnOk r P → OnOk r Q → OnOk r R
both_ok (Ok x) f p q = f p q
both_ok (Err e) f p q = tt

pub both_err : {T E P Q R : Type 0} (r : Result T E) → (P → Q → R) → OnErr r P → OnErr r Q → OnErr r R
both_err (Ok x) f p q = tt
both_err (Err e) f p q = f p q
