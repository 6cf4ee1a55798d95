use Rattle.std.proofs.Common.{◌≡◌, false, filter, get_or, length, map, option_map, sym, ap, ap₂, ◌∙◌, subst}
use Rattle.std.proofs.Common.{arith, rules}
use Rattle.std.specs.List.{All, count_by}
use Rattle.std.proofs.lemmas.Option.{same_Some}
use Rattle.clip_pieces.specs.Marked.{both}
use Rattle.clip_extract.specs.Covering.{article_keys}
use Rattle.clip_meaning.specs.Meaning.{holds}
use Rattle.clip_model.specs.History.{Registered, is_live}
use Rattle.clip_match.specs.Steps.Positions.{entries_at, IsSharer}
use Rattle.clip_match.proofs.Judgings.{fewer_marked}
use Rattle.clip_match.proofs.Marks.{candidate, counted, held_among, live_sharers}
use Rattle.clip_match.proofs.Sharers.{marked_sharers}
use Rattle.clip_match.proofs.trying.candidates_in.Goals as goal
use Rattle.clip_match.proofs.trying.candidates_in.Goals.{After-keep}

-- the marks are those of the candidates
kept : (c : After-keep) → c.keep.new.self
    ≡ map (candidate c.args.view.now.history (article_keys c.args.reading.now.article.fields)
    c.args.reading.now.entries) c.args.reading.now.entries
kept c =
    let h = c.args.view.now.history in
    let es = c.args.reading.now.entries in
    let live : c.in-Some.live.now ≡ map (λ (r : Registered). is_live h r.seq) es =
    same_Some _ _ (c.in-Some.ensures ∙ ap (option_map (map (λ (r : Registered). is_live h r.seq))) c.requires) in
    c.keep.ensures ∙ ap₂ both c.in_ok-marks.ensures.marks live
    ∙ live_sharers h (article_keys c.args.reading.now.article.fields) es

pub returns-clause-asked : goal.returns-clause-asked
returns-clause-asked c =
    let here = (goal.at.returns-clause-asked c).After-keep in
    c.count-asked.ensures ∙ ap (count_by (λ flag. flag)) (kept here)
    ∙ counted c.args.view.now.history (article_keys c.args.reading.now.article.fields) c.args.reading.now.entries

pub returns-clause-positions : goal.returns-clause-positions
returns-clause-positions c =
    let here = (goal.at.returns-clause-positions c).After-keep in
    let held = λ (r : Registered). holds r.standing.tree c.args.reading.now.article.fields in
    ap (λ ps. filter held (entries_at c.args.reading.now.entries ps)) c.in_ok-numbers_into.ensures
    ∙ held_among c.args.view.now.history (article_keys c.args.reading.now.article.fields) c.args.reading.now.entries
    held c.keep_met.new.marks
    (c.keep_met.ensures.length ∙ ap length (kept here))
    (λ k e there passes. c.keep_met.ensures.none_lost k e there passes ∙ ap (λ fs. get_or fs k false) (kept here))

pub returns-clause-sharers : goal.returns-clause-sharers
returns-clause-sharers c =
    let here = (goal.at.returns-clause-sharers c).After-keep in
    subst (All (IsSharer c.args.reading.now)) (sym c.in_ok-numbers_into.ensures)
    (marked_sharers c.args.view.now.history c.args.reading.now c.keep_met.new.marks c.keep.new.self (kept here)
    c.keep_met.ensures.fewer)

pub returns-clause-few : goal.returns-clause-few
returns-clause-few c =
    let here = (goal.at.returns-clause-few c).After-keep in
    let among = fewer_marked 0 c.keep_met.new.marks c.keep.new.self c.keep_met.ensures.length
    c.keep_met.ensures.fewer in
    let live = counted c.args.view.now.history (article_keys c.args.reading.now.article.fields)
    c.args.reading.now.entries in
    omega (arith, ap length c.in_ok-numbers_into.ensures, among, ap (count_by (λ flag. flag)) (kept here), live)

pub returns-clause-read : goal.returns-clause-read
returns-clause-read c = search rules
