use Rattle.std.proofs.Common.{◌≡◌, ◌<◌, ◌+◌, ℕ, List, ◌∷◌, map, drop, length, string_bytes, sym, ap, ◌∙◌, arith}
use Rattle.std.proofs.lemmas.List.{drop_more}
use Rattle.clip_registry.specs.Steps.Roster.{Roster, roster_without}
use Rattle.clip_registry.proofs.roster.Roster.without_ids.Goals as goal

pub loop-id-preserved : goal.loop-id-preserved
loop-id-preserved c =
    let roster = c.loop-id.roster in
    let ids = c.args.ids.now in
    let at = c.loop-id.id-index in
    let others : List (List ℕ) = map string_bytes (drop (at + 1) ids) in
    let within : at < length ids = let h = c.loop-id-test.true in omega arith in
    let parts : map string_bytes (drop at ids) ≡ c.as_str.result.now ∷ others =
    ap (map string_bytes) (drop_more ids at c.id-item.result within
    ∙ ap (λ x. x ∷ drop (at + 1) ids) (sym c.id-item.is))
    ∙ ap (λ (id : List ℕ). id ∷ others) (sym c.as_str.ensures.value) in
    record {
      left = ap (λ (r : Roster). roster_without r others) c.in_ok-roster.ensures.roster
          ∙ ap (roster_without roster) (sym parts) ∙ c.loop-id.invariant.left;
      gone = c.in_ok-roster.ensures.gone c.args.self c.loop-id.invariant.gone;
    }
