-- A token is made, and the value that the clause names is picked. Assumes `Logic`.
use Rattle.std.proofs.Common.{[], ◌∷◌, refl}
use Rattle.std.proofs.raw_atomic.Walks.{proved}
use mir.Syntax.{named}
use mir.Val.{vstruct, vnil}
use types.Kit.{‵, raw, ◌⊛◌, ◌$◌, ◌∵◌, !, qed, move, keep, split, suffices, done}
use types.Part.{agg}
use types.Run.{enter, returns, no_more}
use types.ByLocal.{alloc_all, pass_all, free_all, look_at, sets}
use denote.Exit.{yes}
use denote.RattleType.{owns}
use denote.Ref.{shr_vals, shr_Tells}
use denote.Shadow.{pure_i}
use denote.Signature.{plain, types_at}
use denote.Triple.Entry.{alive}
use denote.Triple.Walked.{says, Stays, stay_none_ref, Goes-none_ref, ends_at}
use Rattle.clip_meaning.specs.contracts.article.Article.{the_row as article_row}
use Rattle.clip_match.proofs.Sent.{view_row}
use Rattle.clip_match.specs.Alerts.{alerts_due}
use Rattle.clip_protocol.specs.contracts.said.AlertsSaid.{the_row}
use Rattle.clip_run.specs.contracts.batch.alerts_said as f
use Rattle.clip_run.proofs.batch.alerts_said.Statement.{statement}
use Rattle.clip_run.proofs.batch.alerts_said.Code as code

abbrev stayed : Stays f.ended.signature.params f.ended.kept
stayed = (
  stay_none_ref (0 ∷ []) tt (plain (λ _. view_row)) yes,
  (stay_none_ref (1 ∷ []) tt (plain (λ _. article_row)) yes, tt),
)

pub alerts_said_spec : {M : Type 1} → statement M
alerts_said_spec 𝓤 𝓛 𝓜 𝓡 wired =
    let c = f.clauses 𝓛 𝓜.mem 𝓡.returns in
    proved 𝓛 f.ended stayed c 𝓜 𝓡 (
      Goes-none_ref 𝓛 2 (0 ∷ []) tt (plain (λ _. view_row)) yes,
      (Goes-none_ref 𝓛 2 (1 ∷ []) tt (plain (λ _. article_row)) yes, tt),
    )
    f.Key.name code.function (code.unfolded 𝓤 𝓛.H 𝓜 𝓡 wired)
    (λ κs. (shr_vals, (shr_vals, tt)))
    (λ κs. (shr_Tells (named 0) κs.0 view_row, (shr_Tells (named 1) κs.1.0 article_row, tt))) (λ κs qs bounds a g are.
    let said : the_row.Denot = record { value = alerts_due a.0.now a.1.0.now } in
    qed 𝓛 ((raw (alive 𝓛 f.signature κs qs) ⊛ ‵
    (owns (types_at f.signature.params κs) a (shr_vals a.0, (shr_vals a.1.0, tt)))) ∷ raw ((c κs a).requires g)
    ∷ []) ∵
    keep ! (0 ∷ []) $ split ! $
    enter ! _ _ _ _ _ $ alloc_all ! (λ l. pass_all ! refl ((tt, tt), ((tt, tt), tt)) $
    sets ! (agg ! (no_more !)) refl (tt, tt) $
    returns ! (look_at ! 0 refl) $ free_all ! refl $
    suffices ! _ (ends_at 𝓛 f.ended stayed c ((κs, qs, bounds, a, (shr_vals a.0, (shr_vals a.1.0, tt))), g)
    (vstruct vnil) said (tt, (tt, tt)) (tt, (tt, tt))) $ says ! refl $
    pure_i ! (the_row.own_val said (vstruct vnil ∷ [])) ((λ vss. (tt, tt)), tt) ((tt, (refl, tt)), tt) $
    move ! (1 ∷ 2 ∷ 0 ∷ []) $ done !))
