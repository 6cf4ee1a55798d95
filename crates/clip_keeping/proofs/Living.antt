-- The lines of a view are those of the queries that are live.
use Rattle.std.proofs.Common.{◌≡◌, ℕ, List, [], ◌∙◌, ap, filter, map, subst}
use Rattle.clip_model.specs.History.{History, Registered, is_live}
use Rattle.clip_indexed.specs.Segment.{all_entries}
use Rattle.clip_registry.specs.RegistryState.{RegistryState, IsWhole}
use Rattle.clip_front.specs.Outcome.{Follows, OfKept}
use Rattle.clip_keeping.specs.Live.{AreLive, line_of}

abbrev spelled : List Registered → List (List ℕ)
spelled rs = map (λ r. line_of r.standing) rs

pub live_of_kept : (names kept : List (List ℕ)) (old : History) (taken view : RegistryState) (found : List Registered)
    (lines : List (List ℕ)) → old ≡ [] → Follows names old kept taken.history → view ≡ taken → IsWhole view
    → found ≡ filter (λ r. is_live view.history r.seq) (all_entries view.segments) → lines ≡ spelled found
    → OfKept names kept (λ begins. AreLive begins lines)
live_of_kept names kept old taken view found lines none follows same whole live are = (
  taken.history,
  subst (λ (h : History). Follows names h kept taken.history) none follows,
  record {
    state = view;
    whole = whole;
    history_is = ap (λ (s : RegistryState). s.history) same;
    lines_are = are ∙ ap spelled live;
  },
)
