use Rattle.std.proofs.Common.{◌≡◌, ◌<◌, ◌||◌, ◌+◌, ◌++◌, ◌∷◌, ℕ, nat_eq, List, length, flat_map, take, get_or, []}
use Rattle.std.proofs.Common.{append-nil, ap, sym, ◌∙◌, arith}
use Rattle.std.specs.List.{list_any}
use Rattle.std.proofs.lemmas.Grind.{flat_map-append, common_steps}
use Rattle.std.proofs.lemmas.List.{take_more}
use Rattle.std.proofs.lemmas.List.Folds.{list_any-append}
use Rattle.std.proofs.lemmas.Option.{unwrap_or-slice_get}
use Rattle.clip_segment.proofs.term_lists.marks_of.Goals as goal

-- the items of one list more
next_list : (lists : List (List ℕ)) (i : ℕ) → i < length lists → flat_map (λ list. list) (take (i + 1) lists)
    ≡ flat_map (λ list. list) (take i lists) ++ get_or lists i []
next_list lists i lt =
    let here = get_or lists i [] in
    ap (flat_map (λ list. list)) (take_more lists i [] lt)
    ∙ flat_map-append (λ (list : List ℕ). list) (take i lists) (here ∷ [])
    ∙ ap (λ l. flat_map (λ list. list) (take i lists) ++ l) (append-nil here)

pub loop-number-preserved : goal.loop-number-preserved
loop-number-preserved c =
    let lists : List (List ℕ) = c.args.lists.now in
    let i = c.loop-number.number in
    let before = flat_map (λ list. list) (take i lists) in
    record {
      long = c.mark_positions.ensures.long ∙ c.loop-number.invariant.long;
      marked = λ n lt.
          c.mark_positions.ensures.marked n (omega (arith, lt, c.loop-number.invariant.long))
          ∙ ap (λ b. b || list_any (nat_eq n) c.get.result.now) (c.loop-number.invariant.marked n lt)
          ∙ sym (list_any-append (nat_eq n) before c.get.result.now)
          ∙ ap (λ l. list_any (nat_eq n) (before ++ l)) (c.get.ensures ∙ unwrap_or-slice_get lists i [])
          ∙ ap (list_any (nat_eq n)) (sym (next_list lists i (omega arith)));
    }

-- found by this tactic: they stand here so that no other is tried before it
pub loop-number-init : goal.loop-number-init
loop-number-init c = grind (arith, common_steps)

pub returns-clause-marked : goal.returns-clause-marked
returns-clause-marked c = grind (arith, common_steps)
