use Rattle.std.proofs.Common.{◌++◌, drop, take, sym, ap, ◌∙◌}
use Rattle.std.proofs.lemmas.List.{drop-map, drop-drop, take-append-drop}
use Rattle.clip_journal.specs.Kept.{says}
use Rattle.clip_journal.proofs.contents.Contents.into_lines.Goals as goal

pub returns : goal.returns
returns c =
    let found = c.args.self in
    let all = says found.said.items in
    ap says c.remove-opening.ensures.by_index.2 ∙ sym (drop-map (λ v. v.items) 1 found.said.items)
    ∙ sym (take-append-drop found.live (drop 1 all))
    ∙ ap (λ xs. take found.live (drop 1 all) ++ xs) (drop-drop found.live 1 all)
