use Rattle.std.proofs.Common.{◌∙◌, [], map, set, ap, sym, vec_items}
use Rattle.std.proofs.lemmas.List.{map-set, get_or-map}
use Rattle.clip_segment.specs.Steps.Ends.{once_more}
use Rattle.clip_segment.proofs.building.add_to_list.Goals as goal

pub returns : goal.returns
returns c =
    let xs = c.args.lists.now.items in
    map-set vec_items xs c.args.number c.add_once.new.list
    ∙ ap (set (map vec_items xs) c.args.number)
    (c.in_ok-add_once.ensures
    ∙ ap (λ v. once_more (vec_items v) c.args.position) c.index_mut.ensures.value
    ∙ ap (λ ys. once_more ys c.args.position) (sym (get_or-map vec_items xs c.args.number _ [] c.requires)))
