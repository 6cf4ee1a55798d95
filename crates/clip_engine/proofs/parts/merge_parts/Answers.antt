use Rattle.std.proofs.Common.{◌≡◌, ◌∙◌, ◌++◌, ℕ, ap, sym, map, List, subst}
use Rattle.std.specs.Prelude.{IfOk}
use Rattle.std.specs.declared.alloc.Global.{Global}
use Rattle.std.specs.declared.collections.VecDeque.{VecDeque}
use Rattle.std.proofs.lemmas.Simd.{map-map}
use Rattle.clip_gather.specs.Merged.{NoneFalls, merged_all}
use Rattle.clip_gather.specs.Steps.Merging.{items_of}
use Rattle.clip_gather.proofs.Maps.{merged_all_map, none_map}
use Rattle.clip_engine.specs.Found.{number_bytes}
use Rattle.clip_engine.specs.Gathered.{all_bytes, id_of, told_in, told_of}
use Rattle.clip_engine.specs.declared.parts.Part.{Part}
use Rattle.clip_engine.specs.declared.parts.Told.{Told}
use Rattle.clip_engine.proofs.parts.merge_parts.Goals as goal

-- the lists, read as ids with what goes with them, are what the parts tell
lists_told : (lists : List (VecDeque Told Global)) (parts : List Part)
    → map items_of lists ≡ map (λ part. part.told.now) parts
    → map (map told_of) (map items_of lists) ≡ map told_in parts
lists_told lists parts are = ap (map (map told_of)) are ∙ map-map (map told_of) (λ part. part.told.now) parts

pub merge_all-requires : goal.merge_all-requires
merge_all-requires c =
    let lists = c.in_ok-lists_of.field-0.items in
    none_map told_of id_of (map items_of lists)
    (subst (NoneFalls id_of) (sym (lists_told lists c.args.parts.now c.in_ok-lists_of.ensures)) c.requires)

pub returns : goal.returns
returns c =
    let parts = c.args.parts.now in
    let lists = c.in_ok-lists_of.field-0.items in
    let told : map told_of c.deref.result.now ≡ merged_all id_of (map told_in parts) =
    ap (map told_of) (c.deref.ensures.value ∙ c.from-all.ensures.0 ∙ c.in_ok-merge_all.ensures)
    ∙ merged_all_map told_of id_of (map items_of lists)
    ∙ ap (merged_all id_of) (lists_told lists parts c.in_ok-lists_of.ensures) in
    subst (λ (all : List (List ℕ × List ℕ)). IfOk c.bytes_of_told.result
    (λ bytes. bytes.items ≡ number_bytes c.args.asked ++ all_bytes all)) told c.bytes_of_told.ensures
