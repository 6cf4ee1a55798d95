-- The texts of notes.
use Rattle.std.proofs.Common.{◌≡◌, List, [], ◌∷◌, map, refl, ap}
use Rattle.std.specs.Arc.{arc_str_bytes}
use Rattle.clip_listen.specs.Heard.{note_value}
use Rattle.clip_listen.specs.declared.note.Note.{Note}

pub texts_of_notes : (notes : List Note) → map (λ n. arc_str_bytes n.text) notes
    ≡ map (λ n. n.text) (map note_value notes)
texts_of_notes [] = refl
texts_of_notes (n ∷ notes) = ap (λ texts. arc_str_bytes n.text ∷ texts) (texts_of_notes notes)
