use Rattle.std.proofs.Common.{◌≡◌, List, length, map, vec_items, ap, sym, ◌∙◌, subst, arith}
use Rattle.std.specs.Arc.{arc_value}
use Rattle.std.proofs.lemmas.List.{length-map}
use Rattle.clip_model.specs.History.{Registered}
use Rattle.clip_indexed.specs.Selecting.{kept_of}
use Rattle.clip_indexed.specs.Segment.{IsRising, seqs_of}
use Rattle.clip_indexed.proofs.Flagged.{kept_few}
use Rattle.clip_indexed.proofs.segment.Segment.select.Goals as goal

pub invariant_of-result : goal.invariant_of-result
invariant_of-result g c =
    let segments = map arc_value c.args.segments.now in
    let flags = map vec_items c.args.kept.now in
    let entries = c.in_ok-entries.entries.items in
    let e : map arc_value entries ≡ kept_of segments flags = c.in_ok-entries.ensures in
    let few : length entries ≡ length (kept_of segments flags) = sym (length-map entries arc_value) ∙ ap length e in
    record {
      rising = subst IsRising (sym e) c.requires.rising;
      short = omega (arith, kept_few segments flags, c.requires.short, few);
      seqs = c.in_ok-seqs.ensures ∙ ap (λ es. seqs_of (map arc_value es)) c.deref.ensures.value;
      index = subst (λ (rs : List Registered). g.I.Index.is_of rs c.in_ok-index.index) (sym e) c.in_ok-index.ensures;
    }
