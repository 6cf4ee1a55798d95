use Rattle.std.proofs.Common.{ℕ, ◌++◌, [], ◌∷◌, map, take, sym, ap, ◌∙◌}
use Rattle.std.proofs.lemmas.List.{map_more, map_push}
use Rattle.std.specs.Arc.{arc_value}
use Rattle.clip_model.specs.History.{Registered}
use Rattle.clip_indexed.specs.Segment.{seqs_of}
use Rattle.clip_indexed.proofs.segment.seqs_of.Goals as goal

pub loop-entry-preserved : goal.loop-entry-preserved
loop-entry-preserved c =
    let entries = c.args.entries.now in
    let i = c.loop-entry.entry-index in
    let entry = c.entry-item.result in
    let before = map arc_value (take i entries) in
    let seq : Registered → ℕ = λ e. e.seq in
    c.in_ok-push.ensures.items
    ∙ ap (λ seqs. seqs ++ c.seq.result ∷ []) c.loop-entry.invariant
    ∙ ap (λ n. seqs_of before ++ n ∷ []) (c.seq.ensures ∙ ap seq (c.deref.ensures ∙ ap arc_value c.entry-item.is))
    ∙ sym (ap seqs_of (map_more arc_value entries i entry c.loop-entry-test.true) ∙ map_push seq before _)
