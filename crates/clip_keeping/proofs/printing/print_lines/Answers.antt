use Rattle.std.proofs.Common.{◌≡◌, ◌∷◌, ◌++◌, [], ℕ, List, take, append-nil, append_assoc, sym, ap, ◌∙◌, subst, arith}
use Rattle.clip_stream.specs.Device.{HandsOver}
use Rattle.clip_stream.proofs.Flows.{handed_more}
use Rattle.clip_journal.specs.Kept.{says}
use Rattle.clip_journal.proofs.Spelled.{says_more}
use Rattle.clip_keeping.specs.Printed.{text_of}
use Rattle.clip_keeping.proofs.printing.print_lines.Goals as goal

text_more : (xs : List (List ℕ)) (x : List ℕ) → text_of (xs ++ x ∷ []) ≡ text_of xs ++ (x ++ 10 ∷ [])
text_more [] x = append-nil (x ++ 10 ∷ [])
text_more (y ∷ ys) x =
    ap (λ t. (y ++ 10 ∷ []) ++ t) (text_more ys x) ∙ sym (append_assoc (y ++ 10 ∷ []) (text_of ys) (x ++ 10 ∷ []))

pub loop-line-preserved : goal.loop-line-preserved
loop-line-preserved g c =
    let taken = g.W.Sink.taken in
    let i = c.loop-line.line-index in
    let before = says (take i c.args.lines.now) in
    let line = c.deref.result.now in
    let all = says_more c.args.lines.now i c.line-item.result (omega arith) c.line-item.is
    ∙ ap (λ (x : List ℕ). before ++ x ∷ []) (sym c.deref.ensures.value) in
    subst (λ (t : List ℕ). HandsOver (taken c.args.writer.now) t (taken c.put_line.new.writer) c.put_line.new.outbox)
    (sym (ap text_of all ∙ text_more before line))
    (handed_more (taken c.args.writer.now) (taken c.loop-line.writer) (taken c.put_line.new.writer) []
    c.loop-line.outbox c.put_line.new.outbox (text_of before) (line ++ 10 ∷ []) c.loop-line.invariant
    c.in_ok-put_line.ensures.moved)
