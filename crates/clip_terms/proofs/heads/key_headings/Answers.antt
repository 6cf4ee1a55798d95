use Rattle.std.proofs.Common.{◌∙◌, sym}
use Rattle.std.specs.Str.{bytes_eq}
use Rattle.clip_extract.specs.Keys.{key_of}
use Rattle.clip_terms.proofs.Headings.{one_heading}
use Rattle.clip_terms.proofs.heads.key_headings.Goals as goal

pub returns-then-eq : goal.returns-then-eq
returns-then-eq c =
    one_heading (key_of c.args.a.now) (key_of c.args.b.now)
    (sym c.rank.ensures ∙ c.if-rank.true ∙ c.rank-2.ensures)
    ((λ i. bytes_eq (sym c.field.ensures i) (sym c.field-then-rank.ensures i)) ∙ sym c.eq.ensures ∙ c.if-eq.true)
