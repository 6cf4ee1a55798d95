use Rattle.std.proofs.Common.{◌≡◌, ◌≢◌, ◌∙◌, [], ap, sym, option_map, true≢false, arith}
use Rattle.std.proofs.lemmas.Slice.Eq.{bytes_eq-Decides}
use Rattle.clip_meaning.proofs.Fields.{Entry, got, not_got}
use Rattle.clip_meaning.proofs.field_map.FieldMap.get.Goals as goal

pub returns-in_err-field : goal.returns-in_err-field
returns-in_err-field c =
    ap (option_map (λ field. field.now.1)) c.from_residual.ensures
    ∙ not_got c.as_slice.result.now c.args.self.now c.args.name.now c.place.result ([], []) c.as_slice.ensures
    c.place.ensures (λ lt. absurd (omega (arith, c.in_err-field.ensures.lookup.3)))

pub returns-then-eq : goal.returns-then-eq
returns-then-eq c =
    let f = c.in_ok-field.field.now in
    let named : f.0 ≡ c.args.name.now = sym c.name.ensures ∙ sym c.as_str.ensures.value
    ∙ (bytes_eq-Decides _ _).0 (sym c.if-eq.ensures) in
    got c.as_slice.result.now c.args.self.now c.args.name.now c.place.result f c.as_slice.ensures c.place.ensures
    c.in_ok-field.ensures.lookup.3.0 c.in_ok-field.ensures.lookup.1 named

pub returns-else-eq : goal.returns-else-eq
returns-else-eq c =
    let f = c.in_ok-field.field.now in
    let named : f.0 ≢ c.args.name.now =
    λ e. true≢false (sym ((bytes_eq-Decides _ _).1 (c.as_str.ensures.value ∙ c.name.ensures ∙ e))
    ∙ sym c.if-eq.ensures) in
    not_got c.as_slice.result.now c.args.self.now c.args.name.now c.place.result f c.as_slice.ensures c.place.ensures
    (λ lt e. named (ap (λ (x : Entry). x.0) c.in_ok-field.ensures.lookup.1 ∙ e))
