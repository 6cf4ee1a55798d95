use Rattle.std.proofs.Common.{◌≡◌, List, ◌++◌, OnOk, map, take, subst, ap, ◌∙◌}
use Rattle.std.specs.Arc.{arc_str_bytes}
use Rattle.clip_meaning.specs.Hits.{HitValue, hit_value}
use Rattle.clip_meaning.specs.Steps.Marks.{raised}
use Rattle.clip_meaning.proofs.RaisedFlags.{hits_before}
use Rattle.clip_meaning.proofs.flags.FieldFlags.add_hits.Goals as goal

pub returns : goal.returns
returns c =
    let name = arc_str_bytes c.args.name.now in
    let inside = c.self.inside in
    let same : raised name (take inside.end c.deref.result.now) ≡ raised name c.args.self.now =
    ap (λ flags. raised name (take inside.end flags)) c.deref.ensures.value
    ∙ hits_before name inside.flags.items inside.end c.self.invariant ∙ ap (raised name) c.self.view_is in
    subst (λ (hits : List HitValue). OnOk c.add_raised.result (map hit_value c.add_raised.new.found.items
    ≡ map hit_value c.args.found.now.items ++ hits)) same c.add_raised.ensures
