use Rattle.std.proofs.Common.{sym, ◌∙◌, subst}
use Rattle.clip_extract.specs.Keys.{key_of}
use Rattle.clip_extract.specs.Extraction.{query_keys}
use Rattle.clip_segment.specs.Index.{IsIndexOf}
use Rattle.clip_segment.specs.Steps.IndexView.{index_of}
use Rattle.clip_segment.proofs.Answering.{list_of_key, no_number}
use Rattle.clip_segment.proofs.Asked.{keys_asked}
use Rattle.clip_segment.proofs.query_index.QueryIndex.with_key.Goals as goal

pub returns-in-Some : goal.returns-in-Some
returns-in-Some c trees is =
    let inside : IsIndexOf trees (index_of c.self.inside) = subst (IsIndexOf trees) (sym c.self.view_is) is in
    c.get.ensures ∙ list_of_key query_keys trees c.self.inside.terms c.self.inside.positions inside.positions
    (key_of c.args.key.now) c.in-Some.number c.in-Some.ensures

pub returns-in-None : goal.returns-in-None
returns-in-None c trees is =
    let inside : IsIndexOf trees (index_of c.self.inside) = subst (IsIndexOf trees) (sym c.self.view_is) is in
    sym (no_number query_keys trees c.self.inside.terms keys_asked inside.terms (key_of c.args.key.now)
    c.in-None.ensures)
