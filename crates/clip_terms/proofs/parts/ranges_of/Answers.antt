use Rattle.std.proofs.Common.{ℕ, List, [], map, subst}
use Rattle.clip_extract.specs.Keys.{Word, Front, key_of}
use Rattle.clip_terms.specs.Steps.Leads.{heading, IsPart}
use Rattle.clip_terms.proofs.parts.ranges_of.Goals as goal

pub returns-in-Some-clause-words : goal.returns-in-Some-clause-words
returns-in-Some-clause-words c =
    let terms = map key_of c.args.keys.now in
    let part = c.in-Some.part.now in
    subst (λ (field : List ℕ). IsPart terms (heading (Word field [])) part.words.start part.words.end)
    c.in-Some.ensures.field
    (c.in-Some.ensures.part terms c.requires.parts).words

pub returns-in-Some-clause-fronts : goal.returns-in-Some-clause-fronts
returns-in-Some-clause-fronts c =
    let terms = map key_of c.args.keys.now in
    let part = c.in-Some.part.now in
    subst (λ (field : List ℕ). IsPart terms (heading (Front field [])) part.fronts.start part.fronts.end)
    c.in-Some.ensures.field
    (c.in-Some.ensures.part terms c.requires.parts).fronts
