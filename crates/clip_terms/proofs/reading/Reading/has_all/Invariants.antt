use Rattle.std.proofs.Common.{◌≡◌, drop}
use Rattle.std.specs.List.{list_all}
use Rattle.clip_terms.specs.Terms.{term_at}
use Rattle.clip_terms.specs.Reading.{has_key}
use Rattle.clip_terms.proofs.reading.Reading.has_all.Given as goal

abbrev pub invariant-loop-number : goal.invariant-loop-number
invariant-loop-number l =
    list_all (λ n. has_key l.self.article.fields (term_at l.self.terms n)) (drop l.number-index l.run)
    ≡ list_all (λ n. has_key l.self.article.fields (term_at l.self.terms n)) l.run
