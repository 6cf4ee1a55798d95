use Rattle.std.proofs.Common.{◌≡◌, ◌<◌, List, ap, sym, ◌∙◌, arith, rules, map, drop, false, not, bytes_eq, Global}
use Rattle.std.specs.Arc.{arc_str_bytes}
use Rattle.std.specs.List.{starts_with}
use Rattle.std.specs.declared.sync.ArcStr.{ArcStr}
use Rattle.std.proofs.lemmas.List.{length-map}
use Rattle.std.proofs.lemmas.Bool.Decides.{nat_tests}
use Rattle.clip_grammar.specs.Tree.{Tree, tree_of}
use Rattle.clip_grammar.specs.declared.query.Query.{Term, Phrase, Prefix, the_lemmas}
use Rattle.clip_near.specs.Near.{stands_at}
use Rattle.clip_near.proofs.Places.{stands_past, term_there, prefix_there, phrase_there, no_phrase}
use Rattle.clip_near.proofs.place.stands.Goals as goal

pub returns-in_default : goal.returns-in_default
returns-in_default c =
    sym (stands_past (tree_of c.args.query.now) c.args.words.now c.args.position (sym c.in_default.ensures))

pub returns-in-Term : goal.returns-in-Term
returns-in-Term c =
    let field = c.in-Term.field in
    let word = c.in-Term.word in
    let tree : tree_of (Term field word) ≡ Tree.Term (arc_str_bytes field) (arc_str_bytes word) =
    search (rules, the_lemmas) in
    term_there (tree_of c.args.query.now) (arc_str_bytes field) (arc_str_bytes word) c.in-Some.first.now
    c.as_str.result.now c.args.words.now c.args.position c.eq.result (ap tree_of c.in-Term.is ∙ tree)
    (sym c.in-Some.ensures) c.as_str.ensures.value c.eq.ensures

pub returns-then-not-is_empty : goal.returns-then-not-is_empty
returns-then-not-is_empty c =
    let field = c.in-Phrase.field in
    let phrase = c.in-Phrase.phrase in
    let words = map arc_str_bytes phrase.items in
    let tree : tree_of (Phrase field phrase) ≡ Tree.Phrase (arc_str_bytes field) words = search (rules, the_lemmas) in
    let some : 0 < phrase.len = grind (arith, nat_tests, c.is_empty.ensures, c.if-not-is_empty.true) in
    phrase_there (tree_of c.args.query.now) (arc_str_bytes field) words c.args.words.now c.args.position
    c.stands_at.result (ap tree_of c.in-Phrase.is ∙ tree) (omega (arith, some, length-map phrase.items arc_str_bytes))
    (c.stands_at.ensures
    ∙ ap (λ (ps : List (ArcStr Global)). starts_with bytes_eq (drop c.args.position c.args.words.now)
    (map arc_str_bytes ps)) c.deref.ensures.value)

pub returns-else-not-is_empty : goal.returns-else-not-is_empty
returns-else-not-is_empty c =
    let field = c.in-Phrase.field in
    let phrase = c.in-Phrase.phrase in
    let words = map arc_str_bytes phrase.items in
    let tree : tree_of (Phrase field phrase) ≡ Tree.Phrase (arc_str_bytes field) words = search (rules, the_lemmas) in
    let none : phrase.len ≡ 0 = grind (arith, nat_tests, c.is_empty.ensures, c.if-not-is_empty.false) in
    let stands : false ≡ stands_at (tree_of c.args.query.now) c.args.words.now c.args.position =
    no_phrase (tree_of c.args.query.now) (arc_str_bytes field) words c.args.words.now c.args.position
    (ap tree_of c.in-Phrase.is ∙ tree) (omega (arith, none, length-map phrase.items arc_str_bytes)) in
    ap not c.if-not-is_empty.false ∙ stands

pub returns-in-Prefix : goal.returns-in-Prefix
returns-in-Prefix c =
    let field = c.in-Prefix.field in
    let front = c.in-Prefix.front in
    let tree : tree_of (Prefix field front) ≡ Tree.Prefix (arc_str_bytes field) (arc_str_bytes front) =
    search (rules, the_lemmas) in
    prefix_there (tree_of c.args.query.now) (arc_str_bytes field) (arc_str_bytes front) c.in-Some.first.now
    c.as_bytes.result.now c.as_bytes-in-Prefix.result.now c.args.words.now c.args.position c.starts_with.result
    (ap tree_of c.in-Prefix.is ∙ tree) (sym c.in-Some.ensures) c.as_bytes.ensures.value
    (c.as_bytes-in-Prefix.ensures.value ∙ c.deref-in-Prefix.ensures.value) c.starts_with.ensures.value
