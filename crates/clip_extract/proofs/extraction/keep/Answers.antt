use Rattle.std.proofs.Common.{map, take, drop, cond, sym, ap, ◌∙◌, arith, refl, ⊎_elim}
use Rattle.std.proofs.lemmas.List.{length-map}
use Rattle.clip_extract.specs.Keys.{key_of}
use Rattle.clip_extract.specs.Steps.Groups.{kept}
use Rattle.clip_extract.proofs.Cuts.{front_removed, rest_removed, front_cut, rest_cut, parts}
use Rattle.clip_extract.proofs.extraction.keep.Goals as goal

pub returns-in-Must-clause-front : goal.returns-in-Must-clause-front
returns-in-Must-clause-front c =
    let xs = c.args.keys.now.items in
    ap (λ ys. take c.args.start (map key_of ys)) c.remove.ensures
    ∙ front_removed key_of xs c.args.start c.args.middle (omega (arith, c.args.keys.now.ok))

pub returns-in-Must-clause-kept : goal.returns-in-Must-clause-kept
returns-in-Must-clause-kept c =
    let xs = c.args.keys.now.items in
    let before = drop c.args.start (take c.args.middle (map key_of xs)) in
    let more = drop c.args.middle (map key_of xs) in
    ap (λ ys. drop c.args.start (map key_of ys)) c.remove.ensures
    ∙ rest_removed key_of xs c.args.start c.args.middle (omega (arith, c.args.keys.now.ok))
    ∙ ap (λ b. cond b more before) c.if-outweighs.ensures
    ∙ ap (λ o. kept c.args.found o c.args.weight before more) (sym c.in-Must.is)

pub returns-in-Must-2-clause-front : goal.returns-in-Must-2-clause-front
returns-in-Must-2-clause-front c =
    ap (λ ys. take c.args.start (map key_of ys)) c.truncate.ensures.items
    ∙ front_cut key_of c.args.keys.now.items c.args.start c.args.middle c.requires.low

pub returns-in-Must-2-clause-kept : goal.returns-in-Must-2-clause-kept
returns-in-Must-2-clause-kept c =
    let xs = c.args.keys.now.items in
    let before = drop c.args.start (take c.args.middle (map key_of xs)) in
    let more = drop c.args.middle (map key_of xs) in
    ap (λ ys. drop c.args.start (map key_of ys)) c.truncate.ensures.items
    ∙ rest_cut key_of xs c.args.start c.args.middle
    ∙ ap (λ b. cond b more before) c.if-outweighs.ensures
    ∙ ap (λ o. kept c.args.found o c.args.weight before more) (sym c.in-Must-2.is)

pub returns-in-Should : goal.returns-in-Should
returns-in-Should c =
    let xs = map key_of c.args.keys.now.items in
    record {
      front = refl;
      long = omega arith;
      kept = parts xs c.args.start c.args.middle c.requires.low
          (omega (arith, length-map c.args.keys.now.items key_of, c.args.keys.now.ok))
          ∙ ⊎_elim
          (λ e. ap (λ o. kept c.args.found o c.args.weight (drop c.args.start (take c.args.middle xs))
          (drop c.args.middle xs)) (sym e))
          (λ e. ap (λ o. kept c.args.found o c.args.weight (drop c.args.start (take c.args.middle xs))
          (drop c.args.middle xs)) (sym e))
          c.in-Should.is;
    }
