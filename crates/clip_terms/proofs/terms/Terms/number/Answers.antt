use Rattle.std.proofs.Common.{List, ◌∙◌, ap, subst, length}
use Rattle.std.specs.Prelude.{Ok, Err}
use Rattle.std.specs.List.Sorted.{IsBinarySearchResult, IsSearchInRange}
use Rattle.clip_extract.specs.Keys.{key_of}
use Rattle.clip_extract.specs.declared.key.Key.{Key}
use Rattle.clip_extract.specs.contracts.key.KeyOrd.TheImpl as key_ord
use Rattle.clip_terms.specs.Terms.{number_of}
use Rattle.clip_terms.proofs.Numbers.{searched_number}
use Rattle.clip_terms.proofs.terms.Terms.number.Goals as goal

pub returns-in-Ok : goal.returns-in-Ok
returns-in-Ok c =
    searched_number c.self.inside.keys.items c.args.key.now (Ok c.in-Ok.number) c.self.invariant.0
    (subst (λ (keys : List Key). IsSearchInRange (Ok c.in-Ok.number) (length keys)) c.deref.ensures.value
    c.in-Ok.ensures.bound)
    (subst (λ (keys : List Key). IsBinarySearchResult (λ k. key_ord.ghosts.cmp k c.args.key.now) keys
    (Ok c.in-Ok.number)) c.deref.ensures.value c.in-Ok.ensures.position)
    ∙ ap (λ terms. number_of terms (key_of c.args.key.now)) c.self.view_is

pub returns-in-Err : goal.returns-in-Err
returns-in-Err c =
    searched_number c.self.inside.keys.items c.args.key.now (Err c.in-Err.field-0) c.self.invariant.0
    (subst (λ (keys : List Key). IsSearchInRange (Err c.in-Err.field-0) (length keys)) c.deref.ensures.value
    c.in-Err.ensures.bound)
    (subst (λ (keys : List Key). IsBinarySearchResult (λ k. key_ord.ghosts.cmp k c.args.key.now) keys
    (Err c.in-Err.field-0)) c.deref.ensures.value c.in-Err.ensures.position)
    ∙ ap (λ terms. number_of terms (key_of c.args.key.now)) c.self.view_is
