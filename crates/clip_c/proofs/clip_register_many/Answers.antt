use Rattle.std.proofs.Common.{◌≡◌, Option, Some, sym, subst}
use Rattle.clip_engine.specs.Calls.{Between, ManyTo}
use Rattle.clip_engine.specs.declared.kept.Kept.{Kept}
use Rattle.clip_c.proofs.clip_register_many.Goals as goal

-- what holds of what was taken and of what is put
between : (old new : Option Kept) (a b : Kept) (holds : Kept → Kept → Type 0) → Some a ≡ old → new ≡ Some b
    → holds a b → Between old new holds
between old new a b holds was is h =
    subst (λ o. Between o new holds) was (subst (λ n. Between (Some a) n holds) (sym is) h)

pub returns : goal.returns
returns c =
    between _ _ c.take-kept.result c.register_many-code.new.self
    (ManyTo c.args.listed.now c.register_many-code.result c.register_many-code.new.which) c.take-kept.ensures.0
    c.put.ensures c.register_many-code.ensures
