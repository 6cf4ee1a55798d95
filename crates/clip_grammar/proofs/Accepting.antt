-- `accepts` where it looks ahead.
use Rattle.std.proofs.Common.{◌≡◌, ◌≢◌, ℕ, Bool, true, false, List, ◌∷◌, refl, ap, ◌∙◌}
use Rattle.clip_grammar.specs.Tokens as token
use Rattle.clip_grammar.specs.Tokens.{Token}
use Rattle.clip_grammar.specs.Steps.Parser.{accepts, begins_colon}
use Rattle.clip_grammar.specs.Reading.{begins_colon_star}
use Rattle.clip_grammar.specs.declared.stage.Stage.{Stage}
use Rattle.clip_grammar.specs.declared.stage.Stage.TheVariants.{Fresh, AfterSign, AfterField}

pub accepts_plain : (text : List ℕ) (ts : List Token) (depth : ℕ) (any : Bool) (stage : Stage)
    → begins_colon ts ≡ false → accepts (token.Plain text ∷ ts) depth any stage ≡ accepts ts depth true Fresh
unfolding accepts
accepts_plain text (token.Colon ∷ ts) depth any stage h = cc
accepts_plain text ts depth any stage h = refl

pub accepts_field : (text : List ℕ) (ts us : List Token) (depth : ℕ) (any : Bool) (stage : Stage)
    → ts ≡ token.Colon ∷ us → stage ≢ AfterField → accepts (token.Plain text ∷ ts) depth any stage
    ≡ accepts us depth any AfterField
unfolding accepts
accepts_field text ts us depth any stage e k = ap (λ x. accepts (token.Plain text ∷ x) depth any stage) e ∙ at stage k
  where
    at : (stage : Stage) → stage ≢ AfterField → accepts (token.Plain text ∷ token.Colon ∷ us) depth any stage
        ≡ accepts us depth any AfterField
    at AfterField k = absurd (k refl)
    at Fresh k = refl
    at AfterSign k = refl

pub accepts_all : (ts vs : List Token) (depth : ℕ) (any : Bool) (stage : Stage) → ts ≡ token.Colon ∷ token.Star ∷ vs
    → stage ≢ AfterField → accepts (token.Star ∷ ts) depth any stage ≡ accepts vs depth true Fresh
unfolding accepts
accepts_all ts vs depth any stage e k = ap (λ x. accepts (token.Star ∷ x) depth any stage) e ∙ at stage k
  where
    at : (stage : Stage) → stage ≢ AfterField → accepts (token.Star ∷ token.Colon ∷ token.Star ∷ vs) depth any stage
        ≡ accepts vs depth true Fresh
    at AfterField k = absurd (k refl)
    at Fresh k = refl
    at AfterSign k = refl

pub lone_star : (ts : List Token) (depth : ℕ) (any : Bool) (stage : Stage) → begins_colon_star ts ≡ false
    → accepts (token.Star ∷ ts) depth any stage ≡ false
unfolding accepts
lone_star (token.Colon ∷ token.Star ∷ ts) depth any stage h = cc
lone_star ts depth any stage h = refl
