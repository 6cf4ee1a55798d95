-- Equal standing queries, and lists that are equal one by one.
use Rattle.std.proofs.Common.{◌≡◌, ℕ, ◌+◌, ◌<◌, Bool, Bor, Option, Some, None, refl, List, [], ◌∷◌, ◌++◌, length}
use Rattle.std.proofs.Common.{get_or, take, map, sym, ap, subst, ◌∙◌}
use Rattle.std.proofs.lemmas.List.{map_more, get_or-map}
use Rattle.std.proofs.lemmas.Bool.{false≢true}
use Rattle.std.proofs.lemmas.Option.{none-some, same_Some}
use Rattle.std.specs.Bool.{Decides}
use Rattle.std.specs.Option.{option_eq, option_copied}
use Rattle.clip_standing.specs.Standing.{IsStanding}
use Rattle.clip_model.specs.Standing.{Standing}
use Rattle.clip_grammar.specs.Reading.{Reads}
use Rattle.clip_grammar.proofs.Uniqueness.{one_tree}

-- of standing queries with one text the trees are one
pub same_standing : (a b : Standing) → IsStanding a → IsStanding b → a.id ≡ b.id → a.text ≡ b.text
    → a.listener ≡ b.listener → a ≡ b
same_standing a b is js ids texts listeners =
    let trees : a.tree ≡ b.tree = one_tree b.text a.tree b.tree (subst (λ t. Reads t a.tree) texts is.reads) js.reads in
    λ i. record { id = ids i; text = texts i; tree = trees i; listener = listeners i }

-- `==` of options decides whether they show the same
pub options_decide : {T : Type 0} (E : Bor T → Bor T → Bool) → ((x y : Bor T) → Decides (E x y) (x.now ≡ y.now))
    → (a b : Option (Bor T)) → Decides (option_eq E a b) (option_copied a ≡ option_copied b)
options_decide E decide None None = (λ _. refl, λ _. refl)
options_decide E decide None (Some y) = (λ h. absurd (false≢true h), λ h. absurd (none-some _ h))
options_decide E decide (Some x) None = (λ h. absurd (false≢true h), λ h. absurd (none-some _ (sym h)))
options_decide E decide (Some x) (Some y) =
    (λ h. ap (λ z. Some z) ((decide x y).0 h), λ h. (decide x y).1 (same_Some _ _ h))

-- what lists show is the same up to one place more
pub same_more : {X Y : Type 0} (f : X → Y) (xs ys : List X) (i : ℕ) (x y : X) → i < length xs → i < length ys
    → x ≡ get_or xs i x → y ≡ get_or ys i y → f x ≡ f y
    → map f (take i xs) ≡ map f (take i ys) → map f (take (i + 1) xs) ≡ map f (take (i + 1) ys)
same_more f xs ys i x y lt within at there same before =
    map_more f xs i x lt ∙ ap (λ z. map f (take i xs) ++ f z ∷ []) (sym at) ∙ ap (λ s. s ++ f x ∷ []) before
    ∙ ap (λ z. map f (take i ys) ++ z ∷ []) same
    ∙ ap (λ z. map f (take i ys) ++ f z ∷ []) there ∙ sym (map_more f ys i y within)

-- where lists show the same, so do their elements at one place
pub same_at : {X Y : Type 0} (f : X → Y) (xs ys : List X) (i : ℕ) (x y : X) → i < length xs → i < length ys
    → x ≡ get_or xs i x → y ≡ get_or ys i y → map f xs ≡ map f ys → f x ≡ f y
same_at f xs ys i x y lt within at there same =
    ap f at ∙ sym (get_or-map f xs i x (f x) lt) ∙ ap (λ zs. get_or zs i (f x)) same ∙ get_or-map f ys i y (f x) within
    ∙ ap f (sym there)
