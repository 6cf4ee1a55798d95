-- Which texts are in UTF-8, and the numbers of what is refused.
use Rattle.std.proofs.Common.{◌≡◌, ℕ, ◌<◌, List, [], ◌∷◌, map, length, get_or, Option, Some, None, Err}
use Rattle.std.proofs.Common.{Bool, true, false, ap, subst, arith, inl, inr, String, string_bytes, option_map}
use Rattle.std.specs.List.{All}
use Rattle.std.specs.Str.{IsUtf8}
use Rattle.std.specs.declared.alloc.Global.{Global}
use Rattle.std.proofs.lemmas.List.{get_or-map, length-map}
use Rattle.std.proofs.lemmas.List.Elements.{All-cons}
use Rattle.std.proofs.lemmas.Str.{IsUtf8-string_bytes}
use Rattle.clip_meaning.specs.Article.{pairs_of}
use Rattle.clip_protocol.specs.Steps.Views.{listing_view}
use Rattle.clip_protocol.specs.declared.refusal.Unread.{Unread}
use Rattle.clip_protocol.specs.declared.refusal.Unread.TheVariants as unread
use Rattle.clip_protocol.specs.declared.request.Listing as code
use Rattle.clip_engine.specs.Calls.{IsRefused}
use Rattle.clip_engine.specs.Code.{number_of}
use Rattle.clip_engine.specs.Engine.{EngineIs, Registers}
use Rattle.clip_engine.specs.Texts.{IsField, IsNoText, IsReadable, fields_of, listing_at, listings_at}
use Rattle.clip_engine.specs.declared.kept.Field.{Field}
use Rattle.clip_engine.specs.declared.listed.Listed.{Listed}

-- ---- texts

-- where more texts are read, fewer of them are none
pub unread_of : (all some : Type 0) (code : ℕ) → (all → some) → IsNoText some code → IsNoText all code
unread_of all some code within (inl none) = inl (none.0, λ are. none.1 (within are))
unread_of all some code within (inr short) = inr short

-- texts in hand are in UTF-8
pub pairs_read : (pairs : List (String Global × String Global)) → All IsField (pairs_of pairs)
pairs_read [] = λ k d lt. absurd (omega arith)
pairs_read (p ∷ pairs) =
    All-cons IsField (string_bytes p.0, string_bytes p.1) (pairs_of pairs)
    (IsUtf8-string_bytes p.0, IsUtf8-string_bytes p.1) (pairs_read pairs)

text_inside : (o : Option (String Global)) (has : Bool) (bytes : List ℕ)
    → option_map string_bytes o ≡ (listing_at [] [] has bytes).listener → has ≡ true → IsUtf8 bytes
text_inside (Some s) true bytes same is = subst IsUtf8 (some_same same) (IsUtf8-string_bytes s)
  where
    some_same : {X : Type 0} {x y : X} → Some x ≡ Some y → x ≡ y
    some_same h = cc
text_inside None true bytes same is = absurd (other same)
  where
    other : {X : Type 0} {x : X} → None ≡ Some x → ⊥
    other h = cc
text_inside o false bytes same is = absurd (cc is)

listing_read : (l : code.Listing) (q : Listed)
    → listing_view l ≡ listing_at q.id.now q.query.now q.has_listener q.listener.now → IsReadable q
listing_read l q same = (
  subst IsUtf8 (ap (λ v. v.id) same) (IsUtf8-string_bytes l.id),
  subst IsUtf8 (ap (λ v. v.query) same) (IsUtf8-string_bytes l.query),
  text_inside l.listener q.has_listener q.listener.now (ap (λ v. v.listener) same),
)

-- so are those of queries in hand
pub listings_read : (listings : List code.Listing) (listed : List Listed)
    → map listing_view listings ≡ listings_at listed → All IsReadable listed
listings_read listings [] same = λ k d lt. absurd (omega arith)
listings_read [] (q ∷ listed) same = absurd (cc same)
listings_read (l ∷ listings) (q ∷ listed) same =
    All-cons IsReadable q listed (listing_read l q (first same)) (listings_read listings listed (rest same))
  where
    first : {X : Type 0} {x y : X} {xs ys : List X} → x ∷ xs ≡ y ∷ ys → x ≡ y
    first h = cc

    rest : {X : Type 0} {x y : X} {xs ys : List X} → x ∷ xs ≡ y ∷ ys → xs ≡ ys
    rest h = cc

-- a name, or a text, of one field
abbrev pair_of : Field → List ℕ × List ℕ
pair_of f = (f.name.now, f.text.now)

field_read : (fields : List Field) (i : ℕ) (d : Field) → i < length fields → All IsField (fields_of fields)
    → IsField (pair_of (get_or fields i d))
field_read fields i d lt all =
    subst IsField (get_or-map pair_of fields i d (pair_of d) lt)
    (all i (pair_of d) (omega (arith, length-map fields pair_of)))

pub name_unread : (fields : List Field) (i : ℕ) (d : Field) (code : ℕ) → i < length fields
    → IsNoText (IsUtf8 (get_or fields i d).name.now) code → IsNoText (All IsField (fields_of fields)) code
name_unread fields i d code lt = unread_of _ _ code (λ all. (field_read fields i d lt all).0)

pub text_unread : (fields : List Field) (i : ℕ) (d : Field) (code : ℕ) → i < length fields
    → IsNoText (IsUtf8 (get_or fields i d).text.now) code → IsNoText (All IsField (fields_of fields)) code
text_unread fields i d code lt = unread_of _ _ code (λ all. (field_read fields i d lt all).1)

-- ---- refusals

pub refused_as : (id query : List ℕ) (has : Bool) (listener : List ℕ) (old new : EngineIs) (why : Unread) (code : ℕ)
    → code ≡ number_of why → Registers old new (listing_at id query has listener) (Err why)
    → IsRefused id query has listener old new code
refused_as id query has listener old new (unread.Refused r) code told refused = inr (r, told, refused)
refused_as id query has listener old new unread.NoMemory code told refused = inl (inr told)
