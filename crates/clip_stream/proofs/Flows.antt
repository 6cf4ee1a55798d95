-- Bytes that are gathered, and those of them that a writer takes.
use Rattle.std.proofs.Common.{◌≡◌, ℕ, ◌+◌, List, [], ◌++◌, length, take, drop, Option, Some, None, sym, ap, ◌∙◌, subst}
use Rattle.std.proofs.Common.{append_assoc, append-nil}
use Rattle.std.specs.Io.KnownBytes.{Appends}
use Rattle.std.proofs.Math.Seq.{take-append-add, take-append_seam}
use Rattle.std.proofs.lemmas.List.{take-append-drop}
use Rattle.clip_stream.specs.Device.{AppendsFront, HandsOver}

-- ---- what a writer takes

pub appends_on : (old mid new : Option (List ℕ)) (done more : List ℕ) → Appends old mid done → Appends mid new more
    → Appends old new (done ++ more)
appends_on None mid new done more a b = tt
appends_on (Some xs) None new done more a b = absurd a
appends_on (Some xs) (Some ys) None done more a b = absurd b
appends_on (Some xs) (Some ys) (Some zs) done more a b = b ∙ ap (λ v. v ++ more) a ∙ append_assoc xs done more

pub appends_none : (old : Option (List ℕ)) → Appends old old []
appends_none None = tt
appends_none (Some xs) = sym (append-nil xs)

-- nothing was taken of these bytes
pub none_taken : (taken : Option (List ℕ)) (bytes : List ℕ) → AppendsFront taken taken bytes
none_taken taken bytes = (0, appends_none taken)

pub front_on : (old mid new : Option (List ℕ)) (done bytes : List ℕ) → Appends old mid done
    → AppendsFront mid new bytes → AppendsFront old new (done ++ bytes)
front_on old mid new done bytes a f = (
  length done + f.0,
  subst (Appends old new) (sym (take-append-add done bytes f.0))
      (appends_on old mid new done (take f.0 bytes) a f.1),
)

-- a front of a text is one of a longer text
pub front_longer : (old new : Option (List ℕ)) (text more : List ℕ) → AppendsFront old new text
    → AppendsFront old new (text ++ more)
front_longer old new text more f =
    let there : take f.0 text ++ (drop f.0 text ++ more) ≡ text ++ more =
    sym (append_assoc (take f.0 text) (drop f.0 text) more) ∙ ap (λ x. x ++ more) (take-append-drop f.0 text) in (
      length (take f.0 text),
      subst (Appends old new) (sym (take-append_seam (take f.0 text) (drop f.0 text ++ more))
          ∙ ap (take (length (take f.0 text))) there) f.1,
    )

-- ---- what is put behind what was gathered

pub handed_none : (taken : Option (List ℕ)) (gathered : List ℕ) → HandsOver taken (gathered ++ []) taken gathered
handed_none taken gathered = record { moved = []; parts = append-nil gathered; taken = appends_none taken }

pub handed_more : (old mid new : Option (List ℕ)) (gathered held left first more : List ℕ)
    → HandsOver old (gathered ++ first) mid held → HandsOver mid (held ++ more) new left
    → HandsOver old (gathered ++ (first ++ more)) new left
handed_more old mid new gathered held left first more p q = record {
  moved = p.moved ++ q.moved;
  parts = sym (append_assoc gathered first more) ∙ ap (λ z. z ++ more) p.parts ∙ append_assoc p.moved held more
      ∙ ap (λ z. p.moved ++ z) q.parts ∙ sym (append_assoc p.moved q.moved left);
  taken = appends_on old mid new p.moved q.moved p.taken q.taken;
}

-- of what is put next a front was taken
pub front_behind : (old mid new : Option (List ℕ)) (gathered held first more : List ℕ)
    → HandsOver old (gathered ++ first) mid held → AppendsFront mid new (held ++ more)
    → AppendsFront old new (gathered ++ (first ++ more))
front_behind old mid new gathered held first more p f =
    subst (AppendsFront old new) (sym (append_assoc p.moved held more) ∙ ap (λ z. z ++ more) (sym p.parts)
    ∙ append_assoc gathered first more)
    (front_on old mid new p.moved (held ++ more) p.taken f)

-- what was put is a front of what was to be put
pub front_put : (old mid : Option (List ℕ)) (gathered held first more : List ℕ)
    → HandsOver old (gathered ++ first) mid held → AppendsFront old mid (gathered ++ (first ++ more))
front_put old mid gathered held first more p =
    front_behind old mid mid gathered held first more p (none_taken mid (held ++ more))
