-- Lines cut from known bytes.
use Rattle.std.proofs.Common.{◌≡◌, ℕ, ◌<◌, ◌==◌, ◌||◌, List, [], ◌∷◌, ◌++◌, length, Bool, true, false, cond, Option}
use Rattle.std.proofs.Common.{refl, sym, ap, ap₂, ◌∙◌, arith, append_assoc, append-nil, true≢false, suc, not, inl, inr}
use Rattle.std.proofs.lemmas.Bool.Decides.{nat_tests}
use Rattle.clip_stream.proofs.Bytes.{cut_twice, cut_none, cut_some, cut_nothing, consumes_none, consumes_more}
use Rattle.clip_stream.proofs.Bytes.{consumes_kept}
use Rattle.std.specs.Io.KnownBytes.{Consumes, Keeps}
use Rattle.clip_stream.specs.Steps.Reading.{Reading, has_feed, first_line, after_line, cut, Reads, Gathers, FindsLine}
use Rattle.clip_stream.specs.Steps.Reading.{FindsNone}

-- ---- a list whose bytes are tested one by one

step_first : (t r : Bool) (b : ℕ) (bytes xs : List ℕ) → (t || r) ≡ false → (r ≡ false → xs ≡ bytes)
    → cond t [] (b ∷ xs) ≡ b ∷ bytes
step_first true r b bytes xs h more = absurd (true≢false h)
step_first false r b bytes xs h more = ap (λ ys. b ∷ ys) (more h)

step_after : (t r : Bool) (bytes xs : List ℕ) → (t || r) ≡ false → (r ≡ false → xs ≡ []) → cond t bytes xs ≡ []
step_after true r bytes xs h more = absurd (true≢false h)
step_after false r bytes xs h more = more h

pub first_line-no_feed : (bytes : List ℕ) → has_feed bytes ≡ false → first_line bytes ≡ bytes
first_line-no_feed [] h = refl
first_line-no_feed (b ∷ bytes) h =
    step_first (b == 10) (has_feed bytes) b bytes (first_line bytes) h (first_line-no_feed bytes)

pub after_line-no_feed : (bytes : List ℕ) → has_feed bytes ≡ false → after_line bytes ≡ []
after_line-no_feed [] h = refl
after_line-no_feed (b ∷ bytes) h =
    step_after (b == 10) (has_feed bytes) bytes (after_line bytes) h (after_line-no_feed bytes)

-- a front without a line feed
front_step : (t r : Bool) (b : ℕ) (xs ys zs : List ℕ) → (t || r) ≡ false → (r ≡ false → xs ≡ ys ++ zs)
    → cond t [] (b ∷ xs) ≡ b ∷ (ys ++ zs)
front_step true r b xs ys zs h more = absurd (true≢false h)
front_step false r b xs ys zs h more = ap (λ v. b ∷ v) (more h)

pub first_line-front : (front bytes : List ℕ) → has_feed front ≡ false
    → first_line (front ++ bytes) ≡ front ++ first_line bytes
first_line-front [] bytes h = refl
first_line-front (b ∷ front) bytes h =
    front_step (b == 10) (has_feed front) b (first_line (front ++ bytes)) front (first_line bytes) h
    (first_line-front front bytes)

after_step : (t r : Bool) (xs ys zs : List ℕ) → (t || r) ≡ false → (r ≡ false → ys ≡ zs) → cond t xs ys ≡ zs
after_step true r xs ys zs h more = absurd (true≢false h)
after_step false r xs ys zs h more = more h

pub after_line-front : (front bytes : List ℕ) → has_feed front ≡ false → after_line (front ++ bytes) ≡ after_line bytes
after_line-front [] bytes h = refl
after_line-front (b ∷ front) bytes h =
    after_step (b == 10) (has_feed front) (front ++ bytes) (after_line (front ++ bytes)) (after_line bytes) h
    (after_line-front front bytes)

-- a front with a line feed
feed_step : {A : Type 0} (t r : Bool) (x y z : A) → (t || r) ≡ true → (r ≡ true → y ≡ z) → cond t x y ≡ cond t x z
feed_step true r x y z h more = refl
feed_step false r x y z h more = more h

pub first_line-feed : (front bytes : List ℕ) → has_feed front ≡ true → first_line (front ++ bytes) ≡ first_line front
first_line-feed [] bytes h = absurd (true≢false (sym h))
first_line-feed (b ∷ front) bytes h =
    feed_step (b == 10) (has_feed front) [] _ _ h (λ e. ap (λ xs. b ∷ xs) (first_line-feed front bytes e))

onto_cond : (t : Bool) (x y bytes : List ℕ) → cond t x y ++ bytes ≡ cond t (x ++ bytes) (y ++ bytes)
onto_cond true x y bytes = refl
onto_cond false x y bytes = refl

pub after_line-feed : (front bytes : List ℕ) → has_feed front ≡ true
    → after_line (front ++ bytes) ≡ after_line front ++ bytes
after_line-feed [] bytes h = absurd (true≢false (sym h))
after_line-feed (b ∷ front) bytes h =
    feed_step (b == 10) (has_feed front) (front ++ bytes) _ _ h (after_line-feed front bytes)
    ∙ sym (onto_cond (b == 10) front (after_line front) bytes)

shorter_step : (t r : Bool) (x y : List ℕ) → (t || r) ≡ true → (r ≡ true → length y < length x)
    → length (cond t x y) < suc (length x)
shorter_step true r x y h more = omega arith
shorter_step false r x y h more = let less = more h in omega arith

pub after_line-shorter : (bytes : List ℕ) → has_feed bytes ≡ true → length (after_line bytes) < length bytes
after_line-shorter [] h = absurd (true≢false (sym h))
after_line-shorter (b ∷ bytes) h =
    shorter_step (b == 10) (has_feed bytes) bytes (after_line bytes) h (after_line-shorter bytes)

pub has_feed-append : (xs ys : List ℕ) → has_feed xs ≡ false → has_feed ys ≡ false → has_feed (xs ++ ys) ≡ false
has_feed-append [] ys h k = k
has_feed-append (x ∷ xs) ys h k = or_step (x == 10) (has_feed xs) _ h (λ e. has_feed-append xs ys e k)
  where
    or_step : (t r s : Bool) → (t || r) ≡ false → (r ≡ false → s ≡ false) → (t || s) ≡ false
    or_step true r s h more = h
    or_step false r s h more = more h

or_later : (t r : Bool) → r ≡ true → (t || r) ≡ true
or_later true r h = refl
or_later false r h = h

has_feed-later : (xs ys : List ℕ) → has_feed ys ≡ true → has_feed (xs ++ ys) ≡ true
has_feed-later [] ys h = h
has_feed-later (x ∷ xs) ys h = or_later (x == 10) _ (has_feed-later xs ys h)

pub some_feed : (bytes : List ℕ) → has_feed bytes ≡ true → 0 < length bytes
some_feed [] h = absurd (true≢false (sym h))
some_feed (b ∷ bytes) h = omega arith

-- ---- what was given meanwhile

pub reads_same : (old now new : Reading) (left_old left : Option (List ℕ)) → Reads old now left_old left
    → new.is_at_end ≡ now.is_at_end → Reads old new left_old left
reads_same old now new left_old left r same =
    record { bytes = r.bytes; given = r.given; idle = λ e. let i = r.idle e in (i.0, same ∙ i.1) }

pub reads_kept : (old now new : Reading) (left_old left left_new : Option (List ℕ)) → Reads old now left_old left
    → Keeps left left_new → old.is_at_end ≡ false → Reads old new left_old left_new
reads_kept old now new left_old left left_new r kept before =
    record {
      bytes = r.bytes;
      given = consumes_kept left_old left left_new r.bytes r.given kept;
      idle =
          λ e. absurd (true≢false (sym e ∙ before));
    }

-- ---- the turns of the loop that takes a line

pub gathers_nothing : (r : Reading) (left : Option (List ℕ)) (line : List ℕ) → line ≡ [] → Gathers r r left left line
gathers_nothing r left line e =
    record {
      reads = record { bytes = []; given = consumes_none left; idle = λ at_end. (refl, at_end) };
      front =
          [];
      parts = append-nil r.pending;
      unended = refl;
      is = e ∙ sym cut_nothing;
    }

pub gathered_found : (old now new : Reading) (left_old left : Option (List ℕ)) (line new_line : List ℕ)
    → Gathers old now left_old left line → has_feed now.pending ≡ true
    → new_line ≡ cut (line ++ first_line now.pending) → new.pending ≡ after_line now.pending
    → new.is_at_end ≡ now.is_at_end → FindsLine true old new left_old left new_line
unfolding reads_same
gathered_found old now new left_old left line new_line g h e rest same =
    let first = ap first_line g.parts ∙ first_line-front g.front now.pending g.unended in
    let after = ap after_line g.parts ∙ after_line-front g.front now.pending g.unended in
    record {
      reads = reads_same old now new left_old left g.reads same;
      takes = (
        inl (ap has_feed g.parts ∙ has_feed-later g.front now.pending h),
        e ∙ ap (λ xs. cut (xs ++ first_line now.pending)) g.is ∙ cut_twice g.front (first_line now.pending)
            ∙ ap cut (sym first),
        rest ∙ sym after,
      );
    }

-- the line so far, of which all that was pending is a part
gathered_line : (line pending front new_line : List ℕ) → has_feed pending ≡ false → line ≡ cut front
    → new_line ≡ cut (line ++ first_line pending) → new_line ≡ cut (front ++ pending)
gathered_line line pending front new_line h is e =
    e ∙ ap (λ xs. cut (line ++ xs)) (first_line-no_feed pending h) ∙ ap (λ xs. cut (xs ++ pending)) is
    ∙ cut_twice front pending

pub gathered_more : (old now new : Reading) (left_old left left_new : Option (List ℕ)) (line new_line : List ℕ)
    → Gathers old now left_old left line → has_feed now.pending ≡ false
    → new_line ≡ cut (line ++ first_line now.pending) → Consumes left left_new new.pending
    → (old.is_at_end ≡ true → (new.pending ≡ []) × (new.is_at_end ≡ true)) → Gathers old new left_old left_new new_line
gathered_more old now new left_old left left_new line new_line g h e given idle = record {
  reads = record {
    bytes = g.reads.bytes ++ new.pending;
    given = consumes_more left_old left left_new g.reads.bytes new.pending g.reads.given given;
    idle = λ at_end. let more = idle at_end in (ap₂ (λ x y. x ++ y) (g.reads.idle at_end).0 more.0, more.1);
  };
  front = g.front ++ now.pending;
  parts = sym (append_assoc old.pending g.reads.bytes new.pending) ∙ ap (λ xs. xs ++ new.pending) g.parts;
  unended = has_feed-append g.front now.pending g.unended h;
  is = gathered_line line now.pending g.front new_line h g.is e;
}

empty : (xs : List ℕ) → length xs ≡ 0 → xs ≡ []
empty [] e = refl
empty (x ∷ xs) e = absurd (omega arith)

pub gathered_end : (found : Bool) (old now : Reading) (left_old left : Option (List ℕ)) (line : List ℕ)
    → Gathers old now left_old left line → found ≡ not (length line == 0) → now.pending ≡ [] → now.is_at_end ≡ true
    → FindsLine found old now left_old left line
gathered_end false old now left_old left line g f none end =
    let nothing : length line ≡ 0 = grind (arith, nat_tests) in
    let front : g.front ≡ [] = empty g.front (cut_none g.front (sym (ap length g.is) ∙ nothing)) in
    record { reads = g.reads; takes = (g.parts ∙ ap₂ (λ x y. x ++ y) front none, none, end) }
gathered_end true old now left_old left line g f none end =
    let whole : old.pending ++ g.reads.bytes ≡ g.front = g.parts ∙ ap (λ xs. g.front ++ xs) none ∙ append-nil g.front in
    let any : 0 < length line = grind (arith, nat_tests) in
    let bytes = ap length g.is in
    let some : 0 < length g.front = cut_some g.front (omega (arith, any, bytes)) in
    record {
      reads = g.reads;
      takes = (
        inr (end, omega (arith, some, ap length whole)),
        g.is ∙ ap cut (sym (ap first_line whole ∙ first_line-no_feed g.front g.unended)),
        none ∙ sym (ap after_line whole ∙ after_line-no_feed g.front g.unended),
      );
    }

-- a read failed behind a front without a line feed
pub finds_none : (old now new : Reading) (left_old left left_new : Option (List ℕ)) (line : List ℕ)
    → Gathers old now left_old left line → Keeps left left_new → old.is_at_end ≡ false → has_feed now.pending ≡ false
    → new.is_at_end ≡ false → FindsNone old new left_old left_new
unfolding reads_kept
finds_none old now new left_old left left_new line g kept before none unmet =
    record {
      reads = reads_kept old now new left_old left left_new g.reads kept before;
      unended = ap has_feed g.parts ∙ has_feed-append g.front now.pending g.unended none;
      unmet = unmet;
    }
