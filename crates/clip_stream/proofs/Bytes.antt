-- Fronts of lists, and known bytes that grow.
use Rattle.std.proofs.Common.{◌≡◌, ℕ, zero, suc, ◌+◌, ◌-◌, ◌≤◌, min, List, [], ◌∷◌, ◌++◌, length, take, drop, Option}
use Rattle.std.proofs.Common.{Some, None, refl, sym, ap, ◌∙◌, arith, append_assoc, ◌<◌}
use Rattle.std.proofs.lemmas.List.{length-take}
use Rattle.std.proofs.lemmas.List.{take_min, drop-take, drop-drop}
use Rattle.std.proofs.Math.Seq.{take-append-add, take-add}
use Rattle.std.specs.Io.KnownBytes.{Appends, Consumes, Keeps}
use Rattle.clip_stream.specs.Steps.Reading.{cut}

take_extended : (limit : ℕ) (line bytes : List ℕ) (room more : ℕ) → length line ≤ limit → room ≡ limit - length line
    → more ≡ min (length bytes) room → line ++ take more bytes ≡ take limit (line ++ bytes)
take_extended limit line bytes room more fits r m =
    let whole : limit ≡ length line + room = omega arith in
    let same : more ≡ min room (length bytes) = omega arith in
    ap (λ n. line ++ take n bytes) same ∙ ap (λ xs. line ++ xs) (take_min room bytes)
    ∙ sym (ap (λ n. take n (line ++ bytes)) whole ∙ take-append-add line bytes room)

pub cut_extended : (line bytes : List ℕ) (room more : ℕ) → length line ≤ 1048577 → room ≡ 1048577 - length line
    → more ≡ min (length bytes) room → line ++ take more bytes ≡ cut (line ++ bytes)
unfolding cut
cut_extended line bytes room more fits r m = take_extended 1048577 line bytes room more fits r m

pub appends_more : (old mid new : Option (List ℕ)) (bytes : List ℕ) (i n : ℕ) → Appends old mid (take i bytes)
    → Appends mid new (take n (drop i bytes)) → Appends old new (take (i + n) bytes)
appends_more None mid new bytes i n a b = tt
appends_more (Some xs) None new bytes i n a b = absurd a
appends_more (Some xs) (Some ys) None bytes i n a b = absurd b
appends_more (Some xs) (Some ys) (Some zs) bytes i n a b = b ∙ ap (λ v. v ++ take n (drop i bytes)) a
    ∙ append_assoc xs _ _ ∙ ap (λ v. xs ++ v) (sym (take-add i n bytes))

-- ---- known bytes that were given

pub consumes_none : (left : Option (List ℕ)) → Consumes left left []
consumes_none None = tt
consumes_none (Some xs) = refl

pub consumes_more : (old mid new : Option (List ℕ)) (xs ys : List ℕ) → Consumes old mid xs → Consumes mid new ys
    → Consumes old new (xs ++ ys)
consumes_more None mid new xs ys a b = tt
consumes_more (Some bytes) None new xs ys a b = absurd a
consumes_more (Some bytes) (Some rest) None xs ys a b = absurd b
consumes_more (Some bytes) (Some rest) (Some left) xs ys a b = a ∙ ap (λ v. xs ++ v) b ∙ sym (append_assoc xs ys left)

pub consumes_kept : (old mid new : Option (List ℕ)) (xs : List ℕ) → Consumes old mid xs → Keeps mid new
    → Consumes old new xs
consumes_kept None mid new xs a k = tt
consumes_kept (Some bytes) None new xs a k = absurd a
consumes_kept (Some bytes) (Some rest) None xs a k = absurd k
consumes_kept (Some bytes) (Some rest) (Some left) xs a k = a ∙ ap (λ v. xs ++ v) (sym k)

-- ---- what is pending

pub later_pending : (items : List ℕ) (start end n : ℕ) → start + n ≤ end
    → take (end - (start + n)) (drop (start + n) items) ≡ drop n (take (end - start) (drop start items))
later_pending items start end n h =
    let rest : end - start ≡ n + (end - (start + n)) = omega arith in
    rw rest (sym (drop-take n (end - (start + n)) (drop start items)
    ∙ ap (λ xs. take (end - (start + n)) xs) (drop-drop n start items)))

pub nothing_pending : (items : List ℕ) (end : ℕ) → take (end - end) (drop end items) ≡ []
nothing_pending items end = let none : end - end ≡ 0 = omega arith in rw none refl

take_twice : (n : ℕ) (xs ys : List ℕ) → take n (take n xs ++ ys) ≡ take n (xs ++ ys)
take_twice zero xs ys = refl
take_twice (suc n) [] ys = refl
take_twice (suc n) (x ∷ xs) ys = ap (λ zs. x ∷ zs) (take_twice n xs ys)

pub cut_twice : (xs ys : List ℕ) → cut (cut xs ++ ys) ≡ cut (xs ++ ys)
unfolding cut
cut_twice xs ys = take_twice 1048577 xs ys

take_none : (n : ℕ) (xs : List ℕ) → 0 < n → length (take n xs) ≡ 0 → length xs ≡ 0
take_none zero xs some e = absurd (omega arith)
take_none (suc n) [] some e = refl
take_none (suc n) (x ∷ xs) some e = absurd (omega arith)

take_some : (n : ℕ) (xs : List ℕ) → 0 < length (take n xs) → 0 < length xs
take_some zero xs some = absurd (omega arith)
take_some (suc n) [] some = absurd (omega arith)
take_some (suc n) (x ∷ xs) some = omega arith

pub cut_none : (xs : List ℕ) → length (cut xs) ≡ 0 → length xs ≡ 0
unfolding cut
cut_none xs e = take_none 1048577 xs (omega arith) e

pub cut_some : (xs : List ℕ) → 0 < length (cut xs) → 0 < length xs
unfolding cut
cut_some xs some = take_some 1048577 xs some

pub cut_short : (xs : List ℕ) → length (cut xs) ≤ 1048577
unfolding cut
cut_short xs = omega (arith, length-take 1048577 xs)

pub cut_nothing : cut [] ≡ []
unfolding cut
cut_nothing = refl
