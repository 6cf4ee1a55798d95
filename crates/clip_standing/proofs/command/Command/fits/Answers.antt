use Rattle.std.proofs.Common.{◌≡◌, ◌≤◌, ◌&&◌, ℕ, sym, ap, ◌∙◌, arith, true, List, length, map, string_bytes, String}
use Rattle.std.proofs.Common.{nat_le}
use Rattle.std.proofs.lemmas.Bool.Decides.{nat_tests}
use Rattle.std.specs.List.{list_all}
use Rattle.std.specs.declared.alloc.Global.{Global}
use Rattle.clip_words.specs.Ids.{is_id}
use Rattle.clip_model.specs.declared.limits.TheConstants.{MOST_LISTED}
use Rattle.clip_model.specs.History.{fits}
use Rattle.clip_standing.specs.Command.{command_of}
use Rattle.std.proofs.lemmas.List.{length-map}
use Rattle.clip_standing.proofs.command.Command.fits.Goals as goal

few : (n : ℕ) → n ≤ MOST_LISTED → nat_le n MOST_LISTED ≡ true
few n h = grind (arith, nat_tests)

pub returns-then-len-le-MOST_LISTED : goal.returns-then-len-le-MOST_LISTED
returns-then-len-le-MOST_LISTED c =
    let ids : List (String Global) = c.in-Delete.ids.items in
    let short : length (map string_bytes ids) ≤ MOST_LISTED = let a = length-map ids (string_bytes {Z = Global}) in
    let b = c.len-in-Delete.ensures in let d = c.if-len-le-MOST_LISTED.true in let e = c.in-Delete.ids.ok.0 in
    omega arith in
    c.are_ids.ensures ∙ ap (λ (xs : List (String Global)). list_all is_id (map string_bytes xs)) c.deref.ensures.value
    ∙ ap (λ b. b && list_all is_id (map string_bytes ids)) (sym (few (length (map string_bytes ids)) short))
    ∙ ap (λ x. fits (command_of x)) (sym c.in-Delete.is)
