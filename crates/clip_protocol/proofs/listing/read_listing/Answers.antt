use Rattle.std.proofs.Common.{sym, subst}
use Rattle.std.proofs.lemmas.Str.{IsUtf8-string_bytes, is_utf8-from_IsUtf8}
use Rattle.clip_grammar.specs.Reading.{Reads, HasNoFault}
use Rattle.clip_protocol.specs.LineMeaning.{IsReadAs}
use Rattle.clip_protocol.specs.Steps.Views.{listing_view}
use Rattle.clip_protocol.proofs.listing.read_listing.Goals as goal

pub returns-in_ok-new-in-Ok : goal.returns-in_ok-new-in-Ok
returns-in_ok-new-in-Ok c =
    let s = c.in-Ok.standing in
    let st = c.in-Ok.ensures.standing in
    let text = c.in-Ok.ensures.text in
    let utf8 = is_utf8-from_IsUtf8 _ (IsUtf8-string_bytes c.args.listing.query) in
    let is : IsReadAs (listing_view c.args.listing) s =
    record {
      id = c.in-Ok.ensures.id;
      text = text;
      listener = c.in-Ok.ensures.listener;
      query = record {
        utf8 = utf8;
        reads = subst (λ t. Reads t s.tree) text st.reads;
        kept =
            subst HasNoFault text st.kept;
      };
    } in
    subst (IsReadAs (listing_view c.args.listing)) (sym c.in_ok-new-in-Ok.ensures.ok) is
