-- What is read from text lists the members of its objects in order, each name once.
use Rattle.std.proofs.Common.{◌≡◌, ℕ, List, Bool, true, false, cond, Some, None, option_map, option_and_then, refl, ap}
use Rattle.std.proofs.Common.{subst, ◌∙◌}
use Rattle.std.proofs.lemmas.Cmp.{nat_list_cmp_total}
use Rattle.std.specs.Ordering.{nat_cmp, match_ordering, ordering_reverse}
use Rattle.std.specs.Cmp.Lexicographic.{slice_cmp}
use Rattle.std.specs.Str.{is_utf8}
use Rattle.std.specs.declared.cmp.Ordering.{Ordering}
use Rattle.std.specs.declared.cmp.Ordering.TheVariants.{Less, Equal, Greater}
use Rattle.json.specs.Json as json
use Rattle.json.specs.Lex.{tokens}
use Rattle.serde_json.specs.Data.{Data, null, boolean, number, string, array, object, Items, no_items, item, Members}
use Rattle.serde_json.specs.Data.{no_members, member, put}
use Rattle.serde_json.specs.Read.{of_json, of_items, of_members, max_depth, read, number_of}
use Rattle.clip_protocol.specs.LineMeaning.{json_of}
use Rattle.clip_protocol.proofs.RequestLaw.{led, mapped, none_is_some}
use Rattle.clip_cause.specs.Steps.Ordered.{IsBefore, IsBeforeAll, IsOrdered, AreOrdered, AreMembersOrdered}

before_all_on : (k l : List ℕ) (ms : Members) → IsBefore k l → IsBeforeAll l ms → IsBeforeAll k ms
before_all_on k l no_members e h = tt
before_all_on k l (member m d ms) e h = (nat_list_cmp_total.trans k l m e h.0, before_all_on k l ms e h.1)

-- a name that is before those of all members stays so as one is put behind it
before_put_at : (o : Ordering) (l k : List ℕ) (d : Data) (m : List ℕ) (e : Data) (ms : Members) → IsBefore l k
    → IsBefore l m → IsBeforeAll l ms → IsBeforeAll l (put k d ms)
    → IsBeforeAll l (match_ordering o (member k d (member m e ms)) (member m d ms) (member m e (put k d ms)))
before_put_at Less l k d m e ms b c h more = (b, (c, h))
before_put_at Equal l k d m e ms b c h more = (c, h)
before_put_at Greater l k d m e ms b c h more = (c, more)

before_put : (l k : List ℕ) (d : Data) (ms : Members) → IsBefore l k → IsBeforeAll l ms → IsBeforeAll l (put k d ms)
before_put l k d no_members b h = (b, tt)
before_put l k d (member m e ms) b h =
    before_put_at (slice_cmp nat_cmp k m) l k d m e ms b h.0 h.1 (before_put l k d ms b h.1)

turned : (k l : List ℕ) → slice_cmp nat_cmp k l ≡ Greater → IsBefore l k
turned k l e = nat_list_cmp_total.antisymm l k ∙ ap ordering_reverse e

put_ordered_at : (o : Ordering) (k : List ℕ) (d : Data) (m : List ℕ) (e : Data) (ms : Members)
    → slice_cmp nat_cmp k m ≡ o → IsOrdered d → AreMembersOrdered (member m e ms) → AreMembersOrdered (put k d ms)
    → AreMembersOrdered (match_ordering o (member k d (member m e ms)) (member m d ms) (member m e (put k d ms)))
put_ordered_at Less k d m e ms is od h more = ((is, before_all_on k m ms is h.0), (od, h))
put_ordered_at Equal k d m e ms is od h more = (h.0, (od, h.1.1))
put_ordered_at Greater k d m e ms is od h more = (before_put m k d ms (turned k m is) h.0, (h.1.0, more))

put_ordered : (k : List ℕ) (d : Data) (ms : Members) → IsOrdered d → AreMembersOrdered ms
    → AreMembersOrdered (put k d ms)
put_ordered k d no_members od h = (tt, (od, tt))
put_ordered k d (member m e ms) od h =
    put_ordered_at (slice_cmp nat_cmp k m) k d m e ms refl od h (put_ordered k d ms od h.1.1)

mutual
  of_json_ordered : (j : json.Json) (d : Data) → of_json j ≡ Some d → IsOrdered d
  of_json_ordered json.null d e = let is : null ≡ d = cc in subst IsOrdered is tt
  of_json_ordered (json.boolean b) d e = let is : boolean b ≡ d = cc in subst IsOrdered is tt
  of_json_ordered (json.number s) d e = let w = mapped (number_of s) number d e in subst IsOrdered w.2 tt
  of_json_ordered (json.string s) d e = let is : string s ≡ d = cc in subst IsOrdered is tt
  of_json_ordered (json.array js) d e = let w = mapped (of_items js) array d e in
      subst IsOrdered w.2 (of_items_ordered js w.0 w.1)
  of_json_ordered (json.object ms) d e =
      let w = mapped (of_members ms no_members) object d e in
      subst IsOrdered w.2 (of_members_ordered ms no_members w.0 w.1 tt)

  of_items_ordered : (js : json.Items) (ds : Items) → of_items js ≡ Some ds → AreOrdered ds
  of_items_ordered json.no_items ds e = let is : no_items ≡ ds = cc in subst AreOrdered is tt
  of_items_ordered (json.item j js) ds e =
      let w = led (of_json j) (λ d. option_map (item d) (of_items js)) ds e in
      let v = mapped (of_items js) (item w.0) ds w.2 in
      subst AreOrdered v.2 (of_json_ordered j w.0 w.1, of_items_ordered js v.0 v.1)

  of_members_ordered : (js : json.Members) (found ms : Members) → of_members js found ≡ Some ms
      → AreMembersOrdered found → AreMembersOrdered ms
  of_members_ordered json.no_members found ms e h = let is : found ≡ ms = cc in subst AreMembersOrdered is h
  of_members_ordered (json.member k j js) found ms e h =
      let w = led (of_json j) (λ d. of_members js (put k d found)) ms e in
      of_members_ordered js (put k w.0 found) ms w.2 (put_ordered k w.0 found (of_json_ordered j w.0 w.1) h)

read_ordered : (text : List ℕ) (d : Data) → read text ≡ Some d → IsOrdered d
read_ordered text d e = let w =
    led (option_and_then (λ p. json.if_last p.0 p.1) (json.value max_depth (tokens text))) of_json d e in
    of_json_ordered w.0 d w.2

by_text : (b : Bool) (text : List ℕ) (d : Data) → cond b (read text) None ≡ Some d → IsOrdered d
by_text true text d e = read_ordered text d e
by_text false text d e = absurd (none_is_some d e)

pub json_of-ordered : (line : List ℕ) (d : Data) → json_of line ≡ Some d → IsOrdered d
unfolding json_of
json_of-ordered line d e = by_text (is_utf8 line) line d e
