use Rattle.std.proofs.Common.{◌≡◌, List, ℕ, [], ◌∷◌, ◌++◌, Bool, codes, false, map, sym, ap, subst, append_assoc, ◌∙◌}
use Rattle.json.specs.Print.{escape_byte}
use Rattle.serde_json.specs.Data.{string}
use Rattle.serde_json.specs.View.{items_of}
use Rattle.serde_json.specs.Written.{comma_if, items_text}
use Rattle.clip_model.specs.Alerts.{Alert}
use Rattle.clip_protocol.specs.Reply.{article_data}
use Rattle.clip_protocol.specs.Steps.Flowing.{Data, article_begun, hits_member, item_text, items_begun}
use Rattle.clip_protocol.specs.Steps.Putting.{Puts, Stand, stand, with_text}
use Rattle.clip_protocol.specs.Steps.Parts.{part_text}
use Rattle.clip_stream.specs.declared.form.Form.{Form}
use Rattle.clip_stream.specs.declared.form.Form.TheVariants.{Plain, WithHits}
use Rattle.clip_protocol.specs.declared.put.ArticlePart.{ArticlePart}
use Rattle.clip_protocol.proofs.Printed.{items_closed}
use Rattle.clip_protocol.proofs.Putting.{broken, puts_more, puts_one, puts_written, refused}
use Rattle.clip_protocol.proofs.put.put_article.Given.{Over}
use Rattle.clip_protocol.proofs.put.put_article.Goals as goal
use Rattle.clip_protocol.proofs.put.put_article.Goals.{In_ok-text-2, In_ok-text-3}

-- ---- the text in six parts

abbrev named : List ℕ
named = 44 ∷ 34 ∷ (codes "queries" ++ 34 ∷ 58 ∷ 91 ∷ [])

abbrev ended : List ℕ
ended = 93 ∷ 125 ∷ []

abbrev ids : List (List ℕ) → List Data
ids queries = map string queries

closed : (ds : List Data) → items_text false (items_of ds) ++ 125 ∷ [] ≡ items_begun false ds ++ ended
closed ds = ap (λ t. t ++ 125 ∷ []) (sym (items_closed false ds))
    ∙ append_assoc (items_begun false ds) (93 ∷ []) (125 ∷ [])

parts : (form : Form) (later : Bool) (id : List ℕ) (queries : List (List ℕ)) (alerts : List Alert)
    → item_text later (article_data form id queries alerts)
    ≡ comma_if later ++ (article_begun id
    ++ (hits_member form alerts ++ (named ++ (items_begun false (ids queries) ++ ended))))
unfolding escape_byte
parts Plain later id queries alerts =
    ap (λ t. comma_if later ++ (article_begun id ++ (named ++ t))) (closed (ids queries))
parts WithHits later id queries alerts =
    ap (λ t. comma_if later ++ (article_begun id ++ (hits_member WithHits alerts ++ (named ++ t))))
    (closed (ids queries))

-- ---- how far it has come

abbrev begun : ArticlePart → List ℕ
begun part = comma_if part.later ++ article_begun part.article.now

abbrev hits : ArticlePart → List ℕ
hits part = hits_member part.form part.alerts.now

abbrev queries : ArticlePart → List ℕ
queries part = items_begun false (ids (map (λ id. id.now) part.queries.now))

abbrev up_to_hits : ArticlePart → List ℕ
up_to_hits part = begun part ++ hits part

abbrev up_to_ids : ArticlePart → List ℕ
up_to_ids part = (up_to_hits part ++ named) ++ queries part

behind_hits : (c b h q i e : List ℕ) → c ++ (b ++ (h ++ (q ++ (i ++ e)))) ≡ ((c ++ b) ++ h) ++ (q ++ (i ++ e))
behind_hits c b h q i e = simp append_assoc

behind_ids : (c b h q i e : List ℕ) → c ++ (b ++ (h ++ (q ++ (i ++ e)))) ≡ ((((c ++ b) ++ h) ++ q) ++ i) ++ e
behind_ids c b h q i e = simp append_assoc

split_at_hits : (part : ArticlePart) → part_text part ≡ up_to_hits part ++ (named ++ (queries part ++ ended))
split_at_hits part =
    parts part.form part.later part.article.now (map (λ id. id.now) part.queries.now) part.alerts.now
    ∙ behind_hits (comma_if part.later) (article_begun part.article.now) (hits part) named (queries part) ended

split_at_ids : (part : ArticlePart) → part_text part ≡ up_to_ids part ++ ended
split_at_ids part =
    parts part.form part.later part.article.now (map (λ id. id.now) part.queries.now) part.alerts.now
    ∙ behind_ids (comma_if part.later) (article_begun part.article.now) (hits part) named (queries part) ended

-- ---- what was put of it

-- what begins it was written
opened : (here : Stand) (comma first t0 t1 t2 : List ℕ) → t1 ≡ t0 ++ comma → t2 ≡ t1 ++ first
    → Puts (with_text here t0) (with_text here t2) (comma ++ first)
opened here comma first t0 t1 t2 e f =
    puts_one (with_text here t0) here t1 t2 comma first (puts_written here t0 t1 comma e) f

-- its id, and where the queries hold
shown : (g : Over) (c : In_ok-text-2 g)
    → Puts (stand g.W.Sink.taken g.W.Sink.has_failed c.args.flow.now.writer.now (c.args.flow.now.outbox.now
    ++ c.args.text.items))
    (stand g.W.Sink.taken g.W.Sink.has_failed c.put_hits_member.new.flow.writer.now
    (c.put_hits_member.new.flow.outbox.now ++ c.in_ok-text-2.text.items)) (up_to_hits c.args.part)
shown g c =
    let part = c.args.part in
    let here = stand g.W.Sink.taken g.W.Sink.has_failed c.args.flow.now.writer.now c.args.flow.now.outbox.now in
    let now = stand g.W.Sink.taken g.W.Sink.has_failed c.put_hits_member.new.flow.writer.now
    c.put_hits_member.new.flow.outbox.now in
    puts_more (with_text here c.args.text.items) (with_text here c.in_ok-text.text.items)
    (with_text now c.in_ok-text-2.text.items) (begun part) (hits part)
    (opened here (comma_if part.later) (article_begun part.article.now) c.args.text.items c.separate.new.text.items
    c.in_ok-text.text.items c.in_ok-separate.ensures c.in_ok-text.ensures)
    c.in_ok-text-2.ensures.puts

-- and their ids
listed : (g : Over) (c : In_ok-text-3 g) (old : Stand)
    → Puts old (stand g.W.Sink.taken g.W.Sink.has_failed c.put_hits_member.new.flow.writer.now
    (c.put_hits_member.new.flow.outbox.now ++ c.in_ok-text-2.text.items)) (up_to_hits c.args.part)
    → Puts old (stand g.W.Sink.taken g.W.Sink.has_failed c.put_ids.new.flow.writer.now
    (c.put_ids.new.flow.outbox.now ++ c.in_ok-text-3.text.items)) (up_to_ids c.args.part)
listed g c old most =
    let now = stand g.W.Sink.taken g.W.Sink.has_failed c.put_hits_member.new.flow.writer.now
    c.put_hits_member.new.flow.outbox.now in
    let later = stand g.W.Sink.taken g.W.Sink.has_failed c.put_ids.new.flow.writer.now c.put_ids.new.flow.outbox.now in
    puts_more old (with_text now c.extend_from_slice.new.self.items) (with_text later c.in_ok-text-3.text.items)
    (up_to_hits c.args.part ++ named) (queries c.args.part)
    (puts_one old now c.in_ok-text-2.text.items c.extend_from_slice.new.self.items (up_to_hits c.args.part) named most
    c.in_ok-extend_from_slice.ensures.items)
    c.in_ok-text-3.ensures.puts

pub returns-in_err-text-2-clause-puts : goal.returns-in_err-text-2-clause-puts
returns-in_err-text-2-clause-puts g c =
    let part = c.args.part in
    let here = stand g.W.Sink.taken g.W.Sink.has_failed c.args.flow.now.writer.now c.args.flow.now.outbox.now in
    let now = stand g.W.Sink.taken g.W.Sink.has_failed c.put_hits_member.new.flow.writer.now
    c.put_hits_member.new.flow.outbox.now in
    let first = opened here (comma_if part.later) (article_begun part.article.now) c.args.text.items
    c.separate.new.text.items c.in_ok-text.text.items c.in_ok-separate.ensures c.in_ok-text.ensures in
    broken c.from_residual-in_err-text-2.result _ (with_text here c.args.text.items)
    (with_text here c.in_ok-text.text.items) now (begun part) (hits part) (named ++ (queries part ++ ended))
    (part_text part) c.from_residual-in_err-text-2.ensures.1 (split_at_hits part) first c.in_err-text-2.ensures.puts

pub returns-in_err-extend_from_slice-clause-puts : goal.returns-in_err-extend_from_slice-clause-puts
returns-in_err-extend_from_slice-clause-puts g c =
    let part = c.args.part in
    let at = (goal.at.returns-in_err-extend_from_slice-clause-puts g c).In_ok-text-2 in
    let now = stand g.W.Sink.taken g.W.Sink.has_failed c.put_hits_member.new.flow.writer.now
    c.put_hits_member.new.flow.outbox.now in
    refused c.from_residual-in_err-extend_from_slice.result _ now c.in_ok-text-2.text.items (up_to_hits part)
    (named ++ (queries part ++ ended)) (part_text part) c.from_residual-in_err-extend_from_slice.ensures.1
    (split_at_hits part) (shown g at)

pub returns-in_err-text-3-clause-puts : goal.returns-in_err-text-3-clause-puts
returns-in_err-text-3-clause-puts g c =
    let part = c.args.part in
    let at = (goal.at.returns-in_err-text-3-clause-puts g c).In_ok-text-2 in
    let now = stand g.W.Sink.taken g.W.Sink.has_failed c.put_hits_member.new.flow.writer.now
    c.put_hits_member.new.flow.outbox.now in
    let later = stand g.W.Sink.taken g.W.Sink.has_failed c.put_ids.new.flow.writer.now c.put_ids.new.flow.outbox.now in
    let next = puts_one _ now c.in_ok-text-2.text.items c.extend_from_slice.new.self.items (up_to_hits part) named
    (shown g at) c.in_ok-extend_from_slice.ensures.items in
    broken c.from_residual-in_err-text-3.result _ _ (with_text now c.extend_from_slice.new.self.items) later
    (up_to_hits part ++ named) (queries part) ended (part_text part) c.from_residual-in_err-text-3.ensures.1
    (split_at_ids part) next c.in_err-text-3.ensures.puts

pub returns-in_err-extend_from_slice-2-clause-puts : goal.returns-in_err-extend_from_slice-2-clause-puts
returns-in_err-extend_from_slice-2-clause-puts g c =
    let part = c.args.part in
    let at = goal.at.returns-in_err-extend_from_slice-2-clause-puts g c in
    let later = stand g.W.Sink.taken g.W.Sink.has_failed c.put_ids.new.flow.writer.now c.put_ids.new.flow.outbox.now in
    refused c.from_residual-in_err-extend_from_slice-2.result _ later c.in_ok-text-3.text.items (up_to_ids part) ended
    (part_text part) c.from_residual-in_err-extend_from_slice-2.ensures.1 (split_at_ids part)
    (listed g at.In_ok-text-3 _ (shown g at.In_ok-text-2))

pub returns-clause-puts : goal.returns-clause-puts
returns-clause-puts g c =
    let part = c.args.part in
    let at = goal.at.returns-clause-puts g c in
    let here = stand g.W.Sink.taken g.W.Sink.has_failed c.args.flow.now.writer.now c.args.flow.now.outbox.now in
    let old = with_text here c.args.text.items in
    let later = stand g.W.Sink.taken g.W.Sink.has_failed c.put_ids.new.flow.writer.now c.put_ids.new.flow.outbox.now in
    subst (Puts old (with_text later c.extend_from_slice-2.new.self.items)) (sym (split_at_ids part))
    (puts_one old later c.in_ok-text-3.text.items c.extend_from_slice-2.new.self.items (up_to_ids part) ended
    (listed g at.In_ok-text-3 old (shown g at.In_ok-text-2)) c.in_ok-extend_from_slice-2.ensures.items)
