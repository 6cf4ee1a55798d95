use Rattle.std.proofs.Common.{◌≡◌, List, ℕ, [], ◌∷◌, ◌++◌, codes, false, map, sym, ap, subst, ◌∙◌}
use Rattle.json.specs.Print.{escape_byte}
use Rattle.clip_model.specs.Alerts.{Alert}
use Rattle.clip_protocol.specs.Reply.{hit_data}
use Rattle.clip_protocol.specs.Request.{array_of}
use Rattle.clip_protocol.specs.Steps.Flowing.{Data, hits_member, items_begun}
use Rattle.clip_protocol.specs.Steps.Putting.{Puts, stand, with_text}
use Rattle.clip_stream.specs.declared.form.Form.{Form}
use Rattle.clip_stream.specs.declared.form.Form.TheVariants.{WithHits}
use Rattle.clip_protocol.proofs.Printed.{items_closed}
use Rattle.clip_protocol.proofs.Putting.{broken, puts_more, puts_written, refused}
use Rattle.clip_protocol.proofs.put.put_hits_member.Goals as goal

abbrev opened : List ℕ
opened = 44 ∷ 34 ∷ (codes "hits" ++ 34 ∷ 58 ∷ 91 ∷ [])

abbrev hits_of_all : List Alert → List Data
hits_of_all alerts = map (λ a. array_of (map hit_data a.hits)) alerts

-- the member in three parts
parts : (form : Form) (alerts : List Alert) → form ≡ WithHits
    → hits_member form alerts ≡ (opened ++ items_begun false (hits_of_all alerts)) ++ 93 ∷ []
unfolding escape_byte
parts form alerts is = ap (λ f. hits_member f alerts) is
    ∙ ap (λ t. opened ++ t) (sym (items_closed false (hits_of_all alerts)))

pub returns-in_err-text-in-WithHits-clause-puts : goal.returns-in_err-text-in-WithHits-clause-puts
returns-in_err-text-in-WithHits-clause-puts g c =
    let alerts = c.args.alerts.now in
    let here = stand g.W.Sink.taken g.W.Sink.has_failed c.args.flow.now.writer.now c.args.flow.now.outbox.now in
    let now = stand g.W.Sink.taken g.W.Sink.has_failed c.put_hits_of_all.new.flow.writer.now
    c.put_hits_of_all.new.flow.outbox.now in
    let begun = puts_written here c.args.text.items c.extend_from_slice.new.self.items opened
    c.in_ok-extend_from_slice-in-WithHits.ensures.items in
    broken c.from_residual-in_err-text-in-WithHits.result _ _ _ now opened (items_begun false (hits_of_all alerts)) (93
    ∷ []) (hits_member c.args.form alerts) c.from_residual-in_err-text-in-WithHits.ensures.1
    (parts c.args.form alerts c.in-WithHits.is) begun
    c.in_err-text-in-WithHits.ensures.puts

pub returns-in_err-push-in-WithHits-clause-puts : goal.returns-in_err-push-in-WithHits-clause-puts
returns-in_err-push-in-WithHits-clause-puts g c =
    let alerts = c.args.alerts.now in
    let here = stand g.W.Sink.taken g.W.Sink.has_failed c.args.flow.now.writer.now c.args.flow.now.outbox.now in
    let now = stand g.W.Sink.taken g.W.Sink.has_failed c.put_hits_of_all.new.flow.writer.now
    c.put_hits_of_all.new.flow.outbox.now in
    let begun = puts_written here c.args.text.items c.extend_from_slice.new.self.items opened
    c.in_ok-extend_from_slice-in-WithHits.ensures.items in
    refused c.from_residual-in_err-push-in-WithHits.result _ now c.in_ok-text-in-WithHits.text.items (opened
    ++ items_begun false (hits_of_all alerts)) (93 ∷ []) (hits_member c.args.form alerts)
    c.from_residual-in_err-push-in-WithHits.ensures.1
    (parts c.args.form alerts c.in-WithHits.is)
    (puts_more _ _ _ opened (items_begun false (hits_of_all alerts)) begun c.in_ok-text-in-WithHits.ensures.puts)

pub returns-in_ok-push-in-WithHits-clause-puts : goal.returns-in_ok-push-in-WithHits-clause-puts
returns-in_ok-push-in-WithHits-clause-puts g c =
    let alerts = c.args.alerts.now in
    let here = stand g.W.Sink.taken g.W.Sink.has_failed c.args.flow.now.writer.now c.args.flow.now.outbox.now in
    let now = stand g.W.Sink.taken g.W.Sink.has_failed c.put_hits_of_all.new.flow.writer.now
    c.put_hits_of_all.new.flow.outbox.now in
    let begun = puts_written here c.args.text.items c.extend_from_slice.new.self.items opened
    c.in_ok-extend_from_slice-in-WithHits.ensures.items in
    let most = puts_more _ _ _ opened (items_begun false (hits_of_all alerts)) begun
    c.in_ok-text-in-WithHits.ensures.puts in
    subst (Puts (with_text here c.args.text.items) (with_text now c.push.new.self.items))
    (sym (parts c.args.form alerts c.in-WithHits.is))
    (puts_more _ _ _ (opened ++ items_begun false (hits_of_all alerts)) (93 ∷ []) most
    (puts_written now c.in_ok-text-in-WithHits.text.items c.push.new.self.items (93 ∷ [])
    c.in_ok-push-in-WithHits.ensures.items))
