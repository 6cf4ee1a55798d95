use Rattle.std.proofs.Common.{◌≡◌, ◌<◌, ◌+◌, ◌++◌, ◌∷◌, [], ℕ, Bool, false, cond, List, unwrap_or, filter, length}
use Rattle.std.proofs.Common.{get_or, map, take, sym, ap, ap₂, ◌∙◌, arith, append-nil, append_assoc}
use denote.Bor.{Bor}
use Rattle.std.proofs.lemmas.List.{get_or-map, length-map, map-append, take_all, take_more}
use Rattle.std.proofs.lemmas.List.Elements.{filter-append}
use Rattle.std.proofs.lemmas.Option.{unwrap_or-slice_get}
use Rattle.std.specs.Arc.{arc_value}
use Rattle.std.specs.declared.vec.Vec.{Vec}
use Rattle.std.specs.declared.alloc.Global.{Global}
use Rattle.clip_standing.specs.declared.entry.Entry.{Entry}
use Rattle.clip_model.specs.History.{Registered}
use Rattle.clip_registry.specs.Steps.LiveFlags.{flags_of}
use Rattle.clip_registry.proofs.live_flags.add_live.Goals as goal
use Rattle.clip_registry.proofs.live_flags.add_live.Goals.{then-unwrap_or+in_ok-push, else-unwrap_or}

-- those of one entry more
live_more : (is : ℕ → Bool) (es : List Registered) (k : ℕ) (e : Registered) (flag : Bool) → k < length es
    → get_or es k e ≡ e → flag ≡ get_or (flags_of is es) k false
    → filter (λ r. is r.seq) (take (k + 1) es) ≡ filter (λ r. is r.seq) (take k es) ++ cond flag (e ∷ []) []
live_more is es k e flag low at set =
    let p = λ (r : Registered). is r.seq in
    ap (filter p) (take_more es k e low ∙ ap (λ x. take k es ++ x ∷ []) at)
    ∙ filter-append p (take k es) (e ∷ [])
    ∙ ap (λ b. filter p (take k es) ++ cond b (e ∷ []) [])
    (sym (set ∙ get_or-map p es k e false low ∙ ap p at))

pub loop-place-preserved : goal.loop-place-preserved
loop-place-preserved g c = λ is are.
    let p = λ (r : Registered). is r.seq in
    let place = c.loop-place.place in
    let es = c.args.segment.now in
    let items = c.entries-entry-items.result.now in
    let e = c.entry-item.result.value in
    let value : Bor Entry → Registered = λ x. x.now in
    let old = map value c.args.found.now.items in
    let low : place < length es =
    omega (arith, c.loop-place-test.true, length-map items arc_value, ap length c.entries-entry-items.ensures.value) in
    let at : get_or es place e ≡ e =
    ap (λ xs. get_or xs place e) (sym c.entries-entry-items.ensures.value)
    ∙ get_or-map arc_value items place c.entry-item.result e c.loop-place-test.true
    ∙ ap arc_value (sym c.entry-item.is) in
    let flag = c.unwrap_or.ensures ∙ ap (λ f. unwrap_or f false) c.get.ensures
    ∙ unwrap_or-slice_get c.args.live.now place false ∙ ap (λ fs. get_or fs place false) are in
    let more = live_more is es place e c.unwrap_or.result low at flag in
    let before = c.loop-place.invariant is are in
    elim c.if-unwrap_or.branch [
      | then-unwrap_or+in_ok-push w ↦
          ap (λ (v : Vec (Bor Entry) Global). map value v.items) w.found-is
          ∙ ap (map value) w.in_ok-push.ensures.items ∙ map-append value c.loop-place.found.items (w.deref.result ∷ [])
          ∙ ap₂ (λ xs x. xs ++ x ∷ []) before w.deref.ensures
          ∙ append_assoc old (filter p (take place es)) (e ∷ [])
          ∙ ap (λ xs. old ++ xs)
          (ap (λ b. filter p (take place es) ++ cond b (e ∷ []) []) (sym w.if-unwrap_or.true) ∙ sym more)
      | else-unwrap_or w ↦
          ap (λ (v : Vec (Bor Entry) Global). map value v.items) w.found-is ∙ before
          ∙ ap (λ xs. old ++ xs)
          (sym (append-nil (filter p (take place es)))
          ∙ ap (λ b. filter p (take place es) ++ cond b (e ∷ []) []) (sym w.if-unwrap_or.false) ∙ sym more)
    ]

pub returns : goal.returns
returns g c = λ is are.
    let items = c.entries-entry-items.result.now in
    c.loop-place.invariant is are
    ∙ ap (λ es. map (λ (e : Bor Entry). e.now) c.args.found.now.items ++ filter (λ (r : Registered). is r.seq) es)
    (take_all c.loop-place.place c.args.segment.now
    (omega (
      arith,
      c.loop-place-test.false,
      length-map items arc_value,
      ap length c.entries-entry-items.ensures.value,
    )))
