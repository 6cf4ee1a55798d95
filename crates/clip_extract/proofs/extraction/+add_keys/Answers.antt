use Rattle.std.proofs.Common.{◌≡◌, ℕ, ◌+◌, ◌≤◌, List, [], ◌++◌, map, length, take, drop, IfOk, sym, ap, subst, ◌∙◌}
use Rattle.std.proofs.Common.{arith}
use Rattle.std.proofs.lemmas.List.{length-map, take_all, take-append-le, take-append-drop}
use Rattle.clip_grammar.specs.Tree.{tree_of}
use Rattle.clip_extract.specs.Keys.{KeyValue, key_of}
use Rattle.clip_extract.specs.Extraction.{Extracted, extract, unnarrowed}
use Rattle.clip_extract.specs.Steps.Groups.{group_from}
use Rattle.clip_extract.specs.declared.extraction.FoundInGroup.TheVariants.{Nothing}
use Rattle.clip_extract.proofs.Cuts.{longer}
use Rattle.clip_extract.proofs.Groups.{extracts_of, group_start, skipped, turn, something, next_extract, extract_group}
use Rattle.clip_extract.proofs.Groups.{group_end, nothing_found, keys_found}
use Rattle.clip_extract.proofs.extraction.+add_keys.Goals as goal

pub loop-occur-init : goal.loop-occur-init
loop-occur-init t c =
    let long : length (map key_of c.args.keys.now.items) ≤ c.len-start.result =
    omega (arith, length-map c.args.keys.now.items key_of, c.args.keys.now.ok) in
    record {
      front = take_all c.len-start.result (map key_of c.args.keys.now.items) long;
      long = omega arith;
      empty = λ _. omega arith;
      group =
          ap (λ cs. group_from Nothing [] (extracts_of cs)) c.deref-occur-items.ensures.value
          ∙ group_start [] (extracts_of c.in-Group.clauses.items)
          ∙ sym (extract_group c.in-Group.clauses)
          ∙ ap (λ q. extract (tree_of q)) (sym c.in-Group.is);
    }

pub loop-occur-preserved-then-not-counts : goal.loop-occur-preserved-then-not-counts
loop-occur-preserved-then-not-counts t c =
    let cs = c.deref-occur-items.result.now in
    let ks = drop c.len-start.result (map key_of c.loop-occur.keys.items) in
    let i = c.loop-occur-item.result in
    let rest = extracts_of (drop (c.loop-occur.occur-index + 1) cs) in
    record {
      front = c.loop-occur.invariant.front;
      long = c.loop-occur.invariant.long;
      empty = c.loop-occur.invariant.empty;
      group =
          sym (skipped c.loop-occur.found i.0 ks (extract (tree_of i.1)) rest (sym c.if-not-counts.ensures))
          ∙ ap (group_from c.loop-occur.found ks)
          (sym (next_extract cs c.loop-occur.occur-index i c.loop-occur-test.true c.loop-occur-item.is))
          ∙ c.loop-occur.invariant.group;
    }

pub loop-occur-preserved : goal.loop-occur-preserved
loop-occur-preserved t c =
    let cs = c.deref-occur-items.result.now in
    let xs = map key_of c.loop-occur.keys.items in
    let ys = map key_of c.add_keys.new.keys.items in
    let zs = map key_of c.keep.new.keys.items in
    let start = c.len-start.result in
    let middle = c.len-middle.result in
    let i = c.loop-occur-item.result in
    let found = c.loop-occur.found in
    let rest = extracts_of (drop (c.loop-occur.occur-index + 1) cs) in
    let same : length xs ≡ middle = omega (arith, length-map c.loop-occur.keys.items key_of, c.loop-occur.keys.ok) in
    let low : start ≤ length xs = omega (arith, c.loop-occur.invariant.long) in
    let added : ys ≡ xs ++ (extract (tree_of i.1)).keys = c.in_ok-weight-in-Group.ensures.added in
    record {
      front =
          c.keep.ensures.front ∙ ap (take start) added ∙ take-append-le start xs (extract (tree_of i.1)).keys low
          ∙ c.loop-occur.invariant.front;
      long = c.keep.ensures.long;
      empty = λ e. absurd (something found i.0 c.in_ok-weight-in-Group.weight (sym c.if-not-counts.ensures)
          (sym c.next_found-found.ensures ∙ e));
      group =
          ap (λ f. group_from f (drop start zs) rest) c.next_found-found.ensures
          ∙ turn found i.0 c.in_ok-weight-in-Group.weight xs ys zs start middle (extract (tree_of i.1)) rest
          (sym c.if-not-counts.ensures) (λ e. same
          ∙ omega (arith, c.loop-occur.invariant.empty e)) same added c.in_ok-weight-in-Group.ensures.weight
          c.keep.ensures.kept
          ∙ ap (group_from found (drop start xs))
          (sym (next_extract cs c.loop-occur.occur-index i c.loop-occur-test.true c.loop-occur-item.is))
          ∙ c.loop-occur.invariant.group;
    }

pub keep-requires-clause-low : goal.keep-requires-clause-low
keep-requires-clause-low t c =
    subst (λ (n : ℕ). c.len-start.result ≤ n) (sym c.len-middle.ensures) c.loop-occur.invariant.long

pub keep-requires-clause-high : goal.keep-requires-clause-high
keep-requires-clause-high t c =
    subst (λ (n : ℕ). n ≤ c.add_keys.new.keys.len) (sym c.len-middle.ensures)
    (longer c.loop-occur.keys c.add_keys.new.keys (extract (tree_of c.loop-occur-item.result.1)).keys
    c.in_ok-weight-in-Group.ensures.added)

pub returns-in-Nothing-clause-added : goal.returns-in-Nothing-clause-added
returns-in-Nothing-clause-added t c =
    let xs = map key_of c.loop-occur.keys.items in
    let old = map key_of c.args.keys.now.items in
    let new = map key_of c.push_any.new.keys.items in
    let all : length xs ≤ c.len-start.result =
    omega (
      arith,
      length-map c.loop-occur.keys.items key_of,
      c.loop-occur.keys.ok,
      c.loop-occur.invariant.empty c.in-Nothing.is,
    ) in
    let same : xs ≡ old = sym (take_all c.len-start.result xs all) ∙ c.loop-occur.invariant.front in
    let end : extract (tree_of c.args.query.now) ≡ unnarrowed =
    group_end c.loop-occur.found (drop c.len-start.result xs) c.deref-occur-items.result.now c.loop-occur.occur-index _
    c.loop-occur-test.false c.loop-occur.invariant.group
    ∙ ap (λ f. group_from f (drop c.len-start.result xs) []) c.in-Nothing.is
    ∙ nothing_found (drop c.len-start.result xs) in
    subst (λ (ks : List KeyValue). IfOk c.push_any.result (λ _. new ≡ ks ++ (extract (tree_of c.args.query.now)).keys))
    same
    (subst (λ (e : Extracted). IfOk c.push_any.result (λ _. new ≡ xs ++ e.keys)) (sym end) c.push_any.ensures.added)

pub returns-in-Nothing-clause-weight : goal.returns-in-Nothing-clause-weight
returns-in-Nothing-clause-weight t c =
    let xs = map key_of c.loop-occur.keys.items in
    let end : extract (tree_of c.args.query.now) ≡ unnarrowed =
    group_end c.loop-occur.found (drop c.len-start.result xs) c.deref-occur-items.result.now c.loop-occur.occur-index _
    c.loop-occur-test.false c.loop-occur.invariant.group
    ∙ ap (λ f. group_from f (drop c.len-start.result xs) []) c.in-Nothing.is
    ∙ nothing_found (drop c.len-start.result xs) in
    subst (λ (e : Extracted). IfOk c.push_any.result (λ w. w ≡ e.weight)) (sym end) c.push_any.ensures.weight

pub returns-in_default-found-clause-added : goal.returns-in_default-found-clause-added
returns-in_default-found-clause-added t c =
    let xs = map key_of c.loop-occur.keys.items in
    let ks = drop c.len-start.result xs in
    let end = group_end c.loop-occur.found ks c.deref-occur-items.result.now c.loop-occur.occur-index _
    c.loop-occur-test.false c.loop-occur.invariant.group in
    sym (take-append-drop c.len-start.result xs) ∙ ap (λ front. front ++ ks) c.loop-occur.invariant.front
    ∙ ap (λ rest. map key_of c.args.keys.now.items ++ rest) (sym (ap (λ (e : Extracted). e.keys) end
    ∙ keys_found c.loop-occur.found ks c.in_default-found.not-Nothing))

pub returns-in_default-found-clause-weight : goal.returns-in_default-found-clause-weight
returns-in_default-found-clause-weight t c =
    let ks = drop c.len-start.result (map key_of c.loop-occur.keys.items) in
    sym (ap (λ (e : Extracted). e.weight)
    (group_end c.loop-occur.found ks c.deref-occur-items.result.now c.loop-occur.occur-index _
    c.loop-occur-test.false c.loop-occur.invariant.group) ∙ c.weight_found.ensures ks)

pub add_leaf_key-requires : goal.add_leaf_key-requires
add_leaf_key-requires t c = c.in_default.not-Group

pub returns-in_default : goal.returns-in_default
returns-in_default t c = record { added = c.add_leaf_key.ensures.added; weight = c.add_leaf_key.ensures.weight }
