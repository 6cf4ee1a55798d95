-- The size of a query's tree, and the counts on its tokens.
use Rattle.std.proofs.Common.{◌≡◌, ℕ, ◌+◌, ◌-◌, ◌≤◌, max, Bool, false, cond, List, [], ◌∷◌, ◌++◌, Option, Some, None}
use Rattle.std.proofs.Common.{refl, ap, ◌∙◌, append_assoc, append-nil, map, arith, codes}
use Rattle.std.specs.List.{count_by}
use Rattle.std.proofs.lemmas.List.Sums.{sum_by-append}
use Rattle.std.proofs.lemmas.List.Folds.{fold-map}
use Rattle.clip_words.specs.Words.{words_of}
use Rattle.clip_grammar.specs.Tokens as token
use Rattle.clip_grammar.specs.Tokens.{Token}
use Rattle.clip_grammar.specs.Tree.{nodes, clause_nodes, depth, clause_depth}
use Rattle.clip_grammar.specs.Shape as shape
use Rattle.clip_grammar.specs.Shape.{Sign, Joint, Beside, is_and, joint_tokens, Written, one, more, WrittenClause, item}
use Rattle.clip_grammar.specs.Shape.{everything, Item, tokens, clause_tokens, item_tokens, sign_tokens, field_tokens}
use Rattle.clip_grammar.specs.Shape.{words_tree, clauses_in, clause_tree, item_tree, written_tree}
use Rattle.clip_grammar.specs.Steps.LeftOut.{is_colon}
use Rattle.clip_grammar.proofs.Parsing.{joined, joined_parts}
use Rattle.clip_syntax.specs.Steps.Sizes.{is_node, open_after, most_open}

count-append : (p : Token → Bool) (ts us : List Token) → count_by p (ts ++ us) ≡ count_by p ts + count_by p us
count-append p ts us = sum_by-append (λ t. cond (p t) 1 0) ts us

words_nodes : (field : List ℕ) (words : List (List ℕ)) → nodes (words_tree field words) ≡ 1
words_nodes field [] = refl
words_nodes field (word ∷ []) = refl
words_nodes field (word ∷ other ∷ words) = refl

words_depth : (field : List ℕ) (words : List (List ℕ)) → depth (words_tree field words) ≡ 0
words_depth field [] = refl
words_depth field (word ∷ []) = refl
words_depth field (word ∷ other ∷ words) = refl

-- ---- nodes

sign_nodes : (sign : Sign) → count_by is_node (sign_tokens sign) ≡ count_by is_colon (sign_tokens sign)
sign_nodes shape.Unsigned = refl
sign_nodes shape.Plus = refl
sign_nodes shape.Minus = refl
sign_nodes shape.Bang = refl
sign_nodes shape.Not = refl

joint_nodes : (joint : Joint) → count_by is_node (joint_tokens joint) ≡ count_by is_colon (joint_tokens joint)
joint_nodes Beside = refl
joint_nodes shape.And = refl
joint_nodes shape.Or = refl

everything_nodes : (ts : List Token) → count_by is_node ts ≡ count_by is_colon ts
    → count_by is_node (ts ++ token.Star ∷ token.Colon ∷ token.Star ∷ [])
    ≡ 1 + count_by is_colon (ts ++ token.Star ∷ token.Colon ∷ token.Star ∷ [])
everything_nodes ts h =
    let all = token.Star ∷ token.Colon ∷ token.Star ∷ [] in
    omega (arith, h, count-append is_node ts all, count-append is_colon ts all)

mutual
  nodes_from : (w : Written) (after : Bool) (field : List ℕ)
      → count_by is_node (tokens w) ≡ clause_nodes (clauses_in w after field) + count_by is_colon (tokens w)
  nodes_from (one c) after field = omega (arith, nodes_clause c field)
  nodes_from (more c joint cs) after field =
      omega (
        arith,
        nodes_clause c field,
        joint_nodes joint,
        nodes_from cs (is_and joint) field,
        count-append is_node (clause_tokens c) (joint_tokens joint ++ tokens cs),
        count-append is_colon (clause_tokens c) (joint_tokens joint ++ tokens cs),
        count-append is_node (joint_tokens joint) (tokens cs),
        count-append is_colon (joint_tokens joint) (tokens cs),
      )

  nodes_clause : (c : WrittenClause) (field : List ℕ) → count_by is_node (clause_tokens c)
      ≡ nodes (clause_tree c field) + count_by is_colon (clause_tokens c)
  nodes_clause (item sign None i) field =
      omega (
        arith,
        sign_nodes sign,
        nodes_item i field,
        count-append is_node (sign_tokens sign) [],
        count-append is_colon (sign_tokens sign) [],
        count-append is_node (sign_tokens sign ++ []) (item_tokens i),
        count-append is_colon (sign_tokens sign ++ []) (item_tokens i),
      )
  nodes_clause (item sign (Some nearer) i) field =
      let named = token.Plain nearer ∷ token.Colon ∷ [] in
      omega (
        arith,
        sign_nodes sign,
        nodes_item i nearer,
        count-append is_node (sign_tokens sign) named,
        count-append is_colon (sign_tokens sign) named,
        count-append is_node (sign_tokens sign ++ named) (item_tokens i),
        count-append is_colon (sign_tokens sign ++ named) (item_tokens i),
      )
  nodes_clause (everything sign) field = everything_nodes (sign_tokens sign) (sign_nodes sign)

  nodes_item : (i : Item) (field : List ℕ) → count_by is_node (item_tokens i)
      ≡ nodes (item_tree i field) + count_by is_colon (item_tokens i)
  nodes_item (shape.Plain text) field = omega (arith, words_nodes field (words_of text))
  nodes_item (shape.Front text) field = refl
  nodes_item (shape.Phrase text) field = omega (arith, words_nodes field (words_of text))
  nodes_item (shape.Range low high) field = refl
  nodes_item (shape.Parens w) field =
      omega (
        arith,
        nodes_from w false field,
        count-append is_node (tokens w) (token.Close ∷ []),
        count-append is_colon (tokens w) (token.Close ∷ []),
        count-append is_node (token.Open ∷ []) (tokens w ++ token.Close ∷ []),
        count-append is_colon (token.Open ∷ []) (tokens w ++ token.Close ∷ []),
      )

-- ---- depth

open_least : (ts : List Token) (n : ℕ) → n ≤ most_open ts n
open_least [] n = omega arith
open_least (t ∷ ts) n = omega arith

pub open_bound : (t : Token) (n : ℕ) → open_after t n ≤ n + 1
open_bound token.Open n = omega arith
open_bound token.Close n = omega arith
open_bound t n = omega arith

-- a token more is read
pub open_more : (t : Token) (ts us : List Token) (n m most : ℕ) → us ≡ t ∷ ts → n ≤ m → max m (most_open us n) ≡ most
    → max (max m (open_after t n)) (most_open ts (open_after t n)) ≡ most
open_more t ts us n m most parts least e =
    let whole = ap (λ vs. max m (most_open vs n)) parts in
    omega (arith, whole, open_least ts (open_after t n))

sign_open : (sign : Sign) (ts : List Token) (n : ℕ) → most_open (sign_tokens sign ++ ts) n ≡ most_open ts n
sign_open shape.Unsigned ts n = refl
sign_open shape.Plus ts n = omega (arith, open_least ts n)
sign_open shape.Minus ts n = omega (arith, open_least ts n)
sign_open shape.Bang ts n = omega (arith, open_least ts n)
sign_open shape.Not ts n = omega (arith, open_least ts n)

joint_open : (joint : Joint) (ts : List Token) (n : ℕ) → most_open (joint_tokens joint ++ ts) n ≡ most_open ts n
joint_open Beside ts n = refl
joint_open shape.And ts n = omega (arith, open_least ts n)
joint_open shape.Or ts n = omega (arith, open_least ts n)

field_open : (field : Option (List ℕ)) (ts : List Token) (n : ℕ) → most_open (field_tokens field ++ ts) n
    ≡ most_open ts n
field_open None ts n = refl
field_open (Some field) ts n = omega (arith, open_least ts n)

close_open : (d : ℕ) (ts : List Token) (n : ℕ) → max n (max (n + 1 + d) (most_open (token.Close ∷ ts) (n + 1)))
    ≡ max (n + (d + 1)) (most_open ts n)
close_open d ts n = let back : n + 1 - 1 ≡ n = omega arith in let e = ap (most_open ts) back in
    omega (arith, e, open_least ts n)

mutual
  depth_from : (w : Written) (after : Bool) (field : List ℕ) (ts : List Token) (n : ℕ) → most_open (tokens w ++ ts) n
      ≡ max (n + clause_depth (clauses_in w after field)) (most_open ts n)
  depth_from (one c) after field ts n = omega (arith, depth_clause c field ts n, open_least ts n)
  depth_from (more c joint cs) after field ts n =
      ap (λ us. most_open us n) (joined_parts c joint cs ts)
      ∙ omega (
        arith,
        depth_clause c field (joined joint cs ts) n,
        joint_open joint (tokens cs ++ ts) n,
        depth_from cs (is_and joint) field ts n,
      )

  depth_clause : (c : WrittenClause) (field : List ℕ) (ts : List Token) (n : ℕ) → most_open (clause_tokens c ++ ts) n
      ≡ max (n + depth (clause_tree c field)) (most_open ts n)
  depth_clause (item sign nearer i) field ts n =
      ap (λ us. most_open us n) (append_assoc (sign_tokens sign ++ field_tokens nearer) (item_tokens i) ts
      ∙ append_assoc (sign_tokens sign) (field_tokens nearer) (item_tokens i ++ ts))
      ∙ sign_open sign (field_tokens nearer ++ (item_tokens i ++ ts)) n
      ∙ field_open nearer (item_tokens i ++ ts) n
      ∙ depth_item i _ ts n
  depth_clause (everything sign) field ts n =
      ap (λ us. most_open us n) (append_assoc (sign_tokens sign) (token.Star ∷ token.Colon ∷ token.Star ∷ []) ts)
      ∙ sign_open sign (token.Star ∷ token.Colon ∷ token.Star ∷ ts) n
      ∙ omega (arith, open_least ts n)

  depth_item : (i : Item) (field : List ℕ) (ts : List Token) (n : ℕ) → most_open (item_tokens i ++ ts) n
      ≡ max (n + depth (item_tree i field)) (most_open ts n)
  depth_item (shape.Plain text) field ts n = omega (arith, words_depth field (words_of text))
  depth_item (shape.Front text) field ts n = omega arith
  depth_item (shape.Phrase text) field ts n = omega (arith, words_depth field (words_of text))
  depth_item (shape.Range low high) field ts n = omega arith
  depth_item (shape.Parens w) field ts n =
      ap (λ us. max n (most_open us (n + 1))) (append_assoc (tokens w) (token.Close ∷ []) ts)
      ∙ ap (max n) (depth_from w false field (token.Close ∷ ts) (n + 1))
      ∙ close_open (clause_depth (clauses_in w false field)) ts n

-- ---- the tree of what is written

count-map : {A : Type 0} (p : Token → Bool) (f : A → Token) (xs : List A)
    → count_by p (map f xs) ≡ count_by (λ x. p (f x)) xs
count-map p f xs = fold-map (λ a t. a + cond (p t) 1 0) f 0 xs

pub written_nodes : {A : Type 0} (w : Written) (f : A → Token) (xs : List A) → tokens w ≡ map f xs
    → nodes (written_tree w) ≡ count_by (λ x. is_node (f x)) xs + 1 - count_by (λ x. is_colon (f x)) xs
written_nodes w f xs e =
    let n = nodes_from w false (codes "text") in
    let here = ap (count_by is_node) e ∙ count-map is_node f xs in
    let colons = ap (count_by is_colon) e ∙ count-map is_colon f xs in
    omega (arith, n, here, colons)

pub written_depth : (w : Written) (ts : List Token) → tokens w ≡ ts → depth (written_tree w) ≡ most_open ts 0 + 1
written_depth w ts e =
    let d = depth_from w false (codes "text") [] 0 in
    let all : depth (written_tree w) ≡ most_open (tokens w ++ []) 0 + 1 = omega (arith, d) in
    all ∙ ap (λ us. most_open us 0 + 1) (append-nil (tokens w) ∙ e)
