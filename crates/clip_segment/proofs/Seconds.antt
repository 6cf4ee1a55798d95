-- Queries that need a second key, and articles that have none of theirs.
use Rattle.std.proofs.Common.{◌≡◌, ℕ, ◌<◌, Bool, true, false, not, ◌||◌, nat_eq, List, [], ◌∷◌, map, flat_map, length}
use Rattle.std.proofs.Common.{get_or, Some, slice_get, option_map, IsTrue, refl, sym, ap, ◌∙◌, subst}
use Rattle.std.specs.List.{list_any}
use Rattle.std.proofs.lemmas.Bool.{false_from_ne_true, false≢true, and_parts}
use Rattle.std.proofs.lemmas.List.{ext_get_or, length-map}
use Rattle.std.proofs.lemmas.List.Folds.{flat_map-map}
use Rattle.std.proofs.lemmas.Option.{slice_get-map, slice_get_within, get_or_from_slice_get}
use Rattle.clip_grammar.specs.Tree.{Tree}
use Rattle.clip_meaning.specs.Article.{Fields}
use Rattle.clip_meaning.specs.Meaning.{holds}
use Rattle.clip_extract.specs.Keys.{KeyValue, is_same, share}
use Rattle.clip_extract.specs.Extraction.{second_keys}
use Rattle.clip_extract.specs.Covering.{CoversTwice, article_keys}
use Rattle.clip_extract.proofs.Order.{among_in_order}
use Rattle.clip_plan.specs.Plan.{are_terms}
use Rattle.clip_plan.proofs.Numbering.{are_parts}
use Rattle.clip_model.specs.History.{Registered}
use Rattle.clip_segment.specs.Index.{IndexValue, IsIndexOf, asked_of, needs_second, positions_by}
use Rattle.clip_segment.specs.Index.{query_positions_sharing, query_positions_with, terms_of}
use Rattle.clip_segment.specs.Segment.{trees_of}
use Rattle.clip_segment.proofs.Asked.{asked_parts, terms_from}
use Rattle.clip_segment.proofs.Sharing.{any_position, position_passes}

-- ---- flags of the queries that have second keys

-- of keys that are terms one is a term if there is any
any_term : (terms ks : List KeyValue) → are_terms terms ks ≡ true → share ks terms ≡ list_any (λ key. true) ks
any_term terms [] all = refl
any_term terms (k ∷ ks) all =
    let parts = and_parts (list_any (is_same k) terms) (are_terms terms ks) all in
    ap (λ b. b || share ks terms) parts.0

terms_needed : (terms : List KeyValue) (trees : List Tree) → IsTrue (are_terms terms (flat_map asked_of trees))
    → map (λ tree. share (second_keys tree) terms) trees ≡ map needs_second trees
terms_needed terms [] among = refl
terms_needed terms (t ∷ ts) among =
    let parts = are_parts terms (asked_of t) (flat_map asked_of ts) among in
    λ i. any_term terms (second_keys t) (asked_parts terms t parts.0).1 i ∷ terms_needed terms ts parts.1 i

-- the positions in the lists by second keys are those of the queries that have some
pub needs_are : (trees : List Tree) (terms : List KeyValue) → terms ≡ terms_of trees → (lists : List (List ℕ))
    → lists ≡ positions_by second_keys terms trees → (needs : List Bool) → length needs ≡ length trees
    → ((position : ℕ) → position < length needs
    → get_or needs position false ≡ list_any (nat_eq position) (flat_map (λ list. list) lists))
    → needs ≡ map needs_second trees
needs_are trees terms are lists placed needs long marked =
    let has_term = λ (tree : Tree). share (second_keys tree) terms in
    let under = λ (term : KeyValue). query_positions_with second_keys term trees in
    let all : flat_map (λ list. list) lists ≡ flat_map under terms =
    ap (flat_map (λ l. l)) placed ∙ flat_map-map (λ (l : List ℕ). l) under terms in
    ext_get_or false needs (map has_term trees) (long ∙ sym (length-map trees has_term))
    (λ position lt. marked position lt ∙ ap (list_any (nat_eq position)) all
    ∙ any_position second_keys terms trees position ∙ position_passes has_term trees position)
    ∙ terms_needed terms trees
    (terms_from terms (flat_map asked_of trees) (λ key h. ap (list_any (is_same key)) are
    ∙ among_in_order (flat_map asked_of trees) key ∙ h))

-- ---- an article that has none of them

any_of_none : {A : Type 0} (xs : List A) → list_any (λ x. true) xs ≡ true → ¬ (xs ≡ [])
any_of_none xs any none = false≢true (sym (ap (list_any (λ x. true)) none) ∙ any)

here : {A : Type 0} (test : Tree → A) (es : List Registered) (position : ℕ) (entry : Registered) (d : A)
    → slice_get es position ≡ Some entry → get_or (map test (trees_of es)) position d ≡ test entry.standing.tree
here test es position entry d there =
    let tree : Registered → Tree = λ e. e.standing.tree in
    get_or_from_slice_get (map test (trees_of es)) position (test entry.standing.tree) d
    (slice_get-map test (trees_of es) position
    ∙ ap (option_map test) (slice_get-map tree es position ∙ ap (option_map tree) there))

ruled_out : CoversTwice → (es : List Registered) (position : ℕ) (entry : Registered) (fields : Fields)
    (needs seconds : List Bool) → slice_get es position ≡ Some entry
    → needs ≡ map needs_second (trees_of es) → true ≡ get_or needs position false
    → (position < length es → get_or seconds position false
    ≡ list_any (nat_eq position) (query_positions_sharing second_keys (article_keys fields) (trees_of es)))
    → false ≡ get_or seconds position false
    → holds entry.standing.tree fields ≡ false
ruled_out law es position entry fields needs seconds there are needed marked none =
    let keys = article_keys fields in
    let tree = entry.standing.tree in
    let some : needs_second tree ≡ true =
    sym (needed ∙ ap (λ l. get_or l position false) are ∙ here needs_second es position entry false there) in
    let lacks : share (second_keys tree) keys ≡ false =
    sym (none ∙ marked (slice_get_within es position entry there)
    ∙ position_passes (λ t. share (second_keys t) keys) (trees_of es) position
    ∙ here (λ t. share (second_keys t) keys) es position entry false there) in
    false_from_ne_true _ (λ held. false≢true (sym lacks ∙ law tree fields held (any_of_none (second_keys tree) some)))

stays : (needed shared : Bool) → (true ≡ needed → false ≡ shared → ⊥) → (shared || not needed) ≡ true
stays needed true left = refl
stays false false left = refl
stays true false left = absurd (left refl refl)

-- a query that holds needs no second key or shares one
pub met_where_holds : CoversTwice
    → (es : List Registered) (position : ℕ) (entry : Registered) (fields : Fields) (needs seconds : List Bool)
    → slice_get es position ≡ Some entry → needs ≡ map needs_second (trees_of es)
    → (position < length es → get_or seconds position false
    ≡ list_any (nat_eq position) (query_positions_sharing second_keys (article_keys fields) (trees_of es)))
    → holds entry.standing.tree fields ≡ true
    → (get_or seconds position false || not (get_or needs position false)) ≡ true
met_where_holds law es position entry fields needs seconds there are marked held =
    stays (get_or needs position false) (get_or seconds position false)
    (λ needed none. false≢true (sym (ruled_out law es position entry fields needs seconds there are needed marked none)
    ∙ held))

-- the index by which an article is asked
pub index_read : (trees : List Tree) (index : IndexValue) (terms : List KeyValue) → IsIndexOf trees index
    → index.terms ≡ terms
    → IsIndexOf trees (record {
      terms = terms;
      positions = index.positions;
      seconds =
          positions_by second_keys terms trees;
      needs = index.needs;
      plans = index.plans;
    })
index_read trees index terms is same =
    subst (λ (ts : List KeyValue). IsIndexOf trees (record {
      terms = ts;
      positions = index.positions;
      seconds =
          positions_by second_keys ts trees;
      needs = index.needs;
      plans = index.plans;
    })) same
    (record {
      short = is.short;
      terms = is.terms;
      positions = is.positions;
      seconds = refl;
      needs = is.needs;
      plans =
          is.plans;
    })

-- its lists by second keys
pub index_seconds : (trees : List Tree) (index : IndexValue) (terms : List KeyValue) → IsIndexOf trees index
    → index.terms ≡ terms → index.seconds ≡ positions_by second_keys terms trees
index_seconds trees index terms is same = is.seconds ∙ ap (λ ts. positions_by second_keys ts trees) same
