-- What one card more changes of what is known.
use Rattle.std.proofs.Common.{sym, ◌||◌, codes, is_some, length, unwrap_or, ◌≡◌, ◌++◌, ◌∷◌, [], ℕ, List, Bool, true, false, cond, map, Option, Some, None, option_map, refl, ap, ap₂, ◌∙◌, append-nil}
use Rattle.std.specs.Prelude.{filter}
use Rattle.std.proofs.lemmas.Slice.Eq.{bytes_eq-Decides}
use Rattle.text_lines.specs.Bytes.{starts}
use Rattle.text_lines.specs.Groups.{open_group}
use Rattle.vrt_model.specs.Lists.{distinct}
use Rattle.names.specs.Names.{with_name}
use Rattle.text_lines.proofs.GroupLaws.{listed_more, open_anew, open_goes_on, open_shuts, with_end}
use Rattle.names.proofs.NameLaws.{distinct_more}
use Rattle.blif_reader.specs.Cards.{first_word, has_first}
use Rattle.blif_reader.specs.Learned.{cover_behind, learned, models_behind, open_behind, with_row}
use Rattle.blif_reader.specs.Models.{begins_model, cover_inputs, ends_model, first_output, is_cover, is_dotted, is_exdc, is_on, model_name}
use Rattle.blif_reader.specs.Refused.{ends_network, known_by, open_cover, told_of}
use Rattle.blif_reader.specs.declared.cards.Card.{Card}
use Rattle.blif_reader.specs.declared.known.Known.{Known}
use Rattle.blif_reader.specs.declared.known.OpenCover.{OpenCover}

-- ---- the names of models

models_more : (before : List Card) (card : Card)
    → distinct (map model_name (filter begins_model (before ++ card ∷ []))) ≡ models_behind (distinct (map model_name (filter begins_model before))) card
models_more before card = ap distinct (listed_more begins_model model_name before card) ∙ by_test (begins_model card) (map model_name (filter begins_model before)) card where
  by_test : (b : Bool) (ns : List (List ℕ)) (card : Card) → distinct (ns ++ map model_name (cond b (card ∷ []) [])) ≡ cond b (with_name (distinct ns) (model_name card)) (distinct ns)
  by_test true ns card = distinct_more ns (model_name card ∷ [])
  by_test false ns card = ap distinct (append-nil ns)

-- ---- the open model and the open network

still_open : {X : Type 0} (x : X) (o : Option (X × List X)) → is_some (option_map (with_end x) o) ≡ is_some o
still_open x None = refl
still_open x (Some g) = refl

module _ (begins ends : Card → Bool) where
  open_more : (before : List Card) (card : Card) (b e : Bool) → begins card ≡ b → ends card ≡ e → (begins card ≡ true → ends card ≡ true)
      → is_some (open_group begins ends (before ++ card ∷ [])) ≡ open_behind begins ends (is_some (open_group begins ends before)) card
  open_more before card true e h k both =
      let was = is_some (open_group begins ends before) in
      ap is_some (open_anew begins ends before card h (both h)) ∙ ap (λ b. cond b true (cond (ends card) false was)) (sym h)
  open_more before card false true h k both =
      let was = is_some (open_group begins ends before) in
      ap is_some (open_shuts begins ends before card h k) ∙ ap₂ (λ b e. cond b true (cond e false was)) (sym h) (sym k)
  open_more before card false false h k both =
      let was = is_some (open_group begins ends before) in
      ap is_some (open_goes_on begins ends before card h k) ∙ still_open card (open_group begins ends before)
      ∙ ap₂ (λ b e. cond b true (cond e false was)) (sym h) (sym k)

-- ---- the open cover

pub cover_has_dot : (card : Card) → is_cover card ≡ true → is_dotted card ≡ true
cover_has_dot card e = ap (λ w. starts 46 w) ((bytes_eq-Decides (first_word card) (codes ".names")).0 e)

first_more : (rows : List Card) (row : Card) → first_output (rows ++ row ∷ []) ≡ Some (unwrap_or (first_output rows) (is_on row))
first_more [] row = refl
first_more (first ∷ rows) row = refl

row_more : (row : Card) (o : Option (Card × List Card)) → option_map told_of (option_map (with_end row) o) ≡ option_map (with_row row) (option_map told_of o)
row_more row None = refl
row_more row (Some g) = ap (λ first. let c : OpenCover = record { width = length (cover_inputs g.0); first = first } in Some c) (first_more g.1 row)

abbrev begun : Card → OpenCover
begun card = record { width = length (cover_inputs card); first = None }

cover_more : (before : List Card) (card : Card) (b e : Bool) → is_cover card ≡ b → is_dotted card ≡ e
    → option_map told_of (open_cover (before ++ card ∷ [])) ≡ cover_behind (option_map told_of (open_cover before)) card
cover_more before card true e h k =
    let old = option_map (with_row card) (option_map told_of (open_cover before)) in
    ap (option_map told_of) (open_anew is_cover is_dotted before card h (cover_has_dot card h)) ∙ ap (λ b. cond b (Some (begun card)) (cond (is_dotted card) None old)) (sym h)
cover_more before card false true h k =
    let old = option_map (with_row card) (option_map told_of (open_cover before)) in
    ap (option_map told_of) (open_shuts is_cover is_dotted before card h k) ∙ ap₂ (λ b e. cond b (Some (begun card)) (cond e None old)) (sym h) (sym k)
cover_more before card false false h k =
    let old = option_map (with_row card) (option_map told_of (open_cover before)) in
    ap (option_map told_of) (open_goes_on is_cover is_dotted before card h k) ∙ row_more card (open_cover before)
    ∙ ap₂ (λ b e. cond b (Some (begun card)) (cond e None old)) (sym h) (sym k)

-- behind one card more
pub known_more : (before : List Card) (card : Card) → known_by (before ++ card ∷ []) ≡ learned (known_by before) card
unfolding known_by
known_more before card =
    let a = models_more before card in
    let b = open_more begins_model ends_model before card (begins_model card) (ends_model card) refl refl (λ h. ap (λ b. b || has_first (codes ".end") card) h) in
    let d = open_more is_exdc ends_network before card (is_exdc card) (ends_network card) refl refl (λ h. ap (λ b. b || ends_model card) h) in
    let c = cover_more before card (is_cover card) (is_dotted card) refl refl in
    joined_by a b d c where
      joined_by : {m n : List (List ℕ)} {i j u v : Bool} {o p : Option OpenCover} → m ≡ n → i ≡ j → u ≡ v → o ≡ p
          → (let k : Known = record { models = m; is_inside = i; in_network = u; cover = o } in k) ≡ (let k : Known = record { models = n; is_inside = j; in_network = v; cover = p } in k)
      joined_by {m} {n} {i} {j} {u} {v} {o} {p} a b d c =
          ap₂ (λ x y. let k : Known = record { models = x; is_inside = y; in_network = u; cover = o } in k) a b
          ∙ ap₂ (λ x y. let k : Known = record { models = n; is_inside = j; in_network = x; cover = y } in k) d c
