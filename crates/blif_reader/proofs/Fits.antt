-- Cards without a fault are models as later calls ask for them.
use Rattle.std.proofs.Common.{◌≡◌, ◌++◌, ◌∷◌, ◌<◌, ◌≤◌, ◌+◌, ◌==◌, ◌&&◌, ◌||◌, not, nat_le, nat_lt, [], ℕ, List, Bool, true, false, cond, map, length, length-append, unwrap_or, codes, Option, Some, None, option_map, refl, ap, ap₂, sym, ◌∙◌, arith, inl, inr, subst, ◌⊎◌, ◌-◌, drop, flat_map}
use Rattle.std.specs.Prelude.{All, filter, option_to_list}
use Rattle.std.specs.List.{list_all}
use Rattle.std.proofs.lemmas.List.{length-map}
use Rattle.std.proofs.lemmas.List.Elements.{All-append, All-cons, All-nil}
use Rattle.std.proofs.lemmas.Bool.{eqb-true, leb-false, le-leb, ltb-false, and_parts, or_parts}
use Rattle.text_lines.specs.Faults.{IsClean}
use Rattle.text_lines.specs.Groups.{groups, up_to}
use Rattle.text_lines.specs.Words.{but_last, word_at}
use Rattle.vrt_model.specs.Lists.{has_name}
use Rattle.names.specs.Names.{with_name}
use Rattle.text_lines.proofs.FaultLaws.{CleanFrom, clean_from, clean_up_to, none_at, when_no}
use Rattle.vrt_model.specs.FlatModels.{IsRow}
use Rattle.vrt_model.specs.Inputs.{IsBlif, IsCoverLine, IsModel}
use Rattle.vrt_model.specs.declared.blif.BlifModel.{BlifModel}
use Rattle.vrt_model.specs.declared.blif.LatchKind.{LatchKind}
use Rattle.vrt_model.specs.declared.blif.LatchLine.{LatchLine}
use Rattle.blif_reader.specs.Learned.{cover_behind, with_row}
use Rattle.blif_reader.specs.Models.{Listed, begins_model, blif_of, cover_inputs, cover_of, covers_in, end_of, ends_model, first_output, init_of, is_cover, is_dotted, is_exdc, is_latch, is_sub, latch_end, latch_kind, latch_of, latches_in, listed, lines, model_name, model_of, names, network_cards, own_cards, row_inputs, with_kind}
use Rattle.blif_reader.specs.Refused.{fault_by, fault_of, faults_on, fits, is_bad_row, is_input_byte, is_model_twice, is_output_word, is_row, is_short, known_by, passes_limit}
use Rattle.blif_reader.specs.declared.cards.Card.{Card}
use Rattle.blif_reader.specs.declared.known.Known.{Known}
use Rattle.blif_reader.specs.declared.known.OpenCover.{OpenCover}
use Rattle.blif_reader.specs.declared.latches.LatchEnd.{LatchEnd}
use Rattle.blif_reader.specs.declared.faults.BlifFault.TheVariants.{Limit, ModelTwice, Row, Short}
use Rattle.names.proofs.ApartLaws.{NoRepeat, apart_by}
use Rattle.names.proofs.NewLaws.{AreNew, distinct_by_apart, new_apart}
use Rattle.blif_reader.proofs.KnownLaws.{cover_has_dot, known_more}

-- ---- what a card without a fault is

and_no : (a b : Bool) → (a && b) ≡ false → a ≡ true → b ≡ false
and_no true b e h = e
and_no false b e h = cc

not_no : (b : Bool) → not b ≡ false → b ≡ true
not_no true e = refl
not_no false e = cc

not_bad_row : (known : Known) (card : Card) → fault_by known card ≡ None → is_bad_row known card ≡ false
unfolding fault_by
not_bad_row known card e = when_no (is_bad_row known card) (Row card.line) (none_at (faults_on known card) e 4)

not_twice : (known : Known) (card : Card) → fault_by known card ≡ None → is_model_twice known card ≡ false
unfolding fault_by
not_twice known card e = when_no (is_model_twice known card) (ModelTwice card.line (model_name card)) (none_at (faults_on known card) e 8)

not_short : (known : Known) (card : Card) → fault_by known card ≡ None → is_short card ≡ false
unfolding fault_by
not_short known card e = when_no (is_short card) (Short card.line) (none_at (faults_on known card) e 9)

within_limit : (known : Known) (card : Card) → fault_by known card ≡ None → passes_limit known card ≡ false
unfolding fault_by
within_limit known card e = when_no (passes_limit known card) (Limit card.line) (none_at (faults_on known card) e 10)

-- ---- rows

abbrev IsInputByte : ℕ → Type 0
IsInputByte b = (b ≡ 48) ⊎ (b ≡ 49) ⊎ (b ≡ 45)

input_byte : (b : ℕ) → is_input_byte b ≡ true → (b ≡ 48) ⊎ (b ≡ 49) ⊎ (b ≡ 45)
input_byte b e = by_tests (b == 48) (b == 49) (b == 45) (eqb-true b 48) (eqb-true b 49) (eqb-true b 45) e where
  by_tests : (p q r : Bool) → (p ≡ true → b ≡ 48) → (q ≡ true → b ≡ 49) → (r ≡ true → b ≡ 45) → ((p || q) || r) ≡ true → (b ≡ 48) ⊎ (b ≡ 49) ⊎ (b ≡ 45)
  by_tests true q r f g h e = inl (f refl)
  by_tests false true r f g h e = inr (inl (g refl))
  by_tests false false r f g h e = inr (inr (h e))

input_bytes : (bytes : List ℕ) → list_all is_input_byte bytes ≡ true → All IsInputByte bytes
input_bytes [] e = All-nil IsInputByte
input_bytes (b ∷ bytes) e = let both = and_parts (is_input_byte b) (list_all is_input_byte bytes) e in All-cons IsInputByte b bytes (input_byte b both.0) (input_bytes bytes both.1)

row_is : (width : ℕ) (words : List (List ℕ)) → is_row width words ≡ true → IsRow width (word_at (but_last words) 0)
row_is width [] e = cc
row_is width (out ∷ []) e = record { length = sym (eqb-true width 0 (and_parts (width == 0) (is_output_word out) e).0); bytes = All-nil IsInputByte }
row_is width (bits ∷ out ∷ []) e = parts (not (width == 0)) (length bits == width) (list_all is_input_byte bits) (is_output_word out) refl refl e where
  parts : (a b c d : Bool) → (length bits == width) ≡ b → list_all is_input_byte bits ≡ c → (a && b && c && d) ≡ true → IsRow width bits
  parts true true true d l i e = record { length = eqb-true (length bits) width l; bytes = input_bytes bits i }
  parts true true false d l i e = cc
  parts true false c d l i e = cc
  parts false b c d l i e = cc
row_is width (bits ∷ out ∷ more ∷ words) e = cc

not_cover : (card : Card) → is_dotted card ≡ false → is_cover card ≡ false
not_cover card e = by_test (is_cover card) refl where
  by_test : (b : Bool) → is_cover card ≡ b → is_cover card ≡ false
  by_test true h = let d = cover_has_dot card h in cc
  by_test false h = h

fits_cover : (o : Option OpenCover) (cover : OpenCover) (card : Card) → o ≡ Some cover → fits o card ≡ true → is_row cover.width card.words ≡ true
fits_cover o cover card e h = ap (λ x. fits x card) (sym e) ∙ h

-- the rows of a cover that goes on
rows_fit : (before cards : List Card) (width : ℕ) (cover : OpenCover) → CleanFrom fault_of before cards → (known_by before).cover ≡ Some cover → cover.width ≡ width
    → All (IsRow width) (map row_inputs (up_to is_dotted cards))
rows_fit before [] width cover clean open_ same = All-nil (IsRow width)
rows_fit before (card ∷ cards) width cover clean open_ same =
    by_test (is_dotted card) refl (λ next. rows_fit (before ++ card ∷ []) cards width (with_row card cover) clean.1 next same) where
      next : is_dotted card ≡ false → (known_by (before ++ card ∷ [])).cover ≡ Some (with_row card cover)
      next d =
          ap (λ (k : Known). k.cover) (known_more before card) ∙ ap (λ o. cover_behind o card) open_
          ∙ ap₂ (λ b e. cond b (Some (let c : OpenCover = record { width = length (cover_inputs card); first = None } in c)) (cond e None (Some (with_row card cover)))) (not_cover card d) d

      good : is_dotted card ≡ false → is_row width card.words ≡ true
      good d =
          let fit = not_no (fits (known_by before).cover card) (and_no (not (is_dotted card)) (not (fits (known_by before).cover card)) (not_bad_row (known_by before) card clean.0) (ap not d)) in
          ap (λ w. is_row w card.words) (sym same) ∙ fits_cover (known_by before).cover cover card open_ fit

      by_test : (b : Bool) → is_dotted card ≡ b
          → ((known_by (before ++ card ∷ [])).cover ≡ Some (with_row card cover) → All (IsRow width) (map row_inputs (up_to is_dotted cards)))
          → All (IsRow width) (map row_inputs (cond b [] (card ∷ up_to is_dotted cards)))
      by_test true d rest = All-nil (IsRow width)
      by_test false d rest = All-cons (IsRow width) (row_inputs card) (map row_inputs (up_to is_dotted cards)) (row_is width card.words (good d)) (rest (next d))

-- ---- covers

on_without_rows : (rows : List Card) → map row_inputs rows ≡ [] → unwrap_or (first_output rows) true ≡ true
on_without_rows [] e = refl
on_without_rows (row ∷ rows) e = cc

few_inputs : (known : Known) (card : Card) → fault_by known card ≡ None → is_cover card ≡ true → length (cover_inputs card) ≤ 1000
few_inputs known card none h =
    let no = (or_parts (begins_model card && nat_le 4096 (length known.models)) (is_cover card && nat_lt 1000 (length (cover_inputs card))) (within_limit known card none)).1 in
    ltb-false 1000 (length (cover_inputs card)) (and_no (is_cover card) (nat_lt 1000 (length (cover_inputs card))) no h)

covers_fit : (before body : List Card) → CleanFrom fault_of before body → All IsCoverLine (covers_in body)
covers_fit before [] clean = All-nil IsCoverLine
covers_fit before (card ∷ body) clean = by_test (is_cover card) refl (covers_fit (before ++ card ∷ []) body clean.1) where
  opened : is_cover card ≡ true → (known_by (before ++ card ∷ [])).cover ≡ Some (record { width = length (cover_inputs card); first = None })
  opened h =
      ap (λ (k : Known). k.cover) (known_more before card)
      ∙ ap (λ b. cond b (Some (let c : OpenCover = record { width = length (cover_inputs card); first = None } in c)) (cond (is_dotted card) None (option_map (with_row card) (known_by before).cover))) h

  one : is_cover card ≡ true → IsCoverLine (cover_of (card, up_to is_dotted body))
  one h = record {
    input_limit = few_inputs (known_by before) card clean.0 h;
    rows = rows_fit (before ++ card ∷ []) body (length (cover_inputs card)) (record { width = length (cover_inputs card); first = None }) clean.1 (opened h) refl;
    empty = on_without_rows (up_to is_dotted body);
  }

  by_test : (b : Bool) → is_cover card ≡ b → All IsCoverLine (map cover_of (groups is_cover is_dotted body))
      → All IsCoverLine (map cover_of (cond b ((card, up_to is_dotted body) ∷ groups is_cover is_dotted body) (groups is_cover is_dotted body)))
  by_test true h rest = All-cons IsCoverLine (cover_of (card, up_to is_dotted body)) (map cover_of (groups is_cover is_dotted body)) (one h) rest
  by_test false h rest = rest

-- the covers of a don't-care network
network_fits : (before body : List Card) → CleanFrom fault_of before body → All IsCoverLine (covers_in (network_cards body))
network_fits before [] clean = All-nil IsCoverLine
network_fits before (card ∷ body) clean = by_test (is_exdc card) (network_fits (before ++ card ∷ []) body clean.1) where
  by_test : (b : Bool) → All IsCoverLine (covers_in (network_cards body)) → All IsCoverLine (covers_in (cond b body (network_cards body)))
  by_test true rest = covers_fit (before ++ card ∷ []) body clean.1
  by_test false rest = rest

-- ---- latches

small_init : (word : List ℕ) (n : ℕ) → init_of word ≡ Some n → n ≤ 3
small_init [] n e = cc
small_init (b ∷ []) n e =
    by_tests (b == 48) (b == 49) (b == 50) (b == 51) (eqb-true b 48) (eqb-true b 49) (eqb-true b 50) (eqb-true b 51) e where
      by_tests : (p q r s : Bool) → (p ≡ true → b ≡ 48) → (q ≡ true → b ≡ 49) → (r ≡ true → b ≡ 50) → (s ≡ true → b ≡ 51)
          → cond (((p || q) || r) || s) (Some (b - 48)) None ≡ Some n → n ≤ 3
      by_tests true q r s f g h k e = let is = f refl in let same : b - 48 ≡ n = cc in omega arith
      by_tests false true r s f g h k e = let is = g refl in let same : b - 48 ≡ n = cc in omega arith
      by_tests false false true s f g h k e = let is = h refl in let same : b - 48 ≡ n = cc in omega arith
      by_tests false false false true f g h k e = let is = k refl in let same : b - 48 ≡ n = cc in omega arith
      by_tests false false false false f g h k e = cc
small_init (b ∷ c ∷ word) n e = cc

untyped_init : (o : Option ℕ) (e : LatchEnd) → ((n : ℕ) → o ≡ Some n → n ≤ 3) → option_map (λ n. let l : LatchEnd = record { kind = None; control = None; init = n } in l) o ≡ Some e → e.init ≤ 3
untyped_init None e small h = cc
untyped_init (Some n) e small h = let same : n ≡ e.init = ap (λ (o : Option LatchEnd). unwrap_or (option_map (λ (l : LatchEnd). l.init) o) 0) h in subst (λ m. m ≤ 3) same (small n refl)

typed_init : (kind : Option LatchKind) (control : List ℕ) (o : Option ℕ) (e : LatchEnd) → ((n : ℕ) → o ≡ Some n → n ≤ 3) → with_kind kind control o ≡ Some e → e.init ≤ 3
typed_init None control None e small h = cc
typed_init None control (Some n) e small h = cc
typed_init (Some kind) control None e small h = cc
typed_init (Some kind) control (Some n) e small h =
    let same : n ≡ e.init = ap (λ (o : Option LatchEnd). unwrap_or (option_map (λ (l : LatchEnd). l.init) o) 0) h in subst (λ m. m ≤ 3) same (small n refl)

three : (n : ℕ) → Some 3 ≡ Some n → n ≤ 3
three n e = let same : 3 ≡ n = cc in omega arith

end_init : (words : List (List ℕ)) (e : LatchEnd) → latch_end words ≡ Some e → e.init ≤ 3
end_init [] e h = let same : 3 ≡ e.init = ap (λ (o : Option LatchEnd). unwrap_or (option_map (λ (l : LatchEnd). l.init) o) 3) h in omega arith
end_init (init ∷ []) e h = untyped_init (init_of init) e (small_init init) h
end_init (kind ∷ control ∷ []) e h = typed_init (latch_kind kind) control (Some 3) e three h
end_init (kind ∷ control ∷ init ∷ []) e h = typed_init (latch_kind kind) control (init_of init) e (small_init init) h
end_init (kind ∷ control ∷ init ∷ more ∷ words) e h = cc

abbrev HasInit : LatchLine → Type 0
HasInit l = l.init ≤ 3

latch_fits : (card : Card) (o : Option LatchEnd) → ((e : LatchEnd) → o ≡ Some e → e.init ≤ 3) → All HasInit (option_to_list (option_map (latch_of card) o))
latch_fits card None small = All-nil HasInit
latch_fits card (Some e) small = All-cons HasInit (latch_of card e) [] (small e refl) (All-nil HasInit)

latches_fit : (body : List Card) → All HasInit (flat_map latches_in body)
latches_fit [] = All-nil HasInit
latches_fit (card ∷ body) = All-append HasInit (latches_in card) (flat_map latches_in body) (by_test (is_latch card)) (latches_fit body) where
  by_test : (b : Bool) → All HasInit (cond b (option_to_list (option_map (latch_of card) (end_of card))) [])
  by_test true = latch_fits card (end_of card) (end_init (drop 3 card.words))
  by_test false = All-nil HasInit

-- ---- models

as_many : (signals : List Listed) → length (lines signals) ≡ length (names signals)
as_many signals = length-map signals (λ (s : Listed). s.line) ∙ sym (length-map signals (λ (s : Listed). s.name))

model_fits : (before : List Card) (card : Card) (body : List Card) → CleanFrom fault_of before body → IsModel (model_of (card, body))
model_fits before card body clean = record {
  inputs = distinct_by_apart (λ (s : Listed). s.name) _;
  clocks = distinct_by_apart (λ (s : Listed). s.name) _;
  outputs = distinct_by_apart (λ (s : Listed). s.name) _;
  input_lines = as_many (listed (codes ".inputs") (own_cards body));
  clock_lines = as_many (listed (codes ".clock") (own_cards body));
  output_lines = as_many (listed (codes ".outputs") (own_cards body));
  covers = covers_fit before (own_cards body) (clean_up_to fault_of is_exdc before body clean);
  latches = latches_fit (own_cards body);
  exdc = network_fits before body clean;
}

models_fit : (before cards : List Card) → CleanFrom fault_of before cards → All IsModel (map model_of (groups begins_model ends_model cards))
models_fit before [] clean = All-nil IsModel
models_fit before (card ∷ cards) clean = by_test (begins_model card) (models_fit (before ++ card ∷ []) cards clean.1) where
  by_test : (b : Bool) → All IsModel (map model_of (groups begins_model ends_model cards))
      → All IsModel (map model_of (cond b ((card, up_to ends_model cards) ∷ groups begins_model ends_model cards) (groups begins_model ends_model cards)))
  by_test true rest = All-cons IsModel (model_of (card, up_to ends_model cards)) (map model_of (groups begins_model ends_model cards)) (model_fits (before ++ card ∷ []) card (up_to ends_model cards) (clean_up_to fault_of ends_model (before ++ card ∷ []) cards clean.1)) rest
  by_test false rest = rest

-- ---- the names of models

model_names : (cards : List Card) → map (λ (m : BlifModel). m.name) (map model_of (groups begins_model ends_model cards)) ≡ map model_name (filter begins_model cards)
model_names [] = refl
model_names (card ∷ cards) = by_test (begins_model card) (model_names cards) where
  by_test : (b : Bool) → map (λ (m : BlifModel). m.name) (map model_of (groups begins_model ends_model cards)) ≡ map model_name (filter begins_model cards)
      → map (λ (m : BlifModel). m.name) (map model_of (cond b ((card, up_to ends_model cards) ∷ groups begins_model ends_model cards) (groups begins_model ends_model cards)))
      ≡ map model_name (cond b (card ∷ filter begins_model cards) (filter begins_model cards))
  by_test true rest = ap (λ ns. model_name card ∷ ns) rest
  by_test false rest = rest

two_words : (a b c d e f : Bool) → (((a || b || c) && d) || (e && f)) ≡ false → a ≡ true → d ≡ false
two_words true b c true e f h k = cc
two_words true b c false e f h k = refl
two_words false b c d e f h k = cc

new_model : (known : Known) (card : Card) → fault_by known card ≡ None → begins_model card ≡ true → has_name known.models (model_name card) ≡ false
new_model known card none h =
    let long = two_words (begins_model card) (is_cover card) (is_sub card) (nat_lt (length card.words) 2) (is_latch card) (nat_lt (length card.words) 3) (not_short known card none) h in
    let le : nat_le 2 (length card.words) ≡ true = le-leb 2 (length card.words) (ltb-false (length card.words) 2 long) in
    and_no (begins_model card && nat_le 2 (length card.words)) (has_name known.models (model_name card)) (not_twice known card none) (ap₂ (λ a b. a && b) h le)

models_learned : (before : List Card) (card : Card) → begins_model card ≡ true → (known_by (before ++ card ∷ [])).models ≡ with_name (known_by before).models (model_name card)
models_learned before card h = ap (λ (k : Known). k.models) (known_more before card) ∙ ap (λ b. cond b (with_name (known_by before).models (model_name card)) (known_by before).models) h

models_known : (before : List Card) (card : Card) → fault_of before card ≡ None → begins_model card ≡ true → (known_by (before ++ card ∷ [])).models ≡ (known_by before).models ++ model_name card ∷ []
models_known before card none h =
    ap (λ (k : Known). k.models) (known_more before card)
    ∙ ap₂ (λ b e. cond b (cond e (known_by before).models ((known_by before).models ++ model_name card ∷ [])) (known_by before).models) h (new_model (known_by before) card none h)

models_kept : (before : List Card) (card : Card) → begins_model card ≡ false → (known_by (before ++ card ∷ [])).models ≡ (known_by before).models
models_kept before card h = ap (λ (k : Known). k.models) (known_more before card) ∙ ap (λ b. cond b (with_name (known_by before).models (model_name card)) (known_by before).models) h

models_new : (before cards : List Card) (known : List (List ℕ)) → CleanFrom fault_of before cards → (known_by before).models ≡ known → AreNew known (map model_name (filter begins_model cards))
models_new before [] known clean same = tt
models_new before (card ∷ cards) known clean same = by_test (begins_model card) refl (λ k e. models_new (before ++ card ∷ []) cards k clean.1 e) where
  by_test : (b : Bool) → begins_model card ≡ b → ((k : List (List ℕ)) → (known_by (before ++ card ∷ [])).models ≡ k → AreNew k (map model_name (filter begins_model cards))) → AreNew known (map model_name (cond b (card ∷ filter begins_model cards) (filter begins_model cards)))
  by_test true h rest = (
    ap (λ k. has_name k (model_name card)) (sym same) ∙ new_model (known_by before) card clean.0 h,
    rest (with_name known (model_name card)) (models_learned before card h ∙ ap (λ k. with_name k (model_name card)) same),
  )
  by_test false h rest = rest known (models_kept before card h ∙ same)

models_few : (before cards : List Card) (count : ℕ) → CleanFrom fault_of before cards → length (known_by before).models ≡ count → count ≤ 4096 → length (filter begins_model cards) + count ≤ 4096
models_few before [] count clean same few = omega arith
models_few before (card ∷ cards) count clean same few = by_test (begins_model card) refl (λ n e le. models_few (before ++ card ∷ []) cards n clean.1 e le) where
  one_more : begins_model card ≡ true → length (known_by (before ++ card ∷ [])).models ≡ count + 1
  one_more h = ap length (models_known before card clean.0 h) ∙ length-append (known_by before).models (model_name card ∷ []) ∙ ap (λ n. n + 1) same

  room : begins_model card ≡ true → count < 4096
  room h =
      let no = (or_parts (begins_model card && nat_le 4096 (length (known_by before).models)) (is_cover card && nat_lt 1000 (length (cover_inputs card))) (within_limit (known_by before) card clean.0)).0 in
      let lt : length (known_by before).models < 4096 = leb-false 4096 (length (known_by before).models) (and_no (begins_model card) (nat_le 4096 (length (known_by before).models)) no h) in
      omega (arith, same)

  by_test : (b : Bool) → begins_model card ≡ b → ((n : ℕ) → length (known_by (before ++ card ∷ [])).models ≡ n → n ≤ 4096 → length (filter begins_model cards) + n ≤ 4096) → length (cond b (card ∷ filter begins_model cards) (filter begins_model cards)) + count ≤ 4096
  by_test true h rest =
      let below : count < 4096 = room h in let more : length (filter begins_model cards) + (count + 1) ≤ 4096 = rest (count + 1) (one_more h) (omega arith) in omega arith
  by_test false h rest = rest count (ap length (models_kept before card h) ∙ same) few

-- the models of cards without a fault
pub fits_all : (cards : List Card) → IsClean fault_of cards → IsBlif (blif_of cards)
unfolding blif_of known_by
fits_all cards clean =
    let from = clean_from fault_of cards clean in
    let models : List BlifModel = map model_of (groups begins_model ends_model cards) in
    let few : length (filter begins_model cards) + 0 ≤ 4096 = models_few [] cards 0 from refl (omega arith) in
    record {
      model_limit = omega (arith, ap length (model_names cards), length-map models (λ (m : BlifModel). m.name), length-map (filter begins_model cards) model_name);
      names = apart_by (λ (m : BlifModel). m.name) models (subst NoRepeat (sym (model_names cards)) (new_apart [] (map model_name (filter begins_model cards)) (models_new [] cards [] from refl)));
      models = models_fit [] cards from;
    }
