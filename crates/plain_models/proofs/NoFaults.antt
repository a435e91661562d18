-- No card of the text of a model has a fault: card by card, by what is known behind those before it.
use Rattle.std.proofs.Common.{◌≡◌, ℕ, ◌+◌, ◌≤◌, ◌⊎◌, ◌&&◌, ◌||◌, Bool, true, false, not, cond, List, [], ◌∷◌, ◌++◌, Option, Some, None, length, map, drop, append_assoc, length-append, arith, ap, ap₂, refl, sym, subst, ◌∙◌, inl, inr, is_none, option_map}
use Rattle.std.specs.Prelude.{bytes_eq, codes, flat_map, nat_le, nat_lt, unwrap_or, ◌==◌}
use Rattle.std.specs.List.{list_all, list_any}
use Rattle.std.proofs.lemmas.Bool.{and_from, le-ltb}
use Rattle.names.specs.Names.{with_name}
use Rattle.blif_reader.proofs.KnownLaws.{known_more}
use Rattle.blif_reader.specs.Cards.{cards_of, first_word, has_first}
use Rattle.blif_reader.specs.Learned.{learned, with_row}
use Rattle.blif_reader.specs.Models.{begins_model, cover_inputs, end_of, is_cover, is_dotted, is_exdc, is_latch, is_on, is_sub, model_name}
use Rattle.blif_reader.specs.Refused.{differs_from, differs_in, fault_by, fault_of, fits, is_bad_tie, is_known, known_by}
use Rattle.blif_reader.specs.declared.cards.Card.{Card}
use Rattle.blif_reader.specs.declared.faults.BlifFault.{BlifFault}
use Rattle.blif_reader.specs.declared.faults.BlifFault.TheVariants.{Unsupported, Row, MixedRows, LatchForm, Formal, ModelTwice, Short, Limit}
use Rattle.blif_reader.specs.declared.known.Known.{Known}
use Rattle.blif_reader.specs.declared.known.OpenCover.{OpenCover}
use Rattle.plain_models.proofs.CardKinds.{Each, Fits, each_of, good_covers, good_rows, row_is_no, row_is_on, row_undotted}
use Rattle.plain_models.proofs.ReadBack.{all_joined, lines_are_read}
use Rattle.plain_models.specs.Lines.{card_on, cards_from, is_good_line, is_good_word}
use Rattle.plain_models.specs.Texts.{IsPlainCover, IsPlainModel, PlainCover, PlainModel, clock_lines, cover_lines, interface_lines, model_lines, model_text, row_words}
use Rattle.text_lines.proofs.FaultLaws.{clean}
use Rattle.text_lines.proofs.WordLaws.{but_last_end}
use Rattle.text_lines.specs.Faults.{IsClean, faults_from, first_of, when}
use Rattle.text_lines.specs.Words.{but_last, word_at}
use Rattle.vrt_model.specs.Lists.{has_name}

-- ---- cards by what is known

-- no card has a fault, where this is known before the first
abbrev CleanBy : Known → List Card → Type 0
CleanBy known [] = Unit {0}
CleanBy known (card ∷ cards) = (fault_by known card ≡ None) × CleanBy (learned known card) cards

none_more : (o : Option BlifFault) (os : List (Option BlifFault)) → o ≡ None → first_of os ≡ None → first_of (o ∷ os) ≡ None
none_more o os e f = ap (λ (x : Option BlifFault). first_of (x ∷ os)) e ∙ f

clean_by : (before cards : List Card) (known : Known) → known_by before ≡ known → CleanBy known cards → first_of (faults_from fault_of before cards) ≡ None
clean_by before [] known e c = refl
clean_by before (card ∷ cards) known e c =
    none_more (fault_of before card) (faults_from fault_of (before ++ card ∷ []) cards)
    (ap (λ (k : Known). fault_by k card) e ∙ c.0)
    (clean_by (before ++ card ∷ []) cards (learned known card) (known_more before card ∙ ap (λ (k : Known). learned k card) e) c.1)

module _ (name : List ℕ) where
  -- inside the model
  abbrev inside : Option OpenCover → Known
  inside cover = record { models = name ∷ []; is_inside = true; in_network = false; cover = cover }

  -- ---- rows

  -- the faults on a card, by what kind of card it is
  abbrev by_kind : Card → (dotted latch sub model covers fit mixed : Bool) → List (Option BlifFault)
  by_kind card dotted latch sub model covers fit mixed =
      None
      ∷ when (dotted && not (is_known card)) (Unsupported card.line (first_word card))
      ∷ when (latch && ((length card.words == 5) || (length card.words == 6)) && bytes_eq (word_at card.words 3) (codes "as")) (Unsupported card.line (codes "as"))
      ∷ None
      ∷ when (not dotted && not fit) (Row card.line)
      ∷ when (not dotted && mixed) (MixedRows card.line)
      ∷ when (latch && nat_le 3 (length card.words) && is_none (end_of card)) (LatchForm card.line)
      ∷ when (sub && list_any is_bad_tie (drop 2 card.words)) (Formal card.line)
      ∷ when (model && nat_le 2 (length card.words) && has_name (name ∷ []) (model_name card)) (ModelTwice card.line (model_name card))
      ∷ when (((model || covers || sub) && nat_lt (length card.words) 2) || (latch && nat_lt (length card.words) 3)) (Short card.line)
      ∷ when ((model && nat_le 4096 1) || (covers && nat_lt 1000 (length (cover_inputs card)))) (Limit card.line)
      ∷ []

  -- a cover whose rows have the output 1
  abbrev IsOnCover : OpenCover → Type 0
  IsOnCover cover = (cover.first ≡ None) ⊎ (cover.first ≡ Some true)

  unmixed : (first : Option Bool) (on : Bool) → (first ≡ None) ⊎ (first ≡ Some true) → on ≡ true → differs_from first on ≡ false
  unmixed first on (inl none) e = ap (λ (o : Option Bool). differs_from o on) none
  unmixed first on (inr some) e = ap₂ (λ (o : Option Bool) (b : Bool). differs_from o b) some e

  stays_on : (first : Option Bool) (on : Bool) → (first ≡ None) ⊎ (first ≡ Some true) → on ≡ true → Some (unwrap_or first on) ≡ Some true
  stays_on first on (inl none) e = ap₂ (λ (o : Option Bool) (b : Bool). Some (unwrap_or o b)) none e
  stays_on first on (inr some) e = ap (λ (o : Option Bool). Some (unwrap_or o on)) some

  row_clean : (cover : OpenCover) (row : List ℕ) (line : ℕ) → IsOnCover cover → Fits cover.width row → fault_by (inside (Some cover)) (card_on line (row_words row)) ≡ None
  unfolding fault_by
  row_clean cover row line on fit =
      let card = card_on line (row_words row) in
      let no : (word : List ℕ) → has_first (46 ∷ word) card ≡ false = λ word. row_is_no word cover.width row line fit in
      ap (λ (t : Bool). first_of (by_kind card t (is_latch card) (is_sub card) (begins_model card) (is_cover card) (fits (Some cover) card) (differs_in (Some cover) card))) (row_undotted cover.width row line fit)
      ∙ ap (λ (t : Bool). first_of (by_kind card false t (is_sub card) (begins_model card) (is_cover card) (fits (Some cover) card) (differs_in (Some cover) card))) (no (codes "latch"))
      ∙ ap (λ (t : Bool). first_of (by_kind card false false t (begins_model card) (is_cover card) (fits (Some cover) card) (differs_in (Some cover) card))) (no (codes "subckt"))
      ∙ ap (λ (t : Bool). first_of (by_kind card false false false t (is_cover card) (fits (Some cover) card) (differs_in (Some cover) card))) (no (codes "model"))
      ∙ ap (λ (t : Bool). first_of (by_kind card false false false false t (fits (Some cover) card) (differs_in (Some cover) card))) (no (codes "names"))
      ∙ ap (λ (t : Bool). first_of (by_kind card false false false false false t (differs_in (Some cover) card))) fit
      ∙ ap (λ (t : Bool). first_of (by_kind card false false false false false true t)) (unmixed cover.first (is_on card) on (row_is_on row line))

  -- what is known behind a card, by what kind of card it is
  abbrev known_kind : Card → Option OpenCover → (model end exdc covers dotted : Bool) → Known
  known_kind card cover model end exdc covers dotted = record {
    models = cond model (with_name (name ∷ []) (model_name card)) (name ∷ []);
    is_inside = cond model true (cond (model || end) false true);
    in_network = cond exdc true (cond (exdc || (model || end)) false false);
    cover = cond covers (Some (record { width = length (cover_inputs card); first = None })) (cond dotted None (option_map (with_row card) cover));
  }

  row_learned : (cover : OpenCover) (row : List ℕ) (line : ℕ) → Fits cover.width row
      → learned (inside (Some cover)) (card_on line (row_words row)) ≡ inside (Some (with_row (card_on line (row_words row)) cover))
  row_learned cover row line fit =
      let card = card_on line (row_words row) in
      let no : (word : List ℕ) → has_first (46 ∷ word) card ≡ false = λ word. row_is_no word cover.width row line fit in
      ap (λ (t : Bool). known_kind card (Some cover) t (has_first (codes ".end") card) (is_exdc card) (is_cover card) (is_dotted card)) (no (codes "model"))
      ∙ ap (λ (t : Bool). known_kind card (Some cover) false t (is_exdc card) (is_cover card) (is_dotted card)) (no (codes "end"))
      ∙ ap (λ (t : Bool). known_kind card (Some cover) false false t (is_cover card) (is_dotted card)) (no (codes "exdc"))
      ∙ ap (λ (t : Bool). known_kind card (Some cover) false false false t (is_dotted card)) (no (codes "names"))
      ∙ ap (λ (t : Bool). known_kind card (Some cover) false false false false t) (row_undotted cover.width row line fit)

  -- rows, and what is clean behind them
  rows_clean : (cover : OpenCover) (rows : List (List ℕ)) (line : ℕ) (rest : List (List (List ℕ))) → IsOnCover cover → Each (Fits cover.width) rows
      → ((n : ℕ) (o : Option OpenCover) → CleanBy (inside o) (cards_from n rest)) → CleanBy (inside (Some cover)) (cards_from line (map row_words rows ++ rest))
  rows_clean cover [] line rest on fit behind = behind line (Some cover)
  rows_clean cover (row ∷ rows) line rest on fit behind =
      let card = card_on line (row_words row) in (
        row_clean cover row line on fit.0,
        subst (λ (k : Known). CleanBy k (cards_from (line + 1) (map row_words rows ++ rest))) (sym (row_learned cover row line fit.0))
            (rows_clean (with_row card cover) rows (line + 1) rest (inr (stays_on cover.first (is_on card) on (row_is_on row line))) fit.1 behind),
      )

  -- ---- covers

  names_clean : (o : Option OpenCover) (inputs : List (List ℕ)) (output : List ℕ) (line : ℕ) → length inputs ≤ 1000
      → fault_by (inside o) (card_on line (codes ".names" ∷ inputs ++ output ∷ [])) ≡ None
  unfolding fault_by
  names_clean o inputs output line few =
      let long : nat_lt (length (codes ".names" ∷ inputs ++ output ∷ [])) 2 ≡ false = le-ltb (length (codes ".names" ∷ inputs ++ output ∷ [])) 2 (let l = length-append inputs (output ∷ []) in omega (arith, l)) in
      let within : nat_lt 1000 (length (but_last (inputs ++ output ∷ []))) ≡ false =
      ap (λ (xs : List (List ℕ)). nat_lt 1000 (length xs)) (but_last_end inputs output) ∙ le-ltb 1000 (length inputs) few in
      ap₂ (λ (s l : Bool). first_of (when (s || false) (Short line) ∷ when l (Limit line) ∷ [])) long within

  abbrev end_line : List (List (List ℕ))
  end_line = (codes ".end" ∷ []) ∷ []

  covers_clean : (covers : List PlainCover) (line : ℕ) (o : Option OpenCover) → Each IsPlainCover covers → CleanBy (inside o) (cards_from line (flat_map cover_lines covers ++ end_line))
  unfolding fault_by
  covers_clean [] line o good = (refl, tt)
  covers_clean (cover ∷ covers) line o good =
      let width : length (but_last (cover.inputs ++ cover.output ∷ [])) ≡ length cover.inputs = ap length (but_last_end cover.inputs cover.output) in
      subst (λ (lines : List (List (List ℕ))). CleanBy (inside o) (cards_from line lines)) (sym (append_assoc (cover_lines cover) (flat_map cover_lines covers) end_line)) (
        names_clean o cover.inputs cover.output line good.0.few,
        rows_clean (record { width = length (but_last (cover.inputs ++ cover.output ∷ [])); first = None }) cover.rows (line + 1) (flat_map cover_lines covers ++ end_line) (inl refl)
            (subst (λ (w : ℕ). Each (Fits w) cover.rows) (sym width) (good_rows cover good.0)) (λ n p. covers_clean covers n p good.1),
      )

  -- ---- the interface

  abbrev behind_inputs : List (List ℕ) → List (List ℕ) → List PlainCover → List (List (List ℕ))
  behind_inputs clocks outputs covers = ((clock_lines clocks ++ (codes ".outputs" ∷ outputs) ∷ []) ++ flat_map cover_lines covers) ++ end_line

  interface_clean : (inputs clocks outputs : List (List ℕ)) (covers : List PlainCover) → Each IsPlainCover covers
      → CleanBy (inside None) (cards_from 2 ((codes ".inputs" ∷ inputs) ∷ behind_inputs clocks outputs covers))
  unfolding fault_by
  interface_clean inputs [] outputs covers good = (refl, (refl, covers_clean covers 4 None good))
  interface_clean inputs (clock ∷ clocks) outputs covers good = (refl, (refl, (refl, covers_clean covers 5 None good)))

-- ---- the text

first_clean : (name : List ℕ) → fault_by (record { models = []; is_inside = false; in_network = false; cover = None }) (card_on 1 (codes ".model" ∷ name ∷ [])) ≡ None
unfolding fault_by
first_clean name = refl

nothing_known : known_by [] ≡ record { models = []; is_inside = false; in_network = false; cover = None }
unfolding known_by
nothing_known = refl

pub covers_each : (m : PlainModel) → IsPlainModel m → Each IsPlainCover m.covers
covers_each m good = each_of IsPlainCover m.covers good.covers

cards_clean : (m : PlainModel) → IsPlainModel m → IsClean fault_of (cards_from 1 (model_lines m))
cards_clean m good =
    clean fault_of (cards_from 1 (model_lines m))
    (clean_by [] (cards_from 1 (model_lines m)) (record { models = []; is_inside = false; in_network = false; cover = None }) nothing_known
    (first_clean m.name, interface_clean m.name m.inputs m.clocks m.outputs m.covers (covers_each m good)))

good_clocks : (clocks : List (List ℕ)) → list_all is_good_word clocks ≡ true → list_all is_good_line (clock_lines clocks) ≡ true
good_clocks [] e = refl
good_clocks (clock ∷ clocks) e = ap (λ (t : Bool). t && true) e

pub good_lines : (m : PlainModel) → IsPlainModel m → list_all is_good_line (model_lines m) ≡ true
good_lines m good =
    let first : is_good_line (codes ".model" ∷ m.name ∷ []) ≡ true = ap (λ (t : Bool). t && true) good.name in
    let outputs : list_all is_good_line ((codes ".outputs" ∷ m.outputs) ∷ []) ≡ true = ap (λ (t : Bool). t && true) good.outputs in
    let interface : list_all is_good_line (interface_lines m) ≡ true =
    and_from (is_good_line (codes ".inputs" ∷ m.inputs)) (list_all is_good_line (clock_lines m.clocks ++ (codes ".outputs" ∷ m.outputs) ∷ [])) good.inputs
    (all_joined is_good_line (clock_lines m.clocks) ((codes ".outputs" ∷ m.outputs) ∷ []) (good_clocks m.clocks good.clocks) outputs) in
    let body = all_joined is_good_line (interface_lines m) (flat_map cover_lines m.covers) interface (good_covers m.covers (covers_each m good)) in
    and_from (is_good_line (codes ".model" ∷ m.name ∷ [])) (list_all is_good_line ((interface_lines m ++ flat_map cover_lines m.covers) ++ (codes ".end" ∷ []) ∷ [])) first
    (all_joined is_good_line (interface_lines m ++ flat_map cover_lines m.covers) ((codes ".end" ∷ []) ∷ []) body refl)

pub plain_texts_are_clean : (m : PlainModel) → IsPlainModel m → IsClean fault_of (cards_of (model_text m))
plain_texts_are_clean m good = subst (IsClean fault_of) (sym (lines_are_read (model_lines m) (good_lines m good))) (cards_clean m good)
