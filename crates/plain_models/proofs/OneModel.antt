-- What is read of the text of a model is the model: its interface, its covers, and nothing else.
use Rattle.std.proofs.Common.{◌≡◌, ℕ, suc, ◌+◌, ◌||◌, Bool, true, false, cond, List, [], ◌∷◌, ◌++◌, length, map, append-nil, arith, ap, ap₂, refl, sym, ◌∙◌}
use Rattle.std.specs.Prelude.{bytes_eq, codes, filter, flat_map, option_map, option_to_list, unwrap_or}
use Rattle.std.proofs.lemmas.Bool.{or_from, or_parts}
use Rattle.std.proofs.lemmas.List.{length-map}
use Rattle.std.proofs.lemmas.List.Folds.{list_any-append}
use Rattle.names.proofs.ApartLaws.{NoRepeat, once_by}
use Rattle.names.specs.Names.{distinct_by, distinct_from}
use Rattle.blif_reader.specs.Cards.{cards_of, has_first}
use Rattle.blif_reader.specs.Models.{Listed, begins_model, blif_of, cover_of, end_of, ends_model, first_output, covers_in, is_cover, is_dotted, is_exdc, is_latch, is_sub, latch_of, latches_in, lines, listed, listed_on, model_of, names, network_cards, own_cards, row_inputs, signals_on, sub_of}
use Rattle.blif_reader.specs.declared.cards.Card.{Card}
use Rattle.plain_models.proofs.CardKinds.{Each, Fits, IsNo, covers_are_no, each_joined, each_mapped, good_rows, row_is_no, row_is_on, row_undotted}
use Rattle.plain_models.proofs.NoFaults.{covers_each, good_lines}
use Rattle.plain_models.proofs.ReadBack.{lines_are_read}
use Rattle.plain_models.specs.Lines.{card_on, cards_from}
use Rattle.plain_models.specs.Texts.{IsPlainCover, IsPlainModel, PlainCover, PlainModel, alone, clock_lines, cover_lines, cover_on, covers_from, interface_lines, model_lines, model_on_lines, model_text, outputs_line, row_words}
use Rattle.text_lines.proofs.WordLaws.{but_last_end, last_word_end}
use Rattle.text_lines.specs.Groups.{groups, up_to}
use Rattle.text_lines.specs.Words.{behind}
use Rattle.vrt_model.proofs.Tests.{bytes_eq-sym}
use Rattle.vrt_model.specs.Inputs.{AllApart}
use Rattle.vrt_model.specs.Lists.{has_name}
use Rattle.vrt_model.specs.declared.blif.BlifModel.{BlifModel}
use Rattle.vrt_model.specs.declared.blif.CoverLine.{CoverLine}

-- ---- cards of lines that a test does not pick

-- the test picks no card of these words
abbrev Misses : (Card → Bool) → List (List ℕ) → Type 0
Misses test words = (line : ℕ) → test (card_on line words) ≡ false

module _ (test : Card → Bool) where
  -- what stands before an end
  up_to_end : (line : ℕ) (xs : List (List (List ℕ))) (last : List (List ℕ)) → Each (Misses test) xs → ((n : ℕ) → test (card_on n last) ≡ true)
      → up_to test (cards_from line (xs ++ last ∷ [])) ≡ cards_from line xs
  up_to_end line [] last miss is = ap (λ (t : Bool). cond t [] (card_on line last ∷ [])) (is line)
  up_to_end line (x ∷ xs) last miss is =
      ap (λ (t : Bool). cond t [] (card_on line x ∷ up_to test (cards_from (line + 1) (xs ++ last ∷ [])))) (miss.0 line)
      ∙ ap (λ (cards : List Card). card_on line x ∷ cards) (up_to_end (line + 1) xs last miss.1 is)

  -- what stands before other cards, of which the first is an end
  up_to_more : (line : ℕ) (xs ys : List (List (List ℕ))) → Each (Misses test) xs → ((n : ℕ) → up_to test (cards_from n ys) ≡ []) → up_to test (cards_from line (xs ++ ys)) ≡ cards_from line xs
  up_to_more line [] ys miss none = none line
  up_to_more line (x ∷ xs) ys miss none =
      ap (λ (t : Bool). cond t [] (card_on line x ∷ up_to test (cards_from (line + 1) (xs ++ ys)))) (miss.0 line)
      ∙ ap (λ (cards : List Card). card_on line x ∷ cards) (up_to_more (line + 1) xs ys miss.1 none)

  none_picked : (line : ℕ) (xs : List (List (List ℕ))) → Each (Misses test) xs → filter test (cards_from line xs) ≡ []
  none_picked line [] miss = refl
  none_picked line (x ∷ xs) miss =
      ap (λ (t : Bool). cond t (card_on line x ∷ filter test (cards_from (line + 1) xs)) (filter test (cards_from (line + 1) xs))) (miss.0 line) ∙ none_picked (line + 1) xs miss.1

  -- what is listed of cards that are picked
  none_listed : {X : Type 0} (f : Card → List X) (line : ℕ) (xs : List (List (List ℕ))) → Each (Misses test) xs → flat_map (λ card. cond (test card) (f card) []) (cards_from line xs) ≡ []
  none_listed f line [] miss = refl
  none_listed {X} f line (x ∷ xs) miss =
      ap (λ (t : Bool). cond t (f (card_on line x)) [] ++ flat_map (λ card. cond (test card) (f card) []) (cards_from (line + 1) xs)) (miss.0 line) ∙ none_listed f (line + 1) xs miss.1

  -- groups whose heads are picked
  groups_later : (ends : Card → Bool) (line : ℕ) (xs ys : List (List (List ℕ))) → Each (Misses test) xs
      → groups test ends (cards_from line (xs ++ ys)) ≡ groups test ends (cards_from (line + length xs) ys)
  groups_later ends line [] ys miss = (let same : line ≡ line + 0 = omega arith in ap (λ (n : ℕ). groups test ends (cards_from n ys)) same)
  groups_later ends line (x ∷ xs) ys miss =
      let same : line + 1 + length xs ≡ line + suc (length xs) = omega arith in
      ap (λ (t : Bool). cond t ((card_on line x, up_to ends (cards_from (line + 1) (xs ++ ys))) ∷ groups test ends (cards_from (line + 1) (xs ++ ys))) (groups test ends (cards_from (line + 1) (xs ++ ys)))) (miss.0 line)
      ∙ groups_later ends (line + 1) xs ys miss.1 ∙ ap (λ (n : ℕ). groups test ends (cards_from n ys)) same

  no_groups : (ends : Card → Bool) (line : ℕ) (xs : List (List (List ℕ))) → Each (Misses test) xs → groups test ends (cards_from line xs) ≡ []
  no_groups ends line xs miss = ap (λ (ys : List (List (List ℕ))). groups test ends (cards_from line ys)) (sym (append-nil xs)) ∙ groups_later ends line xs [] miss

-- no network is behind cards of which none begins one
no_network : (line : ℕ) (xs : List (List (List ℕ))) → Each (Misses is_exdc) xs → network_cards (cards_from line xs) ≡ []
no_network line [] miss = refl
no_network line (x ∷ xs) miss = ap (λ (t : Bool). cond t (cards_from (line + 1) xs) (network_cards (cards_from (line + 1) xs))) (miss.0 line) ∙ no_network (line + 1) xs miss.1

-- ---- lists of signals

-- names that are different are listed as they stand
each_listed : (line : ℕ) (known xs : List (List ℕ)) → NoRepeat xs → Each (λ x. has_name known x ≡ false) xs
    → distinct_from (λ (s : Listed). s.name) known (map (listed_on line) xs) ≡ map (listed_on line) xs
each_listed line known [] once new = refl
each_listed line known (x ∷ xs) once new =
    ap (λ (t : Bool). cond t (distinct_from (λ (s : Listed). s.name) known (map (listed_on line) xs)) (listed_on line x ∷ distinct_from (λ (s : Listed). s.name) (known ++ x ∷ []) (map (listed_on line) xs))) new.0
    ∙ ap (λ (ss : List Listed). listed_on line x ∷ ss) (each_listed line (known ++ x ∷ []) xs once.1 (still_new xs once.0 new.1))
  where
    still_new : (ys : List (List ℕ)) → has_name ys x ≡ false → Each (λ y. has_name known y ≡ false) ys → Each (λ y. has_name (known ++ x ∷ []) y ≡ false) ys
    still_new [] apart fresh = tt
    still_new (y ∷ ys) apart fresh =
        let both = or_parts (bytes_eq x y) (has_name ys x) apart in (
          list_any-append (bytes_eq y) known (x ∷ []) ∙ or_from (has_name known y) (bytes_eq y x || false) fresh.0 (or_from (bytes_eq y x) false (bytes_eq-sym y x ∙ both.0) refl),
          still_new ys both.1 fresh.1,
        )

nothing_before : (xs : List (List ℕ)) → Each (λ x. has_name [] x ≡ false) xs
nothing_before [] = tt
nothing_before (x ∷ xs) = (refl, nothing_before xs)

once_listed : (line : ℕ) (xs : List (List ℕ)) → AllApart bytes_eq xs → distinct_by (λ (s : Listed). s.name) (map (listed_on line) xs) ≡ map (listed_on line) xs
once_listed line xs apart = each_listed line [] xs (once_by xs apart) (nothing_before xs)

names_listed : (line : ℕ) (xs : List (List ℕ)) → names (map (listed_on line) xs) ≡ xs
names_listed line [] = refl
names_listed line (x ∷ xs) = ap (λ (ys : List (List ℕ)). x ∷ ys) (names_listed line xs)

lines_listed : (line : ℕ) (xs : List (List ℕ)) → lines (map (listed_on line) xs) ≡ map (λ x. line) xs
lines_listed line [] = refl
lines_listed line (x ∷ xs) = ap (λ (ys : List ℕ). line ∷ ys) (lines_listed line xs)

-- ---- covers

rows_read : (rows : List (List ℕ)) (line : ℕ) → map row_inputs (cards_from line (map row_words rows)) ≡ rows
rows_read [] line = refl
rows_read ([] ∷ rows) line = ap (λ (rs : List (List ℕ)). [] ∷ rs) (rows_read rows (line + 1))
rows_read ((b ∷ bs) ∷ rows) line = ap (λ (rs : List (List ℕ)). (b ∷ bs) ∷ rs) (rows_read rows (line + 1))

rows_on : (rows : List (List ℕ)) (line : ℕ) → unwrap_or (first_output (cards_from line (map row_words rows))) true ≡ true
rows_on [] line = refl
rows_on (row ∷ rows) line = row_is_on row line

cover_read : (cover : PlainCover) (line : ℕ)
    → cover_of (card_on line (codes ".names" ∷ cover.inputs ++ cover.output ∷ []), cards_from (line + 1) (map row_words cover.rows)) ≡ cover_on line cover
cover_read cover line =
    let inputs = but_last_end cover.inputs cover.output in
    let output = last_word_end cover.inputs cover.output in
    let on = rows_on cover.rows (line + 1) in
    let rows = rows_read cover.rows (line + 1) in
    λ i. record { line = line; inputs = inputs i; output = output i; on = on i; rows = rows i }

-- the next cover begins with a dot
next_cover : (covers : List PlainCover) (line : ℕ) → up_to is_dotted (cards_from line (flat_map cover_lines covers)) ≡ []
next_cover [] line = refl
next_cover (cover ∷ covers) line = refl

covers_read : (covers : List PlainCover) (line : ℕ) → Each IsPlainCover covers → map cover_of (groups is_cover is_dotted (cards_from line (flat_map cover_lines covers))) ≡ covers_from line covers
covers_read [] line good = refl
covers_read (cover ∷ covers) line good =
    let tail = flat_map cover_lines covers in
    let width = length cover.inputs in
    let fit = good_rows cover good.0 in
    let mine : up_to is_dotted (cards_from (line + 1) (map row_words cover.rows ++ tail)) ≡ cards_from (line + 1) (map row_words cover.rows) =
    up_to_more is_dotted (line + 1) (map row_words cover.rows) tail (each_mapped (Fits width) (Misses is_dotted) row_words cover.rows (λ row e n. row_undotted width row n e) fit) (next_cover covers) in
    let others : groups is_cover is_dotted (cards_from (line + 1) (map row_words cover.rows ++ tail)) ≡ groups is_cover is_dotted (cards_from (line + 1 + length cover.rows) tail) =
    groups_later is_cover is_dotted (line + 1) (map row_words cover.rows) tail (each_mapped (Fits width) (Misses is_cover) row_words cover.rows (λ row e n. row_is_no (codes "names") width row n e) fit)
    ∙ ap (λ (k : ℕ). groups is_cover is_dotted (cards_from (line + 1 + k) tail)) (length-map cover.rows row_words) in
    ap₂ (λ (rows : List Card) (more : List (Card × List Card)). cover_of (card_on line (codes ".names" ∷ cover.inputs ++ cover.output ∷ []), rows) ∷ map cover_of more) mine others
    ∙ ap₂ (λ (c : CoverLine) (cs : List CoverLine). c ∷ cs) (cover_read cover line) (covers_read covers (line + 1 + length cover.rows) good.1)

-- ---- one model

-- the lines of the interface begin with these words
interface_is_no : (word : List ℕ) → bytes_eq (codes ".inputs") word ≡ false → bytes_eq (codes ".clock") word ≡ false → bytes_eq (codes ".outputs") word ≡ false
    → (inputs clocks outputs : List (List ℕ)) → Each (IsNo word) ((codes ".inputs" ∷ inputs) ∷ clock_lines clocks ++ (codes ".outputs" ∷ outputs) ∷ [])
interface_is_no word i c o inputs [] outputs = (λ n. i, (λ n. o, tt))
interface_is_no word i c o inputs (clock ∷ clocks) outputs = (λ n. i, (λ n. c, (λ n. o, tt)))

module _ (m : PlainModel) (good : IsPlainModel m) where
  abbrev body : List (List (List ℕ))
  body = interface_lines m ++ flat_map cover_lines m.covers

  each : Each IsPlainCover m.covers
  each = covers_each m good

  body_is_no : (word : List ℕ) → bytes_eq (codes ".inputs") (46 ∷ word) ≡ false → bytes_eq (codes ".clock") (46 ∷ word) ≡ false → bytes_eq (codes ".outputs") (46 ∷ word) ≡ false
      → bytes_eq (codes ".names") (46 ∷ word) ≡ false → Each (IsNo (46 ∷ word)) body
  body_is_no word i c o n =
      each_joined (IsNo (46 ∷ word)) (interface_lines m) (flat_map cover_lines m.covers) (interface_is_no (46 ∷ word) i c o m.inputs m.clocks m.outputs) (covers_are_no word n m.covers each)

  not_end : Each (Misses ends_model) body
  not_end = both body (body_is_no (codes "model") refl refl refl refl) (body_is_no (codes "end") refl refl refl refl)
    where
      both : (xs : List (List (List ℕ))) → Each (IsNo (codes ".model")) xs → Each (IsNo (codes ".end")) xs → Each (Misses ends_model) xs
      both [] one two = tt
      both (x ∷ xs) one two = (λ n. or_from (begins_model (card_on n x)) (has_first (codes ".end") (card_on n x)) (one.0 n) (two.0 n), both xs one.1 two.1)

  one_group : groups begins_model ends_model (cards_from 1 (model_lines m)) ≡ (card_on 1 (codes ".model" ∷ m.name ∷ []), cards_from 2 body) ∷ []
  one_group =
      let mine = up_to_end ends_model 2 body (codes ".end" ∷ []) not_end (λ n. refl) in
      let others : groups begins_model ends_model (cards_from 2 (body ++ (codes ".end" ∷ []) ∷ [])) ≡ [] =
      no_groups begins_model ends_model 2 (body ++ (codes ".end" ∷ []) ∷ [])
      (each_joined (Misses begins_model) body ((codes ".end" ∷ []) ∷ []) (body_is_no (codes "model") refl refl refl refl) (λ n. refl, tt)) in
      ap₂ (λ (cards : List Card) (more : List (Card × List Card)). (card_on 1 (codes ".model" ∷ m.name ∷ []), cards) ∷ more) mine others

  -- ---- the interface

  no_signals : (word : List ℕ) → bytes_eq (codes ".names") (46 ∷ word) ≡ false → (line : ℕ) → flat_map (signals_on (46 ∷ word)) (cards_from line (flat_map cover_lines m.covers)) ≡ []
  no_signals word apart line =
      none_listed (has_first (46 ∷ word)) (λ (card : Card). map (listed_on card.line) (behind card.words)) line (flat_map cover_lines m.covers) (covers_are_no word apart m.covers each)

  input_signals : (inputs clocks outputs : List (List ℕ)) → flat_map (signals_on (codes ".inputs")) (cards_from 2 (((codes ".inputs" ∷ inputs) ∷ clock_lines clocks ++ (codes ".outputs" ∷ outputs) ∷ []) ++ flat_map cover_lines m.covers)) ≡ map (listed_on 2) inputs
  input_signals inputs [] outputs = ap (λ (rest : List Listed). map (listed_on 2) inputs ++ rest) (no_signals (codes "inputs") refl 4) ∙ append-nil (map (listed_on 2) inputs)
  input_signals inputs (clock ∷ clocks) outputs = ap (λ (rest : List Listed). map (listed_on 2) inputs ++ rest) (no_signals (codes "inputs") refl 5) ∙ append-nil (map (listed_on 2) inputs)

  clock_signals : (inputs clocks outputs : List (List ℕ)) → flat_map (signals_on (codes ".clock")) (cards_from 2 (((codes ".inputs" ∷ inputs) ∷ clock_lines clocks ++ (codes ".outputs" ∷ outputs) ∷ []) ++ flat_map cover_lines m.covers)) ≡ map (listed_on 3) clocks
  clock_signals inputs [] outputs = no_signals (codes "clock") refl 4
  clock_signals inputs (clock ∷ clocks) outputs =
      ap (λ (rest : List Listed). map (listed_on 3) (clock ∷ clocks) ++ rest) (no_signals (codes "clock") refl 5) ∙ append-nil (map (listed_on 3) (clock ∷ clocks))

  output_signals : (inputs clocks outputs : List (List ℕ)) → flat_map (signals_on (codes ".outputs")) (cards_from 2 (((codes ".inputs" ∷ inputs) ∷ clock_lines clocks ++ (codes ".outputs" ∷ outputs) ∷ []) ++ flat_map cover_lines m.covers)) ≡ map (listed_on (3 + length (clock_lines clocks))) outputs
  output_signals inputs [] outputs = ap (λ (rest : List Listed). map (listed_on 3) outputs ++ rest) (no_signals (codes "outputs") refl 4) ∙ append-nil (map (listed_on 3) outputs)
  output_signals inputs (clock ∷ clocks) outputs = ap (λ (rest : List Listed). map (listed_on 4) outputs ++ rest) (no_signals (codes "outputs") refl 5) ∙ append-nil (map (listed_on 4) outputs)

  inputs_are : listed (codes ".inputs") (cards_from 2 body) ≡ map (listed_on 2) m.inputs
  inputs_are = ap (λ (ss : List Listed). distinct_by (λ (s : Listed). s.name) ss) (input_signals m.inputs m.clocks m.outputs) ∙ once_listed 2 m.inputs good.inputs_apart

  clocks_are : listed (codes ".clock") (cards_from 2 body) ≡ map (listed_on 3) m.clocks
  clocks_are = ap (λ (ss : List Listed). distinct_by (λ (s : Listed). s.name) ss) (clock_signals m.inputs m.clocks m.outputs) ∙ once_listed 3 m.clocks good.clocks_apart

  outputs_are : listed (codes ".outputs") (cards_from 2 body) ≡ map (listed_on (outputs_line m)) m.outputs
  outputs_are = ap (λ (ss : List Listed). distinct_by (λ (s : Listed). s.name) ss) (output_signals m.inputs m.clocks m.outputs) ∙ once_listed (outputs_line m) m.outputs good.outputs_apart

  -- ---- the rest

  -- how many lines the interface has
  behind_interface : (inputs clocks outputs : List (List ℕ)) → 2 + length ((codes ".inputs" ∷ inputs) ∷ clock_lines clocks ++ (codes ".outputs" ∷ outputs) ∷ []) ≡ 3 + length (clock_lines clocks) + 1
  behind_interface inputs [] outputs = refl
  behind_interface inputs (clock ∷ clocks) outputs = refl

  covers_are : map cover_of (groups is_cover is_dotted (cards_from 2 body)) ≡ covers_from (outputs_line m + 1) m.covers
  covers_are =
      ap (map cover_of) (groups_later is_cover is_dotted 2 (interface_lines m) (flat_map cover_lines m.covers) (interface_is_no (codes ".names") refl refl refl m.inputs m.clocks m.outputs))
      ∙ ap (λ (n : ℕ). map cover_of (groups is_cover is_dotted (cards_from n (flat_map cover_lines m.covers)))) (behind_interface m.inputs m.clocks m.outputs)
      ∙ covers_read m.covers (outputs_line m + 1) each

  latches_are : flat_map latches_in (cards_from 2 body) ≡ []
  latches_are = none_listed is_latch (λ (card : Card). option_to_list (option_map (latch_of card) (end_of card))) 2 body (body_is_no (codes "latch") refl refl refl refl)

  subs_are : map sub_of (filter is_sub (cards_from 2 body)) ≡ []
  subs_are = ap (map sub_of) (none_picked is_sub 2 body (body_is_no (codes "subckt") refl refl refl refl))

  -- no line begins a don't-care network
  own_is : own_cards (cards_from 2 body) ≡ cards_from 2 body
  own_is =
      ap (λ (xs : List (List (List ℕ))). own_cards (cards_from 2 xs)) (sym (append-nil body))
      ∙ up_to_more is_exdc 2 body [] (body_is_no (codes "exdc") refl refl refl refl) (λ n. refl)

  network_is : network_cards (cards_from 2 body) ≡ []
  network_is = no_network 2 body (body_is_no (codes "exdc") refl refl refl refl)

  -- the model of these cards of its own and of its network
  abbrev model_by : List Card → List Card → BlifModel
  model_by own network = record {
    line = 1;
    name = m.name;
    inputs = names (listed (codes ".inputs") own);
    input_lines = lines (listed (codes ".inputs") own);
    clocks = names (listed (codes ".clock") own);
    clock_lines = lines (listed (codes ".clock") own);
    outputs = names (listed (codes ".outputs") own);
    output_lines = lines (listed (codes ".outputs") own);
    covers = covers_in own;
    latches = flat_map latches_in own;
    subs = map sub_of (filter is_sub own);
    exdc = covers_in network;
  }

  own_model_is : model_by (cards_from 2 body) [] ≡ model_on_lines m
  own_model_is =
      let input_names = ap names inputs_are ∙ names_listed 2 m.inputs in
      let input_numbers = ap lines inputs_are ∙ lines_listed 2 m.inputs in
      let clock_names = ap names clocks_are ∙ names_listed 3 m.clocks in
      let clock_numbers = ap lines clocks_are ∙ lines_listed 3 m.clocks in
      let output_names = ap names outputs_are ∙ names_listed (outputs_line m) m.outputs in
      let output_numbers = ap lines outputs_are ∙ lines_listed (outputs_line m) m.outputs in
      λ i. record {
        line = 1;
        name = m.name;
        inputs = input_names i;
        input_lines = input_numbers i;
        clocks = clock_names i;
        clock_lines = clock_numbers i;
        outputs = output_names i;
        output_lines = output_numbers i;
        covers = covers_are i;
        latches = latches_are i;
        subs = subs_are i;
        exdc = [];
      }

  model_is : model_of (card_on 1 (codes ".model" ∷ m.name ∷ []), cards_from 2 body) ≡ model_on_lines m
  model_is = ap₂ model_by own_is network_is ∙ own_model_is

  cards_read : blif_of (cards_from 1 (model_lines m)) ≡ alone m
  unfolding blif_of
  cards_read =
      let models = ap (map model_of) one_group ∙ ap (λ (x : BlifModel). x ∷ []) model_is in
      λ i. record { models = models i }

pub plain_texts_are_read : (m : PlainModel) → IsPlainModel m → blif_of (cards_of (model_text m)) ≡ alone m
plain_texts_are_read m good = ap blif_of (lines_are_read (model_lines m) (good_lines m good)) ∙ cards_read m good
