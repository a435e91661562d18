-- The text that is written of a cell stands for its model.
use Rattle.std.proofs.Common.{◌≡◌, ℕ, zero, suc, ◌+◌, ◌≤◌, List, [], ◌∷◌, ◌++◌, Option, None, length, length-append, arith, ap, refl, sym, subst, ◌∙◌, inl, inr}
use Rattle.std.specs.Option.{option_or}
use Rattle.std.proofs.lemmas.Option.{none-some}
use Rattle.blif_eval.proofs.Drivers.{apart, covered_below, driven, input_below, one_cover}
use Rattle.blif_reader.proofs.Fits.{fits_all}
use Rattle.blif_reader.specs.Cards.{cards_of}
use Rattle.checked_chain.proofs.AcyclicLaws.{acyclic_kept}
use Rattle.formed_cells.proofs.FormedLaws.{supported_cells_are_formed}
use Rattle.formed_cells.specs.Formed.{IsFormed}
use Rattle.model_writer.specs.Counts.{signal_count}
use Rattle.names.proofs.NameLaws.{length-with_names, names_once}
use Rattle.plain_models.specs.Flat.{flat_form, signal_names}
use Rattle.plain_models.specs.Interfaces.{IsInterfaceOf}
use Rattle.plain_models.specs.Texts.{PlainModel, alone}
use Rattle.vrt_model.specs.Comparison.{Comparison, cell_at, tied_inputs}
use Rattle.vrt_model.specs.Elements.{element_names}
use Rattle.vrt_model.specs.Equal.{IsEqual}
use Rattle.vrt_model.specs.FlatBlif.{flat_model_of, model_at}
use Rattle.vrt_model.specs.Inputs.{IsBlif}
use Rattle.vrt_model.specs.Lists.{Among, At, distinct}
use Rattle.vrt_model.specs.ModelArcs.{HasModelArc}
use Rattle.vrt_model.specs.Models.{AreModels}
use Rattle.vrt_model.specs.PairedPorts.{output_is_input, ports_fault}
use Rattle.vrt_model.specs.Unsupported.{IsAcyclic, IsSupported, circuit_limits, comparison_of, device_without_kind, latch_without_clock, model_limits, supply_tie, too_large, too_many_variables, top_before, unmatched, why_compared, why_of}
use Rattle.vrt_model.specs.WholeInstances.{CoverArc}
use Rattle.vrt_model.specs.declared.blif.Blif.{Blif}
use Rattle.vrt_model.specs.declared.design.Design.{Design}
use Rattle.vrt_model.specs.declared.flat_model.Cover.{Cover}
use Rattle.vrt_model.specs.declared.flat_model.FlatLatch.{FlatLatch}
use Rattle.vrt_model.specs.declared.flat_model.FlatModel.{FlatModel}
use Rattle.vrt_model.specs.declared.rules.Rules.{Rules}
use Rattle.vrt_model.specs.declared.verdict.Why.{Why}
use Rattle.vrt_model.specs.declared.verdict.Why.TheVariants.{DeviceModel, NoClock, OutputIsInput, Ports, SupplyTie, TooLarge, TooManyVars, Unmatched}
use Rattle.whole_ranks.specs.Logic.{IsLogicModel}
use Rattle.written_cells.proofs.CauseLaws.{first_none}
use Rattle.written_cells.proofs.LimitLaws.{written_models_are_small}
use Rattle.written_cells.proofs.PairLaws.{written_models_pair}
use Rattle.written_cells.proofs.SupportLaws.{written_cells_are_supported}
use Rattle.written_cells.proofs.WrittenArcs.{written_models_are_acyclic}
use Rattle.written_cells.proofs.WrittenComparisons.{comparisons_are_exchanged, written_cells_are_equal}
use Rattle.written_cells.specs.Exchanged.{HasNoState}
use Rattle.written_logic.proofs.Combinational.{elements_are, unclocked, valuations_are}
use Rattle.written_logic.proofs.Writable.{interface_is, writable}
use Rattle.written_logic.proofs.WrittenParts.{outputs_are, variables_are}
use Rattle.written_logic.specs.Standing.{IsWrittenCell, StandsFor, WrittenTextsStand}
use Rattle.written_models.proofs.WrittenNames.{written_models_are_unrolled, written_texts_are_read}
use Rattle.written_models.proofs.WrittenSignals.{written_signals_are}
use Rattle.written_models.specs.Written.{IsWritable, Logic, nodes_in, numbered, other_clocks, written_model, written_text}
use Rattle.written_models.specs.WrittenLaws.{IsReadBack, IsUnrolled, first_numbers}

-- ---- causes

-- a supported cell has no element of its model without a group
all_matched : (design : Design) (blif : Blif) (rules : Rules) (cell m : ℕ) → IsSupported design blif rules cell m
    → unmatched rules (cell_at design cell).name (comparison_of design blif rules cell m).model (comparison_of design blif rules cell m).groups ≡ None
all_matched design blif rules cell m supported =
    let t = top_before design rules cell in
    let flat = flat_model_of blif m in
    let k : Comparison = comparison_of design blif rules cell m in
    let after_groups : Option Why = why_of (λ count. TooManyVars count) (too_many_variables k) in
    let after_clock : Option Why = option_or (why_of (λ name. Unmatched name) (unmatched rules (cell_at design cell).name k.model k.groups)) after_groups in
    let after_ports : Option Why = option_or (why_of (λ signal. OutputIsInput signal) (output_is_input flat)) (why_compared k) in
    let after_ties : Option Why = option_or (why_of (λ name. Ports name) (ports_fault design cell flat rules)) after_ports in
    let after_kinds : Option Why = option_or (why_of (λ path. SupplyTie path) (supply_tie t)) after_ties in
    let after_counts : Option Why = option_or (why_of (λ model. DeviceModel model) (device_without_kind t)) after_kinds in
    let counts = first_none (λ count. TooLarge count) (too_large (circuit_limits t ++ model_limits blif m)) after_counts supported.early in
    let kinds = first_none (λ model. DeviceModel model) (device_without_kind t) after_kinds counts.1 in
    let ties = first_none (λ path. SupplyTie path) (supply_tie t) after_ties kinds.1 in
    let ports = first_none (λ name. Ports name) (ports_fault design cell flat rules) after_ports ties.1 in
    let outputs = first_none (λ signal. OutputIsInput signal) (output_is_input flat) (why_compared k) ports.1 in
    let clocks = first_none (λ latch. NoClock latch) (latch_without_clock k.model rules) after_clock outputs.1 in
    (first_none (λ name. Unmatched name) (unmatched rules (cell_at design cell).name k.model k.groups) after_groups clocks.1).0

-- ---- counts

numbers_count : (n : ℕ) → length (first_numbers n) ≡ n
numbers_count zero = refl
numbers_count (suc n) = (let more = numbers_count n in let both = length-append (first_numbers n) (numbered n ∷ []) in omega (arith, more, both))

distinct_count : (names : List (List ℕ)) → length (distinct names) ≤ length names
distinct_count names =
    let le = length-with_names [] names in
    let same = ap (λ (xs : List (List ℕ)). length xs) (names_once names) in
    omega (arith, le, same)

-- the flat model has no more signals than are counted
signals_within : (l : Logic) → IsWritable l → length (signal_names (written_model l)) ≤ signal_count l
signals_within l good =
    let interface : List (List ℕ) = l.inputs ++ other_clocks l ++ l.outputs in
    let numbers : List (List ℕ) = first_numbers (2 + length (nodes_in l)) in
    let all : length (signal_names (written_model l)) ≡ length (distinct interface) + length numbers =
    ap (λ (xs : List (List ℕ)). length xs) (written_signals_are l good) ∙ length-append (distinct interface) numbers in
    let once : length (distinct interface) ≤ length interface = distinct_count interface in
    let two : length interface ≡ length (l.inputs ++ other_clocks l) + length l.outputs = length-append (l.inputs ++ other_clocks l) l.outputs in
    let one : length (l.inputs ++ other_clocks l) ≡ length l.inputs + length (other_clocks l) = length-append l.inputs (other_clocks l) in
    let count : length numbers ≡ 2 + length (nodes_in l) = numbers_count (2 + length (nodes_in l)) in
    omega (arith, all, once, two, one, count)

-- ---- models

no_latch : (latches : List FlatLatch) (latch : FlatLatch) → latches ≡ [] → Among latches latch → ⊥
no_latch latches latch none on = none-some latch (subst (λ (ls : List FlatLatch). At ls on.0 latch) none on.1)

-- the model of a well-formed comparison, if it has neither latches nor cycles, is one of covers alone
logic_model : (q : Comparison) → IsFormed q → q.model.latches ≡ [] → IsAcyclic (CoverArc q.model) → IsLogicModel q.model q.pairing.clocked (tied_inputs q)
logic_model q formed none acyclic = record {
  latches = none;
  acyclic = acyclic;
  outputs = λ cover on. covered_below q.model formed.model cover on;
  inputs = λ cover s on there. input_below q.model formed.model cover s on there;
  driven = λ s low.
      elim (driven q.model formed.model s low) [
        | inl input ↦ elim (formed.signals.all s input) [ inl clock ↦ inl clock | inr tied ↦ inr (inl tied) ]
        | inr other ↦ elim other [ inl cover ↦ inr (inr cover) | inr latch ↦ absurd (no_latch q.model.latches latch.0 none latch.1) ]
      ];
  one_cover = λ a b on there same. one_cover q.model formed.model a b on there same;
  one_clock = formed.signals.one_clock;
  one_tie = formed.signals.one_net;
  clocks_apart = λ s clock other.
      elim other [
        | inl tied ↦ formed.signals.apart s clock tied
        | inr cover ↦ covered_input cover.0 cover.1 s cover.2 (formed.signals.clocked s clock)
      ];
  ties_apart = λ s tied cover. covered_input cover.0 cover.1 s cover.2 (formed.signals.tied s tied);
}
  where
    covered_input : (cover : Cover) → Among q.model.covers cover → (s : ℕ) → cover.output ≡ s → Among (q.model.inputs ++ q.model.clocks) s → ⊥
    covered_input cover on s same input = apart q.model formed.model cover on (subst (λ (n : ℕ). Among (q.model.inputs ++ q.model.clocks) n) (sym same) input)

-- ---- the law

module _ (design : Design) (blif : Blif) (rules : Rules) (cell m : ℕ) (l : Logic) (w : IsWrittenCell design blif rules cell m l) where
  abbrev k : Comparison
  k = comparison_of design blif rules cell m

  abbrev written : PlainModel
  written = written_model l

  formed : IsFormed (comparison_of design blif rules cell m)
  formed = supported_cells_are_formed design blif rules cell m w.read w.supported

  good : IsWritable l
  good = writable design blif rules cell m l w.read w.supported w.logic.interface w.free w.few

  interface : IsInterfaceOf (model_at blif m) (written_model l)
  interface = interface_is design blif rules cell m l w.read w.supported w.logic.interface w.free

  back : IsReadBack l
  back = written_texts_are_read l good

  unrolled : IsUnrolled l
  unrolled = written_models_are_unrolled l good

  elements : element_names (comparison_of design blif rules cell m).model ≡ []
  elements = elements_are design blif rules cell m formed w.combinational (all_matched design blif rules cell m w.supported)

  stateless : HasNoState (comparison_of design blif rules cell m)
  stateless = record { holds = w.combinational.holds; groups = refl; elements = elements }

  -- ---- nothing stands against it

  supported : IsSupported design (alone (written_model l)) rules cell 0
  supported =
      let few = w.few in
      let signals = signals_within l good in
      written_cells_are_supported design blif rules cell m l
      (record {
        supported = w.supported;
        stateless = stateless;
        writable = good;
        interface = interface;
        paired = written_models_pair design blif rules cell m l (sym w.logic.interface.name) w.supported.paired;
        small = written_models_are_small l good (omega (arith, few, signals)) (omega (arith, few));
      })

  -- ---- it is equal

  again : IsFormed (comparison_of design (alone (written_model l)) rules cell 0)
  again =
      supported_cells_are_formed design (alone (written_model l)) rules cell 0
      (record { names = subst IsBlif back.model (fits_all (cards_of (written_text l)) back.clean); models = unrolled.good; valid = w.read.valid }) supported

  acyclic : IsAcyclic (CoverArc (flat_form (written_model l)))
  acyclic =
      acyclic_kept (CoverArc (flat_form written)) (HasModelArc (flat_form written) (λ (s : ℕ). None) None) (λ a b arc. inl arc)
      (written_models_are_acyclic l (λ (s : ℕ). None) None good)

  logic : IsLogicModel (flat_form (written_model l)) (comparison_of design blif rules cell m).pairing.clocked (tied_inputs (comparison_of design blif rules cell m))
  logic =
      subst (λ (c : Comparison). IsLogicModel c.model c.pairing.clocked (tied_inputs c)) (comparisons_are_exchanged design blif rules cell m l good interface)
      (logic_model (comparison_of design (alone written) rules cell 0) again (ap (λ (f : FlatModel). f.latches) unrolled.flat)
      (subst (λ (f : FlatModel). IsAcyclic (CoverArc f)) (sym unrolled.flat) acyclic))

  equal : IsEqual (comparison_of design (alone (written_model l)) rules cell 0)
  equal =
      written_cells_are_equal design blif rules cell m l
      (record {
        unclocked = unclocked design blif rules cell m formed w.combinational;
        stateless = stateless;
        equal = w.equal;
        writable = good;
        interface = interface;
        written = record {
          variables = variables_are design blif rules cell m l w.read w.supported w.logic good interface;
          valuations = λ phase bits len. valuations_are design blif rules cell m formed w.combinational elements phase bits len;
          outputs = λ port signal there e. outputs_are design blif rules cell m l w.read w.supported w.logic good interface port signal there e;
        };
        logic = logic;
      })

  stands : StandsFor design rules cell (written_text l)
  stands = record {
    clean = back.clean;
    good = subst AreModels (sym back.model) unrolled.good;
    supported = subst (λ (b : Blif). IsSupported design b rules cell 0) (sym back.model) supported;
    equal = subst (λ (b : Blif). IsEqual (comparison_of design b rules cell 0)) (sym back.model) equal;
  }

pub written_texts_stand : WrittenTextsStand
written_texts_stand design blif rules cell m l w = stands design blif rules cell m l w
