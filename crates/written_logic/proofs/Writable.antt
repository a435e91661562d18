-- What is written of a supported cell may be written.
use Rattle.std.proofs.Common.{◌≡◌, ℕ, ◌+◌, ◌≤◌, ◌⊎◌, Bool, true, false, not, cond, List, [], ◌∷◌, ◌++◌, Option, length, map, arith, ap, ap₂, refl, sym, subst, ◌∙◌, inl, inr}
use Rattle.std.specs.Prelude.{bytes_eq, filter, find, slice_get, unwrap_or}
use Rattle.std.specs.List.{list_all}
use Rattle.std.proofs.lemmas.Bool.{and_from, and_parts, false≢true, false_from_ne_true, or_cases}
use Rattle.std.proofs.lemmas.List.Folds.{list_any-append}
use Rattle.std.proofs.lemmas.List.{length-map}
use Rattle.std.proofs.lemmas.Slice.Eq.{bytes_eq-Decides}
use Rattle.formed_cells.proofs.FormedLaws.{supported_cells_are_formed}
use Rattle.formed_cells.proofs.SupportedLaws.{supported_is_free}
use Rattle.formed_cells.specs.Formed.{AreRead, IsFormed}
use Rattle.model_writer.specs.Counts.{signal_count}
use Rattle.paired_ports.proofs.GivenLists.{among_number}
use Rattle.plain_models.specs.Interfaces.{IsInterfaceOf}
use Rattle.vrt_model.proofs.Filtered.{among_kept}
use Rattle.vrt_model.proofs.Lists.{map_among}
use Rattle.vrt_model.proofs.Members.{all_among, among_left, among_map, among_right, any_among, at_none, find_none}
use Rattle.vrt_model.proofs.Tests.{map_none, some_or_none}
use Rattle.vrt_model.specs.Assignment.{Tied}
use Rattle.vrt_model.specs.Comparison.{Comparison, tied_inputs}
use Rattle.vrt_model.specs.Elements.{signal_name}
use Rattle.vrt_model.specs.FlatBlif.{flat_model_of, model_at, network_names, signal_at, top_model, unrolled_of}
use Rattle.vrt_model.specs.Inputs.{AllApart, IsBlif, IsModel}
use Rattle.vrt_model.specs.Lists.{Among, has_name, has_number}
use Rattle.vrt_model.specs.Unsupported.{IsSupported, comparison_of}
use Rattle.vrt_model.specs.declared.blif.Blif.{Blif}
use Rattle.vrt_model.specs.declared.blif.BlifModel.{BlifModel}
use Rattle.vrt_model.specs.declared.design.Design.{Design}
use Rattle.vrt_model.specs.declared.flat_model.FlatModel.{FlatModel}
use Rattle.vrt_model.specs.declared.rules.Rules.{Rules}
use Rattle.vrt_model.specs.Limits.{most_signals}
use Rattle.written_logic.proofs.InterfaceNames.{input_named}
use Rattle.written_logic.specs.Logics.{HasFreeNames, HasInterface, input_names}
use Rattle.written_models.proofs.Covers.{named_passes}
use Rattle.written_models.proofs.WrittenNames.{given_back}
use Rattle.written_models.specs.Functions.{Function, Node, with_all_nodes}
use Rattle.written_models.specs.Written.{IsWritable, Logic, is_free_name, written_model}

-- ---- lists of names

named_among : (xs : List (List ℕ)) (name : List ℕ) → has_name xs name ≡ true → Among xs name
named_among xs name t = (let found = any_among (bytes_eq name) xs t in subst (λ (n : List ℕ). Among xs n) (sym ((bytes_eq-Decides name found.0).0 found.2)) found.1)

-- what passes among the others and among the first passes everywhere
all_pass : (test : List ℕ → Bool) (first xs : List (List ℕ)) → list_all test first ≡ true → list_all test (filter (λ name. not (has_name first name)) xs) ≡ true
    → list_all test xs ≡ true
all_pass test first [] e t = refl
all_pass test first (x ∷ xs) e t = by_test (has_name first x) refl t (all_pass test first xs e)
  where
    by_test : (b : Bool) → has_name first x ≡ b
        → list_all test (cond (not b) (x ∷ filter (λ name. not (has_name first name)) xs) (filter (λ name. not (has_name first name)) xs)) ≡ true
        → (list_all test (filter (λ name. not (has_name first name)) xs) ≡ true → list_all test xs ≡ true) → list_all test (x ∷ xs) ≡ true
    by_test true h rest later = and_from (test x) (list_all test xs) (named_passes test first x e h) (later rest)
    by_test false h rest later =
        let both = and_parts (test x) (list_all test (filter (λ name. not (has_name first name)) xs)) rest in
        and_from (test x) (list_all test xs) both.0 (later both.1)

-- ---- models of a file

-- the lists of names of a model
pub record HasApartNames (b : BlifModel) : Type 0 where
  pub inputs : AllApart bytes_eq b.inputs
  pub clocks : AllApart bytes_eq b.clocks
  pub outputs : AllApart bytes_eq b.outputs

no_names : AllApart bytes_eq []
no_names i j x y a b same = absurd (at_none i x a)

apart_names : (blif : Blif) (m : ℕ) → IsBlif blif → HasApartNames (model_at blif m)
apart_names blif m good =
    elim (some_or_none (slice_get blif.models m)) [
      | inl found ↦
          let is : IsModel found.0 = all_among IsModel blif.models found.0 good.models (m, found.1) in
          subst (λ (o : Option BlifModel). HasApartNames (unwrap_or o none)) (sym found.1) (record { inputs = is.inputs; clocks = is.clocks; outputs = is.outputs })
      | inr absent ↦
          subst (λ (o : Option BlifModel). HasApartNames (unwrap_or o none)) (sym absent) (record { inputs = no_names; clocks = no_names; outputs = no_names })
    ]
  where
    none : BlifModel
    none = record { line = 0; name = []; inputs = []; input_lines = []; clocks = []; clock_lines = []; outputs = []; output_lines = []; covers = []; latches = []; subs = []; exdc = [] }

-- ---- what is written

-- functions of no inputs have no nodes
no_nodes : (fs : List Function) (nodes : List Node) → with_all_nodes 0 fs nodes ≡ nodes
no_nodes [] nodes = refl
no_nodes (f ∷ fs) nodes = no_nodes fs nodes

-- the interface alone
abbrev pub bare : Logic → Logic
bare l = record { name = l.name; inputs = l.inputs; clocks = l.clocks; outputs = l.outputs; variables = []; functions = map (λ (name : List ℕ). (λ (bits : List Bool). false)) l.outputs }

module _ (design : Design) (blif : Blif) (rules : Rules) (cell m : ℕ) (l : Logic) (read : AreRead blif rules) (supported : IsSupported design blif rules cell m)
    (logic : HasInterface (comparison_of design blif rules cell m) (model_at blif m) l) (free : HasFreeNames l) where
  abbrev k : Comparison
  k = comparison_of design blif rules cell m

  abbrev b : BlifModel
  b = model_at blif m

  abbrev flat : FlatModel
  flat = flat_model_of blif m

  formed : IsFormed (comparison_of design blif rules cell m)
  formed = supported_cells_are_formed design blif rules cell m read supported

  pub interface_is : IsInterfaceOf (model_at blif m) (written_model l)
  interface_is = record {
    inputs = sym logic.inputs;
    clocks = ap₂ (λ (xs ys : List (List ℕ)). filter (λ name. not (has_name xs name)) ys) (sym logic.inputs) (sym logic.clocks);
    outputs = sym logic.outputs;
  }

  -- ---- names

  clocks_free : list_all is_free_name l.clocks ≡ true
  clocks_free = all_pass is_free_name l.inputs l.clocks free.inputs free.clocks

  names : HasApartNames (model_at blif m)
  names = apart_names blif m read.names

  inputs_apart : AllApart bytes_eq l.inputs
  inputs_apart = subst (λ (xs : List (List ℕ)). AllApart bytes_eq xs) (sym logic.inputs) names.inputs

  clocks_apart : AllApart bytes_eq l.clocks
  clocks_apart = subst (λ (xs : List (List ℕ)). AllApart bytes_eq xs) (sym logic.clocks) names.clocks

  outputs_apart : AllApart bytes_eq l.outputs
  outputs_apart = subst (λ (xs : List (List ℕ)). AllApart bytes_eq xs) (sym logic.outputs) names.outputs

  -- ---- outputs are no inputs

  input_signals : (name : List ℕ) → has_name l.inputs name ≡ true → Among (flat_model_of blif m).inputs (signal_at blif (top_model m) name)
  unfolding flat_model_of unrolled_of network_names
  input_signals name t = map_among (signal_at blif (top_model m)) (model_at blif m).inputs name (subst (λ (xs : List (List ℕ)). Among xs name) logic.inputs (named_among l.inputs name t))

  clock_signals : (name : List ℕ) → has_name l.clocks name ≡ true → has_name l.inputs name ≡ false → Among (flat_model_of blif m).clocks (signal_at blif (top_model m) name)
  unfolding flat_model_of unrolled_of network_names
  clock_signals name t other =
      map_among (signal_at blif (top_model m)) (filter (λ n. not (has_name (model_at blif m).inputs n)) (model_at blif m).clocks) name
      (among_kept (λ n. not (has_name (model_at blif m).inputs n)) (model_at blif m).clocks name (subst (λ (xs : List (List ℕ)). Among xs name) logic.clocks (named_among l.clocks name t))
      (ap (λ (xs : List (List ℕ)). not (has_name xs name)) (sym logic.inputs) ∙ ap not other))

  output_signals : (name : List ℕ) → has_name l.outputs name ≡ true → Among (flat_model_of blif m).outputs (signal_at blif (top_model m) name)
  unfolding flat_model_of unrolled_of network_names
  output_signals name t = map_among (signal_at blif (top_model m)) (model_at blif m).outputs name (subst (λ (xs : List (List ℕ)). Among xs name) logic.outputs (named_among l.outputs name t))

  given_signals : (name : List ℕ) → has_name (l.inputs ++ l.clocks) name ≡ true → Among ((flat_model_of blif m).inputs ++ (flat_model_of blif m).clocks) (signal_at blif (top_model m) name)
  given_signals name t = by_test (has_name l.inputs name) refl (or_cases (has_name l.inputs name) (has_name l.clocks name) (sym (list_any-append (bytes_eq name) l.inputs l.clocks) ∙ t))
    where
      by_test : (t : Bool) → has_name l.inputs name ≡ t → (has_name l.inputs name ≡ true) ⊎ (has_name l.clocks name ≡ true)
          → Among ((flat_model_of blif m).inputs ++ (flat_model_of blif m).clocks) (signal_at blif (top_model m) name)
      by_test true e either = among_left (flat_model_of blif m).inputs (flat_model_of blif m).clocks (signal_at blif (top_model m) name) (input_signals name e)
      by_test false e (inl one) = absurd (false≢true (sym e ∙ one))
      by_test false e (inr other) = among_right (flat_model_of blif m).inputs (flat_model_of blif m).clocks (signal_at blif (top_model m) name) (clock_signals name other e)

  outputs_other : (name : List ℕ) → has_name l.outputs name ≡ true → has_name (l.inputs ++ l.clocks) name ≡ false
  outputs_other name t =
      false_from_ne_true (has_name (l.inputs ++ l.clocks) name)
      (λ given.
      let s : ℕ = signal_at blif (top_model m) name in
      let none = map_none (signal_name flat) (find (λ n. has_number flat.outputs n) (flat.inputs ++ flat.clocks)) (supported_is_free design blif rules cell m supported).pairable.outputs in
      let out : has_number flat.outputs s ≡ false = find_none (λ n. has_number flat.outputs n) (flat.inputs ++ flat.clocks) s none (given_signals name given) in
      false≢true (sym out ∙ among_number flat.outputs s (output_signals name t)))

  -- ---- the interface alone may be written

  pub bare_writable : IsWritable (bare l)
  bare_writable = record {
    name = free.name;
    inputs = free.inputs;
    clocks = clocks_free;
    outputs = free.outputs;
    inputs_apart = inputs_apart;
    clocks_apart = clocks_apart;
    outputs_apart = outputs_apart;
    outputs_other = outputs_other;
    variables_there = λ name t. absurd (false≢true t);
    functions = length-map l.outputs (λ (name : List ℕ). (λ (bits : List Bool). false));
    few = subst (λ (ns : List Node). length ns + 2 ≤ most_signals) (sym (no_nodes (bare l).functions [])) (omega arith);
  }

  pub bare_interface : IsInterfaceOf (model_at blif m) (written_model (bare l))
  bare_interface = record { inputs = interface_is.inputs; clocks = interface_is.clocks; outputs = interface_is.outputs }

  -- ---- variables

  variables_there : (name : List ℕ) → has_name l.variables name ≡ true → has_name (l.inputs ++ l.clocks) name ≡ true
  variables_there name t =
      let among : Among (input_names k) name = subst (λ (xs : List (List ℕ)). Among xs name) logic.variables (named_among l.variables name t) in
      let tie = among_map (λ (t : Tied). signal_name k.model t.signal) (tied_inputs k) name among in
      let named = input_named blif m (bare l) bare_writable bare_interface tie.0.signal (formed.signals.tied tie.0.signal (tie.0, tie.1, refl)) in
      subst (λ (n : List ℕ). has_name (l.inputs ++ l.clocks) n ≡ true) (sym named.2 ∙ tie.2) (given_back (bare l) bare_writable named.0 named.1)

  -- with few signals all of it may be
  pub writable : signal_count l ≤ most_signals → IsWritable l
  writable few = record {
    name = free.name;
    inputs = free.inputs;
    clocks = clocks_free;
    outputs = free.outputs;
    inputs_apart = inputs_apart;
    clocks_apart = clocks_apart;
    outputs_apart = outputs_apart;
    outputs_other = outputs_other;
    variables_there = variables_there;
    functions = logic.count;
    few = omega (arith, few);
  }
