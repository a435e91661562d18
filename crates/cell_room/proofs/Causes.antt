-- The cause for which a cell that has a model cannot be checked, and when there is none but a cycle.
use Rattle.std.proofs.Common.{◌≡◌, ℕ, zero, suc, ◌+◌, ◌<◌, ◌≤◌, Bool, cond, List, [], ◌∷◌, ◌++◌, map, length, Option, Some, None, nat_lt, arith, ap, subst, sym, refl, ◌∙◌}
use Rattle.std.specs.Prelude.{find, option_map}
use Rattle.std.specs.Option.{option_or}
use Rattle.std.proofs.lemmas.Bool.{le-ltb, lt-ltb}
use Rattle.std.proofs.lemmas.List.Folds.{find-append}
use Rattle.cell_room.specs.Compared.{IsFlattened, comparison}
use Rattle.cell_room.specs.Flat.{Flattened}
use Rattle.flatten.specs.Structures.{IsStructured}
use Rattle.vrt_model.specs.Comparison.{Comparison, cell_at}
use Rattle.vrt_model.specs.FlatBlif.{flat_model_of}
use Rattle.vrt_model.specs.FlatCircuit.{flat_circuit}
use Rattle.vrt_model.specs.Groups.{groups_of}
use Rattle.vrt_model.specs.PairedPorts.{Model, output_is_input, paired_model, pairing_of, ports_fault}
use Rattle.vrt_model.specs.Unsupported.{Limit, carried, circuit_limits, comparison_of, device_without_kind, latch_without_clock, model_limits, supply_tie, too_large, too_many_variables, top_before, unmatched, why_compared, why_early, why_of, why_paired}
use Rattle.vrt_model.specs.Variables.{places}
use Rattle.vrt_model.specs.declared.blif.Blif.{Blif}
use Rattle.vrt_model.specs.declared.circuit.Circuit.{Circuit}
use Rattle.vrt_model.specs.declared.design.Design.{Design}
use Rattle.vrt_model.specs.declared.flat_model.FlatModel.{FlatModel}
use Rattle.vrt_model.specs.declared.groups.Group.{Group as HoldGroup}
use Rattle.vrt_model.specs.declared.pairing.Pairing.{Pairing}
use Rattle.vrt_model.specs.declared.rules.Rules.{Rules}
use Rattle.vrt_model.specs.declared.verdict.Why.{Why}
use Rattle.vrt_model.specs.declared.verdict.Why.TheVariants.{DeviceModel, NoClock, OutputIsInput, Ports, SupplyTie, TooLarge, TooManyVars, Unmatched}

-- ---- one test after the other

-- a test that finds nothing leaves the next; what the first that finds something finds is the cause
pass : {X : Type 0} (g : X → Why) (o : Option X) (rest : Option Why) → o ≡ None → option_or (why_of g o) rest ≡ rest
pass {X} g o rest e = ap (λ (p : Option X). option_or (why_of g p) rest) e

stop : {X : Type 0} (g : X → Why) (o : Option X) (x : X) (rest : Option Why) → o ≡ Some x → option_or (why_of g o) rest ≡ Some (g x)
stop {X} g o x rest e = ap (λ (p : Option X). option_or (why_of g p) rest) e

-- ---- counts

-- a count passes its limit
abbrev is_large : Limit → Bool
is_large l = nat_lt l.limit l.count

-- the first count of two lists that passes its limit
both_counts : (xs ys : List Limit) → too_large (xs ++ ys) ≡ option_or (too_large xs) (too_large ys)
both_counts xs ys = ap (option_map (λ (l : Limit). carried l.count)) (find-append is_large xs ys) ∙ by_option (find is_large xs)
  where
    by_option : (o : Option Limit)
        → option_map (λ (l : Limit). carried l.count) (option_or o (find is_large ys)) ≡ option_or (option_map (λ (l : Limit). carried l.count) o) (too_large ys)
    by_option None = refl
    by_option (Some l) = refl

-- ---- before pairing

module _ (design : Design) (blif : Blif) (rules : Rules) (cell m : ℕ) where
  -- the counts of the circuit and of the model
  abbrev large : Option ℕ
  large = too_large (circuit_limits (top_before design rules cell) ++ model_limits blif m)

  abbrev flat : FlatModel
  flat = flat_model_of blif m

  -- the tests that come later
  abbrev from_outputs : Option Why
  from_outputs = option_or (why_of (λ signal. OutputIsInput signal) (output_is_input (flat_model_of blif m))) (why_compared (comparison_of design blif rules cell m))

  abbrev from_ports : Option Why
  from_ports = option_or (why_of (λ name. Ports name) (ports_fault design cell (flat_model_of blif m) rules)) from_outputs

  abbrev from_ties : Option Why
  from_ties = option_or (why_of (λ path. SupplyTie path) (supply_tie (top_before design rules cell))) from_ports

  abbrev from_kinds : Option Why
  from_kinds = option_or (why_of (λ model. DeviceModel model) (device_without_kind (top_before design rules cell))) from_ties

  -- no count passes its limit
  small_counts : too_large (circuit_limits (top_before design rules cell)) ≡ None → too_large (model_limits blif m) ≡ None
      → too_large (circuit_limits (top_before design rules cell) ++ model_limits blif m) ≡ None
  small_counts circuit model =
      both_counts (circuit_limits (top_before design rules cell)) (model_limits blif m)
      ∙ (ap (λ (o : Option ℕ). option_or o (too_large (model_limits blif m))) circuit ∙ model)

  -- nothing before the pairing stands in the way
  structured_why : IsStructured (top_before design rules cell) → too_large (model_limits blif m) ≡ None → why_paired design blif rules cell m ≡ from_ports
  structured_why structured model =
      pass (λ count. TooLarge count) large from_kinds (small_counts structured.small model)
      ∙ (pass (λ name. DeviceModel name) (device_without_kind (top_before design rules cell)) from_ties structured.kinds
      ∙ pass (λ path. SupplyTie path) (supply_tie (top_before design rules cell)) from_ports structured.ties)

  -- and nothing in the pairing
  pub paired_why : IsStructured (top_before design rules cell) → too_large (model_limits blif m) ≡ None → ports_fault design cell (flat_model_of blif m) rules ≡ None
      → output_is_input (flat_model_of blif m) ≡ None → why_paired design blif rules cell m ≡ why_compared (comparison_of design blif rules cell m)
  paired_why structured small ports outputs =
      structured_why structured small
      ∙ (pass (λ n. Ports n) (ports_fault design cell (flat_model_of blif m) rules) from_outputs ports
      ∙ pass (λ s. OutputIsInput s) (output_is_input (flat_model_of blif m)) (why_compared (comparison_of design blif rules cell m)) outputs)

  -- the groups of the holds, and the tests of a comparison behind that of the clock
  abbrev pub cell_groups : List HoldGroup
  cell_groups = groups_of (flat_circuit design rules cell (pairing_of design cell m (flat_model_of blif m) rules)) (flat_model_of blif m)

  abbrev from_variables : Option Why
  from_variables = why_of (λ count. TooManyVars count) (too_many_variables (comparison_of design blif rules cell m))

  abbrev from_groups : Option Why
  from_groups = option_or (why_of (λ name. Unmatched name) (unmatched rules (cell_at design cell).name (flat_model_of blif m) cell_groups)) from_variables

  -- ---- the causes of a cell that has a model

  module _ (paired : paired_model design blif rules cell ≡ Model m) where
    -- the cause of the cell is this
    abbrev pub IsCause : Why → Type 0
    IsCause why = why_early design blif rules cell (paired_model design blif rules cell) ≡ Some why

    early : (why : Why) → why_paired design blif rules cell m ≡ Some why → IsCause why
    early why e = ap (why_early design blif rules cell) paired ∙ e

    pub circuit_count : (count : ℕ) → too_large (circuit_limits (top_before design rules cell)) ≡ Some count → IsCause (TooLarge count)
    circuit_count count e =
        early (TooLarge count)
        (stop (λ n. TooLarge n) large count from_kinds
        (both_counts (circuit_limits (top_before design rules cell)) (model_limits blif m) ∙ ap (λ (o : Option ℕ). option_or o (too_large (model_limits blif m))) e))

    pub model_count : (count : ℕ) → too_large (circuit_limits (top_before design rules cell)) ≡ None → too_large (model_limits blif m) ≡ Some count → IsCause (TooLarge count)
    model_count count circuit e =
        early (TooLarge count)
        (stop (λ n. TooLarge n) large count from_kinds
        (both_counts (circuit_limits (top_before design rules cell)) (model_limits blif m)
        ∙ (ap (λ (o : Option ℕ). option_or o (too_large (model_limits blif m))) circuit ∙ e)))

    pub device_model : (model : List ℕ) → too_large (circuit_limits (top_before design rules cell)) ≡ None → too_large (model_limits blif m) ≡ None
        → device_without_kind (top_before design rules cell) ≡ Some model → IsCause (DeviceModel model)
    device_model model circuit small e =
        early (DeviceModel model)
        (pass (λ count. TooLarge count) large from_kinds (small_counts circuit small)
        ∙ stop (λ name. DeviceModel name) (device_without_kind (top_before design rules cell)) model from_ties e)

    pub tied_supply : (path : List ℕ) → too_large (circuit_limits (top_before design rules cell)) ≡ None → too_large (model_limits blif m) ≡ None
        → device_without_kind (top_before design rules cell) ≡ None → supply_tie (top_before design rules cell) ≡ Some path → IsCause (SupplyTie path)
    tied_supply path circuit small kinds e =
        early (SupplyTie path)
        (pass (λ count. TooLarge count) large from_kinds (small_counts circuit small)
        ∙ (pass (λ name. DeviceModel name) (device_without_kind (top_before design rules cell)) from_ties kinds
        ∙ stop (λ name. SupplyTie name) (supply_tie (top_before design rules cell)) path from_ports e))

    pub port_in_way : (name : List ℕ) → IsStructured (top_before design rules cell) → too_large (model_limits blif m) ≡ None
        → ports_fault design cell (flat_model_of blif m) rules ≡ Some name → IsCause (Ports name)
    port_in_way name structured small e =
        early (Ports name) (structured_why structured small ∙ stop (λ n. Ports n) (ports_fault design cell (flat_model_of blif m) rules) name from_outputs e)

    pub output_in_way : (signal : List ℕ) → IsStructured (top_before design rules cell) → too_large (model_limits blif m) ≡ None
        → ports_fault design cell (flat_model_of blif m) rules ≡ None → output_is_input (flat_model_of blif m) ≡ Some signal → IsCause (OutputIsInput signal)
    output_in_way signal structured small ports e =
        early (OutputIsInput signal)
        (structured_why structured small
        ∙ (pass (λ n. Ports n) (ports_fault design cell (flat_model_of blif m) rules) from_outputs ports
        ∙ stop (λ s. OutputIsInput s) (output_is_input (flat_model_of blif m)) signal (why_compared (comparison_of design blif rules cell m)) e))

    pub clock_in_way : (latch : List ℕ) → IsStructured (top_before design rules cell) → too_large (model_limits blif m) ≡ None
        → ports_fault design cell (flat_model_of blif m) rules ≡ None → output_is_input (flat_model_of blif m) ≡ None
        → latch_without_clock (flat_model_of blif m) rules ≡ Some latch → IsCause (NoClock latch)
    clock_in_way latch structured small ports outputs e =
        early (NoClock latch)
        (paired_why structured small ports outputs ∙ stop (λ l. NoClock l) (latch_without_clock (flat_model_of blif m) rules) latch from_groups e)

    pub group_in_way : (name : List ℕ) → IsStructured (top_before design rules cell) → too_large (model_limits blif m) ≡ None
        → ports_fault design cell (flat_model_of blif m) rules ≡ None → output_is_input (flat_model_of blif m) ≡ None
        → latch_without_clock (flat_model_of blif m) rules ≡ None → unmatched rules (cell_at design cell).name (flat_model_of blif m) cell_groups ≡ Some name → IsCause (Unmatched name)
    group_in_way name structured small ports outputs clock e =
        early (Unmatched name)
        (paired_why structured small ports outputs
        ∙ (pass (λ l. NoClock l) (latch_without_clock (flat_model_of blif m) rules) from_groups clock
        ∙ stop (λ n. Unmatched n) (unmatched rules (cell_at design cell).name (flat_model_of blif m) cell_groups) name from_variables e))

-- ---- how many variables there are

-- none has too many
pub none_many : {X : Type 0} (count : ℕ → ℕ) (from : ℕ) (xs : List X) → ((p : ℕ) → p < length xs → count (from + p) ≤ 1000)
    → find (λ x. nat_lt 1000 x) (map count (places from xs)) ≡ None
none_many count from [] few = refl
none_many {X} count from (x ∷ xs) few =
    let here : count from ≤ 1000 = subst (λ (n : ℕ). count n ≤ 1000) (omega arith) (few 0 (omega arith)) in
    ap (λ (b : Bool). cond b (Some (count from)) (find (λ x. nat_lt 1000 x) (map count (places (suc from) xs)))) (le-ltb 1000 (count from) here)
    ∙ none_many count (suc from) xs (λ p lt. subst (λ (n : ℕ). count n ≤ 1000) (omega arith) (few (suc p) (omega (arith, lt))))

-- one has, and none before it
pub first_many : {X : Type 0} (count : ℕ → ℕ) (from : ℕ) (xs : List X) (p : ℕ) → p < length xs → ((q : ℕ) → q < p → count (from + q) ≤ 1000) → 1000 < count (from + p)
    → find (λ x. nat_lt 1000 x) (map count (places from xs)) ≡ Some (count (from + p))
first_many count from [] p lt few many = absurd (omega (arith, lt))
first_many {X} count from (x ∷ xs) zero lt few many =
    let here : count (from + 0) ≡ count from = ap count (omega arith) in
    ap (λ (b : Bool). cond b (Some (count from)) (find (λ x. nat_lt 1000 x) (map count (places (suc from) xs)))) (lt-ltb 1000 (count from) (subst (λ (n : ℕ). 1000 < n) here many))
    ∙ ap Some (sym here)
first_many {X} count from (x ∷ xs) (suc p) lt few many =
    let here : count from ≤ 1000 = subst (λ (n : ℕ). count n ≤ 1000) (omega arith) (few 0 (omega arith)) in
    let next : count (suc from + p) ≡ count (from + suc p) = ap count (omega arith) in
    ap (λ (b : Bool). cond b (Some (count from)) (find (λ x. nat_lt 1000 x) (map count (places (suc from) xs)))) (le-ltb 1000 (count from) here)
    ∙ (first_many count (suc from) xs p (omega (arith, lt)) (λ q less. subst (λ (n : ℕ). count n ≤ 1000) (omega arith) (few (suc q) (omega (arith, less)))) (subst (λ (n : ℕ). 1000 < n) (sym next) many)
    ∙ ap Some next)

-- ---- after pairing

-- comparisons of equal parts are equal
same_comparison : (design : Design) (rules : Rules) (cell : ℕ) (p q : Pairing) (c d : Circuit) (x y : FlatModel) (g h : List HoldGroup) → p ≡ q → c ≡ d → x ≡ y → g ≡ h
    → (let one : Comparison = record { design = design; rules = rules; cell = cell; pairing = p; circuit = c; model = x; groups = g } in one)
    ≡ (let one : Comparison = record { design = design; rules = rules; cell = cell; pairing = q; circuit = d; model = y; groups = h } in one)
same_comparison design rules cell p q c d x y g h a b e f = cc

module _ (design : Design) (blif : Blif) (rules : Rules) (cell m : ℕ) (f : Flattened) (is : IsFlattened design blif rules cell m f) where
  -- what is compared is what the definitions compare
  pub comparison_is : comparison design rules cell f ≡ comparison_of design blif rules cell m
  comparison_is =
      same_comparison design rules cell f.pairing the_pairing f.circuit (flat_circuit design rules cell the_pairing) f.model (flat_model_of blif m) f.groups
      (groups_of (flat_circuit design rules cell the_pairing) (flat_model_of blif m)) pairing circuit is.model_is groups
    where
      the_pairing : Pairing
      the_pairing = pairing_of design cell m (flat_model_of blif m) rules

      pairing : f.pairing ≡ pairing_of design cell m (flat_model_of blif m) rules
      pairing = is.pairing_is ∙ ap (λ (flat : FlatModel). pairing_of design cell m flat rules) is.model_is

      circuit : f.circuit ≡ flat_circuit design rules cell (pairing_of design cell m (flat_model_of blif m) rules)
      circuit = is.circuit_is ∙ ap (flat_circuit design rules cell) pairing

      groups : f.groups ≡ groups_of (flat_circuit design rules cell (pairing_of design cell m (flat_model_of blif m) rules)) (flat_model_of blif m)
      groups =
          is.groups_are ∙ ap (λ (c : Circuit). groups_of c f.model) circuit
          ∙ ap (groups_of (flat_circuit design rules cell (pairing_of design cell m (flat_model_of blif m) rules))) is.model_is

  -- nothing before the variables stands in the way
  pub by_variables : why_paired design blif rules cell m ≡ why_of (λ count. TooManyVars count) (too_many_variables (comparison design rules cell f))
  by_variables =
      paired_why design blif rules cell m is.structured is.small (subst (λ (x : FlatModel). ports_fault design cell x rules ≡ None) is.model_is is.ports)
      (subst (λ (x : FlatModel). output_is_input x ≡ None) is.model_is is.outputs)
      ∙ (sym (ap why_compared comparison_is)
      ∙ (pass (λ latch. NoClock latch) (latch_without_clock f.model rules)
      (option_or (why_of (λ name. Unmatched name) (unmatched rules (cell_at design cell).name f.model f.groups)) (why_of (λ count. TooManyVars count) (too_many_variables (comparison design rules cell f))))
      is.clock
      ∙ pass (λ name. Unmatched name) (unmatched rules (cell_at design cell).name f.model f.groups) (why_of (λ count. TooManyVars count) (too_many_variables (comparison design rules cell f))) is.matched))
