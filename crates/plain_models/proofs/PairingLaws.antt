-- How a cell pairs with a model depends on the model's interface alone.
use Rattle.std.proofs.Common.{◌≡◌, ℕ, ◌&&◌, ◌||◌, Bool, false, not, cond, List, [], ◌∷◌, ◌++◌, Option, Some, None, ap, ap₂, refl, sym, ◌∙◌}
use Rattle.std.specs.Prelude.{bytes_eq, count_by, map, filter, filter_map, find, is_none, is_some, length, nat_lt, option_and_then, option_map, slice_get, unwrap_or, ◌==◌}
use Rattle.std.specs.List.{cons_option}
use Rattle.std.specs.Option.{option_or}
use Rattle.std.specs.Str.{str_to_ascii_lowercase}
use Rattle.std.proofs.Math.Path.{fun_ext}
use Rattle.names.proofs.FilterLaws.{first_is_found}
use Rattle.plain_models.specs.Interfaces.{SameInterface}
use Rattle.vrt_model.proofs.Lists.{filter_among_same}
use Rattle.vrt_model.proofs.Members.{among_filter, among_later, among_left, find_among}
use Rattle.vrt_model.specs.CellRules.{clock_of_port, supply_of}
use Rattle.vrt_model.specs.Comparison.{cell_at}
use Rattle.vrt_model.specs.Elements.{signal_name}
use Rattle.vrt_model.specs.Lists.{Among, has_number, place_of}
use Rattle.vrt_model.specs.PairedPorts.{clocked_by_name, clocked_port, clocked_signals, interface, is_assumed, is_port_in_way, is_signal_in_way, paired_signal, paired_signals, pairing_of, pairs_with_output, port_rule, ports_fault, role_by, role_of, shares_signal, signal_by, signal_of_port, signals_like, upright}
use Rattle.vrt_model.specs.declared.design.Cell.{Cell}
use Rattle.vrt_model.specs.declared.design.Design.{Design}
use Rattle.vrt_model.specs.declared.flat_model.FlatModel.{FlatModel}
use Rattle.vrt_model.specs.declared.pairing.ClockedSignal.{ClockedSignal}
use Rattle.vrt_model.specs.declared.pairing.PortRole.{PortRole}
use Rattle.vrt_model.specs.declared.rules.ClockRef.{ClockRef}
use Rattle.vrt_model.specs.declared.rules.PortRule.{PortRule}
use Rattle.vrt_model.specs.declared.rules.Rules.{Rules}

-- ---- lists that are looked at alike

found_alike : {X : Type 0} (p q : X → Bool) (xs : List X) → ((x : X) → Among xs x → p x ≡ q x) → find p xs ≡ find q xs
found_alike {X} p q xs same = sym (first_is_found p xs) ∙ ap (λ (ys : List X). slice_get ys 0) (filter_among_same p q xs same) ∙ first_is_found q xs

made_alike : {X Y : Type 0} (f g : X → Option Y) (xs : List X) → ((x : X) → Among xs x → f x ≡ g x) → filter_map f xs ≡ filter_map g xs
made_alike f g [] same = refl
made_alike {X} {Y} f g (x ∷ xs) same = ap₂ (λ (o : Option Y) (ys : List Y). cons_option o ys) (same x (0, refl)) (made_alike f g xs (λ y m. same y (among_later x xs y m)))

module _ (one two : FlatModel) (same : SameInterface one two) (rules : Rules) where
  given_same : (one.inputs ++ one.clocks) ≡ (two.inputs ++ two.clocks)
  given_same = ap₂ (λ (xs ys : List ℕ). xs ++ ys) same.inputs same.clocks

  interface_same : interface one ≡ interface two
  interface_same = ap₂ (λ (xs ys : List ℕ). xs ++ filter (λ s. not (has_number xs s)) ys) given_same same.outputs

  likes_same : (port : List ℕ) → signals_like one port ≡ signals_like two port
  likes_same port =
      filter_among_same (λ s. bytes_eq (str_to_ascii_lowercase (signal_name one s)) port) (λ s. bytes_eq (str_to_ascii_lowercase (signal_name two s)) port) (interface one)
      (λ s there. ap (λ (name : List ℕ). bytes_eq (str_to_ascii_lowercase name) port) (same.names s there))
      ∙ ap (filter (λ s. bytes_eq (str_to_ascii_lowercase (signal_name two s)) port)) interface_same

  signal_same : (port : List ℕ) (rule : Option PortRule) → signal_by one port rule ≡ signal_by two port rule
  signal_same port None = ap (λ (xs : List ℕ). slice_get xs 0) (likes_same port)
  signal_same port (Some rule) =
      found_alike (λ s. bytes_eq (signal_name one s) rule.signal) (λ s. bytes_eq (signal_name two s) rule.signal) (interface one) (λ s there. ap (λ (name : List ℕ). bytes_eq name rule.signal) (same.names s there))
      ∙ ap (find (λ s. bytes_eq (signal_name two s) rule.signal)) interface_same

  port_same : (cell port : List ℕ) → signal_of_port one rules cell port ≡ signal_of_port two rules cell port
  port_same cell port = signal_same port (port_rule rules cell port)

  role_same : (supply : Option Bool) (clock : Option ClockRef) (signal : Option ℕ) → role_by one supply clock signal ≡ role_by two supply clock signal
  role_same (Some value) clock signal = refl
  role_same None (Some clock) signal = refl
  role_same None None None = refl
  role_same None None (Some s) = ap (λ (xs : List ℕ). role_by (record one { outputs = xs }) None None (Some s)) same.outputs

  roles_same : (cell : List ℕ) → role_of one rules cell ≡ role_of two rules cell
  roles_same cell = fun_ext (λ port. role_same (supply_of rules port) (clock_of_port rules cell port) (signal_of_port one rules cell port)
      ∙ ap (role_by two (supply_of rules port) (clock_of_port rules cell port)) (port_same cell port))

  paired_same : (cell : List ℕ) → paired_signal one rules cell ≡ paired_signal two rules cell
  paired_same cell = fun_ext (λ port. ap (cond (is_some (supply_of rules port)) None) (port_same cell port))

  all_paired_same : (cell : Cell) → paired_signals one rules cell ≡ paired_signals two rules cell
  all_paired_same cell = ap (λ (f : List ℕ → Option ℕ). filter_map f cell.ports) (paired_same cell.name)

  clocked_same : (cell : List ℕ) → clocked_port one rules cell ≡ clocked_port two rules cell
  clocked_same cell = fun_ext (λ port.
      ap (λ (o : Option ℕ). option_and_then (λ (clock : ClockRef). option_map (λ (s : ℕ). let made : ClockedSignal = record { signal = s; clock = clock } in made) o) (clock_of_port rules cell port))
      (ap (λ (f : List ℕ → Option ℕ). f port) (paired_same cell)))

  by_name_same : (s : ℕ) → Among (interface one) s → clocked_by_name one rules s ≡ clocked_by_name two rules s
  by_name_same s there =
      ap (λ (name : List ℕ). option_map (λ (clock : ℕ). let made : ClockedSignal = record { signal = s; clock = upright clock } in made) (place_of rules.clocks name)) (same.names s there)

  carried_same : (cell : Cell) → clocked_signals one rules cell ≡ clocked_signals two rules cell
  carried_same cell =
      let test : List ℕ → ℕ → Bool = λ xs s. not (has_number xs s) in
      let outs = filter (λ s. not (has_number (one.inputs ++ one.clocks) s)) one.outputs in
      ap₂ (λ (xs ys : List ClockedSignal). xs ++ ys) (ap (λ (f : List ℕ → Option ClockedSignal). filter_map f cell.ports) (clocked_same cell.name))
      (made_alike (clocked_by_name one rules) (clocked_by_name two rules) (filter (test (paired_signals one rules cell)) (one.inputs ++ one.clocks))
      (λ s there. by_name_same s (among_left (one.inputs ++ one.clocks) outs s (among_filter (test (paired_signals one rules cell)) (one.inputs ++ one.clocks) s there)))
      ∙ ap₂ (λ (xs ys : List ℕ). filter_map (clocked_by_name two rules) (filter (test xs) ys)) (all_paired_same cell) given_same)

  pairings_same : (design : Design) (cell m : ℕ) → pairing_of design cell m one rules ≡ pairing_of design cell m two rules
  unfolding pairing_of
  pairings_same design cell m =
      let ports = ap (λ (f : List ℕ → Option PortRole). filter_map f (cell_at design cell).ports) (roles_same (cell_at design cell).name) in
      let clocked = carried_same (cell_at design cell) in
      λ i. record { model = m; ports = ports i; clocked = clocked i }

  -- ---- what is in the way

  outputs_same : (cell port : List ℕ) → pairs_with_output one rules cell port ≡ pairs_with_output two rules cell port
  outputs_same cell port =
      ap₂ (λ (xs : List ℕ) (o : Option ℕ). unwrap_or (option_map (has_number xs) o) false) same.outputs (ap (λ (f : List ℕ → Option ℕ). f port) (paired_same cell))

  shared_same : (cell : Cell) (port : List ℕ) → shares_signal one rules cell port ≡ shares_signal two rules cell port
  shared_same cell port =
      ap₂ (λ (xs : List ℕ) (o : Option ℕ). unwrap_or (option_map (λ s. nat_lt 1 (count_by (λ other. other == s) xs)) o) false) (all_paired_same cell) (ap (λ (f : List ℕ → Option ℕ). f port) (paired_same cell.name))

  port_way_same : (cell : Cell) → is_port_in_way one rules cell ≡ is_port_in_way two rules cell
  port_way_same cell = fun_ext (λ port.
      let is_supply = is_some (supply_of rules port) in
      let is_clock = is_some (clock_of_port rules cell.name port) in
      let rule = port_rule rules cell.name port in
      let role = ap (λ (f : List ℕ → Option PortRole). is_none (f port)) (roles_same cell.name) in
      let like = ap (λ (xs : List ℕ). nat_lt 1 (length xs)) (likes_same port) in
      let share = shared_same cell port in
      let named = ap is_none (signal_same port rule) in
      let output = outputs_same cell.name port in
      λ i. ((((role i || (not is_supply && is_none rule && like i)) || share i) || (is_some rule && named i)) || (is_clock && (is_supply || output i))) || (output i && is_assumed rules cell.name port))

  signal_way_same : (cell : Cell) → is_signal_in_way one rules cell ≡ is_signal_in_way two rules cell
  signal_way_same cell = fun_ext (λ s.
      ap₂ (λ (xs : List ℕ) (ys : List ClockedSignal). not (has_number xs s) && not (has_number (map (λ (c : ClockedSignal). c.signal) ys) s)) (all_paired_same cell) (carried_same cell))

  -- the name of what is found in the interface
  name_found : (p : ℕ → Bool) (o : Option ℕ) → find p (interface one) ≡ o → option_map (signal_name one) o ≡ option_map (signal_name two) o
  name_found p None e = refl
  name_found p (Some s) e = ap Some (same.names s (find_among p (interface one) s e).0)

  faults_same : (design : Design) (cell : ℕ) → ports_fault design cell one rules ≡ ports_fault design cell two rules
  unfolding ports_fault
  faults_same design cell =
      let this = cell_at design cell in
      ap₂ (λ (a b : Option (List ℕ)). option_or a b)
      (ap (λ (p : List ℕ → Bool). find p this.ports) (port_way_same this))
      (name_found (is_signal_in_way one rules this) (find (is_signal_in_way one rules this) (interface one)) refl
      ∙ ap₂ (λ (p : ℕ → Bool) (xs : List ℕ). option_map (signal_name two) (find p xs)) (signal_way_same this) interface_same)

pub pairings_are_kept : (one two : FlatModel) → SameInterface one two → (design : Design) (cell m : ℕ) (rules : Rules)
    → (pairing_of design cell m one rules ≡ pairing_of design cell m two rules) × (ports_fault design cell one rules ≡ ports_fault design cell two rules)
pairings_are_kept one two same design cell m rules = (pairings_same one two same rules design cell m, faults_same one two same rules design cell)
