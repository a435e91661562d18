-- The nets of an instance that the lines of its cell name are observed.
use Rattle.std.proofs.Common.{◌≡◌, ℕ, ◌&&◌, ◌||◌, Bool, true, false, List, [], ◌∷◌, All, refl, inl, inr}
use Rattle.std.specs.Prelude.{◌==◌, bytes_eq, cond, is_some}
use Rattle.std.specs.List.{list_any}
use Rattle.std.proofs.lemmas.Bool.{and_from, and_parts, eq-eqb, or_cases, or_left, or_right}
use Rattle.std.proofs.lemmas.Option.{none-some}
use Rattle.channel_parts.specs.declared.part.Parts.{Parts}
use Rattle.circuit_faults.specs.Steps.{InPhase, IsReadyInstance, in_comparison, named_at}
use Rattle.circuit_faults.specs.declared.steps.CircuitStep.{CircuitStep}
use Rattle.constraints.proofs.NamedLaws.{assumed_line, clock_line, named_among}
use Rattle.constraints.specs.Obliged.{is_asked, is_named_in, is_named_port}
use Rattle.phase_terms.specs.Ready.{IsNamedInstance, IsReady}
use Rattle.vrt_model.proofs.Members.{all_among, all_by, among_any, any_among}
use Rattle.vrt_model.proofs.Tests.{some_of}
use Rattle.vrt_model.specs.CellRules.{assumed, clock_of_port, is_constrained, is_for, is_observed_port}
use Rattle.vrt_model.specs.Circuits.{IsNet}
use Rattle.vrt_model.specs.Comparison.{CellPort, Comparison, cell_at, is_observed, output_signal, ports_of}
use Rattle.vrt_model.specs.Expressions.{names_in}
use Rattle.vrt_model.specs.Lists.{Among, has_name}
use Rattle.vrt_model.specs.Places.{named_nets_from}
use Rattle.vrt_model.specs.declared.circuit.Device.{Device}
use Rattle.vrt_model.specs.declared.circuit.FlatInstance.{FlatInstance}
use Rattle.vrt_model.specs.declared.circuit.Hold.{Hold}
use Rattle.vrt_model.specs.declared.ids.Net.{Net}
use Rattle.vrt_model.specs.declared.rules.AssumeRule.{AssumeRule}
use Rattle.vrt_model.specs.declared.rules.ClockportRule.{ClockportRule}
use Rattle.vrt_model.specs.declared.rules.Expr.{Expr}
use Rattle.vrt_model.specs.declared.rules.Rules.{Rules}
use Rattle.vrt_model.specs.declared.whole.Whole.{Whole}
use Rattle.vrt_model.specs.declared.whole.WholePin.{WholePin}

-- ---- a cell with a line that names a port has a constraint

-- some name passes, where some net is listed
named_some : (named : List ℕ → Bool) (names : List (List ℕ)) (nets : List Net) (n : ℕ) → Among (named_nets_from named names nets) n → (name : List ℕ) × (named name ≡ true)
named_some named [] nets n m = absurd (none-some n m.1)
named_some named (x ∷ xs) [] n m = absurd (none-some n m.1)
named_some named (x ∷ xs) (y ∷ ys) n m = by_test (λ rest. named_some named xs ys n rest) (named x) refl m
  where
    IsFrom : Type 0
    IsFrom = Among (named_nets_from named xs ys) n → (name : List ℕ) × (named name ≡ true)

    by_test : IsFrom → (b : Bool) → named x ≡ b → Among (cond b (y.0 ∷ named_nets_from named xs ys) (named_nets_from named xs ys)) n → (name : List ℕ) × (named name ≡ true)
    by_test rest true e m = (x, e)
    by_test rest false e m = rest m

module _ (rules : Rules) (cell : List ℕ) (phase : ℕ) where
  by_assume : (name : List ℕ) → list_any (λ (e : Expr). has_name (names_in e) name) (assumed rules cell phase) ≡ true → list_any (λ (r : AssumeRule). bytes_eq r.cell cell) rules.assumes ≡ true
  by_assume name h =
      let e = any_among (λ (e : Expr). has_name (names_in e) name) (assumed rules cell phase) h in
      let r = any_among (is_asked cell phase) rules.assumes (assumed_line rules cell phase e.0 e.1) in
      among_any (λ (r : AssumeRule). bytes_eq r.cell cell) rules.assumes r.0 r.1 (and_parts (bytes_eq r.0.cell cell) (is_for r.0.phase phase) r.2).0

  by_clock : (name : List ℕ) → is_some (clock_of_port rules cell name) ≡ true → list_any (λ (r : ClockportRule). bytes_eq r.cell cell) rules.clockports ≡ true
  by_clock name h = (let clock = some_of (clock_of_port rules cell name) h in clock_line rules cell name clock.0 clock.1)

  lines_name : (name : List ℕ) → is_named_in rules cell phase name ≡ true → is_constrained rules cell ≡ true
  lines_name name h =
      let assumes = list_any (λ (r : AssumeRule). bytes_eq r.cell cell) rules.assumes in
      let clocks = list_any (λ (r : ClockportRule). bytes_eq r.cell cell) rules.clockports in
      elim (or_cases (list_any (λ (e : Expr). has_name (names_in e) name) (assumed rules cell phase)) (is_some (clock_of_port rules cell name)) h) [
        | inl a ↦ or_left assumes clocks (by_assume name a)
        | inr c ↦ or_right assumes clocks (by_clock name c)
      ]

-- ---- observed

-- the ports of an instance whose cell has a constraint are observed
port_seen : (k : Comparison) (phase n : ℕ) (i : FlatInstance) → Among k.circuit.instances i → is_constrained k.rules (cell_at k.design i.cell).name ≡ true
    → list_any (λ (m : Net). m.0 == n) i.ports ≡ true → is_observed k phase n ≡ true
unfolding is_observed
port_seen k phase n i m lines port =
    let gates = list_any (λ (d : Device). d.gate.0 == n) k.circuit.devices in
    let holds = list_any (λ (h : Hold). h.net.0 == n) k.circuit.holds in
    let outputs = list_any (λ (p : CellPort). p.net == n && is_some (output_signal p.role) && is_observed_port k.rules (cell_at k.design k.cell).name p.name phase) (ports_of k) in
    let test : FlatInstance → Bool = λ x. is_constrained k.rules (cell_at k.design x.cell).name && list_any (λ (m : Net). m.0 == n) x.ports in
    let instances = list_any test k.circuit.instances in
    let wholes = list_any (λ (x : Whole). list_any (λ (p : WholePin). p.observed && p.net.0 == n) x.inputs) k.circuit.wholes in
    or_left (((gates || holds) || outputs) || instances) wholes
    (or_right ((gates || holds) || outputs) instances
    (among_any test k.circuit.instances i m (and_from (is_constrained k.rules (cell_at k.design i.cell).name) (list_any (λ (m : Net). m.0 == n) i.ports) lines port)))

module _ (k : Comparison) (phase : ℕ) (ready : IsReady k) (parts : Parts) (steps : List CircuitStep) where
  abbrev w : InPhase
  w = in_comparison k phase parts steps (is_observed k phase)

  named_seen : (i : FlatInstance) → Among k.circuit.instances i → (n : ℕ) → Among (named_at w i) n → is_observed k phase n ≡ true
  named_seen i m n named =
      let ports = (cell_at k.design i.cell).ports in
      let test = is_named_port k.design k.rules phase i in
      let name = named_some test ports i.ports n named in
      let net = named_among test ports i.ports n named in
      port_seen k phase n i m (lines_name k.rules (cell_at k.design i.cell).name phase name.0 name.1)
      (among_any (λ (m : Net). m.0 == n) i.ports net.0 net.1 (eq-eqb net.0.0 n net.2))

  pub instances_ready : All (IsReadyInstance w) k.circuit.instances
  instances_ready = all_by (IsReadyInstance w) k.circuit.instances (λ i m.
      let h = all_among (IsNamedInstance k) k.circuit.instances i ready.instances m in
      record {
        rules = ready.rules;
        apart = h.apart;
        named = h.named;
        ports = h.ports;
        nets = all_among (λ (x : FlatInstance). All (IsNet k.circuit) x.ports) k.circuit.instances i ready.circuit.instances m;
        seen = named_seen i m;
      })
