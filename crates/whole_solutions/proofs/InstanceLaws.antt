-- The bits at an instance whose constraints are not broken are a valuation of its cell.
use Rattle.std.proofs.Common.{◌≡◌, ℕ, zero, ◌&&◌, ◌||◌, Bool, true, false, not, List, [], get_or, Option, Some, ap, ap₂, subst, sym, refl, ◌∙◌, inl, inr}
use Rattle.std.specs.Prelude.{option_and_then, slice_get, unwrap_or}
use Rattle.std.specs.List.{enumerate_from, list_all}
use Rattle.std.proofs.lemmas.Bool.{cases_Bool}
use Rattle.std.proofs.lemmas.List.Sums.{list_all-from_AllPass}
use Rattle.std.proofs.lemmas.Option.{slice_get-get_or}
use Rattle.cell_inside.specs.Placed.{IsSupply}
use Rattle.run_laws.proofs.MemoryBits.{bits_count, bits_of, input_bit}
use Rattle.vrt_model.proofs.GatesGiven.{base_reading, given_once}
use Rattle.vrt_model.proofs.Lists.{map_at}
use Rattle.vrt_model.proofs.Members.{among_left, among_right}
use Rattle.vrt_model.specs.CellRules.{assumed, clock_of_port}
use Rattle.vrt_model.specs.Comparison.{Comparison, cell_at, phase_at, port_nets}
use Rattle.vrt_model.specs.Constraints.{Meets, given_bit, is_entered, meets_assumes, meets_enters, named_net}
use Rattle.vrt_model.specs.Expressions.{both, names_in, negated, value_by, value_of}
use Rattle.vrt_model.specs.Faults.{BreaksConstraint, port_bit}
use Rattle.vrt_model.specs.FlatCircuit.{net_id}
use Rattle.vrt_model.specs.Held.{setting_of}
use Rattle.vrt_model.specs.Lists.{Among, At, differ, place_of}
use Rattle.vrt_model.specs.Reading.{HasGivenBit, IsReading, Partial, clock_bit}
use Rattle.vrt_model.specs.Runs.{Memory}
use Rattle.vrt_model.specs.Variables.{enter_of}
use Rattle.vrt_model.specs.declared.circuit.FlatInstance.{FlatInstance}
use Rattle.vrt_model.specs.declared.circuit.FlatNet.{FlatNet}
use Rattle.vrt_model.specs.declared.circuit.Hold.{Hold}
use Rattle.vrt_model.specs.declared.circuit.NetKind.{NetKind}
use Rattle.vrt_model.specs.declared.circuit.NetKind.TheVariants.{Supply, Clock, Input, Plain}
use Rattle.vrt_model.specs.declared.design.Cell.{Cell}
use Rattle.vrt_model.specs.declared.ids.Net.{Net}
use Rattle.vrt_model.specs.declared.rules.ClockRef.{ClockRef}
use Rattle.vrt_model.specs.declared.rules.Expr.{Expr}
use Rattle.vrt_model.specs.declared.rules.Expr.TheVariants.{Port, Not', And', Xor', Or'}
use Rattle.vrt_model.specs.declared.rules.Phase.{Phase}
use Rattle.whole_solutions.specs.Instances.{HasGivenPorts, HasNamedBits, InstanceGivesValuation, IsInstanceOf}

-- a bit that is not the inverse of another is that other
not_inverse : (x y : Bool) → (x ≡ not y → ⊥) → x ≡ y
not_inverse true true no_more = refl
not_inverse true false no_more = absurd (no_more refl)
not_inverse false true no_more = absurd (no_more refl)
not_inverse false false no_more = refl

-- where each name has its bit, an expression has the value by these
value_there : (f : List ℕ → Option Bool) (g : List ℕ → Bool) (e : Expr) → ((name : List ℕ) → Among (names_in e) name → f name ≡ Some (g name)) → value_by f e ≡ Some (value_of g e)
value_there f g (Port name) same = same name (zero, refl)
value_there f g (Not' p e) same = ap negated (value_there f g e same)
value_there f g (And' p e q h) same =
    ap₂ (λ (x y : Option Bool). both ◌&&◌ x y) (value_there f g e (λ n m. same n (among_left (names_in e) (names_in h) n m))) (value_there f g h (λ n m. same n (among_right (names_in e) (names_in h) n m)))
value_there f g (Xor' p e q h) same =
    ap₂ (λ (x y : Option Bool). both differ x y) (value_there f g e (λ n m. same n (among_left (names_in e) (names_in h) n m))) (value_there f g h (λ n m. same n (among_right (names_in e) (names_in h) n m)))
value_there f g (Or' p e q h) same =
    ap₂ (λ (x y : Option Bool). both ◌||◌ x y) (value_there f g e (λ n m. same n (among_left (names_in e) (names_in h) n m))) (value_there f g h (λ n m. same n (among_right (names_in e) (names_in h) n m)))

-- nothing is asked on entering a phase where there is no hold
enters_without_holds : (q : Comparison) (phase : ℕ) (held : ℕ → Bool) → q.circuit.holds ≡ [] → meets_enters q.circuit phase held ≡ true
enters_without_holds q phase held none =
    ap (λ (holds : List Hold). list_all (λ (p : ℕ × Hold). is_entered (enter_of q.circuit phase p.0) (held p.0)) (enumerate_from 0 holds)) none

module _ (q : Comparison) (phase : ℕ) (at : ℕ → ℕ) (i : FlatInstance) (reading : ℕ → Bool) (a : Partial)
    (given : HasGivenPorts q phase) (here : IsInstanceOf q at i) (named : HasNamedBits q phase at reading a)
    (supplies : (n : ℕ) (value : Bool) → IsSupply q.circuit n value → reading (at n) ≡ value)
    (kept : ¬ BreaksConstraint q.design q.rules phase a i) where
  abbrev cell : Cell
  cell = cell_at q.design q.cell

  abbrev here_phase : Phase
  here_phase = phase_at q.rules phase

  abbrev own : ℕ → Bool
  own n = reading (at n)

  port_there : (place n : ℕ) → At (port_nets q.rules cell.ports) place n → At i.ports place (net_id (at n))
  port_there place n e =
      subst (λ (nets : List Net). At nets place (net_id (at n))) (sym here.ports) (map_at (λ (m : ℕ). net_id (at m)) (port_nets q.rules cell.ports) place n e)

  -- a net that carries a clock has the clock's bit
  clock_bits : (n : ℕ) (net : FlatNet) (clock : ClockRef) → At q.circuit.nets n net → net.kind ≡ Clock clock → own n ≡ clock_bit here_phase clock
  clock_bits n net clock e k =
      let port = given.clocks n net clock e k in
      not_inverse (own n) (clock_bit here_phase clock) (λ differs. kept (inr (
        port.0,
        port.1,
        net_id (at n),
        clock,
        subst (λ (x : ℕ). At (cell_at q.design x).ports port.0 port.1) (sym here.cell) port.2.called,
        port_there port.0 n port.2.tied,
        subst (λ (x : ℕ). clock_of_port q.rules (cell_at q.design x).name port.1 ≡ Some clock) (sym here.cell) port.3,
        named port.0 n port.1 port.2 (inr (clock, port.3)) ∙ ap (λ (b : Bool). Some b) differs,
      )))

  -- the bits above are a reading, where the inputs have them
  own_reads : (inputs : ℕ → Bool) → ((n : ℕ) (net : FlatNet) → At q.circuit.nets n net → net.kind ≡ Input → inputs n ≡ own n) → IsReading q.circuit here_phase inputs own
  own_reads inputs same n net e = by_kind net.kind refl
    where
      by_kind : (kind : NetKind) → net.kind ≡ kind → HasGivenBit here_phase inputs kind n (own n)
      by_kind (Supply value) k = supplies n value (net, e, k)
      by_kind (Clock clock) k = clock_bits n net clock e k
      by_kind Input k = sym (same n net e k)
      by_kind Plain k = tt

  module _ (inputs : ℕ → Bool) (reads : IsReading q.circuit here_phase inputs own) where
    abbrev bit_named : List ℕ → Bool
    bit_named name = given_bit q.circuit here_phase inputs (named_net q.rules cell name)

    -- a port that an `assume` names has there the bit that it has in the cell
    port_has : (e : Expr) → Among (assumed q.rules cell.name phase) e → (name : List ℕ) → Among (names_in e) name → port_bit q.design a i name ≡ Some (bit_named name)
    port_has e m name there =
        let port = given.named e name m there in
        let net = port.4 in
        let place_is : place_of (cell_at q.design i.cell).ports name ≡ Some port.0 = subst (λ (x : ℕ). place_of (cell_at q.design x).ports name ≡ Some port.0) (sym here.cell) port.2 in
        let net_is : named_net q.rules cell name ≡ port.1 =
        ap (λ (o : Option ℕ). unwrap_or (option_and_then (λ (x : ℕ). slice_get (port_nets q.rules cell.ports) x) o) 0) port.2 ∙ ap (λ (o : Option ℕ). unwrap_or o 0) port.3.tied in
        let same : own port.1 ≡ given_bit q.circuit here_phase inputs port.1 =
        given_once here_phase inputs net.0.kind port.1 (own port.1) (given_bit q.circuit here_phase inputs port.1) net.2 (reads port.1 net.0 net.1) (base_reading q.circuit here_phase inputs port.1 net.0 net.1) in
        ap (λ (o : Option ℕ). option_and_then (λ (m : Net). a m.0) (option_and_then (λ (x : ℕ). slice_get i.ports x) o)) place_is
        ∙ ap (λ (o : Option Net). option_and_then (λ (m : Net). a m.0) o) (port_there port.0 port.1 port.3.tied)
        ∙ named port.0 port.1 name port.3 (inl (e, m, there))
        ∙ ap (λ (b : Bool). Some b) (same ∙ ap (given_bit q.circuit here_phase inputs) (sym net_is))

    assume_holds : (e : Expr) → Among (assumed q.rules cell.name phase) e → value_of bit_named e ≡ true
    assume_holds e m =
        elim (cases_Bool (value_of bit_named e)) [
          | inl t ↦ t
          | inr f ↦ absurd (kept (inl (
            e,
            subst (λ (x : ℕ). Among (assumed q.rules (cell_at q.design x).name phase) e) (sym here.cell) m,
            value_there (port_bit q.design a i) bit_named e (port_has e m) ∙ ap (λ (b : Bool). Some b) f,
          )))
        ]

    assumes_hold : meets_assumes q.design q.rules q.cell q.circuit phase inputs ≡ true
    assumes_hold =
        list_all-from_AllPass (λ (e : Expr). value_of bit_named e) (assumed q.rules cell.name phase)
        (λ k d lt. assume_holds (get_or (assumed q.rules cell.name phase) k d) (k, slice_get-get_or (assumed q.rules cell.name phase) k d lt))

  abbrev no_memory : Memory
  no_memory = record { held = λ place. false; elements = λ e. false }

  abbrev bits : List Bool
  bits = bits_of q phase no_memory own

  reads_there : IsReading q.circuit here_phase (setting_of q phase bits).inputs own
  unfolding setting_of
  reads_there = own_reads (setting_of q phase bits).inputs (λ n net e k. input_bit q phase no_memory own n net e k)

  pub valuation : q.circuit.holds ≡ [] → (v : List Bool) × Meets q phase v × IsReading q.circuit here_phase (setting_of q phase v).inputs own
  valuation none = (
    bits,
    record {
      valuation = bits_count q phase no_memory own;
      constraints = ap₂ (λ (x y : Bool). x && y) (assumes_hold (setting_of q phase bits).inputs reads_there) (enters_without_holds q phase (setting_of q phase bits).held none);
    },
    reads_there,
  )

pub instance_gives_valuation : InstanceGivesValuation
instance_gives_valuation q phase at i reading a none given here named supplies kept = valuation q phase at i reading a given here named supplies kept none
