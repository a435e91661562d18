-- What holds take from two solutions, where the circuit settles, and where an order of all inputs ends.
use Rattle.std.proofs.Common.{◌≡◌, ℕ, ◌||◌, ◌&&◌, Bool, true, false, cond, List, [], ◌∷◌, Option, Some, None, eqb, refl, ap, subst, inl, inr}
use Rattle.std.specs.Prelude.{is_some, option_and_then, slice_get, unwrap_or}
use Rattle.std.specs.List.{list_any}
use Rattle.std.proofs.Math.Path.{fun_ext}
use Rattle.std.proofs.lemmas.Bool.{eq-eqb, eqb-true, false≢true, or_cases, or_left, or_right}
use Rattle.vrt_model.proofs.Members.{among_any}
use Rattle.vrt_model.proofs.Tests.{same_tests}
use Rattle.vrt_model.specs.Assignment.{Assignment}
use Rattle.vrt_model.specs.CellRules.{is_constrained, is_observed_port}
use Rattle.vrt_model.specs.Comparison.{CellPort, Comparison, cell_at, is_observed, output_signal, ports_of}
use Rattle.vrt_model.specs.Constraints.{Meets}
use Rattle.vrt_model.specs.Equal.{Agree, IsPhaseEqual}
use Rattle.vrt_model.specs.Faults.{Stands}
use Rattle.vrt_model.specs.Held.{setting_of}
use Rattle.vrt_model.specs.Lists.{At, has_number}
use Rattle.vrt_model.specs.Reading.{Partial}
use Rattle.vrt_model.specs.Solution.{SameObserved}
use Rattle.vrt_model.specs.State.{Setting}
use Rattle.vrt_model.specs.declared.circuit.Device.{Device}
use Rattle.vrt_model.specs.declared.circuit.FlatInstance.{FlatInstance}
use Rattle.vrt_model.specs.declared.circuit.Hold.{Hold}
use Rattle.vrt_model.specs.declared.ids.Net.{Net}
use Rattle.vrt_model.specs.declared.whole.Whole.{Whole}
use Rattle.vrt_model.specs.declared.whole.WholePin.{WholePin}
use Rattle.vrt_model.specs.declared.verdict.FaultKind.{FaultKind}
use Rattle.vrt_model.specs.declared.verdict.FaultKind.TheVariants.{Fight, FightKept, Float, Unsettled, Constraint, Differs, Next, Apart, Enter}
use Rattle.arrival_laws.specs.Orders.{IsOrder, Nets, Rise, Rises, Settles, and_now, at_once, is_of_circuit, none_yet, risen_by, taken_bits}

-- ---- held bits

-- the net of a hold is observed
held_observed : (k : Comparison) (phase place : ℕ) (h : Hold) → At k.circuit.holds place h → is_observed k phase h.net.0 ≡ true
unfolding is_observed
held_observed k phase place h there =
    let n = h.net.0 in
    let test : Hold → Bool = λ x. eqb x.net.0 n in
    let gates = list_any (λ (d : Device). eqb d.gate.0 n) k.circuit.devices in
    let holds = list_any test k.circuit.holds in
    let outputs = list_any (λ (p : CellPort). eqb p.net n && is_some (output_signal p.role) && is_observed_port k.rules (cell_at k.design k.cell).name p.name phase) (ports_of k) in
    let instances = list_any (λ (i : FlatInstance). is_constrained k.rules (cell_at k.design i.cell).name && list_any (λ (m : Net). eqb m.0 n) i.ports) k.circuit.instances in
    let wholes = list_any (λ (w : Whole). list_any (λ (p : WholePin). p.observed && eqb p.net.0 n) w.inputs) k.circuit.wholes in
    or_left (((gates || holds) || outputs) || instances) wholes
    (or_left ((gates || holds) || outputs) instances
    (or_left (gates || holds) outputs
    (or_right gates holds (among_any test k.circuit.holds h (place, there) (eq-eqb n n refl)))))

module _ (k : Comparison) (phase : ℕ) (a b : Partial) (same : SameObserved (is_observed k phase) a b) where
  taken_at : (place : ℕ) (o : Option Hold) → slice_get k.circuit.holds place ≡ o
      → unwrap_or (option_and_then (λ (h : Hold). a h.net.0) o) false ≡ unwrap_or (option_and_then (λ (h : Hold). b h.net.0) o) false
  taken_at place None e = refl
  taken_at place (Some h) e = ap (λ (x : Option Bool). unwrap_or x false) (same h.net.0 (held_observed k phase place h e))

  -- from two solutions that are the same on the observed nets the holds take the same bits
  pub same_taken : taken_bits k.circuit a ≡ taken_bits k.circuit b
  same_taken = fun_ext (λ place. taken_at place (slice_get k.circuit.holds place) refl)

-- ---- where the circuit settles

-- a fault of the circuit stands whatever the model assigns
same_fault : (k : Comparison) (phase : ℕ) (s : Setting) (a : Partial) (g h : Assignment) (kind : FaultKind) (at : ℕ)
    → is_of_circuit kind ≡ true → Stands k phase s a g kind at → Stands k phase s a h kind at
same_fault k phase s a g h Fight at e x = x
same_fault k phase s a g h FightKept at e x = x
same_fault k phase s a g h Float at e x = x
same_fault k phase s a g h Unsettled at e x = x
same_fault k phase s a g h Constraint at e x = absurd (false≢true e)
same_fault k phase s a g h Differs at e x = absurd (false≢true e)
same_fault k phase s a g h Next at e x = absurd (false≢true e)
same_fault k phase s a g h Apart at e x = absurd (false≢true e)
same_fault k phase s a g h Enter at e x = absurd (false≢true e)

agree_settles : (k : Comparison) (phase : ℕ) (s : Setting) → Agree k phase s → Settles k phase s
agree_settles k phase s agree = record {
  solution = agree.solution;
  one_solution = agree.one_solution;
  defined = agree.defined;
  no_fault = λ a g kind at solves e stands.
      let h = agree.assignment in agree.no_fault a h.0 solves h.1 kind at (same_fault k phase s a g h.0 kind at e stands);
}

pub equal_phases_settle : (k : Comparison) (phase : ℕ) (bits : List Bool) → IsPhaseEqual k phase → Meets k phase bits → Settles k phase (setting_of k phase bits)
equal_phases_settle k phase bits equal meets = agree_settles k phase (setting_of k phase bits) (equal.agree bits meets)

-- ---- where all have risen

input_is : (rising x y : Bool) → (rising ≡ true → x ≡ y) → cond rising x y ≡ y
input_is true x y e = e refl
input_is false x y e = refl

-- where exactly those nets have risen that rise, the setting at once is that of the valuation
pub all_risen : (r : Rise) (risen : Nets) → ((n : ℕ) → has_number r.nets n ≡ true → risen n ≡ r.end.inputs n) → at_once r risen ≡ r.end
all_risen r risen all =
    ap (λ (f : ℕ → Bool). let s : Setting = record { inputs = f; held = r.end.held; elements = r.end.elements } in s)
    (fun_ext (λ n. input_is (has_number r.nets n) (risen n) (r.end.inputs n) (all n)))

-- none of those that have risen goes
risen_stay : (ns : List ℕ) (risen : Nets) (m : ℕ) → risen m ≡ true → risen_by risen ns m ≡ true
risen_stay [] risen m e = e
risen_stay (n ∷ ns) risen m e = risen_stay ns (and_now risen n) m (or_left (risen m) (eqb n m) e)

listed_rise : (ns : List ℕ) (risen : Nets) (m : ℕ) → has_number ns m ≡ true → risen_by risen ns m ≡ true
listed_rise [] risen m is = absurd (false≢true is)
listed_rise (n ∷ ns) risen m is =
    elim (or_cases (eqb n m) (has_number ns m) is) [
      | inl first ↦ risen_stay ns (and_now risen n) m (or_right (risen m) (eqb n m) first)
      | inr later ↦ listed_rise ns (and_now risen n) m later
    ]

-- what has risen by an order rises
by_order : (r : Rise) (ns : List ℕ) (risen : Nets) (m : ℕ) → IsOrder r risen ns → (risen m ≡ true → Rises r m) → risen_by risen ns m ≡ true → Rises r m
by_order r [] risen m order up e = up e
by_order r (n ∷ ns) risen m order up e =
    by_order r ns (and_now risen n) m order.2
    (λ t. elim (or_cases (risen m) (eqb n m) t) [ inl old ↦ up old | inr new ↦ subst (Rises r) (eqb-true n m new) order.0 ]) e

pub full_orders_end : (r : Rise) (ns : List ℕ) → IsOrder r none_yet ns → ((n : ℕ) → Rises r n → has_number ns n ≡ true) → at_once r (risen_by none_yet ns) ≡ r.end
full_orders_end r ns order full =
    all_risen r (risen_by none_yet ns)
    (λ n is. same_tests (risen_by none_yet ns n) (r.end.inputs n)
    (λ e. (by_order r ns none_yet n order (λ t. absurd (false≢true t)) e).1) (λ up. listed_rise ns none_yet n (full n (is, up))))
