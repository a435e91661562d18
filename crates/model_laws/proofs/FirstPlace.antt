-- The first fault of a cell whose one output is pulled to 0, against a model that says 1.
use Rattle.std.proofs.Common.{◌<◌, ◌≡◌, ℕ, zero, suc, ◌≤◌, Bool, true, false, List, [], ◌∷◌, Option, Some, None, sym, subst, refl, ◌∙◌, ap, inl, inr, arith, length}
use Rattle.std.specs.Prelude.{codes, cond, eqb, ◌||◌, ◌&&◌, ◌⊎◌, ◌↔◌}
use Rattle.std.proofs.lemmas.Bool.{false≢true, or_cases, and_parts, eqb-true}
use Rattle.std.proofs.lemmas.Option.{same_Some, none-some}
use Rattle.vrt_model.proofs.Cells.{base}
use Rattle.model_laws.specs.ZeroCell.{blif, design, the_fault}
use Rattle.model_laws.proofs.OneDevice.{the_device, the_nets, the_only, vdd_shows, y_shows}
use Rattle.vrt_model.specs.Assignment.{Assignment}
use Rattle.vrt_model.specs.Comparison.{Comparison, is_observed, phase_at}
use Rattle.vrt_model.specs.Constraints.{Meets}
use Rattle.vrt_model.specs.Faults.{Assigns, Solves, Stands}
use Rattle.vrt_model.specs.FlatBlif.{all_models, flat_model_of, network_names, signals_of, unrolled_of}
use Rattle.vrt_model.specs.FlatCircuit.{flat_circuit_of}
use Rattle.vrt_model.specs.Groups.{groups_of}
use Rattle.vrt_model.specs.Held.{setting_of}
use Rattle.vrt_model.specs.ModelArcs.{HasModelArc, carried_bits}
use Rattle.vrt_model.specs.Known.{IsCycle, HasArc, HasRankArc, IsInPart, IsKnown, IsLeastOfPart, IsPlain, IsRanking, IsTogether, fixed, itself, onward}
use Rattle.vrt_model.specs.Lists.{At, Among, bit_at}
use Rattle.vrt_model.specs.PairedPorts.{pairing_of, ports_fault}
use Rattle.vrt_model.specs.Places.{Finding, IsFinding, IsFirst, IsNoLater, IsOrder}
use Rattle.vrt_model.specs.Covers.{cover_bit}
use Rattle.vrt_model.specs.Reading.{HasGivenBit, is_given}
use Rattle.vrt_model.specs.Response.{IsResponse, Response, Shows, Fight, Float}
use Rattle.vrt_model.specs.Solution.{Agrees, AlwaysResponds}
use Rattle.vrt_model.specs.State.{IsState, Setting, State, network_of}
use Rattle.vrt_model.specs.Unrolled.{all_places, global_nets, net_at, own_nets}
use Rattle.vrt_model.specs.Unsupported.{AcyclicBefore, IsSupported, comparison_of, why_paired}
use Rattle.vrt_model.specs.Variables.{variables_of}
use Rattle.vrt_model.specs.Verdicts.{Describes, HasVerdict, IsVerdict, answer_line}
use Rattle.vrt_model.specs.declared.circuit.Circuit.{Circuit}
use Rattle.vrt_model.specs.declared.circuit.Device.{Device}
use Rattle.vrt_model.specs.declared.circuit.FlatNet.{FlatNet}
use Rattle.vrt_model.specs.declared.circuit.NetKind.{NetKind}
use Rattle.vrt_model.specs.declared.circuit.NetKind.TheVariants.{Supply, Plain}
use Rattle.vrt_model.specs.declared.flat_model.Cover.{Cover}
use Rattle.vrt_model.specs.declared.pairing.PortRole.TheVariants.{Output}
use Rattle.vrt_model.specs.declared.verdict.Verdict.TheVariants.{Fault}
use Rattle.vrt_model.specs.declared.verdict.FaultKind.{FaultKind}
use Rattle.vrt_model.specs.declared.verdict.FaultKind.TheVariants.{Fight as FightFault, FightKept, Float as FloatFault, Unsettled, Constraint, Differs, Next, Apart, Enter}

abbrev circuit : Circuit
circuit = record { nets = the_nets; devices = the_device ∷ []; holds = []; instances = []; wholes = []; source = 8 }

abbrev cell : Comparison
cell = record {
  design = design;
  rules = base;
  cell = 0;
  pairing = record { model = 0; ports = Output 0 ∷ []; clocked = [] };
  circuit = circuit;
  model = record {
    signals = codes "y" ∷ [];
    inputs = [];
    clocks = [];
    outputs = 0 ∷ [];
    covers = record { inputs = []; output = 0; on = true; rows = [] ∷ [] } ∷ [];
    latches = [];
    dontcares = [];
  };
  groups = [];
}

cell_is : comparison_of design blif base 0 0 ≡ cell
unfolding flat_circuit_of all_places net_at own_nets global_nets flat_model_of unrolled_of network_names all_models signals_of pairing_of groups_of
cell_is = refl

-- ---- the observed nets are the gate and the output

or_false : (b : Bool) → (b || false) ≡ true → b ≡ true
or_false true e = refl
or_false false e = e

observed_net : (n : ℕ) → is_observed cell 0 n ≡ true → (n ≡ 1) ⊎ (n ≡ 2)
unfolding is_observed
observed_net n e =
    let first : ((((eqb 1 n || false) || false) || (((eqb 2 n && true) && true) || false)) || false) ≡ true = or_false ((((eqb 1 n || false) || false) || (((eqb 2 n && true) && true) || false)) || false) e in
    let second = or_false (((eqb 1 n || false) || false) || (((eqb 2 n && true) && true) || false)) first in
    elim (or_cases ((eqb 1 n || false) || false) (((eqb 2 n && true) && true) || false) second) [
      | inl one ↦ inl (sym (eqb-true 1 n (or_false (eqb 1 n) (or_false (eqb 1 n || false) one))))
      | inr two ↦ inr (sym (eqb-true 2 n (and_parts (eqb 2 n) true (and_parts (eqb 2 n && true) true (or_false ((eqb 2 n && true) && true) two)).0).0))
    ]

observed_gate : is_observed cell 0 1 ≡ true
unfolding is_observed
observed_gate = refl

observed_output : is_observed cell 0 2 ≡ true
unfolding is_observed
observed_output = refl

-- ---- responses

abbrev setting : Setting
setting = setting_of cell 0 []

abbrev Reaction : State → Bool → ℕ → Response → Type 0
Reaction s bare n r = IsResponse (network_of circuit bare setting.held s) n r

abbrev Good : State → Type 0
Good s = IsState circuit (phase_at base 0) setting.inputs s

y_at : (s : State) (bare : Bool) → Good s → Reaction s bare 2 (Shows false)
y_at s true good = y_shows s.reading setting.held s.driven (good.reading 0 _ refl) (good.reading 1 _ refl)
y_at s false good = y_shows s.reading setting.held s.driven (good.reading 0 _ refl) (good.reading 1 _ refl)

vdd_at : (s : State) (bare : Bool) → Good s → Reaction s bare 1 (Shows true)
vdd_at s true good = vdd_shows s.reading setting.held s.driven (good.reading 0 _ refl) (good.reading 1 _ refl)
vdd_at s false good = vdd_shows s.reading setting.held s.driven (good.reading 0 _ refl) (good.reading 1 _ refl)

-- the one state
abbrev state : State
state = record { reading = bit_at (false ∷ true ∷ false ∷ []); driven = λ place. false }

given_bits : (n : ℕ) (net : FlatNet) → At the_nets n net → HasGivenBit (phase_at base 0) setting.inputs net.kind n (state.reading n)
given_bits zero net e = subst (λ (x : FlatNet). HasGivenBit (phase_at base 0) setting.inputs x.kind 0 (state.reading 0)) (same_Some _ net e) refl
given_bits (suc zero) net e = subst (λ (x : FlatNet). HasGivenBit (phase_at base 0) setting.inputs x.kind 1 (state.reading 1)) (same_Some _ net e) refl
given_bits (suc (suc zero)) net e = subst (λ (x : FlatNet). HasGivenBit (phase_at base 0) setting.inputs x.kind 2 (state.reading 2)) (same_Some _ net e) tt
given_bits (suc (suc (suc n))) net e = absurd (none-some net e)

good_state : Good state
good_state = record { reading = given_bits; driven = λ at out e. absurd (none-some out e) }

-- ---- solutions

always_vdd : (a : ℕ → Option Bool) → AlwaysResponds circuit (phase_at base 0) (is_observed cell 0) setting a true 1 (Shows true)
always_vdd a s good agrees = vdd_at s true good

always_y : (a : ℕ → Option Bool) → AlwaysResponds circuit (phase_at base 0) (is_observed cell 0) setting a true 2 (Shows false)
always_y a s good agrees = y_at s true good

gate_bit : (a : ℕ → Option Bool) → Solves cell 0 setting a → a 1 ≡ Some true
gate_bit a solves = (solves 1 true observed_gate).1 (always_vdd a)

output_bit : (a : ℕ → Option Bool) → Solves cell 0 setting a → a 2 ≡ Some false
output_bit a solves = (solves 2 false observed_output).1 (always_y a)

-- the state agrees with each solution
state_agrees : (a : ℕ → Option Bool) → Solves cell 0 setting a → Agrees (is_observed cell 0) a state.reading
state_agrees a solves n v seen e =
    elim (observed_net n seen) [
      | inl one ↦ subst (λ (m : ℕ). state.reading m ≡ v) (sym one) (same_Some true v (sym (gate_bit a solves) ∙ subst (λ (m : ℕ). a m ≡ Some v) one e))
      | inr two ↦ subst (λ (m : ℕ). state.reading m ≡ v) (sym two) (same_Some false v (sym (output_bit a solves) ∙ subst (λ (m : ℕ). a m ≡ Some v) two e))
    ]

-- a net shows one value at most
one_value : (s : State) (bare : Bool) (n : ℕ) (u v : Bool) → Reaction s bare n (Shows u) → Reaction s bare n (Shows v) → u ≡ v
one_value s bare n true true p q = refl
one_value s bare n false false p q = refl
one_value s bare n true false p q = absurd (q.1 p.0)
one_value s bare n false true p q = absurd (p.1 q.0)

abbrev the_solution : ℕ → Option Bool
the_solution n = cond (eqb n 1) (Some true) (cond (eqb n 2) (Some false) None)

solution_agrees : Agrees (is_observed cell 0) the_solution state.reading
solution_agrees n v seen e =
    elim (observed_net n seen) [
      | inl one ↦ subst (λ (m : ℕ). state.reading m ≡ v) (sym one) (same_Some true v (subst (λ (m : ℕ). the_solution m ≡ Some v) one e))
      | inr two ↦ subst (λ (m : ℕ). state.reading m ≡ v) (sym two) (same_Some false v (subst (λ (m : ℕ). the_solution m ≡ Some v) two e))
    ]

abbrev SolvedAt : Bool → ℕ → Type 0
SolvedAt v n = (the_solution n ≡ Some v) ↔ AlwaysResponds circuit (phase_at base 0) (is_observed cell 0) setting the_solution true n (Shows v)

it_solves : Solves cell 0 setting the_solution
it_solves n v seen =
    elim (observed_net n seen) [
      | inl one ↦ subst (SolvedAt v) (sym one) (
        λ e. subst (λ (u : Bool). AlwaysResponds circuit (phase_at base 0) (is_observed cell 0) setting the_solution true 1 (Shows u)) (same_Some true v e) (always_vdd the_solution),
        λ always. ap (λ (u : Bool). Some u) (one_value state true 1 true v (vdd_at state true good_state) (always state good_state solution_agrees)),
      )
      | inr two ↦ subst (SolvedAt v) (sym two) (
        λ e. subst (λ (u : Bool). AlwaysResponds circuit (phase_at base 0) (is_observed cell 0) setting the_solution true 2 (Shows u)) (same_Some false v e) (always_y the_solution),
        λ always. ap (λ (u : Bool). Some u) (one_value state true 2 false v (y_at state true good_state) (always state good_state solution_agrees)),
      )
    ]

-- ---- the model's assignment

abbrev ones : Assignment
ones = record { signal = λ s. true; next = λ e. true }

it_assigns : Assigns cell 0 setting ones
it_assigns = record {
  clocks = λ c m. absurd (none-some c m.1);
  inputs = λ t m. absurd (none-some t m.1);
  obeys = record { covers = covered; latches = λ l m. absurd (none-some l m.1) };
}
  where
    covered : (c : Cover) → Among cell.model.covers c → true ≡ cover_bit (λ s. true) c
    covered c (zero, e) = subst (λ (x : Cover). true ≡ cover_bit (λ s. true) x) (same_Some _ c e) refl
    covered c (suc n, e) = absurd (none-some c e)

assigned : (g : Assignment) → Assigns cell 0 setting g → g.signal 0 ≡ true
assigned g is = is.obeys.covers _ (0, refl)

-- ---- the fault

abbrev found : Finding
found = record { phase = 0; kind = Differs; at = 0; bits = [] }

it_stands : Stands cell 0 setting the_solution ones Differs 0
it_stands = (2, Some true, (record { place = 0; name = codes "y"; net = 2; role = Output 0 }, 0, refl, refl, refl, refl, refl, refl), λ e. false≢true (same_Some false true e))

it_meets : Meets cell 0 []
unfolding variables_of
it_meets = record { valuation = refl; constraints = refl }

is_found : IsFinding cell found
is_found = record { phase = omega arith; meets = it_meets; stands = (the_solution, ones, it_solves, it_assigns, it_stands) }

supply_not_plain : (v : Bool) → Supply v ≡ Plain → ⊥
supply_not_plain v e = false≢true (subst (λ (k : NetKind). is_given k ≡ true) e refl)

-- no fight, float or unsettled net stands, in no valuation
only_plain : (n : ℕ) → IsPlain circuit n → n ≡ 2
only_plain zero (net, e, k) = absurd (supply_not_plain false (ap (λ (x : FlatNet). x.kind) (same_Some _ net e) ∙ k))
only_plain (suc zero) (net, e, k) = absurd (supply_not_plain true (ap (λ (x : FlatNet). x.kind) (same_Some _ net e) ∙ k))
only_plain (suc (suc zero)) p = refl
only_plain (suc (suc (suc n))) (net, e, k) = absurd (none-some net e)

not_both : (w : State) (bare : Bool) (n : ℕ) (v : Bool) → Reaction w bare n (Shows v) → Reaction w bare n Fight → ⊥
not_both w bare n true shows fight = shows.1 fight.1
not_both w bare n false shows fight = shows.1 fight.0

not_none : (w : State) (bare : Bool) (n : ℕ) (v : Bool) → Reaction w bare n (Shows v) → Reaction w bare n Float → ⊥
not_none w bare n true shows float = float.0 shows.0
not_none w bare n false shows float = float.1 shows.0

-- what an observed net shows in the state, and what a solution gives it
observed_shows : (bare : Bool) (a : ℕ → Option Bool) → Solves cell 0 setting a → (n : ℕ) → is_observed cell 0 n ≡ true → (v : Bool) × (a n ≡ Some v) × Reaction state bare n (Shows v)
observed_shows bare a solves n seen =
    elim (observed_net n seen) [
      | inl one ↦ (true, subst (λ (m : ℕ). a m ≡ Some true) (sym one) (gate_bit a solves), subst (λ (m : ℕ). Reaction state bare m (Shows true)) (sym one) (vdd_at state bare good_state))
      | inr two ↦ (false, subst (λ (m : ℕ). a m ≡ Some false) (sym two) (output_bit a solves), subst (λ (m : ℕ). Reaction state bare m (Shows false)) (sym two) (y_at state bare good_state))
    ]

no_fight : (bare : Bool) (a : ℕ → Option Bool) → Solves cell 0 setting a → (n : ℕ) → IsPlain circuit n → AlwaysResponds circuit (phase_at base 0) (is_observed cell 0) setting a bare n Fight → ⊥
no_fight bare a solves n plain always =
    let fight : Reaction state bare 2 Fight = subst (λ (m : ℕ). Reaction state bare m Fight) (only_plain n plain) (always state good_state (state_agrees a solves)) in
    not_both state bare 2 false (y_at state bare good_state) fight

-- where the numbers stand
abbrev rank : ℕ → ℕ
rank n = cond (eqb n 2) 1 0

abbrev least : ℕ → ℕ
least n = n

-- no other fault comes before
later : (kind : FaultKind) (at : ℕ) (a : ℕ → Option Bool) (g : Assignment) → Solves cell 0 setting a → Stands cell 0 setting a g kind at
    → IsNoLater cell 0 rank least found (record { phase = 0; kind = kind; at = at; bits = [] })
later FightFault at a g solves stands = absurd (no_fight true a solves at stands.0 stands.1)
later FightKept at a g solves stands = absurd (no_fight false a solves at stands.0 stands.1)
later FloatFault at a g solves stands =
    let shows = observed_shows true a solves at stands.0 in
    absurd (not_none state true at shows.0 shows.2 (stands.1 state good_state (state_agrees a solves)))
later Unsettled at a g solves stands =
    let shows = observed_shows false a solves at stands.0 in
    absurd (stands.1 state good_state (state_agrees a solves) shows.0 shows.1 shows.2)
later Constraint at a g solves stands = absurd (none-some stands.0 stands.1)
later Differs zero a g solves stands = inr (refl, refl, refl)
later Differs (suc at) a g solves stands = absurd (none-some stands.2.0 stands.2.2)
later Next at a g solves stands = inl refl
later Apart at a g solves stands = inl refl
later Enter at a g solves stands = inl refl

-- ---- the order of the nets

supply_kind : (v : Bool) (net : FlatNet) → Plain ≡ net.kind → is_given net.kind ≡ true → ⊥
supply_kind v net e g = false≢true (ap is_given e ∙ g)

given_rank : (n : ℕ) (net : FlatNet) → At the_nets n net → is_given net.kind ≡ true → rank n ≡ 0
given_rank zero net e g = refl
given_rank (suc zero) net e g = refl
given_rank (suc (suc zero)) net e g = absurd (supply_kind true net (ap (λ (x : FlatNet). x.kind) (same_Some _ net e)) g)
given_rank (suc (suc (suc n))) net e g = absurd (none-some net e)

vdd_known : IsKnown circuit (phase_at base 0) 1 true
vdd_known = fixed (_, refl, refl)

-- the only gate is known, so there is no arc
no_arc : (n m : ℕ) → HasArc circuit (phase_at base 0) n m → ⊥
no_arc n m (inl arc) = arc.3 true (subst (λ (k : ℕ). IsKnown circuit (phase_at base 0) k true) (gate_is arc.0 arc.1 ∙ arc.2) vdd_known)
  where
    gate_is : (d : Device) → IsInPart circuit (phase_at base 0) true m d → 1 ≡ d.gate.0
    gate_is d part = ap (λ (x : Device). x.gate.0) (the_only d part.3.0)
no_arc n m (inr arc) = none-some arc.0 arc.2.0.1

no_rank_arc : (n m : ℕ) → HasRankArc circuit (phase_at base 0) n m → ⊥
no_rank_arc n m (inl arc) = no_arc n m arc.0
no_rank_arc n m (inr arc) = none-some arc.0 arc.3.0.1

plain_of : (n m : ℕ) → IsTogether circuit (phase_at base 0) true n m → IsPlain circuit m
plain_of n m (itself p) = p
plain_of n m (onward d t c j p) = p

ranking : IsRanking circuit (phase_at base 0) rank
ranking = record {
  given = given_rank;
  above = λ n m arc. absurd (no_rank_arc n m arc);
  reached = λ m plain. inl (ap rank (only_plain m plain));
}

part_of : (n : ℕ) → IsPlain circuit n → IsLeastOfPart circuit (phase_at base 0) n n
part_of n plain = record { together = itself plain; lowest = low }
  where
    low : (m : ℕ) → IsTogether circuit (phase_at base 0) true n m → n ≤ m
    low m t = let here = only_plain n plain in let there = only_plain m (plain_of n m t) in omega (arith, here, there)

in_order : IsOrder cell 0 rank least
in_order = record { ranking = ranking; plain = part_of; given = λ n p. refl }

-- ---- the first fault

no_bits : (bits : List Bool) → Meets cell 0 bits → [] ≡ bits
unfolding variables_of
no_bits [] m = refl
no_bits (b ∷ bits) m = absurd (too_long m.valuation)
  where
    too_long : suc (length bits) ≡ 0 → ⊥
    too_long e = omega (arith, e)

follows_at : (kind : FaultKind) (at : ℕ) (bits : List Bool) → IsFinding cell (record { phase = 0; kind = kind; at = at; bits = bits })
    → IsNoLater cell 0 rank least found (record { phase = 0; kind = kind; at = at; bits = bits })
follows_at kind at [] f = later kind at f.stands.0 f.stands.1 f.stands.2 f.stands.4
follows_at kind at (b ∷ bits) f = absurd (cons_not_nil (no_bits (b ∷ bits) f.meets))
  where
    cons_not_nil : [] ≡ b ∷ bits → ⊥
    cons_not_nil e = cc

follows : (other : Finding) → IsFinding cell other → other.phase ≡ 0 → IsNoLater cell 0 rank least found other
follows other f e =
    follows_at other.kind other.at other.bits
    (subst (λ (p : ℕ). IsFinding cell (record { phase = p; kind = other.kind; at = other.at; bits = other.bits })) e f)

-- the cell differs at y in its one phase, at the empty valuation, and this is the first fault
first_fault : IsFirst cell found
first_fault = record {
  in_phase = record { found = is_found; first = (rank, least, in_order, follows) };
  no_earlier = λ other f. omega arith;
}

-- ---- the verdict, from the netlist to the line

described : Describes cell the_fault found
unfolding the_fault variables_of
described = record {
  kind = refl;
  phase = refl;
  place = refl;
  values = λ a g solves assigns. inl (
    2,
    (record { place = 0; name = codes "y"; net = 2; role = Output 0 }, 0, refl, refl, refl, refl, refl, ap (λ (v : Bool). Some v) (sym (assigned g assigns))),
    sym (output_bit a solves),
  );
  names = refl;
  bits = refl;
}

has_verdict : HasVerdict cell blif 65536 (Fault the_fault)
unfolding the_fault
has_verdict = (λ p early. absurd (not_below p early), (found, described, first_fault))
  where
    not_below : (p : ℕ) → p < 0 → ⊥
    not_below p early = omega (arith, early)

no_cycle : (nets : List ℕ) → IsCycle (HasArc circuit (phase_at base 0)) nets → ⊥
no_cycle [] c = c
no_cycle (n ∷ nets) c = no_arc c.0 n c.2

abbrev given_signals : ℕ → Option Bool
given_signals = carried_bits (phase_at base 0) []

no_model_arc : (n m : ℕ) → HasModelArc cell.model given_signals None n m → ⊥
no_model_arc n m (inl arc) = no_input arc.0 arc.1 arc.2
  where
    no_input : (c : Cover) → Among cell.model.covers c → Among c.inputs n → ⊥
    no_input c (zero, e) i = none-some n (subst (λ (x : Cover). At x.inputs i.0 n) (sym (same_Some _ c e)) i.1)
    no_input c (suc k, e) i = none-some c e
no_model_arc n m (inr (inl arc)) = none-some arc.0 arc.1.1
no_model_arc n m (inr (inr (inl arc))) = none-some arc.0 arc.1.1
no_model_arc n m (inr (inr (inr arc))) = none-some arc.0 arc.1.1

no_model_cycle : (nets : List ℕ) → IsCycle (HasModelArc cell.model given_signals None) nets → ⊥
no_model_cycle [] c = c
no_model_cycle (n ∷ nets) c = no_model_arc c.0 n c.2

acyclic : AcyclicBefore cell 1
acyclic zero early = (no_cycle, no_model_cycle)
acyclic (suc p) early = absurd (not_early early)
  where
    not_early : suc p < 1 → ⊥
    not_early h = omega (arith, h)

early_none : why_paired design blif base 0 0 ≡ None
unfolding flat_circuit_of all_places net_at own_nets global_nets flat_model_of unrolled_of network_names all_models signals_of pairing_of ports_fault groups_of variables_of
early_none = refl

supported : IsSupported design blif base 0 0
supported = record {
  paired = refl;
  early = early_none;
  acyclic = subst (λ (k : Comparison). AcyclicBefore k 1) (sym cell_is) acyclic;
}

pub the_verdict : IsVerdict design blif base 65536 0 (Fault the_fault)
the_verdict = (0, supported, subst (λ (k : Comparison). HasVerdict k blif 65536 (Fault the_fault)) (sym cell_is) has_verdict)

pub the_line : answer_line design blif base (record { cell = 0; verdict = Fault the_fault }) ≡ codes "cell zero differs y phase all circuit 0 model 1 at -"
unfolding the_fault
the_line = refl
