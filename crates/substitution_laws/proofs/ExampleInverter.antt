-- The inverter of the example is equal.
use Rattle.std.proofs.Common.{◌≡◌, ◌⊎◌, ℕ, zero, suc, ◌<◌, not, Bool, true, false, List, [], ◌∷◌, length, Some, None, refl, ap, sym, ◌∙◌, subst, arith, inl, inr}
use Rattle.std.specs.Prelude.{IsSome, codes, is_some}
use Rattle.std.proofs.lemmas.List.Elements.{All-cons, All-nil}
use Rattle.std.proofs.lemmas.Option.{none-some, same_Some}
use Rattle.substitution_laws.proofs.ExampleCells.{device, inverter, of_inverter}
use Rattle.vrt_model.proofs.GatesGiven.{HasGivenGates, IsGiven, always_responds, base_reading, filled_is, filled_state, kept_response, one_solution, same_response, shown, shown_by, shown_is_solution, solution_agrees, solution_shows, state_from}
use Rattle.vrt_model.proofs.Laws.{one_response}
use Rattle.vrt_model.proofs.Tables.{are_signals, is_right, signal_response}
use Rattle.vrt_model.specs.Assignment.{Assignment, Tied}
use Rattle.vrt_model.specs.Circuits.{IsDevice, IsHold, IsWhole}
use Rattle.vrt_model.specs.Comparison.{CellPort, is_observed, output_signal, phase_at, tied_inputs}
use Rattle.vrt_model.specs.Constraints.{Meets, given_bit}
use Rattle.vrt_model.specs.Covers.{cover_bit}
use Rattle.vrt_model.specs.Equal.{Agree, IsEqual}
use Rattle.vrt_model.specs.Faults.{Assigns, Solves, Stands}
use Rattle.vrt_model.specs.Held.{setting_of, sources_of}
use Rattle.vrt_model.specs.Known.{IsPlain}
use Rattle.vrt_model.specs.Lists.{Among, bit_at}
use Rattle.vrt_model.specs.Path.{Network}
use Rattle.vrt_model.specs.Reading.{Partial}
use Rattle.vrt_model.specs.Response.{Fight as FightResponse, Float as FloatResponse, IsResponse, Response, Shows}
use Rattle.vrt_model.specs.Solution.{AlwaysResponds}
use Rattle.vrt_model.specs.State.{IsState, Setting, State, network_of}
use Rattle.vrt_model.specs.Variables.{variables_of}
use Rattle.vrt_model.specs.declared.circuit.Device.{Device}
use Rattle.vrt_model.specs.declared.circuit.FlatNet.{FlatNet}
use Rattle.vrt_model.specs.declared.circuit.NetKind.{NetKind}
use Rattle.vrt_model.specs.declared.circuit.NetKind.TheVariants.{Plain}
use Rattle.vrt_model.specs.declared.design.Kind.TheVariants.{N, P}
use Rattle.vrt_model.specs.declared.flat_model.Cover.{Cover}
use Rattle.vrt_model.specs.declared.pairing.PortRole.TheVariants.{Input, Output}
use Rattle.vrt_model.specs.declared.rules.Phase.{Phase}
use Rattle.vrt_model.specs.declared.verdict.FaultKind.{FaultKind}
use Rattle.vrt_model.specs.declared.verdict.FaultKind.TheVariants.{Fight, FightKept, Float, Unsettled, Constraint, Differs, Next, Apart, Enter}
use Rattle.vrt_model.specs.Known.{is_plain_kind}
use Rattle.std.proofs.lemmas.Bool.{false≢true}
use Rattle.whole_solutions.proofs.ObservedCases.{observed_for}

-- what holds of two items holds of each item of their list
pub each_of_two : {X : Type 0} (Holds : X → Type 0) (a b : X) → Holds a → Holds b → (x : X) → Among (a ∷ b ∷ []) x → Holds x
each_of_two Holds a b first second x (zero, e) = subst Holds (same_Some a x e) first
each_of_two Holds a b first second x (suc zero, e) = subst Holds (same_Some b x e) second
each_of_two Holds a b first second x (suc (suc i), e) = absurd (none-some x e)

abbrev phase : Phase
phase = phase_at of_inverter.rules 0

abbrev seen : ℕ → Bool
seen n = is_observed of_inverter 0 n

-- ---- the circuit

abbrev pub p_device : Device
p_device = device (codes "p") P 3 2 1

abbrev pub n_device : Device
n_device = device (codes "n") N 3 2 0

module _ (d : Device) where
  fits : d.gate.0 < 4 → d.left.0 < 4 → d.right.0 < 4 → d.level ≡ 6 → IsDevice inverter d
  fits gate left right level = record { gate = gate; left = left; right = right; level = (omega (arith, level), omega (arith, level)) }

pub good : HasGivenGates inverter
good = record {
  ranges = record {
    devices =
        All-cons (IsDevice inverter) p_device (n_device ∷ []) (fits p_device (omega arith) (omega arith) (omega arith) refl)
        (All-cons (IsDevice inverter) n_device [] (fits n_device (omega arith) (omega arith) (omega arith) refl) (All-nil (IsDevice inverter)));
    holds = All-nil (IsHold inverter);
    wholes = All-nil (IsWhole inverter);
  };
  wholes = refl;
  gates = each_of_two (λ d. IsGiven inverter d.gate.0) p_device n_device (_, refl, refl) (_, refl, refl);
}

no_keepers : (d : Device) → Among inverter.devices d → d.keeper ≡ false
no_keepers = each_of_two (λ d. d.keeper ≡ false) p_device n_device refl refl

-- its one plain net is that of the output
not_plain : (kind : NetKind) (net : FlatNet) → is_plain_kind kind ≡ false → kind ≡ net.kind → net.kind ≡ Plain → ⊥
not_plain kind net e is plain = false≢true (sym e ∙ ap is_plain_kind (is ∙ plain))

pub plain_is_output : (n : ℕ) → IsPlain inverter n → n ≡ 3
plain_is_output zero (net, e, plain) = absurd (not_plain _ net refl (ap (λ (x : FlatNet). x.kind) (same_Some _ net e)) plain)
plain_is_output (suc zero) (net, e, plain) = absurd (not_plain _ net refl (ap (λ (x : FlatNet). x.kind) (same_Some _ net e)) plain)
plain_is_output (suc (suc zero)) (net, e, plain) = absurd (not_plain _ net refl (ap (λ (x : FlatNet). x.kind) (same_Some _ net e)) plain)
plain_is_output (suc (suc (suc zero))) there = refl
plain_is_output (suc (suc (suc (suc n)))) (net, e, plain) = absurd (none-some net e)

-- ---- ports

abbrev pub port_a : CellPort
port_a = record { place = 0; name = codes "a"; net = 2; role = Input 0 }

abbrev pub port_y : CellPort
port_y = record { place = 1; name = codes "y"; net = 3; role = Output 1 }

-- the input and the output are observed, and nothing else
seen_is : (n : ℕ) → seen n ≡ true → (n ≡ 2) ⊎ (n ≡ 3)
seen_is n e =
    elim (observed_for of_inverter 0 n e) [
      | inl gate ↦ inl (sym gate.2 ∙ each_of_two (λ d. d.gate.0 ≡ 2) p_device n_device refl refl gate.0 gate.1)
      | inr other ↦ elim other [
        | inl hold ↦ absurd (none-some hold.0 hold.1.1)
        | inr more ↦ elim more [
          | inl port ↦ inr (sym port.2 ∙ each_of_two (λ p. is_some (output_signal p.role) ≡ true → p.net ≡ 3) port_a port_y (λ no. absurd (false≢true no)) (λ y. refl) port.0 port.1 port.3)
          | inr last ↦ elim last [ inl instance ↦ absurd (none-some instance.0 instance.2.1) | inr whole ↦ absurd (none-some whole.0 whole.2.1) ]
        ]
      ]
    ]

-- ---- at a bit of the input

module _ (b : Bool) where
  abbrev setting : Setting
  setting = setting_of of_inverter 0 (b ∷ [])

  input_is : setting.inputs 2 ≡ b
  unfolding setting_of variables_of
  input_is = refl

  abbrev state : State
  state = record { reading = given_bit inverter phase setting.inputs; driven = λ at. false }

  state_is : IsState inverter phase setting.inputs state
  state_is = state_from inverter phase good setting (given_bit inverter phase setting.inputs) (base_reading inverter phase setting.inputs)

  abbrev view : Network
  view = network_of inverter true setting.held state

  abbrev zeros : List Bool
  zeros = true ∷ false ∷ not b ∷ b ∷ []

  abbrev ones : List Bool
  ones = false ∷ true ∷ b ∷ not b ∷ []

abbrev strengths : List ℕ
strengths = 8 ∷ 8 ∷ 8 ∷ 6 ∷ []

tables_right : (b : Bool) → is_right (view b) 1 strengths (zeros b) (ones b) ≡ true
unfolding setting_of variables_of
tables_right true = refl
tables_right false = refl

output_shows : (b : Bool) → IsResponse (view b) 3 (Shows (not b))
output_shows true = signal_response (view true) strengths (zeros true) (ones true) (are_signals (view true) 1 strengths (zeros true) (ones true) (tables_right true)) 3
output_shows false = signal_response (view false) strengths (zeros false) (ones false) (are_signals (view false) 1 strengths (zeros false) (ones false) (tables_right false)) 3

input_shows : (b : Bool) → IsResponse (view b) 2 (Shows b)
input_shows true = signal_response (view true) strengths (zeros true) (ones true) (are_signals (view true) 1 strengths (zeros true) (ones true) (tables_right true)) 2
input_shows false = signal_response (view false) strengths (zeros false) (ones false) (are_signals (view false) 1 strengths (zeros false) (ones false) (tables_right false)) 2

abbrev pub the_cover : Cover
the_cover = record { inputs = 0 ∷ []; output = 1; on = true; rows = codes "0" ∷ [] }

output_seen : seen 3 ≡ true
unfolding is_observed
output_seen = refl

-- ---- nothing is wrong

module _ (b : Bool) (a : Partial) (solves : Solves of_inverter 0 (setting b) a) where
  shows : (n : ℕ) → seen n ≡ true → (v : Bool) × IsResponse (view b) n (Shows v)
  shows n s =
      elim (seen_is n s) [
        | inl two ↦ (b, subst (λ (m : ℕ). IsResponse (view b) m (Shows b)) (sym two) (input_shows b))
        | inr three ↦ (not b, subst (λ (m : ℕ). IsResponse (view b) m (Shows (not b))) (sym three) (output_shows b))
      ]

  bit_of_solution : (n : ℕ) (v : Bool) → seen n ≡ true → IsResponse (view b) n (Shows v) → a n ≡ Some v
  bit_of_solution n v s r = (solution_shows inverter phase good (setting b) seen a solves (state b) (state_is b) n v s).1 r

  now : (which : Bool) (n : ℕ) (r : Response) → AlwaysResponds inverter phase seen (setting b) a which n r → IsResponse (network_of inverter which (setting b).held (state b)) n r
  now which n r always = (always_responds inverter phase good (setting b) seen a solves (state b) (state_is b) which n r).0 always

  only_shows : (n : ℕ) (v : Bool) (r : Response) → shown_by r ≡ None → IsResponse (view b) n (Shows v) → IsResponse (view b) n r → ⊥
  only_shows n v r none shown there = none-some v (sym none ∙ ap shown_by (sym (one_response (view b) n (Shows v) r shown there)))

  no_fight : (n : ℕ) → IsPlain inverter n → IsResponse (view b) n FightResponse → ⊥
  no_fight n plain fights = only_shows 3 (not b) FightResponse refl (output_shows b) (subst (λ (m : ℕ). IsResponse (view b) m FightResponse) (plain_is_output n plain) fights)

  module _ (g : Assignment) (assigns : Assigns of_inverter 0 (setting b) g) where
    input_signal_is : g.signal 0 ≡ b
    input_signal_is = assigns.inputs (record { net = 2; signal = 0 }) (0, refl) ∙ input_is b

    output_signal_is : g.signal 1 ≡ not b
    output_signal_is = assigns.obeys.covers the_cover (0, refl) ∙ ap (λ (x : Bool). cover_bit (λ s. x) the_cover) input_signal_is ∙ inverse b
      where
        inverse : (x : Bool) → cover_bit (λ s. x) the_cover ≡ not x
        inverse true = refl
        inverse false = refl

    no_fault : (kind : FaultKind) (at : ℕ) → Stands of_inverter 0 (setting b) a g kind at → ⊥
    no_fault Fight at (plain, fights) = no_fight at plain (now true at FightResponse fights)
    no_fault Float at (s, floats) = (let here = shows at s in only_shows at here.0 FloatResponse refl here.1 (now true at FloatResponse floats))
    no_fault FightKept at (plain, fights) = no_fight at plain (kept_response inverter (setting b).held (state b) no_keepers false true at FightResponse (now false at FightResponse fights))
    no_fault Unsettled at (s, never) =
        let here = shows at s in
        let filled : State = filled_state inverter phase good (setting b) a in
        let is = filled_is inverter phase good (setting b) a in
        never filled is (solution_agrees inverter phase good (setting b) seen a solves) here.0 (bit_of_solution at here.0 s here.1)
        (same_response inverter phase good (setting b) false (state b) filled (state_is b) is at (Shows here.0) (kept_response inverter (setting b).held (state b) no_keepers true false at (Shows here.0) here.1))
    no_fault Constraint at (i, there, broken) = none-some i there
    no_fault Differs zero (n, w, (port, signal, there, role, s, asked, net, value), misses) =
        none-some signal (ap (λ (p : CellPort). output_signal p.role) (same_Some port_a port there) ∙ role)
    no_fault Differs (suc zero) (n, w, (port, signal, there, role, s, asked, net, value), misses) =
        let same = same_Some port_y port there in
        let three : n ≡ 3 = net ∙ ap (λ (p : CellPort). p.net) (sym same) in
        let one : signal ≡ 1 = same_Some signal 1 (sym role ∙ ap (λ (p : CellPort). output_signal p.role) (sym same)) in
        misses (ap a three ∙ bit_of_solution 3 (not b) output_seen (output_shows b) ∙ ap (λ (x : Bool). Some x) (sym output_signal_is) ∙ ap (λ (x : ℕ). Some (g.signal x)) (sym one) ∙ sym value)
    no_fault Differs (suc (suc at)) (n, w, (port, signal, there, role, s, asked, net, value), misses) = none-some port there
    no_fault Next at (n, w, wants, misses) = (let hold = wants.1.4.stands in none-some hold.0 hold.1)
    no_fault Apart at (n, w, wants, misses) = (let hold = wants.1.5.stands in none-some hold.0 hold.1)
    no_fault Enter at (n, w, wants, misses) = none-some wants.1.1 wants.1.2

-- ---- the model

the_bits : Bool → Assignment
the_bits b = record { signal = bit_at (b ∷ not b ∷ []); next = bit_at [] }

they_assign : (b : Bool) → Assigns of_inverter 0 (setting b) (the_bits b)
unfolding the_bits setting_of variables_of
they_assign b = record {
  clocks = λ c m. absurd (none-some c m.1);
  inputs = tied;
  obeys = record { covers = covered b; latches = λ l m. absurd (none-some l m.1) };
}
  where
    tied : (t : Tied) → Among (tied_inputs of_inverter) t → bit_at (b ∷ not b ∷ []) t.signal ≡ (setting b).inputs t.net
    tied t (zero, e) = subst (λ (x : Tied). bit_at (b ∷ not b ∷ []) x.signal ≡ (setting b).inputs x.net) (same_Some _ t e) refl
    tied t (suc i, e) = absurd (none-some t e)

    covered : (v : Bool) (c : Cover) → Among of_inverter.model.covers c → bit_at (v ∷ not v ∷ []) c.output ≡ cover_bit (bit_at (v ∷ not v ∷ [])) c
    covered true c (zero, e) = subst (λ (x : Cover). bit_at (true ∷ false ∷ []) x.output ≡ cover_bit (bit_at (true ∷ false ∷ [])) x) (same_Some the_cover c e) refl
    covered false c (zero, e) = subst (λ (x : Cover). bit_at (false ∷ true ∷ []) x.output ≡ cover_bit (bit_at (false ∷ true ∷ [])) x) (same_Some the_cover c e) refl
    covered true c (suc i, e) = absurd (none-some c e)
    covered false c (suc i, e) = absurd (none-some c e)

same_signals : (b : Bool) (g h : Assignment) → Assigns of_inverter 0 (setting b) g → Assigns of_inverter 0 (setting b) h → (a : Partial) → Solves of_inverter 0 (setting b) a
    → (s : ℕ) → s < 2 → g.signal s ≡ h.signal s
same_signals b g h one two a solves zero lt = input_signal_is b a solves g one ∙ sym (input_signal_is b a solves h two)
same_signals b g h one two a solves (suc zero) lt = output_signal_is b a solves g one ∙ sym (output_signal_is b a solves h two)
same_signals b g h one two a solves (suc (suc s)) lt = absurd (omega (arith, lt))

-- ---- all together

solution : Bool → Partial
solution b n = shown inverter phase good (setting b) seen n

solved : (b : Bool) → Solves of_inverter 0 (setting b) (solution b)
unfolding solution
solved b = shown_is_solution inverter phase good (setting b) seen

agrees : (b : Bool) → Agree of_inverter 0 (setting b)
agrees b = record {
  solution = (solution b, solved b);
  one_solution = λ x y sx sy. one_solution inverter phase good (setting b) seen x y sx sy;
  assignment = (the_bits b, they_assign b);
  one_assignment = λ g h one two. record { signals = same_signals b g h one two (solution b) (solved b); elements = λ e lt. absurd (omega (arith, lt)) };
  defined = λ a solves n s. (let here = shows b a solves n s in subst IsSome (sym (bit_of_solution b a solves n here.0 s here.1)) refl);
  no_fault = λ a g solves assigns kind at stands. no_fault b a solves g assigns kind at stands;
}

-- a valuation is a bit for the input
valuation_is : (bits : List Bool) → length bits ≡ length (sources_of of_inverter 0) → (b : Bool) × (b ∷ [] ≡ bits)
unfolding variables_of
valuation_is [] e = absurd (omega (arith, e))
valuation_is (b ∷ []) e = (b, refl)
valuation_is (b ∷ c ∷ bits) e = absurd (omega (arith, e))

some_valuation : Meets of_inverter 0 (false ∷ [])
unfolding setting_of variables_of
some_valuation = record { valuation = refl; constraints = refl }

pub inverter_is_equal : IsEqual of_inverter
inverter_is_equal zero lt = record {
  met = (false ∷ [], some_valuation);
  agree = λ bits meets.
      let b = valuation_is bits meets.valuation in
      subst (λ (bs : List Bool). Agree of_inverter 0 (setting_of of_inverter 0 bs)) b.1 (agrees b.0);
}
inverter_is_equal (suc p) lt = absurd (omega (arith, lt))
