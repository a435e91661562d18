-- Two readings of a circuit that differ at idle inputs alone: all other nets respond alike.
use Rattle.std.proofs.Common.{◌≡◌, ℕ, Bool, true, List, [], Option, Some, None, slice_get, map, ap, subst, sym, refl, ◌∙◌, inl, inr}
use Rattle.std.specs.Prelude.{option_map, unwrap_or}
use Rattle.std.proofs.lemmas.Bool.{false≢true}
use Rattle.vrt_model.proofs.Bounded.{response_inside}
use Rattle.vrt_model.proofs.Members.{at_none}
use Rattle.vrt_model.proofs.Networks.{network_levels}
use Rattle.vrt_model.specs.Lists.{Among, At}
use Rattle.vrt_model.specs.Networks.{Covers, HasRanges}
use Rattle.vrt_model.specs.Path.{Joins, Network}
use Rattle.vrt_model.specs.Reading.{HasGivenBit, IsReading, conducts_at, devices_of}
use Rattle.vrt_model.specs.Response.{IsResponse, Response, Shows}
use Rattle.vrt_model.specs.Solution.{Agrees, AlwaysResponds}
use Rattle.vrt_model.specs.State.{IsState, OutputPin, Setting, State, network_of, output_pins}
use Rattle.vrt_model.specs.declared.circuit.Circuit.{Circuit}
use Rattle.vrt_model.specs.declared.circuit.Device.{Device}
use Rattle.vrt_model.specs.declared.circuit.FlatNet.{FlatNet}
use Rattle.vrt_model.specs.declared.circuit.Hold.{Hold}
use Rattle.vrt_model.specs.declared.circuit.NetKind.{NetKind}
use Rattle.vrt_model.specs.declared.circuit.NetKind.TheVariants.{Supply, Clock, Input, Plain}
use Rattle.vrt_model.specs.declared.rules.Phase.{Phase}
use Rattle.vrt_model.specs.declared.whole.Whole.{Whole}
use Rattle.vrt_model.specs.declared.whole.WholePin.{WholePin}
use Rattle.whole_ranks.specs.Idle.{IdleInputsChangeNothing, SameButIdle}

-- ---- a reading with other bits of the inputs

-- a bit, and where the net is an input that of the inputs
abbrev by_kind : NetKind → Bool → Bool → Bool
by_kind (Supply value) input bit = bit
by_kind (Clock clock) input bit = bit
by_kind Input input bit = input
by_kind Plain input bit = bit

abbrev with_inputs : Circuit → (ℕ → Bool) → (ℕ → Bool) → ℕ → Bool
with_inputs c inputs reading n = unwrap_or (option_map (λ (net : FlatNet). by_kind net.kind (inputs n) (reading n)) (slice_get c.nets n)) (reading n)

with_at : (c : Circuit) (inputs reading : ℕ → Bool) (n : ℕ) (net : FlatNet) → At c.nets n net → with_inputs c inputs reading n ≡ by_kind net.kind (inputs n) (reading n)
with_at c inputs reading n net e = ap (λ (o : Option FlatNet). unwrap_or (option_map (λ (x : FlatNet). by_kind x.kind (inputs n) (reading n)) o) (reading n)) e

kind_gives : (phase : Phase) (inputs others : ℕ → Bool) (kind : NetKind) (n : ℕ) (bit : Bool) → HasGivenBit phase others kind n bit → HasGivenBit phase inputs kind n (by_kind kind (inputs n) bit)
kind_gives phase inputs others (Supply value) n bit h = h
kind_gives phase inputs others (Clock clock) n bit h = h
kind_gives phase inputs others Input n bit h = refl
kind_gives phase inputs others Plain n bit h = tt

with_reads : (c : Circuit) (phase : Phase) (inputs others reading : ℕ → Bool) → IsReading c phase others reading → IsReading c phase inputs (with_inputs c inputs reading)
with_reads c phase inputs others reading is n net e =
    subst (HasGivenBit phase inputs net.kind n) (sym (with_at c inputs reading n net e)) (kind_gives phase inputs others net.kind n (reading n) (is n net e))

-- it is the same at a net that is no input with another bit
with_same : (c : Circuit) (inputs reading : ℕ → Bool) (n : ℕ) → ((net : FlatNet) → At c.nets n net → net.kind ≡ Input → inputs n ≡ reading n) → with_inputs c inputs reading n ≡ reading n
with_same c inputs reading n same = found (slice_get c.nets n) refl
  where
    kept : (kind : NetKind) → (kind ≡ Input → inputs n ≡ reading n) → by_kind kind (inputs n) (reading n) ≡ reading n
    kept (Supply value) h = refl
    kept (Clock clock) h = refl
    kept Input h = h refl
    kept Plain h = refl

    found : (o : Option FlatNet) → slice_get c.nets n ≡ o → unwrap_or (option_map (λ (net : FlatNet). by_kind net.kind (inputs n) (reading n)) o) (reading n) ≡ reading n
    found None e = refl
    found (Some net) e = kept net.kind (λ is. same net e is)

-- ---- the circuit in both

module _ (c : Circuit) (phase : Phase) (observed : ℕ → Bool) (one two : Setting) (ranges : HasRanges c) (flat : c.wholes ≡ []) (unheld : c.holds ≡ [])
    (gates : (d : Device) → Among (devices_of true c) d → observed d.gate.0 ≡ true) (same : SameButIdle c observed one two) (s : State) (is : IsState c phase two.inputs s) where
  abbrev other : State
  other = record { reading = with_inputs c one.inputs s.reading; driven = s.driven }

  no_output : (at : ℕ) (out : OutputPin) → At (output_pins c) at out → ⊥
  no_output at out e = at_none at out (subst (λ (ws : List Whole). At (output_pins (record c { wholes = ws })) at out) flat e)

  no_pin : (held : ℕ → Bool) (t : State) (at : ℕ) (pin : WholePin) → At (network_of c true held t).outputs at pin → ⊥
  no_pin held t at pin e = at_none at pin (subst (λ (ws : List Whole). At (map (λ (out : OutputPin). out.pin) (output_pins (record c { wholes = ws }))) at pin) flat e)

  no_hold : (at : ℕ) (hold : Hold) → At c.holds at hold → ⊥
  no_hold at hold e = at_none at hold (subst (λ (hs : List Hold). At hs at hold) unheld e)

  other_is : IsState c phase one.inputs other
  other_is = record {
    reading = with_reads c phase one.inputs two.inputs s.reading is.reading;
    driven = λ at out e. absurd (no_output at out e);
  }

  -- an input of which the two settings have the same bit
  input_same : (n : ℕ) (net : FlatNet) → At c.nets n net → net.kind ≡ Input → one.inputs n ≡ two.inputs n → one.inputs n ≡ s.reading n
  input_same n net e k h = h ∙ sym (subst (λ (kind : NetKind). HasGivenBit phase two.inputs kind n (s.reading n)) k (is.reading n net e))

  -- observed nets have the same bit in both readings
  observed_same : (n : ℕ) → observed n ≡ true → other.reading n ≡ s.reading n
  observed_same n seen = with_same c one.inputs s.reading n (λ net e k. elim (same n net e k) [
    | inl h ↦ input_same n net e k h
    | inr idle ↦ absurd (false≢true (sym idle.unobserved ∙ seen))
  ])

  -- and so have nets that channels meet
  met_same : (n m : ℕ) (d : Device) → Among (devices_of true c) d → Joins d n m → other.reading n ≡ s.reading n
  met_same n m d a j = with_same c one.inputs s.reading n (λ net e k. elim (same n net e k) [
    | inl h ↦ input_same n net e k h
    | inr idle ↦ absurd (idle.free m d a j)
  ])

  abbrev IsSame : ℕ → Type 0
  IsSame n = other.reading n ≡ s.reading n

  abbrev IsNone : ℕ → Type 0
  IsNone n = ⊥

  abbrev first : Network
  first = network_of c true one.held other

  abbrev second : Network
  second = network_of c true two.held s

  there : Covers first second IsSame IsNone
  there = record {
    source = refl;
    roots = λ root r at. elim at [
      | inl alike ↦ elim r [
        | inl g ↦ inl (g.0, g.1, g.2, g.3, g.4 ∙ alike)
        | inr rest ↦ elim rest [ inl h ↦ absurd (no_hold h.0 h.1 h.2) | inr o ↦ absurd (no_pin one.held other o.0 o.1 o.2) ]
      ]
      | inr none ↦ absurd none.0
    ];
    devices = λ m n d on j alike. (on.0, subst (λ (b : Bool). conducts_at d.kind b ≡ true) (observed_same d.gate.0 (gates d on.0)) on.1);
    bounded = λ m n d on j alike. inl (met_same m n d on.0 j);
    edge = λ n none. absurd none;
  }

  back : Covers second first IsSame IsNone
  back = record {
    source = refl;
    roots = λ root r at. elim at [
      | inl alike ↦ elim r [
        | inl g ↦ inl (g.0, g.1, g.2, g.3, g.4 ∙ sym alike)
        | inr rest ↦ elim rest [ inl h ↦ absurd (no_hold h.0 h.1 h.2) | inr o ↦ absurd (no_pin two.held s o.0 o.1 o.2) ]
      ]
      | inr none ↦ absurd none.0
    ];
    devices = λ m n d on j alike. (on.0, subst (λ (b : Bool). conducts_at d.kind b ≡ true) (sym (observed_same d.gate.0 (gates d on.0))) on.1);
    bounded = λ m n d on j alike. inl (met_same m n d on.0 j);
    edge = λ n none. absurd none;
  }

  -- what always stands at the one setting stands in this state of the other
  pub stands_there : (a : ℕ → Option Bool) (n : ℕ) (r : Response) → observed n ≡ true → Agrees observed a s.reading → AlwaysResponds c phase observed one a true n r
      → IsResponse second n r
  stands_there a n r seen agrees always =
      response_inside first second IsSame IsNone (network_levels c true one.held other ranges) (network_levels c true two.held s ranges) there back n r (observed_same n seen)
      (always other other_is (λ m v o e. observed_same m o ∙ agrees m v o e))

pub idle_inputs_change_nothing : IdleInputsChangeNothing
idle_inputs_change_nothing c phase observed one two a ranges flat unheld gates same solves n v seen = (
  λ e s is agrees. stands_there c phase observed one two ranges flat unheld gates same s is a n (Shows v) seen agrees ((solves n v seen).0 e),
  λ always. (solves n v seen).1 (λ s is agrees. stands_there c phase observed two one ranges flat unheld gates turned s is a n (Shows v) seen agrees always),
)
  where
    turned : SameButIdle c observed two one
    turned m net e k = elim (same m net e k) [ inl h ↦ inl (sym h) | inr idle ↦ inr idle ]
