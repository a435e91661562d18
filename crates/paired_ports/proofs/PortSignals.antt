-- The ports of a comparison with a free pairing, and the signals of the model that pair with them.
use Rattle.std.proofs.Common.{◌≡◌, ℕ, ◌+◌, ◌⊎◌, List, ◌++◌, Option, Some, None, arith, ap, subst, sym, refl, ◌∙◌, inl, inr}
use Rattle.std.specs.Prelude.{option_map, slice_get}
use Rattle.std.proofs.lemmas.Bool.{false≢true}
use Rattle.std.proofs.lemmas.Option.{none-some, same_Some}
use Rattle.paired_ports.proofs.CarriedClocks.{Carries, carried_apart, carried_input, carried_once, carries, input_given}
use Rattle.paired_ports.proofs.FreePorts.{IsInputPort, IsOutputPort, input_port, one_port, output_port}
use Rattle.paired_ports.proofs.GivenLists.{among_number}
use Rattle.paired_ports.proofs.PortLists.{number_there, port_made, port_parts}
use Rattle.paired_ports.proofs.RoleLaws.{IsFreePairing, named_role, role_there}
use Rattle.vrt_model.proofs.Lists.{among_filter_map, filter_map_among}
use Rattle.vrt_model.specs.Assignment.{Tied}
use Rattle.vrt_model.specs.Comparison.{CellPort, Comparison, cell_at, input_signal, output_signal, port_nets, ports_of, tied_inputs}
use Rattle.vrt_model.specs.Lists.{Among, At}
use Rattle.vrt_model.specs.PairedPorts.{role_of}
use Rattle.vrt_model.specs.declared.pairing.ClockedSignal.{ClockedSignal}
use Rattle.vrt_model.specs.declared.pairing.PortRole.{PortRole}
use Rattle.vrt_model.specs.declared.pairing.PortRole.TheVariants.{Supply, Clock, Input, Output}

-- the role whose signal is an input's, and an output's
input_of : (r : PortRole) (s : ℕ) → input_signal r ≡ Some s → r ≡ Input s
input_of (Supply value) s e = absurd (none-some s e)
input_of (Clock clock) s e = absurd (none-some s e)
input_of (Input t) s e = ap Input (same_Some t s e)
input_of (Output t) s e = absurd (none-some s e)

output_of : (r : PortRole) (s : ℕ) → output_signal r ≡ Some s → r ≡ Output s
output_of (Supply value) s e = absurd (none-some s e)
output_of (Clock clock) s e = absurd (none-some s e)
output_of (Input t) s e = absurd (none-some s e)
output_of (Output t) s e = ap Output (same_Some t s e)

module _ (k : Comparison) (paired : IsFreePairing k.model k.rules (cell_at k.design k.cell) k.pairing) where
  -- the names of the ports
  abbrev names : List (List ℕ)
  names = (cell_at k.design k.cell).ports

  -- ---- ports

  -- a port of the comparison has the role of its name
  pub record IsPortOf (at : ℕ) (port : CellPort) : Type 0 where
    pub place : port.place ≡ at
    pub name : At (cell_at k.design k.cell).ports at port.name
    pub net : At (port_nets k.rules (cell_at k.design k.cell).ports) at port.net
    pub role : At k.pairing.ports at port.role
    pub named : role_of k.model k.rules (cell_at k.design k.cell).name port.name ≡ Some port.role

  -- each port of the comparison has it
  pub port_of : (at : ℕ) (port : CellPort) → At (ports_of k) at port → IsPortOf at port
  port_of at port here =
      let parts = port_parts 0 names (port_nets k.rules names) k.pairing.ports at port here in
      record {
        place = (let place : port.place ≡ 0 + at = parts.place in omega (arith, place));
        name = parts.name;
        net = parts.net;
        role = parts.role;
        named = named_role k.model k.rules (cell_at k.design k.cell) k.pairing paired at port.name port.role parts.name parts.role;
      }

  -- ---- outputs

  -- the port of an output pairs with an output of the model
  pub output_there : (at : ℕ) (port : CellPort) (s : ℕ) → IsPortOf at port → output_signal port.role ≡ Some s
      → IsOutputPort k.model k.rules (cell_at k.design k.cell) paired.free port.name s
  output_there at port s is e =
      output_port k.model k.rules (cell_at k.design k.cell) paired.free port.name s (is.named ∙ ap Some (output_of port.role s e))

  -- which is neither an input nor a clock
  pub output_apart : (s : ℕ) → Among k.model.outputs s → Among (k.model.inputs ++ k.model.clocks) s → ⊥
  output_apart s there input = false≢true (sym (paired.free.outputs s input) ∙ among_number k.model.outputs s there)

  -- two outputs of the cell are different signals
  pub outputs_apart : (a b : CellPort) (s : ℕ) → Among (ports_of k) a → Among (ports_of k) b → output_signal a.role ≡ Some s → output_signal b.role ≡ Some s
      → a.place ≡ b.place
  outputs_apart a b s x y e g =
      let one = port_of x.0 a x.1 in
      let other = port_of y.0 b y.1 in
      one.place
      ∙ (one_port k.model k.rules (cell_at k.design k.cell) paired.free x.0 y.0 a.name b.name s one.name other.name (output_there x.0 a s one e).paired (output_there y.0 b s other g).paired
      ∙ sym other.place)

  -- ---- inputs

  -- the signal that a port ties
  abbrev tied_by : CellPort → Option Tied
  tied_by p = option_map (λ (signal : ℕ). let tied : Tied = record { net = p.net; signal = signal } in tied) (input_signal p.role)

  -- what is tied is so by a port of an input
  pub record IsTiedBy (t : Tied) : Type 0 where
    pub at : ℕ
    pub port : CellPort
    pub there : At (ports_of k) at port
    pub is : IsPortOf at port
    pub input : IsInputPort k.model k.rules (cell_at k.design k.cell) paired.free port.name t.signal
    pub kind : port.role ≡ Input t.signal
    pub net : port.net ≡ t.net

  -- each tied signal is so
  pub tied_back : (t : Tied) → Among (tied_inputs k) t → IsTiedBy t
  tied_back t m =
      let h = among_filter_map tied_by (ports_of k) t m in by_role h.0 h.1 (input_signal h.0.role) refl h.2
    where
      by_role : (p : CellPort) → Among (ports_of k) p → (o : Option ℕ) → input_signal p.role ≡ o
          → option_map (λ (signal : ℕ). let tied : Tied = record { net = p.net; signal = signal } in tied) o ≡ Some t → IsTiedBy t
      by_role p a None e g = absurd (none-some t g)
      by_role p a (Some s) e g =
          let one : Tied = record { net = p.net; signal = s } in
          let same : one ≡ t = same_Some one t g in
          let role : p.role ≡ Input t.signal = input_of p.role t.signal (e ∙ ap (λ (x : Tied). Some x.signal) same) in
          let is = port_of a.0 p a.1 in
          record {
            at = a.0;
            port = p;
            there = a.1;
            is = is;
            input = input_port k.model k.rules (cell_at k.design k.cell) paired.free p.name t.signal (is.named ∙ ap Some role);
            kind = role;
            net = ap (λ (x : Tied). x.net) same;
          }

  -- an input's port ties its signal
  tied_at : (at : ℕ) (name : List ℕ) (s : ℕ) → At (cell_at k.design k.cell).ports at name → role_of k.model k.rules (cell_at k.design k.cell).name name ≡ Some (Input s)
      → (t : Tied) × Among (tied_inputs k) t × (t.signal ≡ s)
  tied_at at name s here e =
      let number = number_there k.rules names 2 at name here in
      let made = port_made 0 names (port_nets k.rules names) k.pairing.ports at name number.0 (Input s) here number.1 (role_there k.model k.rules (cell_at k.design k.cell) k.pairing paired at name (Input s) here e) in
      let one : Tied = record { net = made.port.net; signal = s } in (
        one,
        filter_map_among tied_by (ports_of k) at made.port one made.there
            (ap (λ (r : PortRole). option_map (λ (signal : ℕ). let tied : Tied = record { net = made.port.net; signal = signal } in tied) (input_signal r)) made.role_is),
        refl,
      )

  -- one signal is tied to one net
  pub one_net : (t u : Tied) → Among (tied_inputs k) t → Among (tied_inputs k) u → t.signal ≡ u.signal → t.net ≡ u.net
  one_net t u a b e =
      let x = tied_back t a in
      let y = tied_back u b in
      let same : x.at ≡ y.at =
      one_port k.model k.rules (cell_at k.design k.cell) paired.free x.at y.at x.port.name y.port.name u.signal x.is.name y.is.name (x.input.paired ∙ ap Some e) y.input.paired in
      let port : x.port ≡ y.port = same_Some x.port y.port (sym x.there ∙ (ap (slice_get (ports_of k)) same ∙ y.there)) in
      sym x.net ∙ (ap (λ (p : CellPort). p.net) port ∙ y.net)

  -- each clock of the pairing is carried by a port or by a name
  carried : (c : ClockedSignal) → Among k.pairing.clocked c → Carries k.model k.rules (cell_at k.design k.cell) c
  carried c a = carries k.model k.rules (cell_at k.design k.cell) paired.free c (subst (λ (cs : List ClockedSignal). Among cs c) paired.clocks a)

  -- what carries a clock is an input or a clock, which is not tied; and it carries one
  pub clocked_there : (c : ClockedSignal) → Among k.pairing.clocked c → Among (k.model.inputs ++ k.model.clocks) c.signal
  clocked_there c a = carried_input k.model k.rules (cell_at k.design k.cell) paired.free c (carried c a)

  pub clocked_apart : (c : ClockedSignal) (t : Tied) → Among k.pairing.clocked c → Among (tied_inputs k) t → c.signal ≡ t.signal → ⊥
  clocked_apart c t a b e =
      let x = tied_back t b in
      carried_apart k.model k.rules (cell_at k.design k.cell) paired.free c x.at x.port.name t.signal (carried c a) x.is.name x.input e

  pub one_clock : (c d : ClockedSignal) → Among k.pairing.clocked c → Among k.pairing.clocked d → c.signal ≡ d.signal → c.clock ≡ d.clock
  one_clock c d a b e = carried_once k.model k.rules (cell_at k.design k.cell) paired.free c d (carried c a) (carried d b) e

  -- each input and clock carries a clock or is tied
  pub input_paired : (s : ℕ) → Among (k.model.inputs ++ k.model.clocks) s
      → ((c : ClockedSignal) × Among k.pairing.clocked c × (c.signal ≡ s)) ⊎ ((t : Tied) × Among (tied_inputs k) t × (t.signal ≡ s))
  input_paired s a =
      elim (input_given k.model k.rules (cell_at k.design k.cell) paired.free s a) [
        | inl c ↦ inl (c.0, subst (λ (cs : List ClockedSignal). Among cs c.0) (sym paired.clocks) c.1, c.2)
        | inr port ↦ inr (tied_at port.0 port.1 s port.2 port.3)
      ]
