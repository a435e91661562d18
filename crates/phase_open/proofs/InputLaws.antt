-- The inputs of the model: words that are written for the clocks, for the input ports and for the default clock.
use Rattle.std.proofs.Common.{◌≡◌, ℕ, ◌+◌, ◌-◌, ◌<◌, Bool, false, cond, List, length, map, Option, Some, None, arith, ap, refl, sym, subst, ◌∙◌, inl, inr, ◌≤◌}
use Rattle.std.specs.Prelude.{◌≢◌, option_map, slice_get, unwrap_or}
use Rattle.std.proofs.lemmas.Bool.{cases_eq}
use Rattle.std.proofs.lemmas.Option.{none-some, same_Some, slice_get_within}
use Rattle.node_pool.specs.declared.region.Node.{Node}
use Rattle.node_pool.specs.declared.region.Span.{Span}
use Rattle.bdd_core.specs.Diagram.{meaning}
use Rattle.bdd_core.specs.Store.{Diagrams}
use Rattle.bdd_core.specs.Words.{IsApart, Writes, word_at}
use Rattle.bdd_core.proofs.Frames.{word_beside}
use Rattle.bdd_ops.specs.Ops.{bits_of}
use Rattle.phase_open.specs.Given.{AreTiesWithin, HasModelInputs, HasOneNet, IsTie}
use Rattle.phase_ports.proofs.PortLaws.{net_is, ports_shown}
use Rattle.phase_ports.specs.Ports.{ports_by, unnamed}
use Rattle.phase_ports.specs.declared.port_list.Port.{Port}
use Rattle.phase_terms.specs.Opened.{AreRootsOpen}
use Rattle.phase_terms.specs.Ready.{IsReady}
use Rattle.vrt_model.proofs.Lists.{among_filter_map, at_map, filter_map_among, map_at}
use Rattle.vrt_model.proofs.Members.{all_among}
use Rattle.vrt_model.specs.Assignment.{Tied}
use Rattle.vrt_model.specs.Comparison.{CellPort, Comparison, cell_at, default_clock_bit, input_signal, phase_at, port_nets, ports_of, tied_inputs}
use Rattle.vrt_model.specs.Held.{setting_of}
use Rattle.vrt_model.specs.Lists.{At, Among}
use Rattle.vrt_model.specs.Reading.{clock_bit}
use Rattle.vrt_model.specs.declared.pairing.ClockedSignal.{ClockedSignal}
use Rattle.vrt_model.specs.declared.rules.Phase.{Phase}

-- ---- the clocks

-- the word of a constant
abbrev pub constant_word : Phase → ClockedSignal → ℕ
constant_word phase c = cond (clock_bit phase c.clock) 1 0

-- the signals so far that carry clocks have their bits
abbrev pub AreOpenedTo : Phase → List ClockedSignal → Span → ℕ → Diagrams → Type 0
AreOpenedTo phase clocked inputs upto d =
    (j : ℕ) (c : ClockedSignal) → j < upto → At clocked j c → word_at d inputs c.signal ≡ constant_word phase c

-- a clock more
pub clock_more : (phase : Phase) (clocked : List ClockedSignal) (inputs : Span) (old new : Diagrams) (i : ℕ) (c : ClockedSignal) → At clocked i c
    → word_at new inputs c.signal ≡ constant_word phase c
    → ((s : ℕ) → s ≢ c.signal → word_at new inputs s ≡ word_at old inputs s)
    → ((c d : ClockedSignal) → Among clocked c → Among clocked d → c.signal ≡ d.signal → c.clock ≡ d.clock) → AreOpenedTo phase clocked inputs i old
    → AreOpenedTo phase clocked inputs (i + 1) new
clock_more phase clocked inputs old new i c there here others one before j d lt at = elim (cases_eq d.signal c.signal) [
  | inl e ↦
      ap (λ (s : ℕ). word_at new inputs s) e ∙ here ∙ ap (λ x. cond (clock_bit phase x) 1 0) (one c d (i, there) (j, at) (sym e))
  | inr ne ↦
      let other : j ≢ i = λ same. ne (ap (λ (x : ClockedSignal). x.signal) (same_Some d c (sym at ∙ (ap (λ (m : ℕ). slice_get clocked m) same ∙ there)))) in
      others d.signal ne ∙ before j d (omega (arith, lt, other)) at
]

-- ---- the comparison

abbrev tie : CellPort → Option Tied
tie p = option_map (λ (signal : ℕ). let one : Tied = record { net = p.net; signal = signal } in one) (input_signal p.role)

tie_some : (p : CellPort) (t : Tied) → tie p ≡ Some t → (input_signal p.role ≡ Some t.signal) × (p.net ≡ t.net)
tie_some p t e = by_signal (input_signal p.role) refl e
  where
    by_signal : (o : Option ℕ) → input_signal p.role ≡ o → option_map (λ (signal : ℕ). let one : Tied = record { net = p.net; signal = signal } in one) o ≡ Some t
        → (input_signal p.role ≡ Some t.signal) × (p.net ≡ t.net)
    by_signal None is e = absurd (none-some t e)
    by_signal (Some s) is e =
        let one : Tied = record { net = p.net; signal = s } in
        let same : one ≡ t = same_Some one t e in
        (is ∙ ap (λ (x : Tied). Some x.signal) same, ap (λ (x : Tied). x.net) same)

module _ (k : Comparison) (ready : IsReady k) where
  abbrev pub ports_here : List Port
  ports_here = ports_by 0 2 k.pairing.ports

  shown : ports_here ≡ map unnamed (ports_of k)
  shown = ports_shown k.rules (cell_at k.design k.cell) k.pairing ready.roles

  port_of : (p : Port) → Among ports_here p → (q : CellPort) × Among (ports_of k) q × (unnamed q ≡ p)
  port_of p m = let at = at_map unnamed (ports_of k) m.0 p (ap (λ (xs : List Port). slice_get xs m.0) (sym shown) ∙ m.1) in (at.0, (m.0, at.1), at.2)

  -- ports are at nets of the circuit
  pub ports_below : (p : Port) → Among ports_here p → p.net < length k.circuit.nets
  ports_below p m =
      let q = port_of p m in
      let names = (cell_at k.design k.cell).ports in
      let nets = port_nets k.rules names in
      let below : q.0.net < length k.circuit.nets =
      all_among (λ (n : ℕ). n < length k.circuit.nets) nets q.0.net ready.ports (q.1.0, net_is 0 names nets k.pairing.ports q.1.0 q.0 q.1.1) in
      omega (arith, below, ap (λ (x : Port). x.net) q.2)

  tied_of : (p : Port) (s : ℕ) → IsTie ports_here p s → (t : Tied) × Among (tied_inputs k) t × (t.net ≡ p.net) × (t.signal ≡ s)
  tied_of p s is =
      let q = port_of p is.there in
      let cell_port : CellPort = q.0 in
      let role : input_signal cell_port.role ≡ Some s = ap (λ (x : Port). input_signal x.role) q.2 ∙ is.signal in
      let t : Tied = record { net = cell_port.net; signal = s } in
      let gives : tie cell_port ≡ Some t =
      ap (λ (o : Option ℕ). option_map (λ (signal : ℕ). let one : Tied = record { net = cell_port.net; signal = signal } in one) o) role in
      (t, filter_map_among tie (ports_of k) q.1.0 cell_port t q.1.1 gives, ap (λ (x : Port). x.net) q.2, refl)

  tie_of : (t : Tied) → Among (tied_inputs k) t → (p : Port) × IsTie ports_here p t.signal × (p.net ≡ t.net)
  tie_of t m =
      let at = among_filter_map tie (ports_of k) t m in
      let some = tie_some at.0 t at.2 in
      let there : At ports_here at.1.0 (unnamed at.0) =
      ap (λ (xs : List Port). slice_get xs at.1.0) shown ∙ map_at unnamed (ports_of k) at.1.0 at.0 at.1.1 in
      (unnamed at.0, record { there = (at.1.0, there); signal = some.0 }, some.1)

  tied_below : (s : ℕ) (p : Port) → IsTie ports_here p s → s < length k.model.signals
  tied_below s p is =
      let t = tied_of p s is in
      let below = ready.inputs.below t.0.signal (ready.inputs.tied t.0 t.1) in
      let signal = t.3 in
      omega (arith, below, signal)

  pub ties_within : (nets signals : ℕ) → length k.circuit.nets ≤ nets → signals ≡ length k.model.signals + 1 → AreTiesWithin ports_here nets signals
  ties_within nets signals count inputs p s is =
      let net = ports_below p is.there in
      let below = tied_below s p is in
      (omega (arith, net, count), omega (arith, below, inputs))

  pub ties_one : HasOneNet ports_here
  ties_one p q s is also =
      let t = tied_of p s is in
      let u = tied_of q s also in
      sym t.2 ∙ ready.inputs.one_net t.0 u.0 t.1 u.1 (t.3 ∙ sym u.3) ∙ u.2

  no_tie : (c : ClockedSignal) → Among k.pairing.clocked c → (p : Port) → ¬ IsTie ports_here p c.signal
  no_tie c m p is = (let t = tied_of p c.signal is in ready.inputs.apart c t.0 m t.1 (sym t.3))

  -- what is written for the clocks, for the input ports and then for the default clock
  module _ (phase : ℕ) (roots inputs : Span) (first mid last new : Diagrams) (nodes : new.nodes ≡ first.nodes) (writes : Writes inputs first mid) (all : Writes inputs first new) (apart : IsApart roots inputs)
      (len : inputs.len ≡ length k.model.signals + 1) (count : length k.circuit.nets ≤ roots.len) (bits : AreRootsOpen k phase roots first)
      (opened : (c : ClockedSignal) → Among k.pairing.clocked c → word_at mid inputs c.signal ≡ constant_word (phase_at k.rules phase) c)
      (tied : (p : Port) (s : ℕ) → IsTie ports_here p s → word_at last inputs s ≡ word_at mid roots p.net)
      (others : (s : ℕ) → ((p : Port) → ¬ IsTie ports_here p s) → word_at last inputs s ≡ word_at mid inputs s)
      (bit : Bool) (bit_is : bit ≡ unwrap_or (default_clock_bit k.rules (phase_at k.rules phase)) false)
      (default : word_at new inputs (inputs.len - 1) ≡ cond bit 1 0)
      (kept : (s : ℕ) → s ≢ inputs.len - 1 → word_at new inputs s ≡ word_at last inputs s) where
    -- the words of signals stay
    signal_kept : (s : ℕ) → s < length k.model.signals → word_at new inputs s ≡ word_at last inputs s
    signal_kept s lt = kept s (λ e. omega (arith, lt, e, len))

    tied_bit : (values : List Bool) (t : Tied) → Among (tied_inputs k) t → meaning new.nodes (word_at new inputs t.signal) (bits_of values) ≡ (setting_of k phase values).inputs t.net
    tied_bit values t m =
        let tie = tie_of t m in
        let net = ready.inputs.nets t m in
        let inside = slice_get_within k.circuit.nets t.net net.0 net.1 in
        ap (λ (h : ℕ). meaning new.nodes h (bits_of values)) (
        signal_kept t.signal (ready.inputs.below t.signal (ready.inputs.tied t m))
        ∙ (tied tie.0 t.signal tie.1 ∙ ap (λ (n : ℕ). word_at mid roots n) tie.2)
        ∙ word_beside inputs roots first mid t.net writes apart (omega (arith, inside, count))
        )
        ∙ ap (λ (ns : List Node). meaning ns (word_at first roots t.net) (bits_of values)) nodes
        ∙ sym ((bits.setting values).inputs t.net net.0 net.1 net.2)

    pub inputs_given : HasModelInputs k phase inputs new
    inputs_given = record {
      live = all.live;
      clocked = λ c m. signal_kept c.signal (ready.inputs.below c.signal (ready.inputs.clocked c m)) ∙ others c.signal (no_tie c m) ∙ opened c m;
      tied = tied_bit;
      default = subst (λ (s : ℕ). word_at new inputs s ≡ cond (unwrap_or (default_clock_bit k.rules (phase_at k.rules phase)) false) 1 0) (omega (arith, len))
          (default ∙ ap {B = ℕ} (λ (b : Bool). cond b 1 0) bit_is);
    }
