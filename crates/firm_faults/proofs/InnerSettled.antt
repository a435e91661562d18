-- The nets of a cell are settled in the circuit around it, where those inputs are from which arcs lead to them, and the nets in the parts of
-- exposed outputs from which arcs do.
use Rattle.std.proofs.Common.{◌≡◌, ℕ, zero, suc, ◌<◌, ◌≤◌, ◌⊎◌, ◌++◌, ◌&&◌, Bool, true, false, List, [], ◌∷◌, length, arith, subst, sym, refl, ◌∙◌, inl, inr}
use Rattle.std.specs.List.{list_any, range_with_len}
use Rattle.std.proofs.lemmas.Bool.{and_from, and_parts, cases_Bool, false≢true}
use Rattle.std.proofs.lemmas.Option.{slice_get_within}
use Rattle.cell_inside.proofs.Copies.{touched}
use Rattle.cell_inside.proofs.Images.{image_in}
use Rattle.cell_inside.proofs.NetKinds.{supply_given}
use Rattle.cell_inside.specs.Placed.{IsPlaced, IsSupply}
use Rattle.cell_inside.specs.Regions.{IsGivenNet}
use Rattle.fault_places.proofs.CountedSites.{number_among}
use Rattle.fault_places.proofs.PartRanks.{same_rank}
use Rattle.firm_faults.proofs.CellParts.{part_back}
use Rattle.firm_faults.proofs.InnerRegions.{inner_settled}
use Rattle.firm_faults.specs.Settled.{IsSettled, given}
use Rattle.firm_faults.specs.StepDown.{IsCellRanked, IsInnerSolution}
use Rattle.graphs.proofs.Walks.{walk_further}
use Rattle.known_nets.proofs.NetKinds.{given_or_plain}
use Rattle.vrt_model.proofs.Filtered.{among_devices, device_among}
use Rattle.vrt_model.proofs.Members.{all_among, among_any, any_among, at_none}
use Rattle.vrt_model.proofs.Ranked.{together_plain}
use Rattle.vrt_model.specs.Circuits.{IsDevice}
use Rattle.vrt_model.specs.Comparison.{Comparison, is_observed, phase_at}
use Rattle.vrt_model.specs.Known.{HasArc, HasFixedBit, HasGateArc, IsChannel, IsKnown, IsPlain, IsShut, IsTogether, IsUnknown, IsWalk, fixed, itself, onward, settled}
use Rattle.vrt_model.specs.Lists.{Among, At}
use Rattle.vrt_model.specs.Networks.{HasRanges}
use Rattle.vrt_model.specs.Path.{Joins}
use Rattle.vrt_model.specs.Reading.{conducts, conducts_at, devices_of, is_given}
use Rattle.vrt_model.specs.Response.{IsResponse, Shows}
use Rattle.vrt_model.specs.State.{IsState, Setting, State, network_of, output_pins}
use Rattle.vrt_model.specs.WholeInstances.{IsChain}
use Rattle.vrt_model.specs.declared.circuit.Circuit.{Circuit}
use Rattle.vrt_model.specs.declared.circuit.Device.{Device}
use Rattle.vrt_model.specs.declared.circuit.FlatInstance.{FlatInstance}
use Rattle.vrt_model.specs.declared.circuit.FlatNet.{FlatNet}
use Rattle.vrt_model.specs.declared.circuit.Hold.{Hold}
use Rattle.vrt_model.specs.declared.circuit.NetKind.{NetKind}
use Rattle.vrt_model.specs.declared.circuit.NetKind.TheVariants.{Clock, Input, Plain, Supply}
use Rattle.vrt_model.specs.declared.rules.ClockRef.{ClockRef}
use Rattle.vrt_model.specs.declared.rules.Phase.{Phase}
use Rattle.vrt_model.specs.declared.whole.Whole.{Whole}
use Rattle.whole_solutions.proofs.GivenShow.{given_shows}
use Rattle.whole_solutions.proofs.KnownInsideLaws.{unknown_outputs_are_unsettled}
use Rattle.whole_solutions.proofs.SettledSets.{set_responds, supply_bit}
use Rattle.whole_solutions.specs.KnownInside.{AreExposedUnsettled, IsSettledSet}

module _ (k : Comparison) (phase : ℕ) (setting : Setting) (cell whole_circuit : Circuit) (at fresh : ℕ → ℕ) (exposed : ℕ → Bool) (drive : ℕ → ℕ) (originals : List FlatInstance)
    (placed : IsPlaced cell k.circuit at exposed drive)
    (s : State) (is : IsState k.circuit (phase_at k.rules phase) setting.inputs s) (ranges : HasRanges k.circuit)
    (gates_seen : (d : Device) → Among (devices_of true k.circuit) d → is_observed k phase d.gate.0 ≡ true)
    (observed known : ℕ → Bool) (together : ℕ → ℕ → Bool) (rank : ℕ → ℕ) (own : IsCellRanked cell (phase_at k.rules phase) observed known together rank)
    (unknown : (m : ℕ) → exposed m ≡ true → IsUnknown cell (phase_at k.rules phase) m) (exposed_seen : (m : ℕ) → exposed m ≡ true → observed m ≡ true)
    (x : Whole) (r : State) (bits : ℕ → Bool) (sol : IsInnerSolution cell whole_circuit (phase_at k.rules phase) observed exposed at fresh drive x r bits)
    (same_inside : (m : ℕ) → IsPlain cell m → (exposed m ≡ true → ⊥) → s.reading (at m) ≡ bits m) where
  abbrev here : Phase
  here = phase_at k.rules phase

  -- a net of the cell is settled above, and shows the bit that it has there and in the cell
  abbrev pub IsReady : ℕ → Type 0
  IsReady n = IsSettled k originals phase setting s (at n) × IsResponse (network_of k.circuit true setting.held s) (at n) (Shows (s.reading (at n))) × (s.reading (at n) ≡ bits n)

  -- all inputs from which arcs lead to a net are so, and all gates in the parts of exposed outputs
  pub record HasReadyEnds (n : ℕ) : Type 0 where
    pub inputs : (i : ℕ) (net : FlatNet) → At cell.nets i net → net.kind ≡ Input → IsChain (HasArc cell here) i n → IsReady i
    pub outputs :
        (y g : ℕ) → exposed y ≡ true → IsTogether cell here true y g → observed g ≡ true → IsChain (HasArc cell here) g n → IsReady g

  supplies : (n : ℕ) (value : Bool) → IsSupply k.circuit n value → s.reading n ≡ value
  supplies = supply_bit k.circuit here setting.inputs s.reading is.reading

  pub gate_seen : (d : Device) → Among (devices_of true cell) d → is_observed k phase (at d.gate.0) ≡ true
  gate_seen d m =
      let listed = device_among true cell d m in
      let e = placed.there d listed.0 in
      subst (λ (n : ℕ). is_observed k phase n ≡ true) e.2.gate (gates_seen e.0 (among_devices true k.circuit e.0 e.1 (image_in true at d e.0 e.2 ∙ listed.1)))

  -- no exposed output is in a shut set with known gates
  unsettled : AreExposedUnsettled cell here exposed
  unsettled =
      unknown_outputs_are_unsettled cell here (record { inputs = bits; held = λ j. false; elements = λ j. false }) exposed (record { reading = bits; driven = λ j. false }) own.ranges placed.no_holds
      placed.no_wholes placed.channels
      (record { reading = sol.reads; driven = λ j out e. absurd (at_none j out (subst (λ (ws : List Whole). At (output_pins (record cell { wholes = ws })) j out) placed.no_wholes e)) })
      (λ d b m kn. sol.known d.gate.0 b (own.gates d m) kn) unknown (λ n e. (bits n, sol.shows n (placed.exposed_plain n e) (exposed_seen n e)))

  module _ (clock_ready : (n : ℕ) (net : FlatNet) (clock : ClockRef) → At cell.nets n net → net.kind ≡ Clock clock → IsReady n) where
    supply_ready : (n : ℕ) (value : Bool) → IsSupply cell n value → IsReady n
    supply_ready n value here_is =
        let up = placed.supplies n value here_is in
        let net : IsGivenNet k.circuit (at n) = (up.0, up.1, supply_given k.circuit (at n) value up) in (
          given net,
          given_shows k.circuit ranges placed.pins_plain true setting.held s (at n) net,
          supplies (at n) value up ∙ sym (supply_bit cell here bits bits sol.reads n value here_is),
        )

    fixed_ready : (n : ℕ) (v : Bool) (net : FlatNet) → At cell.nets n net → HasFixedBit here net.kind v → IsReady n
    fixed_ready n v net e h = by_kind net.kind refl h
      where
        by_kind : (kind : NetKind) → net.kind ≡ kind → HasFixedBit here kind v → IsReady n
        by_kind (Supply value) q f = supply_ready n value (net, e, q)
        by_kind (Clock clock) q f = clock_ready n net clock e q
        by_kind Input q f = absurd f
        by_kind Plain q f = absurd f

    -- what is known in the cell is settled above
    known_ready : (n : ℕ) (v : Bool) → IsKnown cell here n v → observed n ≡ true → IsReady n
    known_ready n v (fixed h) seen = fixed_ready n v h.0 h.1 h.2
    known_ready n v (settled inside reading held driven shut ins reads gates shows) seen =
        let set : IsSettledSet cell here inside reading = record { shut = shut; reads = reads; gates = gates } in
        let hidden : (m : ℕ) → inside m ≡ true → exposed m ≡ true → ⊥ = λ m i e. unsettled inside reading m set i e in
        let gate : (m l : ℕ) (d : Device) → inside m ≡ true → Among (devices_of true cell) d → Joins d m l → IsReady d.gate.0 =
        λ m l d i a j. known_ready d.gate.0 (reading d.gate.0) (gates m l d i a j) (own.gates d a) in
        let same : (m l : ℕ) (d : Device) → inside m ≡ true → Among (devices_of true cell) d → Joins d m l → reading d.gate.0 ≡ s.reading (at d.gate.0) =
        λ m l d i a j. sym (sol.known d.gate.0 (reading d.gate.0) (own.gates d a) (gates m l d i a j)) ∙ sym (gate m l d i a j).2 in
        let plain = (shut.plain n ins).0 in
        let own_bit = same_inside n plain (hidden n ins) in
        let bit : v ≡ s.reading (at n) = sym (sol.known n v seen (settled inside reading held driven shut ins reads gates shows)) ∙ sym own_bit in (
          inner_settled k phase setting cell at exposed drive placed originals s inside reading shut hidden same (λ m l d i a j. let g = gate m l d i a j in ((gate_seen d a, g.1), g.0)) n ins,
          subst (λ (u : Bool). IsResponse (network_of k.circuit true setting.held s) (at n) (Shows u)) bit
              (set_responds cell k.circuit at exposed drive here setting.held s own.ranges ranges placed supplies inside reading held driven shut reads hidden same n (Shows v) ins shows),
          own_bit,
        )

    -- ---- parts of the cell

    pub in_part : (n m : ℕ) (d : Device) → together n m ≡ true → Among (devices_of true cell) d → conducts bits d ≡ true → IsChannel cell here true d
    in_part n m d ins a on = (a, λ v kn. subst (λ (b : Bool). conducts_at d.kind b ≡ true) (sol.known d.gate.0 v (own.gates d a) kn) on)

    -- conducting devices join a part to supplies alone
    pub part_joined : (n m o : ℕ) (d : Device) → together n m ≡ true → Among (devices_of true cell) d → Joins d m o → conducts bits d ≡ true
        → (together n o ≡ true) ⊎ ((value : Bool) × IsSupply cell o value)
    part_joined n m o d ins a j on =
        elim (placed.channels d o (device_among true cell d a).0 (touched d m o j)) [
          | inl plain ↦ inl ((own.parts n o).1 (onward d ((own.parts n m).0 ins) (in_part n m d ins a on) j plain))
          | inr supply ↦ inr supply
        ]

    part_shut : (n : ℕ) → IsShut cell here (together n) bits
    part_shut n = record {
      plain = λ m ins. (
        together_plain cell here true n m ((own.parts n m).0 ins),
        λ h. at_none h.1.0 h.0 (subst (λ (hs : List Hold). At hs h.1.0 h.0) placed.no_holds h.1.1),
        λ w. at_none w.2.0 w.0 (subst (λ (ws : List Whole). At ws w.2.0 w.0) placed.no_wholes w.2.1),
      );
      joined = λ m o d ins a j on. elim (part_joined n m o d ins a j on) [
        | inl i ↦ inl i
        | inr supply ↦ inr (supply.0, (supply.1.0, supply.1.1, subst (λ (kind : NetKind). HasFixedBit here kind supply.0) (sym supply.1.2) refl))
      ];
    }

    -- whether an exposed output is in the part of a net
    abbrev has_exposed : ℕ → Bool
    has_exposed n = list_any (λ (y : ℕ). exposed y && together n y) (range_with_len 0 (length cell.nets))

    exposed_in : (n : ℕ) → has_exposed n ≡ true → (y : ℕ) × (exposed y ≡ true) × IsTogether cell here true y n
    exposed_in n e =
        let found = any_among (λ (y : ℕ). exposed y && together n y) (range_with_len 0 (length cell.nets)) e in
        let both = and_parts (exposed found.0) (together n found.0) found.2 in
        (found.0, both.0, part_back cell here true n found.0 ((own.parts n found.0).0 both.1))

    none_exposed : (n : ℕ) → has_exposed n ≡ false → (y : ℕ) → together n y ≡ true → exposed y ≡ true → ⊥
    none_exposed n f y t e =
        let plain = placed.exposed_plain y e in
        false≢true (sym f ∙ among_any (λ (z : ℕ). exposed z && together n z) (range_with_len 0 (length cell.nets)) y
        (number_among (length cell.nets) y (slice_get_within cell.nets y plain.0 plain.1)) (and_from (exposed y) (together n y) e t))

    -- the gates of a part are ready, where those of lower rank are
    module _ (n : ℕ) (ends : HasReadyEnds n)
        (deeper : (g : ℕ) → IsPlain cell g → rank g < rank n → ((y : ℕ) → together g y ≡ true → exposed y ≡ true → ⊥) → HasReadyEnds g → observed g ≡ true → IsReady g) where
      pub gate_arc : (m l : ℕ) (d : Device) → together n m ≡ true → Among (devices_of true cell) d → Joins d m l → IsUnknown cell here d.gate.0 → HasGateArc cell here d.gate.0 n
      gate_arc m l d ins a j free = (d, (m, l, (own.parts n m).0 ins, (a, λ v kn. absurd (free v kn)), j), refl, free)

      free_ready : (m l : ℕ) (d : Device) → together n m ≡ true → Among (devices_of true cell) d → Joins d m l → IsPlain cell d.gate.0 → IsUnknown cell here d.gate.0 → IsReady d.gate.0
      free_ready m l d ins a j plain free =
          let arc = gate_arc m l d ins a j free in
          elim (cases_Bool (has_exposed d.gate.0)) [
            | inl t ↦ (let y = exposed_in d.gate.0 t in ends.outputs y.0 d.gate.0 y.1 y.2 (own.gates d a) (n, [], inl arc, refl))
            | inr f ↦
                deeper d.gate.0 plain (own.ranking.above d.gate.0 n (inl (inl arc, free))) (none_exposed d.gate.0 f)
                (record {
                  inputs = λ i net e kind chain. ends.inputs i net e kind (further i arc chain);
                  outputs = λ y g e t seen chain. ends.outputs y g e t seen (further g arc chain);
                })
                (own.gates d a)
          ]
        where
          further : (i : ℕ) → HasGateArc cell here d.gate.0 n → IsChain (HasArc cell here) i d.gate.0 → IsChain (HasArc cell here) i n
          further i arc chain = (chain.0, chain.1 ++ n ∷ [], chain.2, walk_further (HasArc cell here) chain.1 chain.0 d.gate.0 n chain.3 (inl arc))

      given_ready : (m l : ℕ) (d : Device) (net : FlatNet) → together n m ≡ true → Among (devices_of true cell) d → Joins d m l → IsUnknown cell here d.gate.0
          → At cell.nets d.gate.0 net → is_given net.kind ≡ true → IsReady d.gate.0
      given_ready m l d net ins a j free e g = by_kind net.kind refl g
        where
          by_kind : (kind : NetKind) → net.kind ≡ kind → is_given kind ≡ true → IsReady d.gate.0
          by_kind (Supply value) q t = supply_ready d.gate.0 value (net, e, q)
          by_kind (Clock clock) q t = clock_ready d.gate.0 net clock e q
          by_kind Input q t = ends.inputs d.gate.0 net e q (n, [], inl (gate_arc m l d ins a j free), refl)
          by_kind Plain q t = absurd (false≢true t)

      gate_ready : (m l : ℕ) (d : Device) → together n m ≡ true → Among (devices_of true cell) d → Joins d m l → IsReady d.gate.0
      gate_ready m l d ins a j =
          elim (cases_Bool (known d.gate.0)) [
            | inl t ↦ (let bit = (own.known_nets d.gate.0).0 t in known_ready d.gate.0 bit.0 bit.1 (own.gates d a))
            | inr f ↦
                let free : IsUnknown cell here d.gate.0 = λ v kn. false≢true (sym f ∙ (own.known_nets d.gate.0).1 (v, kn)) in
                elim (given_or_plain cell d.gate.0 (all_among (IsDevice cell) cell.devices d own.ranges.devices (device_among true cell d a).0).gate) [
                  | inl g ↦ given_ready m l d g.0 ins a j free g.1 g.2
                  | inr plain ↦ free_ready m l d ins a j plain free
                ]
          ]

    -- a plain net in whose part no output is exposed is settled, and shows its bit if it is observed in the cell
    net_ready : (bound n : ℕ) → IsPlain cell n → rank n < bound → ((y : ℕ) → together n y ≡ true → exposed y ≡ true → ⊥) → HasReadyEnds n
        → IsSettled k originals phase setting s (at n) × (observed n ≡ true → IsReady n)
    net_ready zero n plain lt hidden ends = absurd (omega (arith, lt))
    net_ready (suc bound) n plain lt hidden ends =
        let gate : (m l : ℕ) (d : Device) → together n m ≡ true → Among (devices_of true cell) d → Joins d m l → IsReady d.gate.0 =
        gate_ready n ends (λ g p less none more seen. (net_ready bound g p (omega (arith, lt, less)) none more).1 seen) in
        let same : (m l : ℕ) (d : Device) → together n m ≡ true → Among (devices_of true cell) d → Joins d m l → bits d.gate.0 ≡ s.reading (at d.gate.0) =
        λ m l d i a j. sym (gate m l d i a j).2 in
        let ins : together n n ≡ true = (own.parts n n).1 (itself plain) in
        let own_bit = same_inside n plain (hidden n ins) in
        let firm =
        inner_settled k phase setting cell at exposed drive placed originals s (together n) bits (part_shut n) hidden same (λ m l d i a j. let g = gate m l d i a j in ((gate_seen d a, g.1), g.0)) n ins in (
          firm,
          λ seen. (
            firm,
            subst (λ (u : Bool). IsResponse (network_of k.circuit true setting.held s) (at n) (Shows u)) (sym own_bit)
                (set_responds cell k.circuit at exposed drive here setting.held s own.ranges ranges placed supplies (together n) bits (λ p. false) (λ p. false) (part_shut n) sol.reads
                hidden same n (Shows (bits n)) ins (sol.shows n plain seen)),
            own_bit,
          ),
        )

    pub inner_ready : (n : ℕ) → IsPlain cell n → ((y : ℕ) → together n y ≡ true → exposed y ≡ true → ⊥) → HasReadyEnds n → observed n ≡ true → IsReady n
    inner_ready n plain hidden ends seen = (net_ready (suc (rank n)) n plain (omega arith) hidden ends).1 seen

    -- and so are the gates of the part of an exposed output
    pub gates_ready : (n m l : ℕ) (d : Device) → HasReadyEnds n → together n m ≡ true → Among (devices_of true cell) d → Joins d m l → IsReady d.gate.0
    gates_ready n m l d ends = gate_ready n ends (λ g p less none more seen. inner_ready g p none more seen) m l d

    -- a gate from which a chain leads to a net is in another part than it
    pub chain_apart : (n g : ℕ) → IsPlain cell n → IsChain (HasArc cell here) g n → IsTogether cell here true n g → ⊥
    chain_apart n g plain chain t =
        let same = same_rank cell here rank own.ranking n g t in
        let lt = chain_rises g n chain in
        omega (arith, same, lt)
      where
        arc_rises : (a b : ℕ) → HasArc cell here a b → rank a < rank b
        arc_rises a b (inl arc) = own.ranking.above a b (inl (inl arc, arc.3))
        arc_rises a b (inr arc) = absurd (at_none arc.2.0.0 arc.0 (subst (λ (ws : List Whole). At ws arc.2.0.0 arc.0) placed.no_wholes arc.2.0.1))

        walk_rises : (nets : List ℕ) (a b : ℕ) → IsWalk (HasArc cell here) a nets b → rank a ≤ rank b
        walk_rises [] a b e = subst (λ (y : ℕ). rank a ≤ rank y) e (omega arith)
        walk_rises (c ∷ nets) a b w = let one = arc_rises a c w.0 in let more = walk_rises nets c b w.1 in omega (arith, one, more)

        chain_rises : (a b : ℕ) → IsChain (HasArc cell here) a b → rank a < rank b
        chain_rises a b ch = let one = arc_rises a ch.0 ch.2 in let more = walk_rises ch.1 ch.0 b ch.3 in omega (arith, one, more)
