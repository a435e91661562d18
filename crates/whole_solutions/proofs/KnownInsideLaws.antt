-- What is known in a cell has its bit in the circuit around it.
use Rattle.std.proofs.Common.{◌≡◌, ◌⊎◌, ℕ, Bool, true, false, List, [], Option, Some, length, ap, subst, sym, refl, ◌∙◌, inl, inr}
use Rattle.std.proofs.lemmas.Bool.{false≢true}
use Rattle.cell_inside.proofs.Images.{image_in}
use Rattle.cell_inside.proofs.NetKinds.{plain_not_given, supply_given}
use Rattle.cell_inside.specs.Inside.{Touches}
use Rattle.cell_inside.specs.Placed.{IsImage, IsPlaced, IsSupply, alone}
use Rattle.cell_inside.specs.Replaced.{FightsBeside}
use Rattle.vrt_model.proofs.Decidable.{some_response}
use Rattle.vrt_model.proofs.Laws.{shows_no_float}
use Rattle.vrt_model.proofs.Members.{at_none}
use Rattle.vrt_model.proofs.Networks.{network_finite}
use Rattle.vrt_model.proofs.Filtered.{among_devices, device_among}
use Rattle.vrt_model.proofs.Locality.{fixed_given}
use Rattle.vrt_model.specs.Known.{HasFixedBit, IsKnown, IsPlain, fixed, is_plain_at, settled}
use Rattle.vrt_model.specs.Levels.{source_level}
use Rattle.vrt_model.specs.Lists.{Among, At}
use Rattle.vrt_model.specs.Reading.{clock_bit, devices_of}
use Rattle.vrt_model.specs.Response.{Fight, Float, IsResponse, Response, Shows}
use Rattle.vrt_model.specs.Networks.{HasRanges}
use Rattle.vrt_model.specs.Solution.{IsSolution}
use Rattle.vrt_model.specs.State.{IsState, OutputPin, Setting, State, network_of, output_pins}
use Rattle.vrt_model.specs.declared.circuit.Circuit.{Circuit}
use Rattle.vrt_model.specs.declared.circuit.Device.{Device}
use Rattle.vrt_model.specs.declared.circuit.FlatNet.{FlatNet}
use Rattle.vrt_model.specs.declared.circuit.Hold.{Hold}
use Rattle.vrt_model.specs.declared.whole.Whole.{Whole}
use Rattle.vrt_model.specs.declared.circuit.NetKind.{NetKind}
use Rattle.vrt_model.specs.declared.circuit.NetKind.TheVariants.{Supply, Clock, Input, Plain}
use Rattle.vrt_model.specs.declared.rules.ClockRef.{ClockRef}
use Rattle.vrt_model.specs.declared.rules.Phase.{Phase}
use Rattle.whole_solutions.proofs.GivenShow.{given_shows}
use Rattle.whole_solutions.proofs.SettledSets.{joined_in, set_responds, supply_bit}
use Rattle.whole_solutions.specs.KnownInside.{IsSettledSet, KnownInsideIsAssured, KnownInsideIsSolved, KnownInsideShows, UnknownOutputsAreUnsettled}

pub known_inside_shows : KnownInsideShows
known_inside_shows cell c at exposed drive phase setting s ranges all_ranges placed unsettled is gates n v (fixed f) plain =
    absurd (plain_not_given cell n f.0 plain f.1 (fixed_given phase f.0.kind v f.2))
known_inside_shows cell c at exposed drive phase setting s ranges all_ranges placed unsettled is gates n v (settled inside reading held driven shut ins own known shows) plain =
    let set : IsSettledSet cell phase inside reading = record { shut = shut; reads = own; gates = known } in
    set_responds cell c at exposed drive phase setting.held s ranges all_ranges placed (supply_bit c phase setting.inputs s.reading is.reading) inside reading held driven set.shut set.reads (λ m i e. unsettled inside reading m set i e)
    (λ m l d i a j. sym (gates d (reading d.gate.0) a (known m l d i a j))) n (Shows v) ins shows

module _ (cell c : Circuit) (at : ℕ → ℕ) (exposed : ℕ → Bool) (drive : ℕ → ℕ) (phase : Phase) (observed : ℕ → Bool) (setting : Setting) (a : ℕ → Option Bool)
    (all_ranges : HasRanges c) (placed : IsPlaced cell c at exposed drive)
    (solves : IsSolution c phase observed setting a)
    (clocks : (n : ℕ) (net : FlatNet) (clock : ClockRef) → At cell.nets n net → net.kind ≡ Clock clock → observed (at n) ≡ true → a (at n) ≡ Some (clock_bit phase clock)) where
  -- a supply or a clock port of the cell has its bit
  pub fixed_has : (n : ℕ) (v : Bool) (net : FlatNet) → At cell.nets n net → HasFixedBit phase net.kind v → observed (at n) ≡ true → a (at n) ≡ Some v
  fixed_has n v net e h seen = by_kind net.kind refl h
    where
      supply : (value : Bool) → net.kind ≡ Supply value → v ≡ value → (s : State) → IsState c phase setting.inputs s → IsResponse (network_of c true setting.held s) (at n) (Shows v)
      supply value k same s is =
          let up = placed.supplies n value (net, e, k) in
          subst (λ (b : Bool). IsResponse (network_of c true setting.held s) (at n) (Shows b)) (supply_bit c phase setting.inputs s.reading is.reading (at n) value up ∙ sym same)
          (given_shows c all_ranges placed.pins_plain true setting.held s (at n) (up.0, up.1, supply_given c (at n) value up))

      by_kind : (kind : NetKind) → net.kind ≡ kind → HasFixedBit phase kind v → a (at n) ≡ Some v
      by_kind (Supply value) k same = (solves (at n) v seen).1 (λ s is agrees. supply value k same s is)
      by_kind (Clock clock) k same = clocks n net clock e k seen ∙ ap (λ (b : Bool). Some b) (sym same)
      by_kind Input k same = absurd same
      by_kind Plain k same = absurd same

  gate_seen : ((d : Device) → Among (devices_of true c) d → observed d.gate.0 ≡ true) → (d : Device) → Among (devices_of true cell) d → observed (at d.gate.0) ≡ true
  gate_seen gates d m =
      let listed = device_among true cell d m in
      let e = placed.there d listed.0 in
      subst (λ (x : ℕ). observed x ≡ true) e.2.gate (gates e.0 (among_devices true c e.0 e.1 (image_in true at d e.0 e.2 ∙ listed.1)))

pub known_inside_is_solved : KnownInsideIsSolved
known_inside_is_solved cell c at exposed drive phase observed setting a ranges all_ranges placed unsettled gates solves clocks n v (fixed f) seen =
    fixed_has cell c at exposed drive phase observed setting a all_ranges placed solves clocks n v f.0 f.1 f.2 seen
known_inside_is_solved cell c at exposed drive phase observed setting a ranges all_ranges placed unsettled gates solves clocks n v (settled inside reading held driven shut ins own known shows) seen =
    let set : IsSettledSet cell phase inside reading = record { shut = shut; reads = own; gates = known } in
    (solves (at n) v seen).1 (λ s is agrees.
    set_responds cell c at exposed drive phase setting.held s ranges all_ranges placed (supply_bit c phase setting.inputs s.reading is.reading) inside reading held driven set.shut set.reads (λ m i e. unsettled inside reading m set i e)
    (λ m l d i k j.
    let gate = gate_seen cell c at exposed drive phase observed setting a all_ranges placed solves clocks gates d k in
    sym (agrees (at d.gate.0) (reading d.gate.0) gate
    (known_inside_is_solved cell c at exposed drive phase observed setting a ranges all_ranges placed unsettled gates solves clocks d.gate.0 (reading d.gate.0) (known m l d i k j) gate)))
    n (Shows v) ins shows)

-- ---- exposed nets

-- a cell without holds and whole instances stands in itself, and no net of it is exposed there
in_itself : (cell : Circuit) → cell.holds ≡ [] → cell.wholes ≡ [] → ((d : Device) (n : ℕ) → Among cell.devices d → Touches d n → IsPlain cell n ⊎ ((value : Bool) × IsSupply cell n value))
    → IsPlaced cell cell (λ n. n) (λ n. false) (λ n. 0)
in_itself cell no_holds no_wholes channels = record {
  source = refl;
  no_holds = no_holds;
  no_wholes = no_wholes;
  channels = channels;
  supplies = λ n value supply. supply;
  plain = λ n plain. plain;
  exposed_plain = λ n e. absurd (false≢true e);
  there = λ d m. (d, m, image d);
  others = λ e n m plain t. inl (e, m, image e);
  unheld = λ n plain h. at_none h.1.0 h.0 (subst (λ (hs : List Hold). At hs h.1.0 h.0) no_holds h.1.1);
  pins = λ out n m. absurd (no_pin out m);
  pins_plain = λ out m. absurd (no_pin out m);
  apart = λ m n one two e. inl e;
}
  where
    image : (d : Device) → IsImage (λ n. n) d d
    image d = record { kind = refl; gate = refl; left = refl; right = refl; level = refl; keeper = refl }

    no_pin : (out : OutputPin) → Among (output_pins cell) out → ⊥
    no_pin out m = at_none m.0 out (subst (λ (ws : List Whole). At (output_pins (record cell { wholes = ws })) m.0 out) no_wholes m.1)

pub unknown_outputs_are_unsettled : UnknownOutputsAreUnsettled
unknown_outputs_are_unsettled cell phase setting exposed s ranges no_holds no_wholes channels is gates unknown shows inside reading n set ins e =
    let q = some_response (network_of cell true (λ place. false) (record { reading = reading; driven = λ place. false })) (length cell.nets) (source_level cell) (network_finite cell true (λ place. false) (record { reading = reading; driven = λ place. false }) ranges) n in
    by_response q.0 q.1
  where
    there : (r : Response) → IsResponse (network_of cell true (λ place. false) (record { reading = reading; driven = λ place. false })) n r → IsResponse (network_of cell true setting.held s) n r
    there r h =
        set_responds cell cell (λ m. m) (λ m. false) (λ m. 0) phase setting.held s ranges ranges (in_itself cell no_holds no_wholes channels)
        (supply_bit cell phase setting.inputs s.reading is.reading) inside reading (λ place. false) (λ place. false) set.shut set.reads (λ m i f. false≢true f)
        (λ m l d i a j. sym (gates d (reading d.gate.0) a (set.gates m l d i a j))) n r ins h

    shows_no_fight : (v : Bool) → IsResponse (network_of cell true setting.held s) n (Shows v) → IsResponse (network_of cell true setting.held s) n Fight → ⊥
    shows_no_fight true a b = a.1 b.1
    shows_no_fight false a b = a.1 b.0

    by_response : (r : Response) → IsResponse (network_of cell true (λ place. false) (record { reading = reading; driven = λ place. false })) n r → ⊥
    by_response Fight h = let v = shows n e in shows_no_fight v.0 v.1 (there Fight h)
    by_response Float h = let v = shows n e in shows_no_float (network_of cell true setting.held s) n v.0 v.1 (there Float h)
    by_response (Shows u) h = unknown n e u (settled inside reading (λ place. false) (λ place. false) set.shut ins set.reads set.gates h)

pub known_inside_is_assured : KnownInsideIsAssured
known_inside_is_assured cell c whole_circuit at moved compared exposed drive phase setting s r ranges placed unsettled is gates n v known plain bit =
    inr (n, refl, plain, subst (λ (b : Bool). IsResponse (alone cell true at s) n (Shows b)) (sym bit) (alone_shows n v known plain), beside_none n v known plain)
  where
    supplies : (m : ℕ) (value : Bool) → IsSupply cell m value → s.reading (at m) ≡ value
    supplies m value supply = supply_bit c phase setting.inputs s.reading is.reading (at m) value (placed.supplies m value supply)

    own : IsPlaced cell cell (λ m. m) (λ m. false) (λ m. 0)
    own = in_itself cell placed.no_holds placed.no_wholes placed.channels

    alone_shows : (m : ℕ) (u : Bool) → IsKnown cell phase m u → IsPlain cell m → IsResponse (alone cell true at s) m (Shows u)
    alone_shows m u (fixed f) p = absurd (plain_not_given cell m f.0 p f.1 (fixed_given phase f.0.kind u f.2))
    alone_shows m u (settled inside reading held driven shut ins reads known_gates shows) p =
        set_responds cell cell (λ x. x) (λ x. false) (λ x. 0) phase (λ place. false) (record { reading = λ x. s.reading (at x); driven = λ place. false }) ranges ranges own
        supplies inside reading held driven shut reads (λ x i f. false≢true f)
        (λ x l d i a j. sym (gates d (reading d.gate.0) a (known_gates x l d i a j))) m (Shows u) ins shows

    beside_none : (m : ℕ) (u : Bool) → IsKnown cell phase m u → IsPlain cell m
        → FightsBeside (alone cell true at s) (network_of whole_circuit true setting.held r) (λ x. moved (at x)) (is_plain_at cell) exposed m → ⊥
    beside_none m u (fixed f) p beside = plain_not_given cell m f.0 p f.1 (fixed_given phase f.0.kind u f.2)
    beside_none m u (settled inside reading held driven shut ins reads known_gates shows) p beside =
        let set : IsSettledSet cell phase inside reading = record { shut = shut; reads = reads; gates = known_gates } in
        unsettled inside reading beside.0 set
        (joined_in cell cell (λ x. x) (λ x. false) (λ x. 0) phase (λ place. false) (record { reading = λ x. s.reading (at x); driven = λ place. false }) ranges ranges own
        supplies inside reading held driven set.shut set.reads (λ x i f. false≢true f) (λ x l d i a j. sym (gates d (reading d.gate.0) a (known_gates x l d i a j))) beside.0 m beside.2 ins)
        beside.1
