-- A net responds in one way where the observed nets of lower rank have bits; so a solution without fights and floats is defined.
use Rattle.std.proofs.Common.{◌≡◌, ℕ, zero, suc, ◌<◌, ◌⊎◌, Bool, true, false, cond, Option, Some, length, arith, ap, subst, sym, refl, ◌∙◌, inl, inr}
use Rattle.std.specs.Prelude.{unwrap_or}
use Rattle.std.proofs.lemmas.Bool.{cases_Bool, cond-false, cond-true}
use Rattle.std.proofs.lemmas.Option.{same_Some}
use Rattle.channel_parts.specs.OneSolution.{AreDetermined, AreObserved, HasDrives, HasKnownBits, SameBelow}
use Rattle.channel_parts.proofs.DriveLaws.{determined_drives, same_bits}
use Rattle.known_nets.proofs.KnownShow.{given_shows}
use Rattle.known_nets.proofs.NetKinds.{given_or_plain}
use Rattle.known_nets.specs.Wired.{AreOutputsPlain}
use Rattle.vrt_model.proofs.Bounded.{response_inside}
use Rattle.vrt_model.proofs.Decidable.{some_response}
use Rattle.vrt_model.proofs.Filtered.{device_among}
use Rattle.vrt_model.proofs.GatesGiven.{IsGiven, base_reading, given_at_is, given_once, plain_any}
use Rattle.vrt_model.proofs.Laws.{turned}
use Rattle.vrt_model.proofs.Lists.{at_map}
use Rattle.vrt_model.proofs.Members.{all_among}
use Rattle.vrt_model.proofs.Networks.{given_source, network_finite, network_levels}
use Rattle.vrt_model.proofs.Ranked.{plain_not_given}
use Rattle.vrt_model.specs.Circuits.{IsDevice}
use Rattle.vrt_model.specs.Constraints.{given_bit}
use Rattle.vrt_model.specs.Known.{HasGateArc, IsChannel, IsPlain, IsRanking, IsTogether, IsUnknown, itself, onward}
use Rattle.vrt_model.specs.Levels.{source_level}
use Rattle.vrt_model.specs.Lists.{At}
use Rattle.vrt_model.specs.Networks.{Covers, HasRanges}
use Rattle.vrt_model.specs.Path.{IsOn, IsOutputRoot, Joins, Network, Root}
use Rattle.vrt_model.specs.Reading.{HasGivenBit, IsReading, conducts_at, is_given, is_given_at}
use Rattle.vrt_model.specs.Response.{Fight, Float, IsResponse, Response, Shows}
use Rattle.vrt_model.specs.Solution.{Agrees, AlwaysResponds, IsSolution}
use Rattle.vrt_model.specs.State.{IsState, OutputPin, Setting, State, network_of, output_pins}
use Rattle.vrt_model.specs.declared.circuit.Circuit.{Circuit}
use Rattle.vrt_model.specs.declared.circuit.Device.{Device}
use Rattle.vrt_model.specs.declared.rules.Phase.{Phase}
use Rattle.vrt_model.specs.declared.whole.WholePin.{WholePin}
use Rattle.whole_ranks.proofs.KnownLaws.{known_nets_are_solved}
use Rattle.whole_ranks.specs.Defined.{HasBitAt, SettledNetsRespond, SolutionsAreDefined}

module _ (c : Circuit) (phase : Phase) (observed : ℕ → Bool) (setting : Setting) (rank : ℕ → ℕ) (a : ℕ → Option Bool) (ranges : HasRanges c) (seen : AreObserved c observed)
    (determined : AreDetermined c phase observed) (ranks : IsRanking c phase rank) (solves : IsSolution c phase observed setting a) where
  abbrev view : State → Network
  view s = network_of c true setting.held s

  abbrev IsMine : State → Type 0
  IsMine s = IsState c phase setting.inputs s × Agrees observed a s.reading

  plain_outputs : AreOutputsPlain c
  plain_outputs w pin m p = (determined w m).plain pin p

  drives : (driven : (ℕ → Bool) → ℕ → Bool) × HasDrives c phase setting.inputs observed rank driven
  drives = determined_drives c phase setting.inputs observed rank determined ranks

  -- ---- given nets

  same_given : (r q : ℕ → Bool) → IsReading c phase setting.inputs r → IsReading c phase setting.inputs q → (n : ℕ) → IsGiven c n → r n ≡ q n
  same_given r q is it n g = given_once phase setting.inputs g.0.kind n (r n) (q n) g.2 (is n g.0 g.1) (it n g.0 g.1)

  abbrev given : ℕ → Bool
  given = given_bit c phase setting.inputs

  -- a solution has the bits of given nets
  given_solved : (n : ℕ) → observed n ≡ true → IsGiven c n → a n ≡ Some (given n)
  given_solved n o g =
      (solves n (given n) o).1 (λ s is agrees.
      subst (λ (v : Bool). IsResponse (view s) n (Shows v)) (same_given s.reading given is.reading (base_reading c phase setting.inputs) n g)
      (given_shows c phase (record { ranges = ranges; outputs = plain_outputs }) setting.held s n g))

  -- ---- a state with the bits of the solution

  filled : ℕ → Bool
  filled n = cond (is_given_at c n) (given n) (unwrap_or (a n) false)

  filled_reads : IsReading c phase setting.inputs filled
  unfolding filled
  filled_reads n net e =
      elim (cases_Bool (is_given net.kind)) [
        | inl t ↦ subst (HasGivenBit phase setting.inputs net.kind n) (sym (cond-true (is_given_at c n) (given n) (unwrap_or (a n) false) (given_at_is c n net e ∙ t))) (base_reading c phase setting.inputs n net e)
        | inr f ↦ plain_any phase setting.inputs net.kind n (cond (is_given_at c n) (given n) (unwrap_or (a n) false)) f
      ]

  filled_agrees : Agrees observed a filled
  unfolding filled
  filled_agrees n v o e =
      elim (given_or_plain c n (seen.nets n o)) [
        | inl g ↦ cond-true (is_given_at c n) (given n) (unwrap_or (a n) false) (given_at_is c n g.0 g.1 ∙ g.2) ∙ same_Some (given n) v (sym (given_solved n o g) ∙ e)
        | inr p ↦
            cond-false (is_given_at c n) (given n) (unwrap_or (a n) false) (given_at_is c n p.0 p.1 ∙ ap is_given p.2) ∙ ap (λ (x : Option Bool). unwrap_or x false) e
      ]

  state : State
  state = record { reading = filled; driven = drives.0 filled }

  state_is : IsMine state
  unfolding state
  state_is = (record { reading = filled_reads; driven = λ at out e. drives.1.gives filled filled_reads at out e }, filled_agrees)

  -- ---- a net above nets that have bits

  known_bits : (s : State) → IsMine s → HasKnownBits c phase setting.inputs observed s.reading
  known_bits s mine = (mine.0.reading, λ m v o k. mine.1 m v o (known_nets_are_solved c phase observed setting a ranges plain_outputs seen.gates solves m v k o))

  channel : (s : State) → IsMine s → (d : Device) → IsOn (view s) d → IsChannel c phase true d
  channel s mine d on = (on.0, λ v k. subst (λ (b : Bool). conducts_at d.kind b ≡ true) ((known_bits s mine).1 d.gate.0 v (seen.gates d on.0) k) on.1)

  module _ (n : ℕ) (below : (m : ℕ) → observed m ≡ true → rank m < rank n → HasBitAt a m) where
    same_below : (s t : State) → IsMine s → IsMine t → SameBelow observed rank n s.reading t.reading
    same_below s t one two m o lt = let bit = below m o lt in one.1 m bit.0 o bit.1 ∙ sym (two.1 m bit.0 o bit.1)

    gate_same : (s t : State) → IsMine s → IsMine t → (l m : ℕ) (d : Device) → IsOn (view s) d → Joins d l m → IsTogether c phase true n m → s.reading d.gate.0 ≡ t.reading d.gate.0
    gate_same s t one two l m d on j i =
        same_bits (s.reading d.gate.0) (t.reading d.gate.0) (λ apart.
        let unknown : IsUnknown c phase d.gate.0 = λ v k. apart ((known_bits s one).1 d.gate.0 v (seen.gates d on.0) k ∙ sym ((known_bits t two).1 d.gate.0 v (seen.gates d on.0) k)) in
        let arc : HasGateArc c phase d.gate.0 n = (d, (m, l, i, channel s one d on, turned d l m j), refl, unknown) in
        apart (same_below s t one two d.gate.0 (seen.gates d on.0) (ranks.above d.gate.0 n (inl (inl arc, unknown)))))

    output_same : (s t : State) → IsMine s → IsMine t → (at : ℕ) (out : OutputPin) → At (output_pins c) at out → IsTogether c phase true n out.pin.net.0 → s.driven at ≡ t.driven at
    output_same s t one two at out e i =
        drives.1.one s one.0 at out e
        ∙ drives.1.below n s.reading t.reading (known_bits s one) (known_bits t two) (same_below s t one two) at out e i
        ∙ sym (drives.1.one t two.0 at out e)

    output_there : (s t : State) → IsMine s → IsMine t → (root : Root) → IsOutputRoot (view s) root → IsTogether c phase true n root.net ⊎ (IsGiven c root.net) → IsOutputRoot (view t) root
    output_there s t one two root o place =
        let out = at_map (λ (x : OutputPin). x.pin) (output_pins c) o.0 o.1 o.2 in
        let net : root.net ≡ out.0.pin.net.0 = o.3 ∙ sym (ap (λ (p : WholePin). p.net.0) out.2) in
        elim place [
          | inl i ↦ (o.0, o.1, o.2, o.3, o.4, o.5 ∙ output_same s t one two o.0 out.0 out.1 (subst (IsTogether c phase true n) net i))
          | inr g ↦ absurd (plain_not_given c root.net (subst (IsPlain c) (sym net) (drives.1.plain o.0 out.0 out.1)) g)
        ]

    covers : (s t : State) → IsMine s → IsMine t → Covers (view s) (view t) (IsTogether c phase true n) (IsGiven c)
    covers s t one two = record {
      source = refl;
      roots = λ root r place. elim r [
        | inl g ↦ inl (g.0, g.1, g.2, g.3, g.4 ∙ same_given s.reading t.reading one.0.reading two.0.reading root.net (g.0, g.1, g.2))
        | inr other ↦ elim other [
          | inl h ↦ inr (inl h)
          | inr o ↦ inr (inr (output_there s t one two root o (elim place [ inl i ↦ inl i | inr g ↦ inr g.0 ])))
        ]
      ];
      devices = λ l m d on j i. (on.0, subst (λ (b : Bool). conducts_at d.kind b ≡ true) (gate_same s t one two l m d on j i) on.1);
      bounded = λ l m d on j i.
          let fits = all_among (IsDevice c) c.devices d ranges.devices (device_among true c d on.0).0 in
          let within : l < length c.nets = elim j [ inl e ↦ subst (λ (x : ℕ). x < length c.nets) e.0 fits.left | inr e ↦ subst (λ (x : ℕ). x < length c.nets) e.1 fits.right ] in
          elim (given_or_plain c l within) [
            | inl g ↦ inr g
            | inr p ↦ inl (onward d i (channel s one d on) (turned d l m j) p)
          ];
      edge = λ m g. given_source c true setting.held s ranges m g.0 g.1 g.2;
    }

    pub responds : IsPlain c n → (r : Response) × AlwaysResponds c phase observed setting a true n r
    responds p =
        let here = some_response (view state) (length c.nets) (source_level c) (network_finite c true setting.held state ranges) n in (
          here.0,
          λ t it agrees.
              response_inside (view state) (view t) (IsTogether c phase true n) (IsGiven c) (network_levels c true setting.held state ranges) (network_levels c true setting.held t ranges)
              (covers state t state_is (it, agrees)) (covers t state (it, agrees) state_is) n here.0 (itself p) here.1,
        )

  -- ---- all observed nets

  module _ (no_fight : (n : ℕ) → IsPlain c n → ¬ AlwaysResponds c phase observed setting a true n Fight)
      (no_float : (n : ℕ) → observed n ≡ true → ¬ AlwaysResponds c phase observed setting a true n Float) where
    by_response : (n : ℕ) → observed n ≡ true → IsPlain c n → (r : Response) → AlwaysResponds c phase observed setting a true n r → HasBitAt a n
    by_response n o p Fight always = absurd (no_fight n p always)
    by_response n o p Float always = absurd (no_float n o always)
    by_response n o p (Shows v) always = (v, (solves n v o).1 always)

    pub has_bits : (k n : ℕ) → rank n < k → observed n ≡ true → HasBitAt a n
    has_bits zero n lt o = absurd (omega (arith, lt))
    has_bits (suc k) n lt o =
        elim (given_or_plain c n (seen.nets n o)) [
          | inl g ↦ (given n, given_solved n o g)
          | inr p ↦ (let r = responds n (λ m om less. has_bits k m (omega (arith, lt, less)) om) p in by_response n o p r.0 r.1)
        ]

pub settled_nets_respond : SettledNetsRespond
settled_nets_respond c phase observed setting rank a ranges seen determined ranks solves n p below = responds c phase observed setting rank a ranges seen determined ranks solves n below p

pub solutions_are_defined : SolutionsAreDefined
solutions_are_defined c phase observed setting rank a ranges seen determined ranks solves no_fight no_float n o =
    has_bits c phase observed setting rank a ranges seen determined ranks solves no_fight no_float (suc (rank n)) n (omega arith) o
