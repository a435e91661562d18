-- The networks of a well-formed circuit: their nets are in range, given nets have the greatest level, and so each net
-- has one strength and one response.
use Rattle.std.proofs.Common.{◌≡◌, ℕ, ◌≤◌, ◌<◌, Bool, true, List, [], length, map, arith, subst, sym, refl, ◌∙◌, ap, inl, inr}
use Rattle.std.specs.Prelude.{All}
use Rattle.std.proofs.lemmas.Option.{slice_get_within}
use Rattle.vrt_model.specs.Networks.{IsFinite, HasLevels, IsSource, HasBound, HasRanges}
use Rattle.vrt_model.proofs.Filtered.{device_among}
use Rattle.vrt_model.proofs.Members.{all_among, among_flat_map, among_map}
use Rattle.vrt_model.specs.Circuits.{IsDevice, IsDrive, IsFlat, IsHold, IsNet, IsWhole}
use Rattle.vrt_model.proofs.Scales.{least_below}
use Rattle.vrt_model.specs.Levels.{source_level}
use Rattle.vrt_model.specs.Lists.{At, Among}
use Rattle.vrt_model.specs.Path.{IsOn, IsRoot, Root, level_of_drive}
use Rattle.vrt_model.specs.Reading.{is_given}
use Rattle.vrt_model.specs.State.{OutputPin, State, network_of, output_pins}
use Rattle.vrt_model.specs.declared.circuit.Circuit.{Circuit}
use Rattle.vrt_model.specs.declared.circuit.Device.{Device}
use Rattle.vrt_model.specs.declared.circuit.FlatNet.{FlatNet}
use Rattle.vrt_model.specs.declared.whole.Drive.{Drive}
use Rattle.vrt_model.specs.declared.whole.Drive.TheVariants.{Soft, Level}
use Rattle.vrt_model.specs.declared.whole.Whole.{Whole}
use Rattle.vrt_model.specs.declared.whole.WholePin.{WholePin}

-- a circuit without whole instances has its numbers in range
pub flat_ranges : (c : Circuit) → IsFlat c → HasRanges c
flat_ranges c flat = record {
  devices = flat.devices;
  holds = flat.holds;
  wholes = subst (All (IsWhole c)) (sym flat.wholes) none;
}
  where
    none : All (IsWhole c) []
    none k d lt = absurd (omega (arith, lt))

-- and its network no output pins
pub flat_outputs : (c : Circuit) (bare : Bool) (held : ℕ → Bool) (s : State) → c.wholes ≡ [] → (network_of c bare held s).outputs ≡ []
flat_outputs c bare held s flat = ap (λ (ws : List Whole). map (λ (out : OutputPin). out.pin) (output_pins (record c { wholes = ws }))) flat

drive_most : (c : Circuit) (drive : Drive) → IsDrive c drive → level_of_drive (source_level c) drive ≤ source_level c
drive_most c Soft fits = omega arith
drive_most c (Level level) fits = let le = fits.1 in omega (arith, le)

module _ (c : Circuit) (bare : Bool) (held : ℕ → Bool) (s : State) (good : HasRanges c) where
  device_is : (d : Device) → IsOn (network_of c bare held s) d → IsDevice c d
  device_is d on = all_among (IsDevice c) c.devices d good.devices (device_among bare c d on.0).0

  pin_is : (pin : WholePin) → Among (network_of c bare held s).outputs pin → IsNet c pin.net × (level_of_drive (source_level c) pin.drive ≤ source_level c)
  pin_is pin m =
      let out = among_map (λ (o : OutputPin). o.pin) (output_pins c) pin m in
      let from = among_flat_map (λ (w : Whole). map (λ (p : WholePin). let one : OutputPin = record { whole = w; pin = p } in one) w.outputs) c.wholes out.0 out.1 in
      let whole : Whole = from.0 in
      let here = among_map (λ (p : WholePin). let one : OutputPin = record { whole = whole; pin = p } in one) whole.outputs out.0 from.2 in
      let same : here.0 ≡ pin = ap (λ (o : OutputPin). o.pin) here.2 ∙ out.2 in
      let is = all_among (IsWhole c) c.wholes whole good.wholes from.1 in
      let fits = all_among (λ (p : WholePin). IsNet c p.net × (p.signal < length whole.model.signals) × IsDrive c p.drive) whole.outputs here.0 is.outputs here.1 in
      subst (λ (p : WholePin). IsNet c p.net × (level_of_drive (source_level c) p.drive ≤ source_level c)) same (fits.0, drive_most c here.0.drive fits.2)

  root_is : (root : Root) → IsRoot (network_of c bare held s) root → (root.net < length c.nets) × (root.level ≤ source_level c)
  root_is root r =
      elim r [
        | inl g ↦ (slice_get_within c.nets root.net g.0 g.1, (let is : root.level ≡ source_level c = g.3 in omega (arith, is)))
        | inr other ↦ elim other [
          | inl h ↦
              let fits = all_among (IsHold c) c.holds h.1 good.holds (h.0, h.2) in
              (subst (λ (n : ℕ). n < length c.nets) (sym h.3) fits.net, (let le = fits.size.1 in let is = h.4 in let below = least_below c in omega (arith, le, is, below)))
          | inr o ↦
              let fits = pin_is o.1 (o.0, o.2) in
              (subst (λ (n : ℕ). n < length c.nets) (sym o.3) fits.0, subst (λ (l : ℕ). l ≤ source_level c) (sym o.4) fits.1)
        ]
      ]

  pub network_bound : HasBound (network_of c bare held s) (length c.nets)
  network_bound = record {
    roots = λ root r. (root_is root r).0;
    hops = λ m n d on j. let is = device_is d on in elim j [ inl q ↦ subst (λ (x : ℕ). x < length c.nets) q.1 is.right | inr q ↦ subst (λ (x : ℕ). x < length c.nets) q.0 is.left ];
  }

  pub network_finite : IsFinite (network_of c bare held s) (length c.nets) (source_level c)
  network_finite = record { bounded = network_bound; most = λ root r. (root_is root r).1 }

  pub network_levels : HasLevels (network_of c bare held s)
  network_levels = record {
    roots = λ root r. (root_is root r).1;
    devices = λ d on. let le = (device_is d on).level.1 in omega (arith, le);
  }

  -- a net with a given value is a root of the source level
  pub given_source : (n : ℕ) (net : FlatNet) → At c.nets n net → is_given net.kind ≡ true → IsSource (network_of c bare held s) n
  given_source n net e g = (record { net = n; level = source_level c; value = s.reading n }, inl (net, e, g, refl, refl), refl, refl)
