-- The functions at the gates of a part, device by device.
use Rattle.std.proofs.Common.{◌≡◌, ℕ, ◌+◌, ◌<◌, ◌≤◌, ◌⊎◌, length, arith, ap, refl, sym, subst, ◌∙◌, inl, inr}
use Rattle.std.specs.Prelude.{slice_get, slice_set}
use Rattle.std.proofs.lemmas.Bool.{cases_eq, cases_lt}
use Rattle.std.proofs.lemmas.Option.{same_Some, slice_get_within}
use Rattle.node_pool.specs.declared.region.Span.{Span}
use Rattle.bdd_core.specs.Store.{Diagrams}
use Rattle.bdd_core.specs.Words.{word_at}
use Rattle.channel_parts.specs.declared.part.Part.{Part}
use Rattle.path_fixpoint.specs.Parts.{IsGiven, part_devices}
use Rattle.part_functions.specs.Inner.{HasHandle, IsList, handle_at}
use Rattle.part_functions.specs.Small.{IsDeviceAt, ReadsFew}
use Rattle.part_functions.specs.declared.few.PartFunctions.{PartFunctions}
use Rattle.bdd_core.proofs.Frames.{word_apart, word_here}
use Rattle.part_functions.specs.Replaced.{IsWritten, gate_handle}
use Rattle.part_functions.specs.declared.replaced.GateHandles.{GateHandles}
use Rattle.vrt_model.proofs.Lists.{among_filter_map}
use Rattle.vrt_model.proofs.Members.{all_among}
use Rattle.vrt_model.specs.Circuits.{IsDevice}
use Rattle.vrt_model.specs.Networks.{HasRanges}
use Rattle.vrt_model.specs.Lists.{Among}
use Rattle.vrt_model.specs.declared.circuit.Circuit.{Circuit}
use Rattle.vrt_model.specs.declared.circuit.Device.{Device}
use Rattle.vrt_model.specs.declared.ids.Dev.{Dev}

-- one device stands at a place
pub device_once : (c : Circuit) (part : Part) (i : ℕ) (d e : Device) → IsDeviceAt c part i d → IsDeviceAt c part i e → d ≡ e
device_once c part i d e x y =
    let same : x.0 ≡ y.0 = same_Some x.0 y.0 (sym x.1 ∙ y.1) in
    same_Some d e (sym x.2 ∙ ap (λ (dev : Dev). slice_get c.devices dev.0) same ∙ y.2)

-- a device of a part stands at a place of it
pub device_place : (c : Circuit) (part : Part) (d : Device) → Among (part_devices c part) d → (i : ℕ) × (i < length part.devices) × IsDeviceAt c part i d
device_place c part d m =
    let r = among_filter_map (λ (x : Dev). slice_get c.devices x.0) part.devices d m in
    (r.1.0, slice_get_within part.devices r.1.0 r.0 r.1.1, (r.0, r.1.1, r.2))

-- its nets are nets of the circuit
pub device_in : (c : Circuit) (part : Part) (i : ℕ) (d : Device) → HasRanges c → IsDeviceAt c part i d → IsDevice c d
device_in c part i d ranges at = all_among (IsDevice c) c.devices d ranges.devices (at.0.0, at.2)

-- where an end of a device is given, its root is a constant
abbrev pub HasFixedEnds : Circuit → Span → Diagrams → Device → Type 0
HasFixedEnds c roots d dev = (IsGiven c dev.left.0 → word_at d roots dev.left.0 < 2) × (IsGiven c dev.right.0 → word_at d roots dev.right.0 < 2)

-- so much is known of the devices before a place
pub record HasGathered (f : PartFunctions) (c : Circuit) (part : Part) (gates roots : Span) (d : Diagrams) (upto : ℕ) : Type 0 where
  pub list : IsList f
  pub no_more : f.count ≤ upto
  pub at_gates : (i : ℕ) (dev : Device) → i < upto → IsDeviceAt c part i dev → HasHandle f (word_at d gates dev.gate.0)
  pub ends : (i : ℕ) (dev : Device) → i < upto → IsDeviceAt c part i dev → HasFixedEnds c roots d dev
  pub from : (x : ℕ) → (handle_at f x < 2) ⊎ ((n : ℕ) × (n < gates.len) × (handle_at f x ≡ word_at d gates n))

module _ (c : Circuit) (part : Part) (gates roots : Span) (d : Diagrams) where
  pub gathered_none : (f : PartFunctions) → f.count ≡ 0 → IsList f → HasGathered f c part gates roots d 0
  gathered_none f none list = record {
    list = list;
    no_more = omega (arith, none);
    at_gates = λ i dev lt at. absurd (omega (arith, lt));
    ends = λ i dev lt at. absurd (omega (arith, lt));
    from = λ x. inl (let zero = list.rest x (omega (arith, none)) in omega (arith, zero));
  }

  pub gathered_more : (f more : PartFunctions) (i : ℕ) (dev : Device) → HasGathered f c part gates roots d i → IsDeviceAt c part i dev → dev.gate.0 < gates.len → HasFixedEnds c roots d dev
      → IsList more → more.count ≤ f.count + 1 → ((h : ℕ) → HasHandle f h → HasHandle more h) → HasHandle more (word_at d gates dev.gate.0)
      → ((x : ℕ) → (handle_at more x ≡ handle_at f x) ⊎ (handle_at more x ≡ word_at d gates dev.gate.0)) → HasGathered more c part gates roots d (i + 1)
  gathered_more f more i dev before here inside ends list count kept has only = record {
    list = list;
    no_more = (let before = before.no_more in omega (arith, before, count));
    at_gates = λ j other lt at. elim (cases_lt j i) [
      | inl low ↦ kept (word_at d gates other.gate.0) (before.at_gates j other low at)
      | inr high ↦
          let last : j ≡ i = omega (arith, lt, high) in
          let same : dev ≡ other = device_once c part i dev other here (subst (λ (k : ℕ). IsDeviceAt c part k other) last at) in
          subst (λ (e : Device). HasHandle more (word_at d gates e.gate.0)) same has
    ];
    ends = λ j other lt at. elim (cases_lt j i) [
      | inl low ↦ before.ends j other low at
      | inr high ↦
          let last : j ≡ i = omega (arith, lt, high) in
          let same : dev ≡ other = device_once c part i dev other here (subst (λ (k : ℕ). IsDeviceAt c part k other) last at) in
          subst (λ (e : Device). HasFixedEnds c roots d e) same ends
    ];
    from = λ x. elim (only x) [
      | inl same ↦ elim (before.from x) [
        | inl low ↦ inl (omega (arith, low, same))
        | inr at ↦ inr (at.0, at.1, same ∙ at.2)
      ]
      | inr new ↦ inr (dev.gate.0, inside, new)
    ];
  }

  -- behind all devices
  pub gathered_all : (f : PartFunctions) (upto : ℕ) → length part.devices ≤ upto → upto ≤ length part.devices → HasGathered f c part gates roots d upto → ReadsFew f c part gates roots d
  gathered_all f upto all end g = record {
    list = g.list;
    no_more = (let count = g.no_more in omega (arith, count, end));
    at_gates = λ dev m. (let at = device_place c part dev m in let low = at.1 in g.at_gates at.0 dev (omega (arith, low, all)) at.2);
    ends = λ n e.
        let at = device_place c part e.0 e.1 in
        let low = at.1 in
        let fixed = g.ends at.0 e.0 (omega (arith, low, all)) at.2 in
        elim e.2 [
          | inl left ↦ subst (λ (k : ℕ). word_at d roots k < 2) left (fixed.0 (subst (IsGiven c) (sym left) e.3))
          | inr right ↦ subst (λ (k : ℕ). word_at d roots k < 2) right (fixed.1 (subst (IsGiven c) (sym right) e.3))
        ];
    from = g.from;
  }

-- ---- gates that are written, device by device

pub written_none : (c : Circuit) (part : Part) (gates : Span) (g : GateHandles) (d : Diagrams) (n : ℕ) → IsWritten c part gates g 0 d d n
written_none c part gates g d n = inr (λ i dev lt at. absurd (omega (arith, lt)), refl)

module _ (c : Circuit) (part : Part) (gates : Span) (g : GateHandles) (first old new : Diagrams) (i : ℕ) (dev : Device) (here : IsDeviceAt c part i dev)
    (is : new ≡ record old { words = slice_set old.words (gates.start + dev.gate.0) (gate_handle g i) }) (inside : dev.gate.0 < gates.len) (span : gates.start + gates.len ≤ length old.words) where
  pub written_more : (n : ℕ) → IsWritten c part gates g i first old n → IsWritten c part gates g (i + 1) first new n
  written_more n before = elim (cases_eq n dev.gate.0) [
    | inl e ↦
        inl (i, dev, omega arith, here, sym e, ap (λ (k : ℕ). word_at new gates k) e ∙ word_here gates old new dev.gate.0 (gate_handle g i) is inside span)
    | inr ne ↦
        let still : word_at new gates n ≡ word_at old gates n = word_apart gates old new dev.gate.0 (gate_handle g i) is inside span n ne in
        elim before [
          | inl w ↦ inl (w.0, w.1, (let lt = w.2 in omega (arith, lt)), w.3, w.4, still ∙ w.5)
          | inr w ↦ inr (
            λ j other lt at. elim (cases_lt j i) [
              | inl low ↦ w.0 j other low at
              | inr high ↦
                  let last : j ≡ i = omega (arith, lt, high) in
                  let same : dev ≡ other = device_once c part i dev other here (subst (λ (k : ℕ). IsDeviceAt c part k other) last at) in
                  (λ e. ne (sym e ∙ ap (λ (d : Device). d.gate.0) (sym same)))
            ],
            still ∙ w.1,
          )
        ]
  ]
