-- Parts whose nets rise by number, and whose devices were tested one by one.
use Rattle.std.proofs.Common.{◌≡◌, ℕ, zero, suc, ◌+◌, ◌-◌, ◌<◌, ◌≤◌, List, length, get_or, All, arith, ap, refl, sym, subst, ◌∙◌, inl, inr, ◌*◌, ◌/◌, ◌%◌}
use Rattle.std.specs.Prelude.{slice_get}
use Rattle.std.proofs.lemmas.Bool.{cases_lt}
use Rattle.std.proofs.lemmas.Option.{get_or_from_slice_get, slice_get-get_or}
use Rattle.vrt_model.proofs.Lists.{among_filter_map, filter_map_among}
use Rattle.vrt_model.proofs.Members.{all_among, all_by}
use Rattle.vrt_model.specs.Circuits.{IsNet}
use Rattle.vrt_model.specs.Lists.{At, Among}
use Rattle.vrt_model.specs.declared.circuit.Circuit.{Circuit}
use Rattle.vrt_model.specs.declared.circuit.Device.{Device}
use Rattle.vrt_model.specs.declared.ids.Dev.{Dev}
use Rattle.vrt_model.specs.declared.ids.Net.{Net}
use Rattle.channel_parts.specs.declared.part.Part.{Part}
use Rattle.path_fixpoint.specs.Parts.{IsPart, IsPartDevice, IsPlace, Rises, part_devices}
use Rattle.std.specs.Prelude.{◌↔◌}
use Rattle.std.proofs.Math.Nat.{div-add-mod, div-eq_of_eq-mul_right, mul-mod_right}
use Rattle.path_fixpoint.proofs.Places.{place_in}

-- the number at a place
abbrev pub net_at : List Net → ℕ → ℕ
net_at nets i = (get_or nets i (record { 0 = 0 })).0

-- where each number is below the next, it is below all later ones
rising : (nets : List Net) → ((j : ℕ) → j + 1 < length nets → net_at nets j < net_at nets (j + 1)) → (i j : ℕ) → i < j → j < length nets → net_at nets i < net_at nets j
rising nets next i zero lt inside = absurd (omega (arith, lt))
rising nets next i (suc j) lt inside =
    let e : suc j ≡ j + 1 = omega arith in
    let step : net_at nets j < net_at nets (suc j) = subst (λ (k : ℕ). net_at nets j < net_at nets k) (sym e) (next j (omega (arith, inside))) in
    elim (cases_lt i j) [
      | inl low ↦ omega (arith, rising nets next i j low (omega (arith, inside)), step)
      | inr high ↦ let at : i ≡ j = omega (arith, lt, high) in omega (arith, step, ap (λ (k : ℕ). net_at nets k) at)
    ]

place_net : (part : Part) (i n : ℕ) → IsPlace part i n → net_at part.nets i ≡ n
place_net part i n p = ap (λ (x : Net). x.0) (get_or_from_slice_get part.nets i p.0 (record { 0 = 0 }) p.1) ∙ p.2

pub rises_from : (part : Part) → ((j : ℕ) → j + 1 < length part.nets → net_at part.nets j < net_at part.nets (j + 1)) → Rises part
rises_from part next i j m n p q lt = omega (arith, rising part.nets next i j lt (place_in part j n q), place_net part i m p, place_net part j n q)

pub rises_once : (part : Part) → Rises part → (i j n : ℕ) → IsPlace part i n → IsPlace part j n → i ≡ j
rises_once part rises i j n p q = elim (cases_lt i j) [
  | inl low ↦ absurd (omega (arith, rises i j n n p q low))
  | inr high ↦ elim (cases_lt j i) [
    | inl low ↦ absurd (omega (arith, rises j i n n q p low))
    | inr high' ↦ omega (arith, high, high')
  ]
]

pub part_from : (c : Circuit) (part : Part) → Rises part → All (IsNet c) part.nets → All (IsPartDevice c part) part.devices → IsPart c part
part_from c part rises nets devices = record {
  nets = nets;
  once = rises_once part rises;
  devices = λ i dev lt. (devices i dev lt).inside;
  left = λ d m. let r = among_filter_map (λ (x : Dev). slice_get c.devices x.0) part.devices d m in (all_among (IsPartDevice c part) part.devices r.0 devices r.1).left d r.2;
  right = λ d m. let r = among_filter_map (λ (x : Dev). slice_get c.devices x.0) part.devices d m in (all_among (IsPartDevice c part) part.devices r.0 devices r.1).right d r.2;
}

-- and the devices of a part of the circuit pass this test
pub part_passes : (c : Circuit) (part : Part) → IsPart c part → All (IsPartDevice c part) part.devices
part_passes c part is = all_by (IsPartDevice c part) part.devices (λ dev m.
    let among : (d : Device) → At c.devices dev.0 d → Among (part_devices c part) d = λ d here. filter_map_among (λ (x : Dev). slice_get c.devices x.0) part.devices m.0 dev d m.1 here in
    record {
      inside = all_among (λ (x : Dev). x.0 < length c.devices) part.devices dev is.devices m;
      left = λ d here. is.left d (among d here);
      right = λ d here. is.right d (among d here);
    })

here : (part : Part) (i : ℕ) → i < length part.nets → IsPlace part i (net_at part.nets i)
here part i lt = (get_or part.nets i (record { 0 = 0 }), slice_get-get_or part.nets i (record { 0 = 0 }) lt, refl)

pub rises_at : (part : Part) → Rises part → (i j : ℕ) → i < j → j < length part.nets → net_at part.nets i < net_at part.nets j
rises_at part rises i j lt inside = rises i j (net_at part.nets i) (net_at part.nets j) (here part i (omega (arith, lt, inside))) (here part j inside) lt

-- where a number is not below the next, the numbers do not rise
pub never_rises : (part : Part) (at : ℕ) → 1 ≤ at → at < length part.nets → net_at part.nets at ≤ net_at part.nets (at - 1) → Rises part → ⊥
never_rises part at some inside falls rises = omega (arith, rises_at part rises (at - 1) at (omega (arith, some)) inside, falls)

-- a number above the one at a place is above all before it
pub below_from : (part : Part) → Rises part → (n middle : ℕ) → middle < length part.nets → net_at part.nets middle < n → (i : ℕ) → i < middle + 1 → net_at part.nets i < n
below_from part rises n middle inside less i lt = elim (cases_lt i middle) [
  | inl low ↦ omega (arith, rises_at part rises i middle low inside, less)
  | inr high ↦ let at : middle ≡ i = omega (arith, lt, high) in subst (λ (k : ℕ). net_at part.nets k < n) at less
]

-- a number below the one at a place is below all behind it
pub above_from : (part : Part) → Rises part → (n middle : ℕ) → n < net_at part.nets middle → (i : ℕ) → middle ≤ i → i < length part.nets → n < net_at part.nets i
above_from part rises n middle more i le inside = elim (cases_lt middle i) [
  | inl low ↦ omega (arith, rises_at part rises middle i low inside, more)
  | inr high ↦ let at : middle ≡ i = omega (arith, le, high) in subst (λ (k : ℕ). n < net_at part.nets k) at more
]

-- where all places are before or behind, the number is at none
pub absent_from : (part : Part) (n low high : ℕ) → high ≤ low → ((i : ℕ) → i < low → net_at part.nets i < n) → ((i : ℕ) → high ≤ i → i < length part.nets → n < net_at part.nets i)
    → (i : ℕ) → IsPlace part i n → ⊥
absent_from part n low high met below above i p = elim (cases_lt i low) [
  | inl before ↦ omega (arith, below i before, place_net part i n p)
  | inr behind ↦ omega (arith, above i (omega (arith, met, behind)) (place_in part i n p), place_net part i n p)
]

-- ---- so many words a net

pub fits_exactly : (words nets len : ℕ) → 1 ≤ words → len % words ≡ 0 → (len / words ≡ nets) ↔ (len ≡ words * nets)
fits_exactly words nets len some none = (
  λ e. (let whole : words * (len / words) ≡ len = omega (arith, div-add-mod len words, none) in sym whole ∙ ap (λ (x : ℕ). words * x) e),
  λ e. div-eq_of_eq-mul_right some e,
)

pub fits_never : (words nets len : ℕ) → (len % words ≡ 0 → ⊥) → len ≡ words * nets → ⊥
fits_never words nets len other e = other (ap (λ (x : ℕ). x % words) e ∙ mul-mod_right words nets)
