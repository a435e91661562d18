-- The conditions can be met: an inverter whose output meets a pass device, in the circuit and left whole.
use Rattle.std.proofs.Common.{◌≡◌, ℕ, zero, suc, ◌≤◌, ◌⊎◌, Bool, true, false, [], ◌∷◌, arith, subst, sym, refl, ◌∙◌, ap, inl, inr}
use Rattle.std.proofs.lemmas.Bool.{false≢true}
use Rattle.std.proofs.lemmas.Option.{none-some, same_Some}
use Rattle.cell_inside.proofs.NetKinds.{is_plain_is}
use Rattle.cell_inside.specs.Inside.{Touches}
use Rattle.cell_inside.specs.LeftWhole.{IsFreshPin, IsLeftDevice, IsLeftPin, IsLeftWhole}
use Rattle.cell_inside.specs.Placed.{IsImage, IsPlaced, IsSupply}
use Rattle.vrt_model.proofs.Members.{at_none}
use Rattle.vrt_model.specs.Known.{IsPlain}
use Rattle.vrt_model.specs.Lists.{Among, At}
use Rattle.vrt_model.specs.State.{OutputPin, output_pins}
use Rattle.vrt_model.specs.declared.circuit.Circuit.{Circuit}
use Rattle.vrt_model.specs.declared.circuit.Device.{Device}
use Rattle.vrt_model.specs.declared.circuit.FlatNet.{FlatNet}
use Rattle.vrt_model.specs.declared.circuit.NetKind.{NetKind}
use Rattle.vrt_model.specs.declared.circuit.NetKind.TheVariants.{Input, Plain, Supply}
use Rattle.vrt_model.specs.declared.design.Kind.{Kind}
use Rattle.vrt_model.specs.declared.design.Kind.TheVariants.{N, P}
use Rattle.vrt_model.specs.declared.flat_model.FlatModel.{FlatModel}
use Rattle.vrt_model.specs.declared.whole.Drive.TheVariants.{Level}
use Rattle.vrt_model.specs.declared.whole.Whole.{Whole}
use Rattle.vrt_model.specs.declared.whole.WholePin.{WholePin}

abbrev net : NetKind → FlatNet
net kind = record { name = []; kind = kind }

abbrev device : Kind → ℕ → ℕ → ℕ → Device
device kind left gate right = record { name = []; kind = kind; gate = record { 0 = gate }; left = record { 0 = left }; right = record { 0 = right }; level = 6; keeper = false }

-- nets gnd, vdd, a, y
abbrev pub inverter : Circuit
inverter = record {
  nets = net (Supply false) ∷ net (Supply true) ∷ net Input ∷ net Plain ∷ [];
  devices = device P 3 2 1 ∷ device N 3 2 0 ∷ [];
  holds = [];
  instances = [];
  wholes = [];
  source = 8;
}

-- nets gnd, vdd, s, z, q, p: an inverter from q to p, q being what s lets through from z, and a pass device from p to z
abbrev pub passing : Circuit
passing = record {
  nets = net (Supply false) ∷ net (Supply true) ∷ net Input ∷ net Plain ∷ net Plain ∷ net Plain ∷ [];
  devices = device P 5 4 1 ∷ device N 5 4 0 ∷ device N 5 2 3 ∷ [];
  holds = [];
  instances = [];
  wholes = [];
  source = 8;
}

abbrev pub where_at : ℕ → ℕ
where_at zero = 0
where_at (suc zero) = 1
where_at (suc (suc zero)) = 4
where_at (suc (suc (suc zero))) = 5
where_at (suc (suc (suc (suc n)))) = suc (suc (suc (suc (suc (suc n)))))

abbrev pub is_output : ℕ → Bool
is_output zero = false
is_output (suc zero) = false
is_output (suc (suc zero)) = false
is_output (suc (suc (suc zero))) = true
is_output (suc (suc (suc (suc n)))) = false

abbrev supply_bit : NetKind → Bool
supply_bit (Supply value) = value
supply_bit other = false

abbrev is_supply : NetKind → Bool
is_supply (Supply value) = true
is_supply other = false

-- y alone is plain
only_y : (n : ℕ) → IsPlain inverter n → n ≡ 3
only_y zero p = absurd (false≢true (is_plain_is inverter 0 p))
only_y (suc zero) p = absurd (false≢true (is_plain_is inverter 1 p))
only_y (suc (suc zero)) p = absurd (false≢true (is_plain_is inverter 2 p))
only_y (suc (suc (suc zero))) p = refl
only_y (suc (suc (suc (suc n)))) p = absurd (none-some p.0 p.1)

y_plain : (n : ℕ) → 3 ≡ n → IsPlain inverter n
y_plain n e = subst (IsPlain inverter) e (net Plain, refl, refl)

gnd_is : (n : ℕ) → 0 ≡ n → (value : Bool) × IsSupply inverter n value
gnd_is n e = (false, subst (λ (m : ℕ). IsSupply inverter m false) e (net (Supply false), refl, refl))

vdd_is : (n : ℕ) → 1 ≡ n → (value : Bool) × IsSupply inverter n value
vdd_is n e = (true, subst (λ (m : ℕ). IsSupply inverter m true) e (net (Supply true), refl, refl))

channels : (d : Device) (n : ℕ) → Among inverter.devices d → Touches d n → IsPlain inverter n ⊎ ((value : Bool) × IsSupply inverter n value)
channels d n (zero, e) touch =
    elim (subst (λ (x : Device). Touches x n) (sym (same_Some (device P 3 2 1) d e)) touch) [ inl l ↦ inl (y_plain n l) | inr r ↦ inr (vdd_is n r) ]
channels d n (suc zero, e) touch =
    elim (subst (λ (x : Device). Touches x n) (sym (same_Some (device N 3 2 0) d e)) touch) [ inl l ↦ inl (y_plain n l) | inr r ↦ inr (gnd_is n r) ]
channels d n (suc (suc i), e) touch = absurd (none-some d e)

supplies : (n : ℕ) (value : Bool) → IsSupply inverter n value → IsSupply passing (where_at n) value
supplies zero value s = (net (Supply false), refl, ap (λ (x : FlatNet). x.kind) (same_Some (net (Supply false)) s.0 s.1) ∙ s.2)
supplies (suc zero) value s = (net (Supply true), refl, ap (λ (x : FlatNet). x.kind) (same_Some (net (Supply true)) s.0 s.1) ∙ s.2)
supplies (suc (suc zero)) value s = absurd (false≢true (ap (λ (x : FlatNet). is_supply x.kind) (same_Some (net Input) s.0 s.1) ∙ ap is_supply s.2))
supplies (suc (suc (suc zero))) value s = absurd (false≢true (ap (λ (x : FlatNet). is_supply x.kind) (same_Some (net Plain) s.0 s.1) ∙ ap is_supply s.2))
supplies (suc (suc (suc (suc n)))) value s = absurd (none-some s.0 s.1)

image : (kind : Kind) (left gate right : ℕ) → IsImage where_at (device kind left gate right) (device kind (where_at left) (where_at gate) (where_at right))
image kind left gate right = record { kind = refl; gate = refl; left = refl; right = refl; level = refl; keeper = refl }

there : (d : Device) → Among inverter.devices d → (e : Device) × Among passing.devices e × IsImage where_at d e
there d (zero, e) = (device P 5 4 1, (0, refl), subst (λ (x : Device). IsImage where_at x (device P 5 4 1)) (same_Some (device P 3 2 1) d e) (image P 3 2 1))
there d (suc zero, e) = (device N 5 4 0, (1, refl), subst (λ (x : Device). IsImage where_at x (device N 5 4 0)) (same_Some (device N 3 2 0) d e) (image N 3 2 0))
there d (suc (suc i), e) = absurd (none-some d e)

others : (e : Device) (n : ℕ) → Among passing.devices e → IsPlain inverter n → Touches e (where_at n)
    → ((d : Device) × Among inverter.devices d × IsImage where_at d e) ⊎ ((is_output n ≡ true) × (e.level ≤ 6))
others e n (zero, is) plain touch = inl (device P 3 2 1, (0, refl), subst (IsImage where_at (device P 3 2 1)) (same_Some (device P 5 4 1) e is) (image P 3 2 1))
others e n (suc zero, is) plain touch = inl (device N 3 2 0, (1, refl), subst (IsImage where_at (device N 3 2 0)) (same_Some (device N 5 4 0) e is) (image N 3 2 0))
others e n (suc (suc zero), is) plain touch =
    let level : 6 ≡ e.level = ap (λ (x : Device). x.level) (same_Some (device N 5 2 3) e is) in
    inr (ap is_output (only_y n plain), omega (arith, level))
others e n (suc (suc (suc i)), is) plain touch = absurd (none-some e is)

no_pin : (out : OutputPin) → Among (output_pins passing) out → ⊥
no_pin out (i, e) = none-some out e

-- the inverter stands in the circuit, with its output exposed at drive 6
pub inverter_is_placed : IsPlaced inverter passing where_at is_output (λ n. 6)
inverter_is_placed = record {
  source = refl;
  no_holds = refl;
  no_wholes = refl;
  channels = channels;
  supplies = supplies;
  plain = λ n p. subst (λ (m : ℕ). IsPlain passing (where_at m)) (sym (only_y n p)) (net Plain, refl, refl);
  exposed_plain = exposed_plain;
  there = there;
  others = others;
  unheld = λ n p held. at_none held.1.0 held.0 held.1.1;
  pins = λ out n m p e. absurd (no_pin out m);
  pins_plain = λ out m. absurd (no_pin out m);
  apart = λ m n pm pn e. inl (only_y m pm ∙ sym (only_y n pn));
}
  where
    exposed_plain : (n : ℕ) → is_output n ≡ true → IsPlain inverter n
    exposed_plain zero m = absurd (false≢true m)
    exposed_plain (suc zero) m = absurd (false≢true m)
    exposed_plain (suc (suc zero)) m = absurd (false≢true m)
    exposed_plain (suc (suc (suc zero))) m = y_plain 3 refl
    exposed_plain (suc (suc (suc (suc n)))) m = absurd (false≢true m)

-- ---- the inverter whole

-- its output pin
abbrev pin : WholePin
pin = record { net = record { 0 = 5 }; signal = 1; drive = Level 6; observed = false }

abbrev whole : FlatModel → Whole
whole m = record { path = []; cell = 0; model = m; clocked = []; inputs = []; outputs = pin ∷ []; links = [] }

abbrev pub rest : FlatModel → Circuit
rest m = record passing { devices = device N 5 2 3 ∷ []; wholes = whole m ∷ [] }

abbrev all : ℕ → Bool
all k = true

kept_image : (e : Device) → e ≡ device N 5 2 3 → IsLeftDevice (λ k. k) all all e (device N 5 2 3)
kept_image e is = subst (λ (x : Device). IsLeftDevice (λ k. k) all all x (device N 5 2 3)) (sym is)
    (record { image = record { kind = refl; gate = refl; left = refl; right = refl; level = refl; keeper = refl }; gate = refl; channels = λ k touch. refl })

fresh_pin : (m : FlatModel) → IsFreshPin 8 inverter where_at (λ k. k) all is_output (λ n. 6) 3 (record { whole = whole m; pin = pin })
fresh_pin m = record { plain = y_plain 3 refl; net = refl; stays = refl; level = λ exposed. refl }

pub inverter_is_left_whole : (m : FlatModel) → IsLeftWhole inverter passing (rest m) where_at (λ k. k) (λ i. i) (λ n. 0) all all is_output (λ n. 6)
inverter_is_left_whole m = record {
  source = refl;
  nets = λ k x stays e. (x, e, refl);
  nets_back = λ k x stays e. (x, e, refl);
  moved_apart = λ k l a b e. e;
  compared_remaining = λ k s. refl;
  exposed_compared = λ n h. refl;
  inside_compared = λ n p s. ap is_output (only_y n p);
  devices = devices;
  devices_back = devices_back;
  holds = λ i h e. absurd (at_none i h e);
  holds_back = λ i h e. absurd (at_none i h e);
  pins = λ i out e. absurd (no_pin out (i, e));
  fresh_pins = fresh_pins;
  pins_back = pins_back;
}
  where
    devices : (e : Device) → Among passing.devices e → ((d : Device) × Among inverter.devices d × IsImage where_at d e) ⊎ ((f : Device) × Among (rest m).devices f × IsLeftDevice (λ k. k) all all e f)
    devices e (zero, is) = inl (device P 3 2 1, (0, refl), subst (IsImage where_at (device P 3 2 1)) (same_Some (device P 5 4 1) e is) (image P 3 2 1))
    devices e (suc zero, is) = inl (device N 3 2 0, (1, refl), subst (IsImage where_at (device N 3 2 0)) (same_Some (device N 5 4 0) e is) (image N 3 2 0))
    devices e (suc (suc zero), is) = inr (device N 5 2 3, (0, refl), kept_image e (sym (same_Some (device N 5 2 3) e is)))
    devices e (suc (suc (suc i)), is) = absurd (none-some e is)

    devices_back : (f : Device) → Among (rest m).devices f → (e : Device) × Among passing.devices e × IsLeftDevice (λ k. k) all all e f
    devices_back f (zero, is) =
        (device N 5 2 3, (2, refl), subst (IsLeftDevice (λ k. k) all all (device N 5 2 3)) (same_Some (device N 5 2 3) f is) (kept_image (device N 5 2 3) refl))
    devices_back f (suc i, is) = absurd (none-some f is)

    fresh_pins : (n : ℕ) → is_output n ≡ true → (out : OutputPin) × At (output_pins (rest m)) 0 out × IsFreshPin 8 inverter where_at (λ k. k) all is_output (λ n. 6) n out
    fresh_pins zero h = absurd (false≢true h)
    fresh_pins (suc zero) h = absurd (false≢true h)
    fresh_pins (suc (suc zero)) h = absurd (false≢true h)
    fresh_pins (suc (suc (suc zero))) h = (record { whole = whole m; pin = pin }, refl, fresh_pin m)
    fresh_pins (suc (suc (suc (suc n)))) h = absurd (false≢true h)

    pins_back : (j : ℕ) (out : OutputPin) → At (output_pins (rest m)) j out
        → ((i : ℕ) × (old : OutputPin) × At (output_pins passing) i old × (i ≡ j) × IsLeftPin (λ k. k) all old out)
        ⊎ ((n : ℕ) × (◌≡◌ {A = ℕ} 0 j) × IsFreshPin 8 inverter where_at (λ k. k) all is_output (λ n. 6) n out)
    pins_back zero out e = inr (3, refl, subst (IsFreshPin 8 inverter where_at (λ k. k) all is_output (λ n. 6) 3) (same_Some (let one : OutputPin = record { whole = whole m; pin = pin } in one) out e) (fresh_pin m))
    pins_back (suc j) out e = absurd (none-some out e)
