-- A circuit that passes all tests is well formed.
use Rattle.std.proofs.Common.{◌≡◌, ◌≢◌, ℕ, zero, suc, ◌≤◌, ◌==◌, true, All, List, [], ◌∷◌, length, arith, ap, refl, sym, subst, ◌∙◌}
use Rattle.std.proofs.lemmas.Bool.{eqb-true}
use Rattle.std.proofs.lemmas.Option.{none-some, same_Some}
use Rattle.phase_rows.specs.Apart.{AreApart}
use Rattle.vrt_model.proofs.Members.{all_among}
use Rattle.vrt_model.proofs.Scales.{source_is_one}
use Rattle.vrt_model.specs.Circuits.{IsCircuit, IsFlat, IsNet, IsWhole}
use Rattle.vrt_model.specs.Levels.{IsSourceLevel, source_level}
use Rattle.vrt_model.specs.Lists.{At}
use Rattle.vrt_model.specs.declared.circuit.Circuit.{Circuit}
use Rattle.vrt_model.specs.declared.circuit.FlatInstance.{FlatInstance}
use Rattle.vrt_model.specs.declared.circuit.Hold.{Hold}
use Rattle.vrt_model.specs.declared.ids.Net.{Net}

-- the first hold is at no net of another
not_first : (x : Hold) (xs : List Hold) (j : ℕ) (g h : Hold) → AreApart (x ∷ xs) → At (x ∷ xs) 0 g → At xs j h → g.net ≡ h.net → ⊥
not_first x xs j g h apart at there same =
    let first : x ≡ g = same_Some x g at in
    let elsewhere : h.net.0 ≢ x.net.0 = all_among (λ (o : Hold). o.net.0 ≢ x.net.0) xs h apart.0 (j, there) in
    elsewhere (ap (λ (n : Net). n.0) (sym same) ∙ ap (λ (o : Hold). o.net.0) (sym first))

-- holds at one net are one
once : (hs : List Hold) → AreApart hs → (i j : ℕ) (g h : Hold) → At hs i g → At hs j h → g.net ≡ h.net → i ≡ j
once [] apart i j g h at there same = absurd (none-some g at)
once (x ∷ xs) apart zero zero g h at there same = refl
once (x ∷ xs) apart zero (suc j) g h at there same = absurd (not_first x xs j g h apart at there same)
once (x ∷ xs) apart (suc i) zero g h at there same = absurd (not_first x xs i h g apart there at (sym same))
once (x ∷ xs) apart (suc i) (suc j) g h at there same = ap suc (once xs apart.1 i j g h at there same)

-- a level that the circuit reads as it is said is that of one of the scales
pub source_told : (c : Circuit) (level : ℕ) → level ≡ source_level c → (c.source == level) ≡ true → IsSourceLevel c.source
source_told c level e same = subst IsSourceLevel (sym (eqb-true c.source level same ∙ e)) (source_is_one c)

pub circuit_is : (c : Circuit) → IsSourceLevel c.source → length c.nets ≤ 20000 → length c.devices ≤ 40000 → length c.instances ≤ 40000 → IsFlat c
    → All (λ (i : FlatInstance). All (IsNet c) i.ports) c.instances → AreApart c.holds → IsCircuit c
circuit_is c source nets devices instances flat ports apart = record {
  source = source;
  net_limit = nets;
  device_limit = devices;
  instance_limit = instances;
  devices = flat.devices;
  holds = flat.holds;
  instances = ports;
  wholes = subst (All (IsWhole c)) (sym flat.wholes) (λ i d low. absurd (omega (arith, low)));
  one_hold = once c.holds apart;
}
