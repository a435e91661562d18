-- A known net has one bit; and a table that has the supplies and clock ports, and that no shut set adds to, has all known nets.
use Rattle.std.proofs.Common.{◌≡◌, ℕ, ◌&&◌, Bool, true, Option, Some, ap, inl, inr, subst, sym, ◌∙◌}
use Rattle.std.proofs.lemmas.Bool.{and_from, and_parts}
use Rattle.std.proofs.lemmas.Option.{same_Some}
use Rattle.known_nets.proofs.KnownShow.{fixed_not_plain, shows_moves}
use Rattle.known_nets.specs.KnownTables.{IsClosedTable}
use Rattle.known_nets.specs.Wired.{IsWired}
use Rattle.vrt_model.proofs.GatesGiven.{shown_by}
use Rattle.vrt_model.proofs.Laws.{one_response}
use Rattle.vrt_model.specs.Known.{HasFixedBit, IsFixed, IsKnown, IsShut, fixed, settled}
use Rattle.vrt_model.specs.Lists.{Among}
use Rattle.vrt_model.specs.Path.{Joins}
use Rattle.vrt_model.specs.Reading.{IsReading, conducts_at, devices_of}
use Rattle.vrt_model.specs.Response.{IsResponse, Shows}
use Rattle.vrt_model.specs.State.{network_of}
use Rattle.vrt_model.specs.declared.circuit.Circuit.{Circuit}
use Rattle.vrt_model.specs.declared.circuit.Device.{Device}
use Rattle.vrt_model.specs.declared.circuit.FlatNet.{FlatNet}
use Rattle.vrt_model.specs.declared.circuit.NetKind.{NetKind}
use Rattle.vrt_model.specs.declared.circuit.NetKind.TheVariants.{Supply, Clock, Input, Plain}
use Rattle.vrt_model.specs.declared.rules.Phase.{Phase}

bit_once : (phase : Phase) (kind : NetKind) (u v : Bool) → HasFixedBit phase kind u → HasFixedBit phase kind v → u ≡ v
bit_once phase (Supply value) u v h k = h ∙ sym k
bit_once phase (Clock clock) u v h k = h ∙ sym k
bit_once phase Input u v h k = absurd h
bit_once phase Plain u v h k = absurd h

-- a supply or a clock port has one bit
pub fixed_once : (c : Circuit) (phase : Phase) (n : ℕ) (u v : Bool) → IsFixed c phase n u → IsFixed c phase n v → u ≡ v
fixed_once c phase n u v f g =
    let same : f.0 ≡ g.0 = same_Some f.0 g.0 (sym f.1 ∙ g.1) in
    bit_once phase g.0.kind u v (subst (λ (x : FlatNet). HasFixedBit phase x.kind u) same f.2) g.2

module _ (c : Circuit) (phase : Phase) (wired : IsWired c) where
  -- two readings have the same bits at the gates of a set
  abbrev SameGates : (ℕ → Bool) → (ℕ → Bool) → (ℕ → Bool) → Type 0
  SameGates inside r q = (m l : ℕ) (d : Device) → inside m ≡ true → Among (devices_of true c) d → Joins d m l → r d.gate.0 ≡ q d.gate.0

  -- what two shut sets have in common is shut
  shared_shut : (inside other r q : ℕ → Bool) → IsShut c phase inside r → IsShut c phase other q → SameGates (λ n. inside n && other n) r q
      → IsShut c phase (λ n. inside n && other n) r
  shared_shut inside other r q shut closed same = record {
    plain = λ n e. shut.plain n (and_parts (inside n) (other n) e).0;
    joined = λ n m d e a j on.
        let both = and_parts (inside n) (other n) e in
        let there : conducts_at d.kind (q d.gate.0) ≡ true = subst (λ (b : Bool). conducts_at d.kind b ≡ true) (same n m d e a j) on in
        elim (shut.joined n m d both.0 a j on) [
          | inr f ↦ inr f
          | inl i ↦ elim (closed.joined n m d both.1 a j there) [ inr f ↦ inr f | inl k ↦ inl (and_from (inside m) (other m) i k) ]
        ];
  }

  -- what a net of two shut sets, whose readings have the same bits at the gates of both, shows in one, it shows in the other
  pub shows_there : (inside other r held driven q kept given : ℕ → Bool) (n : ℕ) (u : Bool) → IsShut c phase inside r → IsShut c phase other q
      → SameGates (λ m. inside m && other m) r q → IsReading c phase r r → IsReading c phase q q → inside n ≡ true → other n ≡ true
      → IsResponse (network_of c true held (record { reading = r; driven = driven })) n (Shows u)
      → IsResponse (network_of c true kept (record { reading = q; driven = given })) n (Shows u)
  shows_there inside other r held driven q kept given n u shut closed same own own_q ins ins_q shows =
      shows_moves c phase wired (λ m. inside m && other m) held kept r q (record { reading = r; driven = driven }) (record { reading = q; driven = given })
      (shared_shut inside other r q shut closed same) own own_q same n u (and_from (inside n) (other n) ins ins_q) shows

  -- so it shows one bit
  shown_once : (inside other r held driven q kept given : ℕ → Bool) (n : ℕ) (u v : Bool) → IsShut c phase inside r → IsShut c phase other q
      → SameGates (λ m. inside m && other m) r q → IsReading c phase r r → IsReading c phase q q → inside n ≡ true → other n ≡ true
      → IsResponse (network_of c true held (record { reading = r; driven = driven })) n (Shows u)
      → IsResponse (network_of c true kept (record { reading = q; driven = given })) n (Shows v) → u ≡ v
  shown_once inside other r held driven q kept given n u v shut closed same own own_q ins ins_q shows shows_q =
      let there = shows_there inside other r held driven q kept given n u shut closed same own own_q ins ins_q shows in
      same_Some u v (ap shown_by (one_response (network_of c true kept (record { reading = q; driven = given })) n (Shows u) (Shows v) there shows_q))

  -- a known net has one bit
  pub known_once : (n : ℕ) (u v : Bool) → IsKnown c phase n u → IsKnown c phase n v → u ≡ v
  known_once n u v (fixed f) (fixed g) = fixed_once c phase n u v f g
  known_once n u v (fixed f) (settled inside r held driven shut ins own gates shows) = absurd (fixed_not_plain c phase n u f (shut.plain n ins).0)
  known_once n u v (settled inside r held driven shut ins own gates shows) (fixed f) = absurd (fixed_not_plain c phase n v f (shut.plain n ins).0)
  known_once n u v (settled inside r held driven shut ins own gates shows) (settled other q kept given closed ins_q own_q gates_q shows_q) =
      shown_once inside other r held driven q kept given n u v shut closed
      (λ m l d e a j. let both = and_parts (inside m) (other m) e in known_once d.gate.0 (r d.gate.0) (q d.gate.0) (gates m l d both.0 a j) (gates_q m l d both.1 a j))
      own own_q ins ins_q shows shows_q

-- a table that no shut set adds to has all known nets
pub closed_has_all : (c : Circuit) (phase : Phase) (known : ℕ → Option Bool) → ((n : ℕ) (v : Bool) → IsFixed c phase n v → known n ≡ Some v) → IsClosedTable c phase known
    → (n : ℕ) (v : Bool) → IsKnown c phase n v → known n ≡ Some v
closed_has_all c phase known has closed n v (fixed f) = has n v f
closed_has_all c phase known has closed n v (settled inside r held driven shut ins own gates shows) =
    closed inside r held driven shut own (λ m l d i a j. closed_has_all c phase known has closed d.gate.0 (r d.gate.0) (gates m l d i a j)) n v ins shows
