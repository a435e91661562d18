-- The output ports of a cell have places of their own.
use Rattle.std.proofs.Common.{◌≡◌, ℕ, zero, suc, ◌+◌, Bool, true, false, cond, List, [], ◌∷◌, arith, ap, refl, sym}
use Rattle.std.specs.Prelude.{filter, is_some}
use Rattle.std.proofs.lemmas.Option.{none-some, same_Some}
use Rattle.phase_ports.proofs.PortLaws.{place_is}
use Rattle.vrt_model.proofs.Members.{among_filter}
use Rattle.vrt_model.specs.Comparison.{CellPort, Comparison, cell_at, output_signal, port_nets, ports_of}
use Rattle.vrt_model.specs.Facts.{output_ports}
use Rattle.vrt_model.specs.Lists.{At, Among}

-- places rise one by one
abbrev RisesFrom : ℕ → List CellPort → Type 0
RisesFrom at ports = (j : ℕ) (port : CellPort) → At ports j port → port.place ≡ at + j

rises_behind : (at : ℕ) (z : CellPort) (zs : List CellPort) → RisesFrom at (z ∷ zs) → RisesFrom (suc at) zs
rises_behind at z zs rises j port e = (let is = rises (suc j) port e in omega (arith, is))

-- of those that pass a test, one behind the first is no first
first_alone : (p : CellPort → Bool) (at : ℕ) (z x y : CellPort) (zs : List CellPort) → RisesFrom at (z ∷ zs) → z ≡ x → Among (filter p zs) y → x.place ≡ y.place → ⊥
first_alone p at z x y zs rises same m places =
    let there = among_filter p zs y m in
    let first = rises 0 z refl in
    let behind = rises (suc there.0) y there.1 in
    let own = ap (λ (q : CellPort). q.place) same in
    omega (arith, first, behind, own, places)

-- those that pass a test have different places
filtered_once : (p : CellPort → Bool) (at : ℕ) (ports : List CellPort) → RisesFrom at ports → (i j : ℕ) (x y : CellPort) → At (filter p ports) i x → At (filter p ports) j y → x.place ≡ y.place → i ≡ j
filtered_once p at [] rises i j x y e f places = absurd (none-some x e)
filtered_once p at (z ∷ zs) rises i j x y e f places =
    pick (λ i j e f. filtered_once p (suc at) zs (rises_behind at z zs rises) i j x y e f places) (p z) i j e f
  where
    pick : ((i j : ℕ) → At (filter p zs) i x → At (filter p zs) j y → i ≡ j) → (b : Bool) (i j : ℕ)
        → At (cond b (z ∷ filter p zs) (filter p zs)) i x → At (cond b (z ∷ filter p zs) (filter p zs)) j y → i ≡ j
    pick below true zero zero e f = refl
    pick below true zero (suc j) e f = absurd (first_alone p at z x y zs rises (same_Some z x e) (j, f) places)
    pick below true (suc i) zero e f = absurd (first_alone p at z y x zs rises (same_Some z y f) (i, e) (sym places))
    pick below true (suc i) (suc j) e f = ap suc (below i j e f)
    pick below false i j e f = below i j e f

-- output ports of one place are one
pub outputs_once : (k : Comparison) (i j : ℕ) (x y : CellPort) → At (output_ports k) i x → At (output_ports k) j y → x.place ≡ y.place → i ≡ j
outputs_once k i j x y e f places =
    let names = (cell_at k.design k.cell).ports in
    filtered_once (λ (p : CellPort). is_some (output_signal p.role)) 0 (ports_of k) (place_is 0 names (port_nets k.rules names) k.pairing.ports) i j x y e f places
