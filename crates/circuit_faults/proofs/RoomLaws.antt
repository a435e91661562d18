-- What is saved where a part is solved over fewer variables has room for what its nets then take.
use Rattle.std.proofs.Common.{ℕ, zero, suc, ◌+◌, ◌-◌, ◌*◌, ◌^◌, ◌≤◌, Bool, true, false, Option, Some, None, length, arith}
use Rattle.std.specs.Prelude.{◌==◌}
use Rattle.std.proofs.Math.Nat.{mul-le-mul_left, mul-le-mul_right}
use Rattle.std.proofs.lemmas.Nat.{pow_pos}
use Rattle.node_pool.specs.declared.region.Span.{Span}
use Rattle.bdd_core.specs.Store.{Diagrams}
use Rattle.channel_parts.specs.declared.part.Part.{Part}
use Rattle.circuit_faults.specs.Small.{IsSolvedBy, IsWay, scan_operations}
use Rattle.part_functions.specs.declared.few.PartFunctions.{PartFunctions}
use Rattle.path_fixpoint.specs.Parts.{pins_at, pins_of}
use Rattle.path_fixpoint.specs.Spending.{solving_operations}
use Rattle.vrt_model.specs.Levels.{most_source, source_by, source_level, usual_source}
use Rattle.vrt_model.specs.declared.circuit.Circuit.{Circuit}

-- at most six functions, and no more than devices
powers : (k q : ℕ) → k ≤ 6 → k ≤ q → 3 * 2 ^ k ≤ 32 * q + 3
powers zero q six all = omega arith
powers (suc zero) q six all = omega (arith, all)
powers (suc (suc zero)) q six all = omega (arith, all)
powers (suc (suc (suc zero))) q six all = omega (arith, all)
powers (suc (suc (suc (suc zero)))) q six all = omega (arith, all)
powers (suc (suc (suc (suc (suc zero))))) q six all = omega (arith, all)
powers (suc (suc (suc (suc (suc (suc zero)))))) q six all = omega (arith, all)
powers (suc (suc (suc (suc (suc (suc (suc k))))))) q six all = absurd (omega (arith, six))

source_high : (fine : Bool) → usual_source ≤ source_by fine
source_high true = omega arith
source_high false = omega arith

-- what a part of p nets and q devices takes at least
solving_most : (l p q r : ℕ) → usual_source ≤ l → 108 * (p * q) + 12 * p ≤ (12 * l + 12) * (p * q) + 12 * p + 6 * r
solving_most l p q r high = omega (arith, mul-le-mul_right {m = 108} {n = 12 * l + 12} (p * q) (omega (arith, high)))

-- by plain numbers: s operations solve p nets and q devices, k is the number of functions, and x operations are those of a net
module _ (s p q k x : ℕ) (some : 1 ≤ p) (six : k ≤ 6) (all : k ≤ q) (most : 108 * (p * q) + 12 * p ≤ s) (each : x ≤ 3 * 2 ^ k + 2) where
  scanned : p * x ≤ 32 * (p * q) + 5 * p
  scanned =
      let each_net : p * x ≤ p * (32 * q + 5) = mul-le-mul_left {m = x} {n = 32 * q + 5} p (omega (arith, each, powers k q six all)) in
      omega (arith, each_net)

  nets_devices : q ≤ p * q
  nets_devices = omega (arith, mul-le-mul_right {m = 1} {n = p} q some)

  pub room_half : q + s ≤ 2 * (s + 4 * p - p * x)
  room_half = omega (arith, scanned, nets_devices, most)

  pub room_all : (s + 4 * p - p * x) + p * x ≤ s + 4 * p
  room_all = omega (arith, scanned, most)

-- so many operations to solve the part leave room for those of its nets
pub way_room : (way : Option PartFunctions) (c : Circuit) (part : Part) (gates roots : Span) (d : Diagrams) → IsWay way c part gates roots d
    → (operations : ℕ) × IsSolvedBy operations way c part × (operations + length part.nets * scan_operations way ≤ solving_operations c part + 4 * length part.nets)
way_room None c part gates roots d way = (solving_operations c part, omega arith, omega arith)
way_room (Some f) c part gates roots d small =
    let s = solving_operations c part in
    let p = length part.nets in
    let q = length part.devices in
    let x = scan_operations (Some f) in
    let most : 108 * (p * q) + 12 * p ≤ s = solving_most (source_level c) p q (pins_at part (pins_of c)) (source_high (c.source == most_source)) in
    let each : x ≤ 3 * 2 ^ f.count + 2 = omega (arith, pow_pos f.count) in
    (s + 4 * p - p * x, room_half s p q f.count x small.some small.reads.list.few small.reads.no_more most each, room_all s p q f.count x small.some small.reads.list.few small.reads.no_more most each)
