-- What the checks say of a model.
use Rattle.std.proofs.Common.{◌≡◌, ℕ, ◌+◌, ◌<◌, ◌⊎◌, ◌++◌, List, map, arith, inl, inr}
use Rattle.blif_eval.proofs.Drivers.{among_times, times, times_joined}
use Rattle.model_rows.specs.Outputs.{outputs_in}
use Rattle.vrt_model.specs.FlatModels.{drivers_of}
use Rattle.vrt_model.specs.Lists.{Among}
use Rattle.vrt_model.specs.declared.flat_model.Cover.{Cover}
use Rattle.vrt_model.specs.declared.flat_model.FlatLatch.{FlatLatch}
use Rattle.vrt_model.specs.declared.flat_model.FlatModel.{FlatModel}

-- how often a signal is driven
pub times_drivers : (flat : FlatModel) → (s : ℕ) → times s (drivers_of flat) ≡ times s flat.inputs + times s flat.clocks + times s (outputs_in flat)
times_drivers flat s =
    let covers = map (λ (c : Cover). c.output) flat.covers in
    let latches = map (λ (l : FlatLatch). l.output) flat.latches in
    let a = times_joined s (flat.inputs ++ flat.clocks ++ covers) latches in
    let b = times_joined s (flat.inputs ++ flat.clocks) covers in
    let c = times_joined s flat.inputs flat.clocks in
    let d = times_joined s covers latches in
    omega (arith, a, b, c, d)

-- a number that stands in one of two lists stands in both joined
pub among_one : (s : ℕ) (xs ys : List ℕ) → (0 < times s xs) ⊎ (0 < times s ys) → Among (xs ++ ys) s
among_one s xs ys some = among_times s (xs ++ ys) (let sum = times_joined s xs ys in elim some [ inl a ↦ omega (arith, sum, a) | inr b ↦ omega (arith, sum, b) ])
