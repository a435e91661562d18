-- A net that nothing reaches: a gate of two inputs without one of its p-devices.
use Rattle.std.proofs.Common.{◌≡◌, zero, suc, true, List, [], ◌∷◌, sym, subst, refl, inl, inr}
use Rattle.std.proofs.lemmas.Bool.{false≢true}
use Rattle.std.proofs.lemmas.Option.{same_Some, none-some}
use Rattle.model_laws.proofs.PathValues.{no_root_at}
use Rattle.model_laws.specs.FloatingGate.{device, gate}
use Rattle.vrt_model.specs.Lists.{Among}
use Rattle.vrt_model.specs.Path.{Hop, IsPath, Joins, Root, end_of}
use Rattle.vrt_model.specs.Reading.{conducts}
use Rattle.vrt_model.specs.Response.{Float, IsResponse}
use Rattle.vrt_model.specs.declared.circuit.Device.{Device}
use Rattle.vrt_model.specs.declared.design.Kind.TheVariants.{N}

-- at a = 1 and b = 0 the one device that conducts joins y and m
the_one_on : (d : Device) → Among gate.devices d → conducts gate.reading d ≡ true → device N 4 2 5 ≡ d
the_one_on d (zero, e) on = absurd (false≢true (subst (λ (x : Device). conducts gate.reading x ≡ true) (sym (same_Some _ d e)) on))
the_one_on d (suc zero, e) on = same_Some _ d e
the_one_on d (suc (suc zero), e) on = absurd (false≢true (subst (λ (x : Device). conducts gate.reading x ≡ true) (sym (same_Some _ d e)) on))
the_one_on d (suc (suc (suc n)), e) on = absurd (none-some d e)

-- no path ends at y or at m
nothing_there : (root : Root) (hops : List Hop) → IsPath gate root hops → (end_of root hops ≡ 4 → ⊥) × (end_of root hops ≡ 5 → ⊥)
nothing_there root [] p = (no_root_at gate 4 refl refl refl root p, no_root_at gate 5 refl refl refl root p)
nothing_there root (hop ∷ hops) p =
    let j : Joins (device N 4 2 5) (end_of root hops) hop.to = subst (λ (x : Device). Joins x (end_of root hops) hop.to) (sym (the_one_on hop.device p.1.0 p.1.1)) p.2 in
    elim j [
      | inl here ↦ absurd ((nothing_there root hops p.0).0 (sym here.0))
      | inr here ↦ absurd ((nothing_there root hops p.0).1 (sym here.1))
    ]

pub y_floats : IsResponse gate 4 Float
y_floats = (λ r. (nothing_there r.0 r.1 r.2).0 r.4, λ r. (nothing_there r.0 r.1 r.2).0 r.4)
