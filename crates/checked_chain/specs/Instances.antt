-- Where the instances of a flat circuit stand in a circuit in which some are whole.
use Rattle.std.specs.Prelude.{◌≡◌, ℕ, true, slice_get}
use Rattle.vrt_model.specs.CheckedParts.{checked_instances}
use Rattle.vrt_model.specs.Cut.{Cut, is_instance_shown, moved_instance}
use Rattle.vrt_model.specs.FlatCircuit.{flat_instances}
use Rattle.vrt_model.specs.Lists.{At}
use Rattle.vrt_model.specs.declared.circuit.FlatInstance.{FlatInstance}

-- The law: an instance that is shown stands there at its place, with its path, its cell and its nets; and where there is none, none
-- stands there.
abbrev pub InstancesMove : Type 0
InstancesMove =
    (cut : Cut) (i : ℕ) → is_instance_shown cut i ≡ true
    → slice_get (checked_instances cut) (moved_instance cut i) ≡ slice_get (flat_instances cut.top) i

-- The law: each instance that stands there is one that is shown.
abbrev pub InstancesAreShown : Type 0
InstancesAreShown =
    (cut : Cut) (j : ℕ) (x : FlatInstance) → At (checked_instances cut) j x
    → (i : ℕ) × (is_instance_shown cut i ≡ true) × (moved_instance cut i ≡ j) × At (flat_instances cut.top) i x

-- The law: no two have one place.
abbrev pub InstancesStayApart : Type 0
InstancesStayApart =
    (cut : Cut) (i j : ℕ) → is_instance_shown cut i ≡ true → is_instance_shown cut j ≡ true → moved_instance cut i ≡ moved_instance cut j
    → i ≡ j
