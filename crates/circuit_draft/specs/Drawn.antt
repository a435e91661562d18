-- A circuit as it begins, and with one net, device or hold more.
use Rattle.std.specs.Prelude.{◌≡◌, ℕ, Bool, true, false, ◌++◌, ◌∷◌, []}
use Rattle.vrt_model.specs.Levels.{most_source, usual_source}
use Rattle.vrt_model.specs.declared.circuit.Circuit.{Circuit}
use Rattle.vrt_model.specs.declared.circuit.FlatNet.{FlatNet}
use Rattle.vrt_model.specs.declared.circuit.HoldEnd.TheVariants.{Own}
use Rattle.vrt_model.specs.declared.circuit.NetKind.{NetKind}
use Rattle.vrt_model.specs.declared.circuit.NetKind.TheVariants.{Supply}
use Rattle.vrt_model.specs.declared.design.Kind.{Kind}
use Rattle.vrt_model.specs.declared.design.Kind.TheVariants.{N, P}
use Rattle.vrt_model.specs.declared.ids.Net.{Net}

-- a net without a name
abbrev pub unnamed : NetKind → FlatNet
unnamed kind = record { name = []; kind = kind }

-- the low supply, the high one, and nothing more, at the scale of eight levels
abbrev pub supplies : Circuit
supplies = record { nets = unnamed (Supply false) ∷ unnamed (Supply true) ∷ []; devices = []; holds = []; instances = []; wholes = []; source = usual_source }

-- at the scale of fifteen levels
abbrev pub HasFifteenLevels : Circuit → Circuit → Type 0
HasFifteenLevels old new = new ≡ record old { source = most_source }

-- a net of a kind, at the end
abbrev pub HasNet : NetKind → Circuit → Circuit → Type 0
HasNet kind old new = new ≡ record old { nets = old.nets ++ unnamed kind ∷ [] }

-- a device without a name, at the end
abbrev pub HasDevice : Kind → (level : ℕ) → (keeper : Bool) → (gate left right : Net) → Circuit → Circuit → Type 0
HasDevice kind level keeper gate left right old new = new ≡ record old { devices = old.devices ++ record { name = []; kind = kind; gate = gate; left = left; right = right; level = level; keeper = keeper } ∷ [] }

-- a p-device from the high supply and an n-device from the low one, both of level 6, at the end
abbrev pub HasInverter : (from to : Net) → Circuit → Circuit → Type 0
HasInverter from to old new = (middle : Circuit) × HasDevice P 6 false from to (record { 0 = 1 }) old middle × HasDevice N 6 false from to (record { 0 = 0 }) middle new

-- a hold that stands for itself and has no `enter` value, at the end
abbrev pub HasHold : Net → (size : ℕ) → Circuit → Circuit → Type 0
HasHold net size old new = new ≡ record old { holds = old.holds ++ record { net = net; size = size; end = Own net; inverted = false; enters = [] } ∷ [] }
