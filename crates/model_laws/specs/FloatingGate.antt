-- A gate of two inputs without one of its p-devices.
use Rattle.std.specs.Prelude.{ℕ, true, false, [], ◌∷◌}
use Rattle.vrt_model.specs.Lists.{bit_at}
use Rattle.vrt_model.specs.Path.{Network}
use Rattle.vrt_model.specs.declared.circuit.Device.{Device}
use Rattle.vrt_model.specs.declared.circuit.NetKind.TheVariants.{Supply, Input, Plain}
use Rattle.vrt_model.specs.declared.design.Kind.{Kind}
use Rattle.vrt_model.specs.declared.design.Kind.TheVariants.{N, P}

abbrev pub device : Kind → ℕ → ℕ → ℕ → Device
device kind left gate right = record { name = []; kind = kind; gate = record { 0 = gate }; left = record { 0 = left }; right = record { 0 = right }; level = 6; keeper = false }

-- nets gnd, vdd, a, b, y, m
abbrev pub gate : Network
gate = record {
  nets =
      record { name = []; kind = Supply false } ∷ record { name = []; kind = Supply true } ∷ record { name = []; kind = Input } ∷ record { name = []; kind = Input }
      ∷ record { name = []; kind = Plain } ∷ record { name = []; kind = Plain } ∷ [];
  holds = [];
  outputs = [];
  devices = device P 4 2 1 ∷ device N 4 2 5 ∷ device N 5 3 0 ∷ [];
  source = 8;
  reading = bit_at (false ∷ true ∷ true ∷ false ∷ []);
  given = bit_at (false ∷ true ∷ true ∷ false ∷ []);
  held = λ place. false;
  driven = λ place. false;
}
