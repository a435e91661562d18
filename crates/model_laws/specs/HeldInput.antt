-- An input with a hold.
use Rattle.std.specs.Prelude.{true, false, [], ◌∷◌}
use Rattle.vrt_model.specs.Path.{Network}
use Rattle.vrt_model.specs.declared.circuit.Hold.{Hold}
use Rattle.vrt_model.specs.declared.circuit.HoldEnd.TheVariants.{Own}
use Rattle.vrt_model.specs.declared.circuit.NetKind.TheVariants.{Input}

abbrev pub the_hold : Hold
the_hold = record { net = record { 0 = 0 }; size = 1; end = Own (record { 0 = 0 }); inverted = false; enters = [] }

-- one input with a hold that keeps 1, at the input 0
abbrev pub held_input : Network
held_input = record {
  nets = record { name = []; kind = Input } ∷ [];
  holds = the_hold ∷ [];
  outputs = [];
  devices = [];
  source = 8;
  reading = λ n. false;
  given = λ n. false;
  held = λ place. true;
  driven = λ place. false;
}
