use Rattle.std.proofs.Common.{◌≡◌, map, take}
use Rattle.known_nets.specs.KnownTables.{fixed_bit_of}
use Rattle.vrt_model.specs.declared.circuit.FlatNet.{FlatNet}
use Rattle.known_nets.proofs.fixed.fixed_bits.Given as goal

-- the bits of the nets so far
abbrev pub invariant-loop-net : goal.invariant-loop-net
invariant-loop-net l = l.bits.items ≡ map (λ (net : FlatNet). fixed_bit_of l.phase net.kind) (take l.net-index l.nets)
