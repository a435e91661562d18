use Rattle.std.proofs.Common.{◌≡◌, ◌==◌, drop}
use Rattle.std.specs.List.{list_any}
use Rattle.vrt_model.specs.declared.circuit.Hold.{Hold}
use Rattle.circuit_faults.proofs.undriven.has_hold.Given as goal

-- none so far
abbrev pub invariant-loop-hold : goal.invariant-loop-hold
invariant-loop-hold l = list_any (λ (hold : Hold). hold.net.0 == l.net.0) (drop l.hold-index l.circuit.holds) ≡ list_any (λ (hold : Hold). hold.net.0 == l.net.0) l.circuit.holds
