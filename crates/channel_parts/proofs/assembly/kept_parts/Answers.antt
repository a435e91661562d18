use Rattle.std.proofs.Common.{Bool, List, Option, subst, sym}
use Rattle.known_nets.specs.KnownTables.{IsKnownTable, known_at}
use Rattle.channel_parts.proofs.assembly.kept_parts.Goals as goal

pub returns : goal.returns
returns c =
    let phase = c.args.phase.now in
    c.in_ok-parts.ensures phase
    (subst (λ (t : List (Option Bool)). IsKnownTable c.args.circuit.now phase (known_at t)) (sym c.as_slice.ensures.value) c.in_ok-table.ensures.known)
