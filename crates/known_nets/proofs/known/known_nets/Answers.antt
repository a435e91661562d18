use Rattle.std.proofs.Common.{◌≡◌, Bool, List, Option, subst, sym}
use Rattle.known_nets.proofs.TableLaws.{fixed_has, fixed_known, fixed_table}
use Rattle.known_nets.specs.KnownTables.{AreKnown, HasFixedNets, known_at}
use Rattle.known_nets.proofs.known.known_nets.Goals as goal

pub returns-clause-known : goal.returns-clause-known
returns-clause-known c =
    let circuit = c.args.circuit.now in
    let phase = c.args.phase.now in
    let first : c.in_ok-search.search.known.items ≡ fixed_table circuit phase = c.in_ok-search.ensures.known in
    c.in_ok-learn_all.ensures.known phase
    (subst (λ (t : List (Option Bool)). HasFixedNets circuit phase (known_at t)) (sym first) (fixed_has circuit phase))
    (subst (λ (t : List (Option Bool)). AreKnown circuit phase (known_at t)) (sym first) (fixed_known circuit phase))
