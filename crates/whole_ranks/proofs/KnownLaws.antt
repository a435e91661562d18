-- Known nets stand, whatever the holds and the output pins of whole instances are.
use Rattle.channel_parts.proofs.ArcsToKnown.{no_arcs_to_known_nets as no_arcs}
use Rattle.known_nets.proofs.KnownShow.{known_in_solution, known_shows}
use Rattle.whole_ranks.specs.KnownNets.{KnownNetsAreSolved, KnownNetsShow, NoArcsToKnownNets}

pub known_nets_show : KnownNetsShow
known_nets_show c phase setting s ranges plain_outputs is gates_known n v k =
    known_shows c phase (record { ranges = ranges; outputs = plain_outputs }) n v k setting.inputs setting.held s is.reading (λ d b a g. gates_known d b a g)

pub known_nets_are_solved : KnownNetsAreSolved
known_nets_are_solved c phase observed setting a ranges plain_outputs seen_gates solves n v k seen =
    known_in_solution c phase (record { ranges = ranges; outputs = plain_outputs }) observed setting a solves seen_gates n v k seen

pub no_arcs_to_known_nets : NoArcsToKnownNets
no_arcs_to_known_nets c phase n m arc = no_arcs c phase n m arc
