-- Circuits with determined whole instances have one solution, where nets have ranks.
use Rattle.std.proofs.Common.{ℕ, Bool}
use Rattle.channel_parts.proofs.DriveLaws.{determined_drives}
use Rattle.channel_parts.proofs.OneSolution.{nets_stand, one_solution_of_ranked}
use Rattle.channel_parts.specs.OneSolution.{AreDetermined}
use Rattle.known_nets.specs.Wired.{IsWired}
use Rattle.told_circuits.proofs.ToldLaws.{known_nets_have_table}
use Rattle.vrt_model.specs.Networks.{HasRanges}
use Rattle.vrt_model.specs.declared.circuit.Circuit.{Circuit}
use Rattle.vrt_model.specs.declared.rules.Phase.{Phase}
use Rattle.whole_ranks.proofs.RankLaws.{acyclic_nets_have_ranks}
use Rattle.whole_ranks.specs.Solved.{AcyclicNetsHaveOneSolution, KnownNetsStand, RankedNetsHaveDrives, RankedNetsHaveOneSolution}

-- the outputs of determined whole instances are at plain nets
pub determined_wired : (c : Circuit) (phase : Phase) (observed : ℕ → Bool) → HasRanges c → AreDetermined c phase observed → IsWired c
determined_wired c phase observed ranges determined = record { ranges = ranges; outputs = λ w pin m p. (determined w m).plain pin p }

pub known_nets_stand : KnownNetsStand
known_nets_stand c phase observed setting ranges plain_outputs seen = nets_stand c phase observed setting (record { ranges = ranges; outputs = plain_outputs }) seen

pub ranked_nets_have_drives : RankedNetsHaveDrives
ranked_nets_have_drives c phase inputs observed rank determined ranks = determined_drives c phase inputs observed rank determined ranks

pub ranked_nets_have_one_solution : RankedNetsHaveOneSolution
ranked_nets_have_one_solution c phase observed setting rank ranges seen determined ranks =
    let wired = determined_wired c phase observed ranges determined in
    let known = known_nets_have_table c phase wired in
    one_solution_of_ranked c phase setting wired observed seen determined known.0 known.1 rank ranks

pub acyclic_nets_have_one_solution : AcyclicNetsHaveOneSolution
acyclic_nets_have_one_solution c phase observed setting ranges seen determined acyclic =
    let ranks = acyclic_nets_have_ranks c phase (determined_wired c phase observed ranges determined) acyclic in
    ranked_nets_have_one_solution c phase observed setting ranks.0 ranges seen determined ranks.1
