-- What can be told of a circuit in which whole instances may stand.
use Rattle.std.proofs.Common.{ap}
use Rattle.std.specs.Prelude.{is_some}
use Rattle.told_circuits.proofs.ArcLaws.{rank_arc_decided}
use Rattle.told_circuits.proofs.Decisions.{has_test}
use Rattle.told_circuits.proofs.KnownLaws.{told_table}
use Rattle.told_circuits.proofs.PartLaws.{together_decided}
use Rattle.told_circuits.specs.Told.{KnownNetsHaveTable, KnownNetsHaveTest, PartsHaveTest, RankArcsHaveTest}
use Rattle.vrt_model.proofs.Tests.{some_of}
use Rattle.vrt_model.specs.Known.{HasRankArc, IsTogether}

pub known_nets_have_table : KnownNetsHaveTable
known_nets_have_table c phase wired = told_table c phase wired

pub known_nets_have_test : KnownNetsHaveTest
known_nets_have_test c phase wired =
    let known = told_table c phase wired in (
      λ n. is_some (known.0 n),
      λ n. (
        λ e. (let v = some_of (known.0 n) e in (v.0, (known.1 n v.0).0 v.1)),
        λ v. ap is_some ((known.1 n v.0).1 v.1),
      ),
    )

pub parts_have_test : PartsHaveTest
parts_have_test c phase which wired =
    let known = told_table c phase wired in has_test (IsTogether c phase which) (together_decided c phase known.0 known.1 which)

pub rank_arcs_have_test : RankArcsHaveTest
rank_arcs_have_test c phase wired = (let known = told_table c phase wired in has_test (HasRankArc c phase) (rank_arc_decided c phase known.0 known.1))
