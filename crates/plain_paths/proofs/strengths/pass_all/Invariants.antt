use Rattle.plain_paths.specs.Channels.{HasChannels}
use Rattle.plain_paths.specs.Tables.{HasRoots, HasWithin, IsAttained}
use Rattle.vrt_model.specs.Path.{Network}
use Rattle.plain_paths.proofs.strengths.pass_all.Given as goal

abbrev pub invariant-rounds : goal.invariant-rounds
invariant-rounds l = record {
  attained : (w : Network) → HasChannels w l.channels → IsAttained w l.initial.table → IsAttained w l.table;
  roots : (w : Network) → HasRoots w l.initial.table → HasRoots w l.table;
  within : (w : Network) → HasChannels w l.channels → HasRoots w l.initial.table → HasWithin w l._count l.table;
}
