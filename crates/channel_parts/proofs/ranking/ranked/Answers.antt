use Rattle.std.proofs.Common.{◌≡◌, true, length, slice_index, arith, ap, subst, sym, ◌∙◌}
use Rattle.std.specs.Prelude.{nat_lt}
use Rattle.std.specs.List.{list_all}
use Rattle.channel_parts.proofs.Acyclic.{ranks_acyclic}
use Rattle.channel_parts.proofs.RankLaws.{same_ranking}
use Rattle.channel_parts.proofs.SourceLaws.{levels_rank, stuck_around}
use Rattle.graphs.proofs.LevelLaws.{levels_all, levels_none}
use Rattle.graphs.specs.Graphs.{AreInside}
use Rattle.graphs.specs.Levels.{AreLevels, AreStuck}
use Rattle.channel_parts.specs.Ranks.{rank_by}
use Rattle.channel_parts.specs.Sources.{AreSources}
use Rattle.channel_parts.proofs.ranking.ranked.Goals as goal

pub levels_of-requires : goal.levels_of-requires
levels_of-requires c = subst AreInside (sym c.as_slice-sources.ensures.value) c.in_ok-table.ensures.inside

pub returns-then-not-all_levelled-clause-around : goal.returns-then-not-all_levelled-clause-around
returns-then-not-all_levelled-clause-around c none table are acyclic =
    let circuit = c.args.circuit.now in
    let phase = c.args.phase.now in
    let known = c.args.known.now in
    let least = c.args.least.now in
    let sources = c.as_slice-sources.result.now in
    let levels = c.as_slice-levels.result.now in
    let so : AreSources circuit phase known least sources = subst (AreSources circuit phase known least) (sym c.as_slice-sources.ensures.value) c.in_ok-table.ensures.sources in
    let stuck : AreStuck sources levels = subst (AreStuck sources) (sym c.as_slice-levels.ensures.value) c.in_ok-found.ensures.stuck in
    let size : length levels ≡ length sources = ap length c.as_slice-levels.ensures.value ∙ c.in_ok-found.ensures.size in
    let some = levels_none levels (sym c.all_levelled.ensures ∙ c.if-not-all_levelled.true) in
    let lt = some.1 in
    stuck_around circuit phase known least table are c.requires.nets c.requires.below sources so levels stuck some.0 (omega (arith, lt, size)) some.2 acyclic

pub returns-then-not-all_levelled-clause-cyclic : goal.returns-then-not-all_levelled-clause-cyclic
returns-then-not-all_levelled-clause-cyclic c none table are rank ranking =
    returns-then-not-all_levelled-clause-around c none table are (ranks_acyclic c.args.circuit.now c.args.phase.now rank ranking)

pub returns-clause-ranked : goal.returns-clause-ranked
returns-clause-ranked c table are =
    let circuit = c.args.circuit.now in
    let phase = c.args.phase.now in
    let known = c.args.known.now in
    let least = c.args.least.now in
    let sources = c.as_slice-sources.result.now in
    let levels = c.as_slice-levels.result.now in
    let so : AreSources circuit phase known least sources = subst (AreSources circuit phase known least) (sym c.as_slice-sources.ensures.value) c.in_ok-table.ensures.sources in
    let found : AreLevels sources levels = subst (AreLevels sources) (sym c.as_slice-levels.ensures.value) c.in_ok-found.ensures.levels in
    let size : length levels ≡ length sources = ap length c.as_slice-levels.ensures.value ∙ c.in_ok-found.ensures.size in
    let all : list_all (λ l. nat_lt 0 l) levels ≡ true = sym c.all_levelled.ensures ∙ c.if-not-all_levelled.false in
    same_ranking circuit phase (slice_index c.in_ok-ranks.ranks.items) (rank_by circuit least levels) c.in_ok-ranks.ensures.ranks
    (levels_rank circuit phase known least table are c.requires.nets c.requires.below sources so levels found (λ n lt. levels_all levels all n (omega (arith, lt, size))))
