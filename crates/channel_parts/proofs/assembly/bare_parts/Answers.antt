use Rattle.std.proofs.Common.{◌≡◌, ℕ, Bool, List, Option, false, slice_index, ap, refl, subst, sym, ◌∙◌}
use Rattle.std.specs.Prelude.{is_some}
use Rattle.channel_parts.proofs.Acyclic.{ranks_acyclic}
use Rattle.channel_parts.proofs.OneSolution.{one_solution_of_ranked}
use Rattle.channel_parts.proofs.PartLaws.{ranks_even}
use Rattle.channel_parts.proofs.RankLaws.{at_some, some_map}
use Rattle.channel_parts.specs.Ranks.{AreLeast}
use Rattle.known_nets.specs.KnownTables.{IsKnownTable, known_at}
use Rattle.vrt_model.specs.Known.{HasArc, IsFirstCycle, IsRanking}
use Rattle.channel_parts.proofs.assembly.bare_parts.Goals as goal

pub returns-in-Some : goal.returns-in-Some
returns-in-Some c =
    let circuit = c.args.circuit.now in
    let phase = c.args.phase.now in
    let known = c.as_slice-known.result.now in
    let table : IsKnownTable circuit phase (known_at known) =
    subst (λ (t : List (Option Bool)). IsKnownTable circuit phase (known_at t)) (sym c.as_slice-known.ensures.value) c.in_ok-table.ensures.known in
    let are : AreLeast circuit phase c.as_slice-least.result.now =
    subst (AreLeast circuit phase) (sym c.as_slice-least.ensures.value) (λ n p. c.in_ok-labels.ensures.least phase table n p) in
    let ranks = c.as_slice.result.now in
    let ranking : IsRanking circuit phase (slice_index ranks) =
    subst (λ (t : List ℕ). IsRanking circuit phase (slice_index t)) (sym c.as_slice.ensures.value)
    (at_some (λ t. IsRanking circuit phase (slice_index t.items)) c.in_ok-found.found c.in-Some.ranks c.in-Some.is
    (some_map c.in_ok-found.found (λ x h. h table are) c.in_ok-found.ensures.ranked)) in (
      slice_index ranks,
      c.in_ok-parts-in-Some.ensures phase table are (ranks_even circuit phase (slice_index ranks) ranking),
      ranking,
      ranks_acyclic circuit phase (slice_index ranks) ranking,
      λ observed setting seen determined. one_solution_of_ranked circuit phase setting c.requires observed seen determined (known_at known) table (slice_index ranks) ranking,
    )

pub unreachable-requires : goal.unreachable-requires
unreachable-requires c =
    let circuit = c.args.circuit.now in
    let phase = c.args.phase.now in
    let table : IsKnownTable circuit phase (known_at c.as_slice-known.result.now) =
    subst (λ (t : List (Option Bool)). IsKnownTable circuit phase (known_at t)) (sym c.as_slice-known.ensures.value) c.in_ok-table.ensures.known in
    let are : AreLeast circuit phase c.as_slice-least.result.now =
    subst (AreLeast circuit phase) (sym c.as_slice-least.ensures.value) (λ n p. c.in_ok-labels.ensures.least phase table n p) in
    let no_ranks : is_some c.in_ok-found.found ≡ false = ap is_some c.in-None.is in
    let no_cycle : is_some c.in_ok-around-in-None.around ≡ false = ap is_some c.in-None-around.is in
    c.in_ok-found.ensures.around no_ranks table are (c.in_ok-around-in-None.ensures.none no_cycle table are)

pub returns-in-Some-around : goal.returns-in-Some-around
returns-in-Some-around c =
    let circuit = c.args.circuit.now in
    let phase = c.args.phase.now in
    let table : IsKnownTable circuit phase (known_at c.as_slice-known.result.now) =
    subst (λ (t : List (Option Bool)). IsKnownTable circuit phase (known_at t)) (sym c.as_slice-known.ensures.value) c.in_ok-table.ensures.known in
    let are : AreLeast circuit phase c.as_slice-least.result.now =
    subst (AreLeast circuit phase) (sym c.as_slice-least.ensures.value) (λ n p. c.in_ok-labels.ensures.least phase table n p) in
    let cycle : IsFirstCycle (HasArc circuit phase) c.in-Some-around.cycle.items =
    at_some (λ t. IsFirstCycle (HasArc circuit phase) t.items) c.in_ok-around-in-None.around c.in-Some-around.cycle c.in-Some-around.is
    (some_map c.in_ok-around-in-None.around (λ x h. h table are) c.in_ok-around-in-None.ensures.found) in
    (refl, subst (IsFirstCycle (HasArc circuit phase)) (sym (c.in_ok-nets-in-Some-around.ensures ∙ c.as_slice-in-Some-around.ensures.value)) cycle)
