-- The channel-connected parts of a circuit in several phases, those of the last phase first.
use Rattle.std.proofs.Common.{◌≡◌, ℕ, suc, ◌+◌, ◌-◌, ◌<◌, true, List, [], ◌∷◌, ◌++◌, length, arith}
use Rattle.std.proofs.lemmas.List.{length-append}
use Rattle.std.proofs.lemmas.Option.{slice_get_within}
use Rattle.channel_parts.specs.PartLists.{IsPartList}
use Rattle.channel_parts.specs.declared.part.Parts.{Parts}
use Rattle.vrt_model.proofs.Lists.{at_front, at_last, at_there}
use Rattle.vrt_model.specs.Lists.{At}
use Rattle.vrt_model.specs.declared.circuit.Circuit.{Circuit}
use Rattle.vrt_model.specs.declared.rules.Phase.{Phase}
use Rattle.whole_circuits.specs.Acyclic.{AreAcyclic}
use Rattle.substitute.specs.BareParts.{AreBareFrom, AreBareParts}

module _ (c : Circuit) (phases : List Phase) where
  -- the last is that of the first phase of these
  pub bare_first : (from : ℕ) (phase : Phase) (parts : List Parts) (own : Parts) → AreBareFrom c phases from (parts ++ own ∷ []) → At phases from phase → IsPartList c phase true own
  bare_first from phase parts own are here =
      let more = length-append parts (own ∷ []) in
      let count = are.count in
      are.each (length parts) from phase own (at_last parts own) here (omega (arith, more, count))

  -- the others are those of the phases behind it
  pub bare_rest : (from : ℕ) (parts : List Parts) (own : Parts) → AreBareFrom c phases from (parts ++ own ∷ []) → AreBareFrom c phases (from + 1) parts
  bare_rest from parts own are = record {
    count = let more = length-append parts (own ∷ []) in let count = are.count in omega (arith, more, count);
    each = λ i p phase there at at_p place. are.each i p phase there (at_front parts (own ∷ []) i there at) at_p place;
  }

  -- a circuit that has them leads around in no phase
  pub bare_acyclic : (parts : List Parts) → AreBareParts c phases parts → AreAcyclic c phases
  bare_acyclic parts are p phase at =
      let below = slice_get_within phases p phase at in
      let count = are.count in
      let place : ℕ = length parts - suc p in
      let sum : place + suc p ≡ length phases = omega (arith, below, count) in
      let within : place < length parts = omega (arith, below, count) in
      let own = at_there parts place within in
      let is = are.each place p phase own.0 own.1 at sum in
      is.3
