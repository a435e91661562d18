-- In a circuit that has a state for each reading the lists of all numbers of nets and of ports leave nothing out.
use Rattle.std.proofs.Common.{◌≡◌, ℕ, ◌<◌, true, List, length, arith, subst}
use Rattle.std.specs.List.{range_with_len}
use Rattle.std.proofs.lemmas.List.FromFn.{get_or-range_with_len, length-range_with_len}
use Rattle.std.proofs.lemmas.Option.{get_or_from_slice_get, slice_get_within}
use Rattle.fault_places.proofs.Floats.{floats_are_plain}
use Rattle.fault_places.specs.PhaseSpots.{AreSites, AreSteps, IsRising, Step, counted}
use Rattle.fault_places.specs.States.{HasStates}
use Rattle.vrt_model.proofs.Lists.{at_there}
use Rattle.vrt_model.proofs.Members.{all_among}
use Rattle.vrt_model.specs.Circuits.{IsHold}
use Rattle.vrt_model.specs.Comparison.{Comparison, is_observed, phase_at, ports_of}
use Rattle.vrt_model.specs.Lists.{At, Among}
use Rattle.vrt_model.specs.Networks.{HasRanges}
use Rattle.vrt_model.specs.Places.{IsOrder}

-- the numbers below a count
pub number_at : (count i n : ℕ) → At (range_with_len 0 count) i n → n ≡ i
number_at count i n at =
    let within : i < length (range_with_len 0 count) = slice_get_within (range_with_len 0 count) i n at in
    let size = length-range_with_len 0 count in
    let is = get_or-range_with_len 0 count i n (omega (arith, within, size)) in
    let same = get_or_from_slice_get (range_with_len 0 count) i n n at in
    omega (arith, is, same)

numbers_rise : (count : ℕ) → IsRising (range_with_len 0 count)
numbers_rise count i j a b at there lt =
    let one = number_at count i a at in let two = number_at count j b there in omega (arith, one, two, lt)

pub number_among : (count n : ℕ) → n < count → Among (range_with_len 0 count) n
number_among count n lt =
    let size = length-range_with_len 0 count in
    let there = at_there (range_with_len 0 count) n (omega (arith, size, lt)) in
    (n, subst (λ (m : ℕ). At (range_with_len 0 count) n m) (number_at count n there.0 there.1) there.1)

pub counted_sites : (k : Comparison) (phase : ℕ) (rank least : ℕ → ℕ) (steps : List Step) → HasRanges k.circuit → HasStates k.circuit (phase_at k.rules phase)
    → ((n : ℕ) → is_observed k phase n ≡ true → n < length k.circuit.nets) → IsOrder k phase rank least → AreSteps k phase rank steps
    → AreSites k phase rank least (counted k steps)
counted_sites k phase rank least steps ranges states seen order are = record {
  order = order;
  steps = are;
  nets_rise = numbers_rise (length k.circuit.nets);
  plain_nets = λ n p. number_among (length k.circuit.nets) n (slice_get_within k.circuit.nets n p.0 p.1);
  seen_nets = λ n o. number_among (length k.circuit.nets) n (seen n o);
  ports_rise = numbers_rise (length (ports_of k));
  seen_ports = λ at port signal there out o. number_among (length (ports_of k)) at (slice_get_within (ports_of k) at port there);
  held_rise = numbers_rise (length k.circuit.nets);
  held_nets = λ place h there. number_among (length k.circuit.nets) h.net.0 (all_among (IsHold k.circuit) k.circuit.holds h ranges.holds (place, there)).net;
  floats = floats_are_plain k phase ranges states seen;
}
