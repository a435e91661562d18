-- A model without latches and cycles has an assignment: the bits that its covers have when as many rounds are made as ranks say.
use Rattle.std.proofs.Common.{◌≡◌, ℕ, zero, suc, ◌<◌, ◌≤◌, Bool, false, List, Option, Some, None, eqb, length, arith, ap, subst, sym, refl, ◌∙◌, inl, inr}
use Rattle.std.specs.Prelude.{find, option_map, unwrap_or}
use Rattle.std.specs.Option.{option_or}
use Rattle.std.proofs.lemmas.Bool.{eq-eqb, eqb-true, false≢true}
use Rattle.vrt_model.proofs.Assignments.{cover_same}
use Rattle.vrt_model.proofs.Members.{at_none, find_among, find_none}
use Rattle.vrt_model.specs.Assignment.{Assignment, IsAssignment, Surroundings, Tied}
use Rattle.vrt_model.specs.Covers.{cover_bit}
use Rattle.vrt_model.specs.Elements.{Numbered, numbered_from}
use Rattle.vrt_model.specs.Lists.{Among, At}
use Rattle.vrt_model.specs.Reading.{clock_bit}
use Rattle.vrt_model.specs.declared.flat_model.Cover.{Cover}
use Rattle.vrt_model.specs.declared.flat_model.FlatLatch.{FlatLatch}
use Rattle.vrt_model.specs.declared.flat_model.FlatModel.{FlatModel}
use Rattle.vrt_model.specs.declared.pairing.ClockedSignal.{ClockedSignal}
use Rattle.whole_ranks.proofs.CoverLaws.{rank_next, rank_of, rank_rises}
use Rattle.whole_ranks.specs.Logic.{IsCovered, IsLogicModel, LogicHasAssignments}

module _ (flat : FlatModel) (around : Surroundings) (logic : IsLogicModel flat around.clocked around.tied) where
  -- ---- the bits of inputs

  clock_of : ℕ → Option ClockedSignal
  clock_of s = find (λ (c : ClockedSignal). eqb c.signal s) around.clocked

  tie_of : ℕ → Option Tied
  tie_of s = find (λ (t : Tied). eqb t.signal s) around.tied

  given : ℕ → Bool
  given s =
      unwrap_or (option_or (option_map (λ (c : ClockedSignal). clock_bit around.phase c.clock) (clock_of s)) (option_map (λ (t : Tied). around.nets t.net) (tie_of s))) false

  abbrev given_by : Option ClockedSignal → Option Tied → Bool
  given_by o p = unwrap_or (option_or (option_map (λ (c : ClockedSignal). clock_bit around.phase c.clock) o) (option_map (λ (t : Tied). around.nets t.net) p)) false

  given_clock : (c : ClockedSignal) → Among around.clocked c → given c.signal ≡ clock_bit around.phase c.clock
  unfolding given clock_of
  given_clock c m = by_search (find (λ (x : ClockedSignal). eqb x.signal c.signal) around.clocked) refl
    where
      by_search : (o : Option ClockedSignal) → find (λ (x : ClockedSignal). eqb x.signal c.signal) around.clocked ≡ o → given_by o (tie_of c.signal) ≡ clock_bit around.phase c.clock
      by_search None e = absurd (false≢true (sym (find_none (λ (x : ClockedSignal). eqb x.signal c.signal) around.clocked c e m) ∙ eq-eqb c.signal c.signal refl))
      by_search (Some d) e =
          let there = find_among (λ (x : ClockedSignal). eqb x.signal c.signal) around.clocked d e in
          ap (λ k. clock_bit around.phase k) (logic.one_clock d c there.0 m (eqb-true d.signal c.signal there.1))

  given_tie : (t : Tied) → Among around.tied t → given t.signal ≡ around.nets t.net
  unfolding given clock_of tie_of
  given_tie t m = by_search (find (λ (c : ClockedSignal). eqb c.signal t.signal) around.clocked) (find (λ (x : Tied). eqb x.signal t.signal) around.tied) refl refl
    where
      by_search : (o : Option ClockedSignal) (p : Option Tied) → find (λ (c : ClockedSignal). eqb c.signal t.signal) around.clocked ≡ o → find (λ (x : Tied). eqb x.signal t.signal) around.tied ≡ p
          → given_by o p ≡ around.nets t.net
      by_search (Some c) p e f =
          let there = find_among (λ (x : ClockedSignal). eqb x.signal t.signal) around.clocked c e in
          absurd (logic.clocks_apart t.signal (c, there.0, eqb-true c.signal t.signal there.1) (inl (t, m, refl)))
      by_search None None e f = absurd (false≢true (sym (find_none (λ (x : Tied). eqb x.signal t.signal) around.tied t f m) ∙ eq-eqb t.signal t.signal refl))
      by_search None (Some u) e f =
          let there = find_among (λ (x : Tied). eqb x.signal t.signal) around.tied u f in
          ap around.nets (logic.one_tie u t there.0 m (eqb-true u.signal t.signal there.1))

  -- ---- rounds over the covers

  covered_by : (ℕ → Bool) → ℕ → Bool
  covered_by bits s = unwrap_or (option_map (cover_bit bits) (find (λ (c : Cover). eqb c.output s) flat.covers)) (given s)

  rounds : ℕ → ℕ → Bool
  rounds zero s = given s
  rounds (suc k) s = covered_by (rounds k) s

  -- the output of a cover has the cover's bit
  covered_is : (bits : ℕ → Bool) (cover : Cover) → Among flat.covers cover → covered_by bits cover.output ≡ cover_bit bits cover
  unfolding covered_by
  covered_is bits cover m = by_search (find (λ (c : Cover). eqb c.output cover.output) flat.covers) refl
    where
      by_search : (o : Option Cover) → find (λ (c : Cover). eqb c.output cover.output) flat.covers ≡ o → unwrap_or (option_map (cover_bit bits) o) (given cover.output) ≡ cover_bit bits cover
      by_search None e = absurd (false≢true (sym (find_none (λ (c : Cover). eqb c.output cover.output) flat.covers cover e m) ∙ eq-eqb cover.output cover.output refl))
      by_search (Some c) e =
          let there = find_among (λ (x : Cover). eqb x.output cover.output) flat.covers c e in
          ap (cover_bit bits) (logic.one_cover c cover there.0 m (eqb-true c.output cover.output there.1))

  -- another signal keeps its bit
  uncovered_is : (bits : ℕ → Bool) (s : ℕ) → ¬ IsCovered flat s → covered_by bits s ≡ given s
  unfolding covered_by
  uncovered_is bits s none = by_search (find (λ (c : Cover). eqb c.output s) flat.covers) refl
    where
      by_search : (o : Option Cover) → find (λ (c : Cover). eqb c.output s) flat.covers ≡ o → unwrap_or (option_map (cover_bit bits) o) (given s) ≡ given s
      by_search None e = refl
      by_search (Some c) e = let there = find_among (λ (x : Cover). eqb x.output s) flat.covers c e in absurd (none (c, there.0, eqb-true c.output s there.1))

  rounds_given : (k s : ℕ) → ¬ IsCovered flat s → rounds k s ≡ given s
  unfolding rounds
  rounds_given zero s none = refl
  rounds_given (suc k) s none = uncovered_is (rounds k) s none

  abbrev rank : ℕ → ℕ
  rank = rank_of flat around.clocked around.tied logic

  -- two rounds give the output of a cover the same bit where they give its inputs the same
  covered_same : (b d : ℕ → Bool) (s : ℕ) → ((c : Cover) (i : ℕ) → Among flat.covers c → c.output ≡ s → Among c.inputs i → b i ≡ d i) → covered_by b s ≡ covered_by d s
  unfolding covered_by
  covered_same b d s same = by_search (find (λ (c : Cover). eqb c.output s) flat.covers) refl
    where
      by_search : (o : Option Cover) → find (λ (c : Cover). eqb c.output s) flat.covers ≡ o → unwrap_or (option_map (cover_bit b) o) (given s) ≡ unwrap_or (option_map (cover_bit d) o) (given s)
      by_search None e = refl
      by_search (Some c) e =
          let there = find_among (λ (x : Cover). eqb x.output s) flat.covers c e in
          cover_same b d c (λ i m. same c i there.0 (eqb-true c.output s there.1) m)

  -- after as many rounds as its rank says a signal keeps its bit
  settled : (k j s : ℕ) → s < length flat.signals → rank s ≤ k → rank s ≤ j → rounds k s ≡ rounds j s
  unfolding rounds
  settled zero j s within low less = let r = rank_next flat around.clocked around.tied logic s within in let is = r.1 in absurd (omega (arith, low, is))
  settled (suc k) zero s within low less = let r = rank_next flat around.clocked around.tied logic s within in let is = r.1 in absurd (omega (arith, less, is))
  settled (suc k) (suc j) s within low less =
      covered_same (rounds k) (rounds j) s (λ c i m out there.
      let rises = rank_rises flat around.clocked around.tied logic c i m there in
      let here = ap rank out in
      settled k j i (logic.inputs c i m there) (omega (arith, low, rises, here)) (omega (arith, less, rises, here)))

  -- ---- the assignment

  bits : ℕ → Bool
  bits s = rounds (rank s) s

  bits_given : (s : ℕ) → ¬ IsCovered flat s → bits s ≡ given s
  unfolding bits
  bits_given s none = rounds_given (rank s) s none

  bits_covered : (cover : Cover) → Among flat.covers cover → bits cover.output ≡ cover_bit bits cover
  unfolding bits rounds
  bits_covered cover m =
      let next = rank_next flat around.clocked around.tied logic cover.output (logic.outputs cover m) in
      ap (λ (k : ℕ). rounds k cover.output) next.1
      ∙ covered_is (rounds next.0) cover m
      ∙ cover_same (rounds next.0) (λ s. rounds (rank s) s) cover (λ i there.
      let rises = rank_rises flat around.clocked around.tied logic cover i m there in
      let is = next.1 in
      settled next.0 (rank i) i (logic.inputs cover i m there) (omega (arith, rises, is)) (omega arith))

  no_latch : (l : Numbered) → Among (numbered_from 0 flat.latches) l → ⊥
  no_latch l m = at_none m.0 l (subst (λ (ls : List FlatLatch). At (numbered_from 0 ls) m.0 l) logic.latches m.1)

  pub found_assignment : (g : Assignment) × IsAssignment flat around g
  found_assignment = (
    record { signal = bits; next = λ e. false },
    record {
      clocks = λ c m. bits_given c.signal (λ covered. logic.clocks_apart c.signal (c, m, refl) (inr covered)) ∙ given_clock c m;
      inputs = λ t m. bits_given t.signal (λ covered. logic.ties_apart t.signal (t, m, refl) covered) ∙ given_tie t m;
      obeys = record { covers = bits_covered; latches = λ l m. absurd (no_latch l m) };
    },
  )

pub logic_has_assignments : LogicHasAssignments
logic_has_assignments flat around logic = found_assignment flat around logic
