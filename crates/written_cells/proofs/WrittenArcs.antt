-- The arcs of a written model rise: from its inputs to its nodes by their numbers, and from these to its outputs.
use Rattle.std.proofs.Common.{◌≡◌, ℕ, zero, suc, ◌+◌, ◌<◌, ◌≤◌, Bool, true, false, cond, List, [], ◌∷◌, ◌++◌, Option, Some, None, length, map, arith, ap, refl, sym, subst, ◌∙◌, inl, inr}
use Rattle.std.specs.Prelude.{bytes_eq, flat_map, is_some, unwrap_or}
use Rattle.std.proofs.lemmas.Bool.{cases_eq, false≢true, false_from_ne_true}
use Rattle.std.proofs.lemmas.Option.{none-some, same_Some, slice_get_within}
use Rattle.graphs.proofs.Walks.{walk_rises}
use Rattle.names.proofs.NameLaws.{once_has_same}
use Rattle.names.proofs.PlaceLaws.{any_placed, placed_at}
use Rattle.plain_models.proofs.CardKinds.{Each}
use Rattle.plain_models.specs.Flat.{flat_form, number_in, numbered_cover, signal_names}
use Rattle.plain_models.specs.Texts.{PlainCover, PlainModel}
use Rattle.text_lines.specs.Bytes.{starts}
use Rattle.vrt_model.proofs.Lists.{at_map}
use Rattle.vrt_model.specs.Elements.{signal_name}
use Rattle.vrt_model.specs.Lists.{Among, At, has_name, place_of}
use Rattle.vrt_model.specs.ModelArcs.{HasModelArc}
use Rattle.vrt_model.specs.Unsupported.{IsAcyclic}
use Rattle.vrt_model.specs.declared.flat_model.Cover.{Cover}
use Rattle.vrt_model.specs.declared.flat_model.FlatModel.{FlatModel}
use Rattle.written_models.proofs.Covers.{among_each, at_named, each_cover, each_node, each_output, named_each, named_passes}
use Rattle.written_models.proofs.Numbers.{free_other, not_numbered, other_number, same_name}
use Rattle.written_models.proofs.WrittenNames.{branch_within, free_given, named_left, named_right, output_within, reads, variable_there}
use Rattle.written_models.proofs.WrittenSignals.{branch_before}
use Rattle.written_models.specs.Functions.{Node, branch_of, number_of}
use Rattle.written_models.specs.Written.{IsWritable, Logic, covers_of_nodes, covers_of_outputs, is_free_name, nodes_in, numbered, variable_at, written_model}

-- ---- places of names

some_place : (o : Option ℕ) → is_some o ≡ true → (i : ℕ) × (o ≡ Some i)
some_place None e = absurd (false≢true e)
some_place (Some i) e = (i, refl)

named_at : (names : List (List ℕ)) (name : List ℕ) → has_name names name ≡ true → (i : ℕ) × (place_of names name ≡ Some i) × At names i name
named_at names name t = (let p = some_place (place_of names name) (sym (any_placed (bytes_eq name) names) ∙ t) in (p.0, p.1, placed_at names name p.0 p.1))

-- a name of one of the joined lists
joined_has : {X : Type 0} (g : X → List (List ℕ)) (xs : List X) (i : ℕ) (x : X) (name : List ℕ) → At xs i x → has_name (g x) name ≡ true → has_name (flat_map g xs) name ≡ true
joined_has g [] i x name at t = absurd (none-some x at)
joined_has {X} g (y ∷ xs) zero x name at t = named_left (g y) (flat_map g xs) name (subst (λ (z : X). has_name (g z) name ≡ true) (sym (same_Some y x at)) t)
joined_has g (y ∷ xs) (suc i) x name at t = named_right (g y) (flat_map g xs) name (joined_has g xs i x name at t)

-- ---- ranks of names

-- one more than the number that a name is, below a bound; 0 of any other name
abbrev value_below : ℕ → List ℕ → ℕ
value_below zero name = 0
value_below (suc n) name = cond (bytes_eq (numbered n) name) (suc n) (value_below n name)

number_value : (k n : ℕ) → n < k → k ≤ 20000 → value_below k (numbered n) ≡ suc n
number_value zero n lt le = absurd (omega (arith, lt))
number_value (suc m) n lt le = elim (cases_eq m n) [
  | inl same ↦
      ap (λ (x : ℕ). value_below (suc x) (numbered n)) same
      ∙ ap (λ (b : Bool). cond b (suc n) (value_below n (numbered n))) (same_name (numbered n))
  | inr other ↦
      ap (λ (b : Bool). cond b (suc m) (value_below m (numbered n))) (other_number m n (omega (arith, le)) (omega (arith, lt, le)) other)
      ∙ number_value m n (omega (arith, lt, other)) (omega (arith, le))
]

other_value : (k : ℕ) (name : List ℕ) → starts 61 name ≡ false → value_below k name ≡ 0
other_value zero name e = refl
other_value (suc k) name e = ap (λ (b : Bool). cond b (suc k) (value_below k name)) (not_numbered name k e) ∙ other_value k name e

module _ (l : Logic) (good : IsWritable l) where
  abbrev m : PlainModel
  m = written_model l

  abbrev flat : FlatModel
  flat = flat_form m

  abbrev nodes : List Node
  nodes = nodes_in l

  abbrev total : ℕ
  total = 2 + length nodes

  small : total ≤ 20000
  small = (let few = good.few in omega (arith, few))

  -- inputs first, then numbers, then outputs
  abbrev rank_of : List ℕ → ℕ
  rank_of name = cond (has_name l.outputs name) (2 + total) (value_below total name)

  given_rank : (name : List ℕ) → has_name (l.inputs ++ l.clocks) name ≡ true → rank_of name ≡ 0
  given_rank name t =
      ap (λ (b : Bool). cond b (2 + total) (value_below total name))
      (false_from_ne_true (has_name l.outputs name) (λ out. false≢true (sym (good.outputs_other name out) ∙ t)))
      ∙ other_value total name (free_other name (free_given l good name t))

  number_rank : (n : ℕ) → n < total → rank_of (numbered n) ≡ suc n
  number_rank n lt =
      ap (λ (b : Bool). cond b (2 + total) (value_below total (numbered n)))
      (false_from_ne_true (has_name l.outputs (numbered n)) (λ out. false≢true (sym (free_other (numbered n) (named_passes is_free_name l.outputs (numbered n) good.outputs out)))))
      ∙ number_value total n lt small

  output_rank : (i : ℕ) (name : List ℕ) → At l.outputs i name → rank_of name ≡ 2 + total
  output_rank i name at = ap (λ (b : Bool). cond b (2 + total) (value_below total name)) (at_named l.outputs i name at)

  -- what a cover reads has a lower rank than what it gives
  abbrev Rises : PlainCover → Type 0
  Rises c = Each (λ name. rank_of name < rank_of c.output) c.inputs

  all_rise : Each Rises m.covers
  all_rise =
      each_cover Rises (covers_of_nodes l.variables nodes 2 nodes) (covers_of_outputs (length l.variables) nodes l.outputs l.functions) (tt, (tt, tt))
      (each_node Rises l.variables nodes (λ i node e.
      let within = slice_get_within nodes i node e in
      let own = number_rank (2 + i) (omega (arith, within)) in
      let variable = given_rank (variable_at l.variables node.input) (variable_there l good node.input (reads l good i node e)) in
      let low = number_rank (branch_of nodes node false) (branch_within l good i node e false) in
      let high = number_rank (branch_of nodes node true) (branch_within l good i node e true) in
      (omega (arith, own, variable), (omega (arith, own, low, branch_before l good i node e false), (omega (arith, own, high, branch_before l good i node e true), tt)))))
      (each_output Rises (length l.variables) nodes l.outputs l.functions (λ i name f a b.
      let within = output_within l good i f b in
      let own = output_rank i name a in
      let from = number_rank (number_of (length l.variables) 0 f nodes) within in
      (omega (arith, own, from, within), tt)))

  -- ---- ranks of signals

  abbrev rank : ℕ → ℕ
  rank s = rank_of (signal_name flat s)

  -- a name that a cover mentions is that of its signal
  mentioned_rank : (i : ℕ) (c : PlainCover) (name : List ℕ) → At m.covers i c → has_name (c.inputs ++ c.output ∷ []) name ≡ true → rank (number_in m name) ≡ rank_of name
  mentioned_rank i c name at t =
      let interface = m.inputs ++ m.clocks ++ m.outputs in
      let mentioned = flat_map (λ (x : PlainCover). x.inputs ++ x.output ∷ []) m.covers in
      let there : has_name (signal_names m) name ≡ true =
      once_has_same (interface ++ mentioned) name ∙ named_right interface mentioned name (joined_has (λ (x : PlainCover). x.inputs ++ x.output ∷ []) m.covers i c name at t) in
      let p = named_at (signal_names m) name there in
      ap (λ (o : Option ℕ). rank (unwrap_or o 0)) p.1 ∙ ap (λ (o : Option (List ℕ)). rank_of (unwrap_or o [])) p.2

  cover_rises : (i : ℕ) (c : PlainCover) (from : ℕ) → At m.covers i c → Among (map (number_in m) c.inputs) from → rank from < rank (number_in m c.output)
  cover_rises i c from at read =
      let name = at_map (number_in m) c.inputs read.0 from read.1 in
      let reads_it : has_name c.inputs name.0 ≡ true = at_named c.inputs read.0 name.0 name.1 in
      let rise : rank_of name.0 < rank_of c.output = named_each (λ x. rank_of x < rank_of c.output) c.inputs name.0 (among_each Rises m.covers all_rise c (i, at)) reads_it in
      let low : rank from ≡ rank_of name.0 = ap rank (sym name.2) ∙ mentioned_rank i c name.0 at (named_left c.inputs (c.output ∷ []) name.0 reads_it) in
      let high : rank (number_in m c.output) ≡ rank_of c.output = mentioned_rank i c c.output at (named_right c.inputs (c.output ∷ []) c.output (at_named (c.output ∷ []) 0 c.output refl)) in
      omega (arith, rise, low, high)

  module _ (given : ℕ → Option Bool) (default_clock : Option Bool) where
    arc_rises : (from to : ℕ) → HasModelArc flat given default_clock from to → rank from < rank to
    arc_rises from to (inl arc) =
        let cover = arc.0 in
        let on = arc.1 in
        let read = arc.2 in
        let is = arc.3 in
        let c = at_map (numbered_cover (number_in m)) m.covers on.0 cover on.1 in
        let own : Among (map (number_in m) c.0.inputs) from = subst (λ (x : Cover). Among x.inputs from) (sym c.2) read in
        let to_is : to ≡ number_in m c.0.output = is ∙ ap (λ (x : Cover). x.output) (sym c.2) in
        subst (λ (t : ℕ). rank from < rank t) (sym to_is) (cover_rises on.0 c.0 from c.1 own)
    arc_rises from to (inr (inl arc)) = absurd (none-some arc.0 arc.1.1)
    arc_rises from to (inr (inr (inl arc))) = absurd (none-some arc.0 arc.1.1)
    arc_rises from to (inr (inr (inr arc))) = absurd (none-some arc.0 arc.1.1)

    acyclic : IsAcyclic (HasModelArc flat given default_clock)
    acyclic [] cycle = cycle
    acyclic (n ∷ nets) (last, walk, back) =
        let up = walk_rises (HasModelArc flat given default_clock) rank (λ from to arc. let lt = arc_rises from to arc in omega (arith, lt)) nets n last walk in
        let down = arc_rises last n back in
        omega (arith, up, down)

pub written_models_are_acyclic : (l : Logic) (given : ℕ → Option Bool) (default_clock : Option Bool) → IsWritable l → IsAcyclic (HasModelArc (flat_form (written_model l)) given default_clock)
written_models_are_acyclic l given default_clock good = acyclic l good given default_clock
