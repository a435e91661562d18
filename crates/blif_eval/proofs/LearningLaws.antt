-- An order of what is awaited, and what is learned along it: at its end all is known.
use Rattle.std.proofs.Common.{◌≡◌, ℕ, ◌+◌, ◌<◌, ◌≤◌, ◌⊎◌, Bool, true, false, cond, List, [], length, Option, slice_index, arith, ap, subst, sym, refl, ◌∙◌, inl, inr}
use Rattle.std.specs.Prelude.{is_some, option_map, unwrap_or}
use Rattle.std.proofs.lemmas.Bool.{cases_Bool, cases_eq, cases_lt, true≢false}
use Rattle.std.proofs.lemmas.Option.{none-some, slice_get_within}
use Rattle.blif_eval.proofs.Drivers.{covered_below, input_below}
use Rattle.blif_eval.proofs.FoundDrivers.{cover_at, driver_there}
use Rattle.blif_eval.proofs.GraphLaws.{driver_from, map_at, map_size}
use Rattle.blif_eval.proofs.KnownLaws.{each_entry, entries_from, entry_bit, is_entry_of, other, spread_more, spread_start, stays_entry, taught}
use Rattle.blif_eval.specs.Drivers.{AreDrivers, IsDriver, node_count}
use Rattle.blif_eval.specs.KnownBits.{AreKnown, IsDone, IsLearned, IsSpread, bit_in, is_entry}
use Rattle.blif_eval.specs.Learning.{HasLearnedBy, IsLearning, IsLearningOrder, awaited, awaited_at, awaited_by, awaiting}
use Rattle.blif_eval.specs.Plans.{IsBefore}
use Rattle.blif_eval.specs.Settled.{driver_at}
use Rattle.blif_eval.specs.declared.driver_table.Driver.{Driver}
use Rattle.blif_eval.specs.declared.driver_table.Driver.TheVariants.{Given, Covered, Stored, Element}
use Rattle.graphs.proofs.Lists.{index_within}
use Rattle.graphs.specs.Graphs.{ArcIn, AreInside, sources_at}
use Rattle.graphs.specs.Levels.{AreStuck}
use Rattle.graphs.specs.Orders.{IsPlacing}
use Rattle.vrt_model.proofs.Lists.{one_at}
use Rattle.vrt_model.specs.FlatModels.{IsFlatModel}
use Rattle.vrt_model.specs.Lists.{At, Among}
use Rattle.vrt_model.specs.declared.flat_model.Cover.{Cover}
use Rattle.vrt_model.specs.declared.flat_model.FlatModel.{FlatModel}

-- ---- what is awaited

awaited_there : (covers : List Cover) (known : List (Option Bool)) (place : ℕ) (cover : Cover) → At covers place cover → awaited_at covers known place ≡ awaited known cover
awaited_there covers known place cover at = ap (λ (o : Option Cover). unwrap_or (option_map (awaited known) o) []) at

-- what is known at first awaits nothing, and what a cover awaits it reads
awaited_none : (known : List (Option Bool)) (cover : Cover) → is_entry known cover.output ≡ true → awaited known cover ≡ []
awaited_none known cover e = ap (λ (b : Bool). cond b [] cover.inputs) e

awaited_all : (known : List (Option Bool)) (cover : Cover) → is_entry known cover.output ≡ false → awaited known cover ≡ cover.inputs
awaited_all known cover e = ap (λ (b : Bool). cond b [] cover.inputs) e

awaited_read : (inputs : List ℕ) (known : Bool) (from : ℕ) → Among (cond known [] inputs) from → Among inputs from
awaited_read inputs true from a = absurd (none-some from a.1)
awaited_read inputs false from a = a

module _ (flat : FlatModel) (model : IsFlatModel flat) (drivers : List Driver) (are : AreDrivers flat drivers) (known : List (Option Bool)) where
  size_is : length (awaiting flat known drivers) ≡ node_count flat
  size_is = map_size (awaited_by flat known) drivers ∙ are.size

  -- the sources of the output of a cover are what it awaits
  sources_are : (cover : Cover) → Among flat.covers cover → is_entry known cover.output ≡ false → sources_at (awaiting flat known drivers) cover.output ≡ cover.inputs
  sources_are cover m none =
      let p = cover_at flat model drivers are cover m in
      map_at (awaited_by flat known) drivers cover.output (Covered p.0) p.1 ∙ (awaited_there flat.covers known p.0 cover p.2 ∙ awaited_all known cover none)

  -- what is known at first has no sources
  none_by : (n : ℕ) (driver : Driver) → IsDriver flat n driver → is_entry known n ≡ true → awaited_by flat known driver ≡ []
  none_by n Given is e = refl
  none_by n (Covered place) is e =
      awaited_there flat.covers known place is.0 is.1 ∙ awaited_none known is.0 (subst (λ (k : ℕ). is_entry known k ≡ true) (sym is.2) e)
  none_by n (Stored number) is e = refl
  none_by n (Element storage) is e = refl

  no_sources : (n from : ℕ) → n < node_count flat → is_entry known n ≡ true → ¬ ArcIn (awaiting flat known drivers) from n
  no_sources n from lt e arc =
      let there = driver_there flat model drivers are n lt in
      let none = map_at (awaited_by flat known) drivers n (driver_at drivers n) there ∙ none_by n (driver_at drivers n) (are.each n (driver_at drivers n) there) e in
      none-some from (subst (λ (xs : List ℕ). Among xs from) none arc).1

  inside_by : (from to : ℕ) (driver : Driver) → IsDriver flat to driver → Among (awaited_by flat known driver) from → from < length flat.signals
  inside_by from to Given is a = absurd (none-some from a.1)
  inside_by from to (Covered place) is a =
      let own = subst (λ (xs : List ℕ). Among xs from) (awaited_there flat.covers known place is.0 is.1) a in
      input_below flat model is.0 from (place, is.1) (awaited_read is.0.inputs (is_entry known is.0.output) from own)
  inside_by from to (Stored number) is a = absurd (none-some from a.1)
  inside_by from to (Element storage) is a = absurd (none-some from a.1)

  pub awaiting_inside : AreInside (awaiting flat known drivers)
  awaiting_inside from to arc =
      let d = driver_from (awaited_by flat known) drivers to from arc in
      let own = subst (λ (xs : List ℕ). Among xs from) (map_at (awaited_by flat known) drivers to d.0 d.1) arc in
      let low = inside_by from to d.0 (are.each to d.0 d.1) own in
      let size = size_is in
      omega (arith, low, size)

  -- the numbers in the order in which they get levels
  pub learning_order_is : (levels steps : List ℕ) → length levels ≡ length (awaiting flat known drivers) → AreStuck (awaiting flat known drivers) levels
      → IsPlacing (awaiting flat known drivers) levels steps → IsLearningOrder flat known steps
  learning_order_is levels steps size stuck placing = record {
    once = placing.once;
    below = λ n m. let low = index_within levels n (placing.levelled n m) in let count = size_is in omega (arith, low, size, count);
    behind = λ cover k from m none at reads.
        placing.follows from cover.output k at (subst (λ (xs : List ℕ). Among xs from) (sym (sources_are cover m none)) reads);
    whole = λ cover m none. elim (cases_lt 0 (slice_index levels cover.output)) [
      | inl lt ↦ inl (placing.listed cover.output lt)
      | inr le ↦
          let low = covered_below flat model cover m in
          let count = size_is in
          let by = stuck cover.output (omega (arith, low, count)) (omega (arith, le)) in
          let reads = subst (λ (xs : List ℕ). Among xs by.0) (sources_are cover m none) by.1 in
          inr (by.0, reads, not_there by.0 by.2, unknown by.0 (input_below flat model cover by.0 m reads) by.2)
    ];
  }
    where
      not_there : (n : ℕ) → slice_index levels n ≡ 0 → ¬ Among steps n
      not_there n none a = let has = placing.levelled n a in omega (arith, has, none)

      unknown : (n : ℕ) → n < length flat.signals → slice_index levels n ≡ 0 → is_entry known n ≡ false
      unknown n lt none = elim (cases_Bool (is_entry known n)) [
        | inl t ↦
            let count = size_is in
            let by = stuck n (omega (arith, lt, count)) none in
            absurd (no_sources n by.0 (omega (arith, lt)) t by.1)
        | inr f ↦ f
      ]

-- ---- learning along an order

module _ (flat : FlatModel) (model : IsFlatModel flat) (known : List (Option Bool)) (steps : List ℕ) (order : IsLearningOrder flat known steps) where
  pub learning_start : length known ≡ length flat.signals + 1 → IsLearning flat known steps 0 known
  learning_start size = record {
    spread = spread_start flat known known refl size;
    later = λ n e. inl e;
    done = λ k cover lt at m. absurd (omega (arith, lt));
  }

  -- what was known at first still is
  kept_entry : (bits : List (Option Bool)) (n : ℕ) → IsSpread flat known bits → is_entry known n ≡ true → is_entry bits n ≡ true
  kept_entry bits n spread e = is_entry_of bits n (bit_in known n) (spread.kept n (bit_in known n) (entry_bit known n e))

  module _ (drivers : List Driver) (are : AreDrivers flat drivers) (upto n : ℕ) (there : At steps upto n) (driver : Driver) (here : At drivers n driver) (old new : List (Option Bool))
      (so : IsLearning flat known steps upto old) where
    before_next : (k : ℕ) → IsBefore steps upto k → IsBefore steps (upto + 1) k
    before_next k (j, lt, at) = (j, omega (arith, lt), at)

    -- nothing was to be learned
    still : new ≡ old → ((place : ℕ) (cover : Cover) → driver ≡ Covered place → At flat.covers place cover → IsDone old cover) → IsLearning flat known steps (upto + 1) new
    still same done = subst (IsLearning flat known steps (upto + 1)) (sym same) (record {
      spread = so.spread;
      later = λ k e. elim (so.later k e) [ inl first ↦ inl first | inr before ↦ inr (before_next k before) ];
      done = λ k cover lt at m. elim (cases_lt k upto) [
        | inl less ↦ so.done k cover less at m
        | inr ge ↦
            let place : k ≡ upto = omega (arith, lt, ge) in
            let is : cover.output ≡ n = one_at steps upto cover.output n (subst (λ (i : ℕ). At steps i cover.output) place at) there in
            let p = cover_at flat model drivers are cover m in
            let by : driver ≡ Covered p.0 = one_at drivers n driver (Covered p.0) here (subst (λ (i : ℕ). At drivers i (Covered p.0)) is p.1) in
            done p.0 cover by p.2
      ];
    })

    -- the bit of the number was learned from its cover
    module _ (place : ℕ) (by : Cover) (is_by : driver ≡ Covered place) (at_by : At flat.covers place by) (learned : IsLearned by old new) where
      output_is : by.output ≡ n
      output_is =
          let is = subst (IsDriver flat n) is_by (are.each n driver here) in
          ap (λ (c : Cover). c.output) (one_at flat.covers place by is.0 at_by is.1) ∙ is.2

      was : (k : ℕ) → (k ≡ n → ⊥) → is_entry new k ≡ true → is_entry old k ≡ true
      was k ne e = ap (λ (o : Option Bool). is_some o) (sym (other flat model known old new by (place, at_by) so.spread learned k (λ is. ne (is ∙ output_is)))) ∙ e

      -- an earlier cover does not read what is learned later
      not_read : (k : ℕ) (cover : Cover) → k < upto → At steps k cover.output → Among flat.covers cover → is_entry known cover.output ≡ false → (i : ℕ) → Among cover.inputs i → ¬ (i ≡ n)
      not_read k cover lt at m none i reads is =
          let before = order.behind cover k i m none at reads in
          let place = order.once before.0 upto i before.2 (subst (λ (j : ℕ). At steps upto j) (sym is) there) in
          let less = before.1 in
          omega (arith, lt, less, place)

      earlier : (k : ℕ) (cover : Cover) → k < upto → At steps k cover.output → Among flat.covers cover → IsDone new cover
      earlier k cover lt at m all = elim (cases_Bool (is_entry known cover.output)) [
        | inl t ↦ kept_entry new cover.output (spread_more flat model known old new by (place, at_by) so.spread learned) t
        | inr f ↦
            stays_entry flat model known old new by (place, at_by) so.spread learned cover.output
            (so.done k cover lt at m (entries_from old cover.inputs (λ i a. was i (not_read k cover lt at m f i a) (each_entry new cover.inputs all i a))))
      ]

      more : IsLearning flat known steps (upto + 1) new
      more = record {
        spread = spread_more flat model known old new by (place, at_by) so.spread learned;
        later = λ k e. elim (cases_eq k n) [
          | inl is ↦ inr (upto, omega arith, subst (At steps upto) (sym is) there)
          | inr ne ↦ elim (so.later k (was k ne e)) [ inl first ↦ inl first | inr before ↦ inr (before_next k before) ]
        ];
        done = λ k cover lt at m. elim (cases_lt k upto) [
          | inl less ↦ earlier k cover less at m
          | inr ge ↦
              let here : k ≡ upto = omega (arith, lt, ge) in
              let is : cover.output ≡ n = one_at steps upto cover.output n (subst (λ (i : ℕ). At steps i cover.output) here at) there in
              let known_now = taught flat model known old new by (place, at_by) so.spread learned in
              λ all. subst (λ (k : ℕ). is_entry new k ≡ true) (output_is ∙ sym is) known_now
        ];
      }

    pub learning_next : HasLearnedBy flat driver old new → IsLearning flat known steps (upto + 1) new
    learning_next (inl same) = still same.0 same.1
    learning_next (inr l) = more l.0 l.1 l.2 l.3 l.4

  -- at the end of the order all is known
  pub learning_end : (upto : ℕ) (bits : List (Option Bool)) → length steps ≤ upto → IsLearning flat known steps upto bits → AreKnown flat known bits
  learning_end upto bits le so = record {
    spread = so.spread;
    done = λ cover m all. elim (cases_Bool (is_entry known cover.output)) [
      | inl t ↦ kept_entry bits cover.output so.spread t
      | inr f ↦ elim (order.whole cover m f) [
        | inl there ↦
            let within = slice_get_within steps there.0 cover.output there.1 in
            so.done there.0 cover (omega (arith, within, le)) there.1 m all
        | inr reads ↦ absurd (never reads.0 reads.2 reads.3 (so.later reads.0 (each_entry bits cover.inputs all reads.0 reads.1)))
      ]
    ];
  }
    where
      never : (n : ℕ) → ¬ Among steps n → is_entry known n ≡ false → (is_entry known n ≡ true) ⊎ IsBefore steps upto n → ⊥
      never n out none (inl e) = true≢false (sym e ∙ none)
      never n out none (inr before) = out (before.0, before.2)
