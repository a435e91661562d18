-- A look at all steps of a net: its ends, where steps begin, and what is found there.
use Rattle.std.proofs.Common.{◌≡◌, ℕ, ◌+◌, ◌<◌, ◌&&◌, All, Bool, true, false, cond, List, [], Option, Some, None, Ok, Err, ap, ap₂, arith, eqb, length, refl, subst, sym, ◌∙◌}
use Rattle.std.proofs.Math.Path.{fun_ext}
use Rattle.std.proofs.lemmas.Bool.{false≢true}
use Rattle.std.proofs.lemmas.List.FromFn.{get_or-range_with_len, length-range_with_len}
use Rattle.std.proofs.lemmas.List.Elements.{All-map}
use Rattle.std.proofs.lemmas.Option.{slice_get_within}
use Rattle.bdd_core.proofs.Frames.{adds_then, adds_words, nodes_then}
use Rattle.bdd_core.specs.Diagram.{Function, Valuation}
use Rattle.bdd_core.specs.Store.{Adds, AddsNodes, Diagrams, Gives, IsLive, IsSpan, function_of}
use Rattle.bdd_core.specs.Words.{IsFilled, shows}
use Rattle.bdd_core.specs.declared.handle.H.{H}
use Rattle.bdd_core.specs.declared.handle.Spent.{Spent}
use Rattle.bdd_ops.specs.Counting.{Counts, IsCounted}
use Rattle.bdd_ops.specs.Ops.{bits_of}
use Rattle.domino_order.proofs.BeginLaws.{all_begin, arrivals_many, not_risen, order_len}
use Rattle.domino_order.proofs.BegunLaws.{input_nets, variable_few}
use Rattle.domino_order.proofs.RunLaws.{asked_passes, gives_added, handles_added, stays_added}
use Rattle.domino_order.proofs.StepFound.{same_vars}
use Rattle.domino_order.proofs.StepFrames.{given_span}
use Rattle.domino_order.proofs.StepGives.{bits_len}
use Rattle.domino_order.specs.Beginnings.{HasFirst, IsLong, begins_of, ends_below, ends_of, reached_of}
use Rattle.domino_order.specs.Runs.{IsAsked, IsBound, IsLooked, IsPrepared, LookGives, MayPass, asked_variables, begins_operations, ends_operations, is_below, is_end, look_operations, of_asked, phase_variables, prepared_operations, run_operations}
use Rattle.domino_order.specs.StepBits.{IsStepAt}
use Rattle.domino_order.specs.StepSettings.{GivesSettings, StepGives, begun, begun_at, start_at}
use Rattle.domino_order.specs.StepWords.{HasStepHandles, KeepsWords, step_operations}
use Rattle.domino_order.specs.declared.prepared.Asked.{Asked}
use Rattle.domino_order.specs.declared.prepared.Prepared.{Prepared}
use Rattle.phase_laws.proofs.Work.{used_more}
use Rattle.phase_open.specs.Given.{variable_at}
use Rattle.phase_terms.specs.Stores.{IsUsed}
use Rattle.std.proofs.lemmas.Bool.{eq-eqb}
use Rattle.vrt_model.proofs.Members.{all_by, among_any}
use Rattle.vrt_model.specs.Comparison.{Comparison}
use Rattle.vrt_model.specs.Held.{setting_of}
use Rattle.vrt_model.specs.Lists.{has_number}
use Rattle.vrt_model.specs.declared.groups.Valuation.{Valuation as Found}

module _ (s : Asked) (is : IsAsked s) (n : ℕ) (listed : has_number s.rising.nets.now n ≡ true) where
  abbrev k : Comparison
  k = of_asked s

  abbrev phase : ℕ
  phase = s.rising.phase

  abbrev nets : List ℕ
  nets = s.rising.nets.now

  -- a bound has a bit for each variable and each arrival
  pub bound_long : (bound : Option Found) → IsBound k phase nets n bound → IsLong (length s.order.now + length s.arrivals.now) bound
  bound_long None bounded = tt
  bound_long (Some b) bounded =
      let size = bits_len k phase nets n b.bits bounded.at in
      let few = order_len s is n listed in
      let many = arrivals_many s is n listed in omega (arith, size, few, many)

  pub bound_first : (bound : Option Found) → IsBound k phase nets n bound → HasFirst (length s.order.now) bound
  bound_first None bounded = tt
  bound_first (Some b) bounded =
      let size = bits_len k phase nets n b.bits bounded.at in
      let few = order_len s is n listed in omega (arith, size, few)

  -- the variables of the phase, and those of the arrivals, are there
  pub order_there : (most : ℕ) → most ≡ phase_variables s → All (λ (x : ℕ). x < most) s.order.now
  order_there most same =
      subst (λ (xs : List ℕ). All (λ (x : ℕ). x < most) xs) (sym is.order)
      (λ i d lt. (
      let len = length-range_with_len 0 (phase_variables s) in
      let below : i < phase_variables s = omega (arith, len, lt) in
      let here = get_or-range_with_len 0 (phase_variables s) i d below in omega (arith, here, below, same)
      ))

  pub arrivals_there : (most : ℕ) → most ≡ phase_variables s → All (λ (x : ℕ). x < most) s.arrivals.now
  arrivals_there most same =
      subst (λ (xs : List ℕ). All (λ (x : ℕ). x < most) xs) (sym is.arrivals)
      (All-map (λ (x : ℕ). x < most) (variable_at k.circuit) nets
      (all_by (λ (m : ℕ). variable_at k.circuit m < most) nets
      (λ m there. (
      let few = variable_few k phase nets is.rising.inputs [] m (input_nets k phase nets is.rising.inputs [] m (among_any (λ (x : ℕ). eqb x m) nets m there (eq-eqb m m refl))) in omega (arith, few, same)
      ))))

  module _ (bound : Option Found) (bounded : IsBound k phase nets n bound) (p : Prepared) (d1 : Diagrams) (start : IsPrepared s p d1) (below : n < p.words.given.len) where
    -- what the net shows in the words is its bit
    high_is : (xs : List Bool) → shows d1 p.words.given n (bits_of xs) ≡ (setting_of k phase xs).inputs n
    high_is xs = (let net = is.rising.inputs n listed in sym ((start.given xs).inputs n net.0 net.1 net.2))

    ends_is : (xs : List Bool) → ends_of d1 n p.words.given s.order.now bound (function_of d1 p.care) (bits_of xs) ≡ is_end s n bound xs
    ends_is xs =
        ap₂ {C = Bool} (λ (a b : Bool). (a && b) && ends_below s.order.now bound (bits_of xs)) (start.cared xs) (high_is xs)

    module _ (ends : H) (d2 : Diagrams) (one : Gives d1 d2 (ends_of d1 n p.words.given s.order.now bound (function_of d1 p.care)) (Ok ends)) (counted_one : IsCounted d1.vars (ends_operations s) d1 d2) where
      vars_two : d2.vars ≡ phase_variables s
      vars_two = same_vars d1 d2 d1.words one.adds ∙ start.vars

      ends_two : (xs : List Bool) → function_of d2 ends (bits_of xs) ≡ is_end s n bound xs
      ends_two xs = one.ok.same (bits_of xs) ∙ ends_is xs

      high_two : (v : Valuation) → shows d2 p.words.given n v ≡ shows d1 p.words.given n v
      high_two v = (stays_added p.words.given d1 d2 one.adds start.handles.given).shown n v below

      used_two : IsUsed d1.budget d1.vars (prepared_operations s + ends_operations s) d2
      used_two = used_more d1.budget d1.vars (prepared_operations s) (ends_operations s) d1 d2 start.used counted_one

      module _ (care : H) (d3 : Diagrams) (two : Gives d2 d3 (begins_of d2 n p.words.given s.order.now s.arrivals.now bound (function_of d2 ends)) (Ok care)) (counted_two : IsCounted d2.vars (begins_operations s) d2 d3) where
        vars_three : d3.vars ≡ phase_variables s
        vars_three = same_vars d2 d3 d2.words two.adds ∙ vars_two

        used_three : IsUsed d1.budget d1.vars (prepared_operations s + ends_operations s + begins_operations s) d3
        used_three =
            used_more d1.budget d1.vars (prepared_operations s + ends_operations s) (begins_operations s) d2 d3 used_two
            (subst (λ (u : ℕ). IsCounted u (begins_operations s) d2 d3) (same_vars d1 d2 d1.words one.adds) counted_two)

        -- each step below the bound begins in the care set
        cared_for : (bits : List Bool) → IsStepAt k phase nets n bits → is_below bound bits ≡ true → function_of d3 care (begun_at k phase nets bits) ≡ true
        cared_for bits at low =
            let u = begun_at k phase nets bits in
            two.ok.same u
            ∙ ap (λ (b : Bool). cond b false (reached_of s.order.now s.arrivals.now bound (function_of d2 ends) u))
            (high_two u ∙ high_is (begun k phase nets bits) ∙ not_risen s is n listed bound (function_of d2 ends) ends_two bits at)
            ∙ all_begin s is n listed bound (function_of d2 ends) ends_two bounded bits at low

        -- and where there is care the net has not risen, and an end is reached
        begins_there : (xs : List Bool) → function_of d3 care (bits_of xs) ≡ true
            → ((setting_of k phase xs).inputs n ≡ false) × (reached_of s.order.now s.arrivals.now bound (function_of d2 ends) (bits_of xs) ≡ true)
        begins_there xs e = by_bit (shows d2 p.words.given n (bits_of xs)) (reached_of s.order.now s.arrivals.now bound (function_of d2 ends) (bits_of xs)) (sym (high_is xs) ∙ sym (high_two (bits_of xs))) (sym (two.ok.same (bits_of xs)) ∙ e)
          where
            by_bit : (b reached : Bool) → (setting_of k phase xs).inputs n ≡ b → cond b false reached ≡ true → ((setting_of k phase xs).inputs n ≡ false) × (reached ≡ true)
            by_bit true reached is_bit e = absurd (false≢true e)
            by_bit false reached is_bit e = (is_bit, e)

        module _ (d4 : Diagrams) (keeps : KeepsWords d3 d4) (found : Option H) (gives : StepGives k phase nets n care d3 d4 found) (counted : IsCounted d3.vars (step_operations s.rising) d3 d4) where
          ends_kept : function_of d4 ends ≡ function_of d2 ends
          ends_kept = fun_ext (λ v.
              let three : IsLive d3 ends = (let live = one.ok.live in let longer = two.adds.longer in omega (arith, live, longer)) in
              keeps.adds.kept ends.0 three v ∙ two.adds.kept ends.0 one.ok.live v)

          look_gives : (o : Option H) → StepGives k phase nets n care d3 d4 o → LookGives s n bound ends d4 o
          look_gives None holds = λ bits at low. holds bits at (cared_for bits at low)
          look_gives (Some at) fails = record {
            live = fails.live;
            some = fails.some;
            begins = λ xs e. (
                let there = begins_there xs (fails.within (bits_of xs) e) in
                (there.0, ap (λ (f : Function). reached_of s.order.now s.arrivals.now bound f (bits_of xs)) ends_kept ∙ there.1)
                );
            fails = fails.so;
          }

          adds : Adds d1 d4 d4.words
          adds = adds_then d1 d3 d4 d1.words d4.words (nodes_then d1 d2 d3 one.adds two.adds) keeps.adds

          pub looked : IsLooked s n bound (record { ends = ends; found = found; least = p.least }) d4
          looked =
              let vars_four : d4.vars ≡ d1.vars = same_vars d1 d4 d4.words adds in
              let budget_four : d4.budget ≡ d1.budget = ap (λ (d : Diagrams). d.budget) adds.rest in
              record {
                live = (let live = one.ok.live in let longer = two.adds.longer in let last = keeps.adds.longer in omega (arith, live, longer, last));
                ends = λ xs. ap (λ (f : Function). f (bits_of xs)) ends_kept ∙ ends_two xs;
                found = look_gives found gives;
                least = (
                  (
                      let own : d4.own ≡ d1.own = ap (λ (d : Diagrams). d.own) adds.rest in
                      let span = start.least.0 in
                      let a : length d2.words ≡ length d1.words = ap (λ (ws : List ℕ). length ws) (adds_words d1 d2 d1.words one.adds) in
                      let b : length d3.words ≡ length d2.words = ap (λ (ws : List ℕ). length ws) (adds_words d2 d3 d2.words two.adds) in
                      let more = keeps.len in (omega (arith, own, span.0), omega (arith, a, b, more, span.1))
                      ),
                  start.least.1 ∙ sym vars_four,
                );
                used =
                    subst (λ (x : ℕ). IsUsed x d4.vars (look_operations s) d4) (sym budget_four)
                    (subst (λ (x : ℕ). IsUsed d1.budget x (look_operations s) d4) (sym vars_four)
                    (used_more d1.budget d1.vars (prepared_operations s + ends_operations s + begins_operations s) (step_operations s.rising) d3 d4 used_three
                    (subst (λ (u : ℕ). IsCounted u (step_operations s.rising) d3 d4) (same_vars d2 d3 d2.words two.adds ∙ same_vars d1 d2 d1.words one.adds) counted)));
                vars = vars_four ∙ start.vars;
                budget = (let least = start.budget in omega (arith, budget_four, least));
              }

        -- a refusal while the step is looked at
        pub failing_passes : {A : Type 0} (budget : ℕ) (d4 : Diagrams) (e : Spent) → d1.budget ≡ budget → Counts {A = A} d3.vars (step_operations s.rising) d3 d4 (Err e) → MayPass (asked_variables s) budget (run_operations s)
        failing_passes {A} budget d4 e same counts =
            let adds = nodes_then d1 d2 d3 one.adds two.adds in
            let vars : d3.vars ≡ d1.vars = same_vars d1 d3 d1.words adds in
            let here : d3.budget ≡ d1.budget = ap (λ (d : Diagrams). d.budget) adds.rest in
            asked_passes {A = A} s (prepared_operations s + ends_operations s + begins_operations s) (step_operations s.rising) (run_operations s) budget d3 d4 e vars_three (here ∙ same)
            (subst (λ (x : ℕ). IsUsed x d3.vars (prepared_operations s + ends_operations s + begins_operations s) d3) (sym here)
            (subst (λ (x : ℕ). IsUsed d1.budget x (prepared_operations s + ends_operations s + begins_operations s) d3) (sym vars) used_three)) (let least = start.budget in omega (arith, here, least)) (omega arith) counts

      -- while it is found where they begin
      pub begins_pass : {A : Type 0} (budget : ℕ) (d3 : Diagrams) (e : Spent) → d1.budget ≡ budget → Counts {A = A} d2.vars (begins_operations s) d2 d3 (Err e) → MayPass (asked_variables s) budget (run_operations s)
      begins_pass {A} budget d3 e same counts =
          let vars : d2.vars ≡ d1.vars = same_vars d1 d2 d1.words one.adds in
          let here : d2.budget ≡ d1.budget = ap (λ (d : Diagrams). d.budget) one.adds.rest in
          asked_passes {A = A} s (prepared_operations s + ends_operations s) (begins_operations s) (run_operations s) budget d2 d3 e vars_two (here ∙ same)
          (subst (λ (x : ℕ). IsUsed x d2.vars (prepared_operations s + ends_operations s) d2) (sym here)
          (subst (λ (x : ℕ). IsUsed d1.budget x (prepared_operations s + ends_operations s) d2) (sym vars) used_two)) (let least = start.budget in omega (arith, here, least)) (omega arith) counts

    -- while it is found where they end
    pub ends_pass : {A : Type 0} (budget : ℕ) (d2 : Diagrams) (e : Spent) → d1.budget ≡ budget → Counts {A = A} d1.vars (ends_operations s) d1 d2 (Err e) → MayPass (asked_variables s) budget (run_operations s)
    ends_pass {A} budget d2 e same counts =
        asked_passes {A = A} s (prepared_operations s) (ends_operations s) (run_operations s) budget d1 d2 e start.vars same start.used start.budget (omega arith) counts

-- the words of the bits at the end are there, also behind more nodes
module _ (s : Asked) (is : IsAsked s) (n : ℕ) (listed : has_number s.rising.nets.now n ≡ true) (p : Prepared) (d : Diagrams) (start : IsPrepared s p d) where
  pub given_words : IsSpan d p.words.given × IsFilled d p.words.given × (n < p.words.given.len)
  given_words =
      let h = start.handles in
      let net = is.rising.inputs n listed in
      let lt = slice_get_within (of_asked s).circuit.nets n net.0 net.1 in
      let len = h.words.given_len in (given_span (of_asked s).circuit p.words d h.words, h.given, omega (arith, lt, len))

  pub given_later : (new : Diagrams) → AddsNodes d new → IsSpan new p.words.given × IsFilled new p.words.given × (n < p.words.given.len)
  given_later new adds =
      let h = handles_added (of_asked s).circuit p.words d new adds start.handles in
      (given_span (of_asked s).circuit p.words new h.words, h.given, given_words.2)

  -- what the look at a step asks, behind more nodes
  pub handles_later : (new : Diagrams) → AddsNodes d new → HasStepHandles (of_asked s).circuit p.words new
  handles_later new adds = handles_added (of_asked s).circuit p.words d new adds start.handles

  pub start_later : (new : Diagrams) → AddsNodes d new
      → GivesSettings (of_asked s) s.rising.phase s.rising.nets.now n (start_at (of_asked s) s.rising.phase s.rising.nets.now) p.words.setting new
  start_later new adds =
      gives_added (of_asked s) s.rising.phase s.rising.nets.now n (start_at (of_asked s) s.rising.phase s.rising.nets.now) p.words.setting d new start.handles.words.setting_len adds start.handles.setting
      (start.start n)

  pub vars_later : (new : Diagrams) → AddsNodes d new → new.vars ≡ phase_variables s
  vars_later new adds = same_vars d new d.words adds ∙ start.vars
