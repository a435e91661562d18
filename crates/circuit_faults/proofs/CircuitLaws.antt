-- The steps of a circuit, one after the other: what is known before each, and what one part more makes known.
use Rattle.std.proofs.Common.{◌≡◌, ℕ, zero, suc, ◌+◌, ◌*◌, ◌<◌, ◌≤◌, ◌⊎◌, Bool, true, false, cond, List, [], ◌∷◌, Option, Some, None, length, arith, ap, refl, sym, subst, ◌∙◌, inl, inr}
use Rattle.std.specs.Prelude.{◌↔◌, flat_map, option_map, slice_get, unwrap_or}
use Rattle.std.proofs.lemmas.Bool.{cases_eq, false≢true}
use Rattle.std.proofs.lemmas.Option.{none-some, same_Some, slice_get_within}
use Rattle.bdd_core.proofs.Meaning.{meaning_one, meaning_zero}
use Rattle.bdd_core.specs.Diagram.{Valuation, meaning}
use Rattle.bdd_core.specs.Store.{Diagrams, IsLive, function_of}
use Rattle.bdd_core.specs.Words.{IsApart, IsFilled, Writes, shows, word_at}
use Rattle.bdd_core.specs.declared.handle.H.{H}
use Rattle.bdd_core.proofs.Frames.{IsWithinSpan}
use Rattle.circuit_faults.specs.Ordered.{IsWholePart}
use Rattle.circuit_faults.proofs.PartNetworks.{HasRootsAt, bit_there, fault_alone, fault_there}
use Rattle.circuit_faults.proofs.Solutions.{given_bit, given_no_float, known_bit}
use Rattle.circuit_faults.proofs.SoundWholes.{output_plain, wired_wholes}
use Rattle.circuit_faults.proofs.ThreeSpans.{net_beside, three_span, three_word}
use Rattle.circuit_faults.proofs.WholeParts.{inside_number, number_inside, number_place, place_number}
use Rattle.circuit_faults.specs.Cases.{CaseIn, HasStepFault, StandsAt}
use Rattle.circuit_faults.specs.Faults.{HasFault, HasFixedBits, IsSettingAt, IsSolvedAt, ShowsFault}
use Rattle.circuit_faults.specs.Results.{AreClearSteps, HasCircuitSpans, IsClearCircuit, IsFirstFault, WritesThree, first_word, output_span, root_at}
use Rattle.circuit_faults.specs.Scans.{IsInside, IsPartClear, IsPartFault}
use Rattle.circuit_faults.specs.Steps.{AreOrderedSteps, InPhase, IsInStepBefore, IsPartAt, part_step, phase_of, step_of, steps_of}
use Rattle.circuit_faults.specs.Wholes.{HasSoundWholes}
use Rattle.circuit_faults.specs.declared.steps.CircuitStep.{CircuitStep}
use Rattle.circuit_faults.specs.declared.steps.CircuitStep.TheVariants.{Part as PartStep, Instance as InstanceStep}
use Rattle.circuit_faults.specs.declared.net.CircuitFault.{CircuitFault}
use Rattle.channel_parts.specs.OneSolution.{AreObserved}
use Rattle.channel_parts.specs.PartLists.{least_of, net_numbers}
use Rattle.channel_parts.specs.declared.part.Part.{Part}
use Rattle.fault_places.proofs.ListedSpots.{clear_both, clear_listed, found_either, found_listed, net_spot, spot}
use Rattle.fault_places.specs.PhaseSpots.{Step, OfPart, spots_at, spots_of}
use Rattle.fault_places.specs.Searches.{IsClearOf, IsFoundIn, Spot}
use Rattle.known_nets.proofs.NetKinds.{given_or_plain}
use Rattle.known_nets.specs.KnownTables.{known_at}
use Rattle.node_pool.specs.declared.region.Span.{Span}
use Rattle.path_fixpoint.proofs.SolveLaws.{is_finite}
use Rattle.path_fixpoint.specs.Parts.{IsPlace, part_devices, pins_of}
use Rattle.path_fixpoint.specs.Solved.{HasRootSpans, network_at}
use Rattle.vrt_model.proofs.Decidable.{reaches_or_not}
use Rattle.vrt_model.proofs.GatesGiven.{IsGiven}
use Rattle.vrt_model.proofs.Lists.{at_map, map_at, map_among}
use Rattle.vrt_model.proofs.Members.{all_among}
use Rattle.vrt_model.proofs.Tests.{some_or_none}
use Rattle.vrt_model.specs.Circuits.{IsHold}
use Rattle.vrt_model.specs.Known.{IsKnown}
use Rattle.vrt_model.specs.Lists.{At, Among}
use Rattle.vrt_model.specs.Path.{Network}
use Rattle.vrt_model.specs.Reading.{bare}
use Rattle.vrt_model.specs.Response.{Fight as Fights, Float as Floats, IsResponse, Reaches, Shows}
use Rattle.vrt_model.specs.Solution.{Agrees}
use Rattle.vrt_model.specs.State.{IsState, OutputPin, Setting, State, output_pins}
use Rattle.vrt_model.specs.declared.circuit.Circuit.{Circuit}
use Rattle.vrt_model.specs.declared.circuit.Device.{Device}
use Rattle.vrt_model.specs.declared.circuit.FlatNet.{FlatNet}
use Rattle.vrt_model.specs.declared.ids.Net.{Net}
use Rattle.vrt_model.specs.declared.rules.Phase.{Phase}
use Rattle.vrt_model.specs.declared.verdict.FaultKind.{FaultKind}
use Rattle.vrt_model.specs.declared.verdict.FaultKind.TheVariants.{Fight, FightKept, Float, Unsettled, Constraint, Differs, Next, Apart, Enter}
use Rattle.path_fixpoint.specs.declared.words.NetWords.{NetWords}
use Rattle.vrt_model.specs.Levels.{source_level}
use Rattle.path_fixpoint.specs.Strengths.{circuit_words, net_words}

-- ---- whether a net is inside a part

net_in : (nets : List Net) (n : ℕ) → ((i : ℕ) × (net : Net) × At nets i net × (net.0 ≡ n)) ⊎ ((i : ℕ) (net : Net) → At nets i net → net.0 ≡ n → ⊥)
net_in [] n = inr (λ i net e is. none-some net e)
net_in (x ∷ xs) n =
    elim (cases_eq x.0 n) [
      | inl e ↦ inl (zero, x, refl, e)
      | inr ne ↦ elim (net_in xs n) [ inl h ↦ inl (suc h.0, h.1, h.2, h.3) | inr none ↦ inr (by_place none ne) ]
    ]
  where
    by_place : ((i : ℕ) (net : Net) → At xs i net → net.0 ≡ n → ⊥) → (x.0 ≡ n → ⊥) → (i : ℕ) (net : Net) → At (x ∷ xs) i net → net.0 ≡ n → ⊥
    by_place none ne zero net e is = ne (ap (λ (m : Net). m.0) (same_Some x net e) ∙ is)
    by_place none ne (suc i) net e is = none i net e is

pub inside_or_not : (part : Part) (n : ℕ) → IsInside part n ⊎ (¬ IsInside part n)
inside_or_not part n =
    elim (net_in part.nets n) [ inl h ↦ inl (h.0, (h.1, h.2, h.3)) | inr none ↦ inr (λ inside. none inside.0 inside.1.0 inside.1.1 inside.1.2) ]

-- a constant shows its bit
pub constant_shows : (d : Diagrams) (b : Bool) (v : Valuation) → meaning d.nodes (cond b 1 0) v ≡ b
constant_shows d true v = meaning_one d.nodes v
constant_shows d false v = meaning_zero d.nodes v

-- the bits of a part's nets: a net that neither fights nor floats shows whether 1 reaches it
shows_bit : (w : Network) (n : ℕ) (b : Bool) → ((b ≡ true) ↔ Reaches w n true) → (Reaches w n false ⊎ (¬ Reaches w n false)) → (¬ IsResponse w n Fights) → (¬ IsResponse w n Floats) → IsResponse w n (Shows b)
shows_bit w n true tells zeros no_fight no_float = (tells.0 refl, λ r. no_fight (tells.0 refl, r))
shows_bit w n false tells (inl r) no_fight no_float = (r, λ one. false≢true (tells.1 one))
shows_bit w n false tells (inr none) no_fight no_float = absurd (no_float (λ one. false≢true (tells.1 one), none))

-- ---- what is known before a step

-- the nets whose handles are their bits
abbrev pub IsDone : InPhase → ℕ → ℕ → Type 0
IsDone w k n = IsGiven w.circuit n ⊎ ((b : Bool) × IsKnown w.circuit (phase_of w) n b) ⊎ IsInStepBefore w k n

-- in the care set no fault stands at the places of a step
abbrev pub IsClearStep : InPhase → H → Span → Diagrams → Step → Type 0
IsClearStep w care roots first x = IsClearOf (StandsAt w (root_at first roots)) (λ (v : CaseIn w (root_at first roots)). function_of first care v.valuation) (spots_of x)

-- in the care set, at a solution, the nets of the parts before it have their bits, the outputs at these nets theirs, and the steps
-- before it no faults
pub record IsSolvedBefore (w : InPhase) (care : H) (roots gates : Span) (k : ℕ) (first now : Diagrams) : Type 0 where
  pub bits :
      (v : Valuation) (setting : Setting) (a : ℕ → Option Bool) → function_of first care v ≡ true
      → IsSolvedAt w.circuit (phase_of w) w.observed (root_at first roots v) setting a
      → (n : ℕ) → w.observed n ≡ true → IsDone w k n → a n ≡ Some (shows now gates n v)
  pub clear : (j : ℕ) (step : CircuitStep) → j < k → At w.steps j step → IsClearStep w care roots first (step_of w.parts step)
  pub driven :
      (v : Valuation) (setting : Setting) (a : ℕ → Option Bool) → function_of first care v ≡ true
      → IsSolvedAt w.circuit (phase_of w) w.observed (root_at first roots v) setting a
      → (at : ℕ) (out : OutputPin) → At (output_pins w.circuit) at out → IsInStepBefore w k out.pin.net.0
      → (s : State) → IsState w.circuit (phase_of w) setting.inputs s → Agrees w.observed a s.reading → s.driven at ≡ root_at now roots v (length w.circuit.nets + at)

-- the number of a step
abbrev number_of : CircuitStep → ℕ
number_of (PartStep number) = number
number_of (InstanceStep at) = at

-- the parts at one place are one
pub one_part : (w : InPhase) (j k : ℕ) (p q : Part) → j ≡ k → IsPartAt w j p → IsPartAt w k q → p ≡ q
one_part w j k p q e one two =
    let steps : PartStep one.0 ≡ PartStep two.0 = same_Some (PartStep one.0) (PartStep two.0) (sym one.1 ∙ ap (slice_get w.steps) e ∙ two.1) in
    same_Some p q (sym one.2 ∙ ap (slice_get w.parts) (ap number_of steps) ∙ two.2)

-- the step of a part
pub step_is : (w : InPhase) (number : ℕ) (part : Part) → At w.parts number part → step_of w.parts (PartStep number) ≡ part_step part
step_is w number part e = ap (λ (o : Option Part). unwrap_or (option_map part_step o) (OfPart 0 [])) e

-- in each state that agrees with a solution the outputs at a part have the bits of their roots
abbrev pub AreDrivenAt : InPhase → H → Span → Part → Diagrams → Diagrams → Type 0
AreDrivenAt w care roots part first now =
    (v : Valuation) (setting : Setting) (a : ℕ → Option Bool) → function_of first care v ≡ true → IsSolvedAt w.circuit (phase_of w) w.observed (root_at first roots v) setting a
    → HasRootsAt w.circuit (phase_of w) w.observed setting a part (root_at now roots v)

module _ (w : InPhase) (care : H) (roots gates : Span)
    (wholes : HasSoundWholes w.circuit (phase_of w) w.observed) (seen : AreObserved w.circuit w.observed) (are : AreOrderedSteps w) (roots_len : length w.circuit.nets + length (pins_of w.circuit) ≤ roots.len) (gates_len : gates.len ≡ length w.circuit.nets) where
  abbrev c : Circuit
  c = w.circuit

  abbrev phase : Phase
  phase = phase_of w

  abbrev observed : ℕ → Bool
  observed n = w.observed n

  abbrev known : List (Option Bool)
  known = w.known

  abbrev Before : ℕ → Diagrams → Diagrams → Type 0
  Before k first now = IsSolvedBefore w care roots gates k first now

  abbrev Done : ℕ → ℕ → Type 0
  Done k n = IsDone w k n

  -- cases, where the roots have the functions of a store; those of the care set; and the faults in them
  abbrev Case : Diagrams → Type 0
  Case first = CaseIn w (root_at first roots)

  abbrev cared : (first : Diagrams) → Case first → Bool
  cared first v = function_of first care v.valuation

  abbrev Stands : (first : Diagrams) → Spot → Case first → Type 0
  Stands first x v = StandsAt w (root_at first roots) x v

  none_earlier : (n : ℕ) → IsInStepBefore w 0 n → ⊥
  none_earlier n e = (let lt = e.2 in omega (arith, lt))

  -- ---- as the handles are opened

  module _ (first now : Diagrams) (live : IsFilled first roots) (wr : Writes gates first now)
      (fixed : (v : Valuation) → HasFixedBits c phase (root_at first roots v))
      (opened : (n : ℕ) → n < gates.len → word_at now gates n ≡ first_word (known_at known n) (word_at first roots n)) where
    opened_known : (n : ℕ) (b : Bool) (v : Valuation) → n < length c.nets → known_at known n ≡ Some b → shows now gates n v ≡ b
    opened_known n b v lt e =
        ap (λ (k : ℕ). meaning now.nodes k v) (opened n (omega (arith, lt, gates_len)) ∙ ap (λ (o : Option Bool). first_word o (word_at first roots n)) e)
        ∙ constant_shows now b v

    opened_root : (n : ℕ) (v : Valuation) → n < length c.nets → known_at known n ≡ None → shows now gates n v ≡ root_at first roots v n
    opened_root n v lt e =
        ap (λ (k : ℕ). meaning now.nodes k v) (opened n (omega (arith, lt, gates_len)) ∙ ap (λ (o : Option Bool). first_word o (word_at first roots n)) e)
        ∙ wr.adds.kept (word_at first roots n) (live n (omega (arith, lt, roots_len))) v

    pub solved_none : Before 0 first now
    solved_none = record {
      bits = λ v setting a met at n o done. elim (some_or_none (known_at known n)) [
        | inl k ↦
            known_bit c phase observed wholes seen (root_at first roots v) (fixed v) setting at.given a at.solves n k.0 o ((are.table n k.0).0 k.1)
            ∙ ap (λ (b : Bool). Some b) (sym (opened_known n k.0 v (seen.nets n o) k.1))
        | inr none ↦ elim done [
          | inl g ↦
              given_bit c phase observed wholes seen (root_at first roots v) (fixed v) setting at.given a at.solves n o g
              ∙ ap (λ (b : Bool). Some b) (sym (opened_root n v (seen.nets n o) none))
          | inr other ↦ elim other [
            | inl k ↦ absurd (none-some k.0 (sym none ∙ (are.table n k.0).1 k.1))
            | inr e ↦ absurd (none_earlier n e)
          ]
        ]
      ];
      clear = λ j step lt e. absurd (omega (arith, lt));
      driven = λ v setting a met at number out e step s is agrees. absurd (none_earlier out.pin.net.0 step);
    }

  -- ---- what is found at a step

  pub found_step : (k : ℕ) (step : CircuitStep) → At w.steps k step → (first now : Diagrams) → Before k first now → (f : Case first → Bool) (x : Spot)
      → IsFoundIn (Stands first) (cared first) f (spots_of (step_of w.parts step)) x → IsFoundIn (Stands first) (cared first) f (flat_map spots_of (steps_of w)) x
  found_step k step here first now before f x found =
      found_listed Step (Case first) (Stands first) (cared first) spots_of f x (steps_of w) k (step_of w.parts step) (map_at (step_of w.parts) w.steps k step here) clear_before found
    where
      clear_before : (j : ℕ) (y : Step) → j < k → At (steps_of w) j y → IsClearOf (Stands first) (cared first) (spots_of y)
      clear_before j y lt e =
          let from = at_map (step_of w.parts) w.steps j y e in
          subst (λ (z : Step). IsClearOf (Stands first) (cared first) (spots_of z)) from.2 (before.clear j from.0 lt from.1)

  -- ---- one part more

  module _ (k : ℕ) (part : Part) (here : IsPartAt w k part) (first now : Diagrams) (before : Before k first now) (driven : AreDrivenAt w care roots part first now)
      (fixed : (v : Valuation) → HasFixedBits c phase (root_at first roots v)) (care_live : IsLive first care) (live : IsFilled now gates)
      (kept_care : (v : Valuation) → function_of now care v ≡ function_of first care v)
      (kept_roots : (n : ℕ) (v : Valuation) → n < length c.nets → shows now roots n v ≡ shows first roots n v) where
    whole : IsWholePart bare c phase part
    whole = are.each part (here.0, here.2)

    abbrev alone : Valuation → Network
    alone v = network_at now c part gates roots v

    setting_now : (v : Valuation) (setting : Setting) → IsSettingAt c (root_at first roots v) setting → IsSettingAt c (root_at now roots v) setting
    setting_now v setting s = record {
      inputs = λ n net e is. s.inputs n net e is ∙ sym (kept_roots n v (in_range n net e));
      held = λ at hold e plain. s.held at hold e plain ∙ sym (kept_roots hold.net.0 v (all_among (IsHold c) c.holds hold wholes.ranges.holds (at, e)).net);
    }
      where
        in_range : (n : ℕ) (net : FlatNet) → At c.nets n net → n < length c.nets
        in_range n net e = slice_get_within c.nets n net e

    fixed_now : (v : Valuation) → HasFixedBits c phase (root_at now roots v)
    fixed_now v n b f = kept_roots n v (slice_get_within c.nets n f.0 f.1) ∙ fixed v n b f

    module _ (v : Valuation) (setting : Setting) (a : ℕ → Option Bool) (met : function_of first care v ≡ true) (at : IsSolvedAt c phase observed (root_at first roots v) setting a) where
      -- the gates of the part are given, known, or in a part before it
      gate_done : (d : Device) → Among (part_devices c part) d → Done k d.gate.0
      gate_done d m =
          elim (given_or_plain c d.gate.0 (seen.nets d.gate.0 (seen.gates d (whole.devices d m).0))) [
            | inl g ↦ inl g
            | inr p ↦ elim (some_or_none (known_at known d.gate.0)) [
              | inl b ↦ inr (inl (b.0, (are.table d.gate.0 b.0).0 b.1))
              | inr none ↦ inr (inr (are.gates k part d here m p (λ b is. none-some b (sym none ∙ (are.table d.gate.0 b).1 is))))
            ]
          ]

      gates_are : (d : Device) → Among (part_devices c part) d → a d.gate.0 ≡ Some (shows now gates d.gate.0 v)
      gates_are d m = before.bits v setting a met at d.gate.0 (seen.gates d (whole.devices d m).0) (gate_done d m)

      pub to_alone : (kind : FaultKind) (n : ℕ) → IsInside part n → HasFault c phase observed setting a kind n → ShowsFault observed (alone v) kind n
      to_alone kind n i f =
          fault_alone c phase observed wholes seen (root_at now roots v) (fixed_now v) setting (setting_now v setting at.given) a at.solves part whole (driven v setting a met at) (λ m. shows now gates m v) gates_are kind n i f

      pub from_alone : (kind : FaultKind) (n : ℕ) → IsInside part n → ShowsFault observed (alone v) kind n → HasFault c phase observed setting a kind n
      from_alone kind n i f =
          fault_there c phase observed wholes seen (root_at now roots v) (fixed_now v) setting (setting_now v setting at.given) a at.solves part whole (driven v setting a met at) (λ m. shows now gates m v) gates_are kind n i f

      pub bit_of_net : (n : ℕ) (b : Bool) → IsInside part n → observed n ≡ true → IsResponse (alone v) n (Shows b) → a n ≡ Some b
      bit_of_net n b i o shown =
          bit_there c phase observed wholes seen (root_at now roots v) (fixed_now v) setting (setting_now v setting at.given) a at.solves part whole (driven v setting a met at) (λ m. shows now gates m v) gates_are n b i o shown

    earlier_or_here : (n : ℕ) → IsInStepBefore w (k + 1) n → IsInStepBefore w k n ⊎ IsInside part n
    earlier_or_here n e =
        elim (cases_eq e.0 k) [
          | inl same ↦ inr (subst (λ (q : Part). IsInside q n) (one_part w e.0 k e.1 part same e.3 here) e.4)
          | inr ne ↦ inl (e.0, e.1, (let lt = e.2 in omega (arith, lt, ne)), e.3, e.4)
        ]

    pub solved_more : (new : Diagrams) → IsPartClear c part observed care roots gates now new
        → ((n : ℕ) (v : Valuation) → n < length (output_pins c) → root_at new roots v (length c.nets + n) ≡ root_at now roots v (length c.nets + n))
        → ((h : ℕ) (v : Valuation) → h < length now.nodes → meaning new.nodes h v ≡ meaning now.nodes h v) → Before (k + 1) first new
    solved_more new p outputs kept = record {
      bits = λ v setting a met at n o done. elim (inside_or_not part n) [
        | inl i ↦ bit_of_net v setting a met at n (shows new gates n v) i o (shown v met n i o)
        | inr out ↦ before.bits v setting a met at n o (not_here n out done) ∙ ap (λ (b : Bool). Some b) (sym (stays v n o out))
      ];
      clear = λ j step lt e. elim (cases_eq j k) [
        | inl same ↦
            let is : PartStep here.0 ≡ step = same_Some (PartStep here.0) step (sym here.1 ∙ ap (slice_get w.steps) (sym same) ∙ e) in
            subst (λ (s : CircuitStep). IsClearStep w care roots first (step_of w.parts s)) is
            (subst (IsClearStep w care roots first) (sym (step_is w here.0 part here.2)) part_clear)
        | inr ne ↦ before.clear j step (omega (arith, lt, ne)) e
      ];
      driven = λ v setting a met at number out e step s is agrees. elim (inside_or_not part out.pin.net.0) [
        | inl i ↦ driven v setting a met at number out e i s is agrees ∙ sym (outputs number v (slice_get_within (output_pins c) number out e))
        | inr away ↦ elim (earlier_or_here out.pin.net.0 step) [
          | inl low ↦ before.driven v setting a met at number out e low s is agrees ∙ sym (outputs number v (slice_get_within (output_pins c) number out e))
          | inr i ↦ absurd (away i)
        ]
      ];
    }
      where
        shown : (v : Valuation) → function_of first care v ≡ true → (n : ℕ) → IsInside part n → observed n ≡ true → IsResponse (alone v) n (Shows (shows new gates n v))
        shown v met n i o =
            shows_bit (alone v) n (shows new gates n v) (p.bits n v i o)
            (reaches_or_not (alone v) (length c.nets) (source_level c) (is_finite c part whole.is wholes.ranges gates roots (circuit_words c gates) now v) n false)
            (λ f. p.clear n Fight v i (kept_care v ∙ met) f)
            (λ f. p.clear n Float v i (kept_care v ∙ met) (o, f))

        not_here : (n : ℕ) → (¬ IsInside part n) → Done (k + 1) n → Done k n
        not_here n out (inl g) = inl g
        not_here n out (inr (inl b)) = inr (inl b)
        not_here n out (inr (inr e)) = elim (earlier_or_here n e) [ inl low ↦ inr (inr low) | inr i ↦ absurd (out i) ]

        stays : (v : Valuation) (n : ℕ) → observed n ≡ true → (¬ IsInside part n) → shows new gates n v ≡ shows now gates n v
        stays v n o out =
            let lt : n < gates.len = (let within = seen.nets n o in omega (arith, within, gates_len)) in
            ap (λ (h : ℕ). meaning new.nodes h v) (p.others n lt out) ∙ kept (word_at now gates n) v (live n lt)

        none : (kind : FaultKind) (n : ℕ) → IsInside part n → (v : Case first) → cared first v ≡ true → ¬ HasFault c phase observed v.setting v.solution kind n
        none kind n i v met f =
            p.clear n kind v.valuation i (kept_care v.valuation ∙ met) (to_alone v.valuation v.setting v.solution met v.solved kind n i f)

        part_clear : IsClearStep w care roots first (part_step part)
        part_clear =
            clear_listed ℕ (Case first) (Stands first) (cared first) (spots_at (Fight ∷ Float ∷ [])) (net_numbers part.nets)
            (λ i n e.
            let inside = number_inside part n (i, e) in
            clear_both (Case first) (Stands first) (cared first) n Fight Float (none Fight n inside) (none Float n inside))

    module _ (new : Diagrams) (fault : CircuitFault) (f : IsPartFault c part observed care roots gates fault now new) where
      abbrev found_where : Case first → Bool
      found_where v = function_of new fault.at v.valuation

      -- a fault of its kind at a net is one of a step
      of_net : (v : Case first) (n : ℕ) → HasFault c phase observed v.setting v.solution fault.kind n ↔ Stands first (spot fault.kind n) v
      of_net v n =
          elim f.kinds [
            | inl e ↦ subst (λ (q : FaultKind). HasFault c phase observed v.setting v.solution q n ↔ HasStepFault w v.setting v.solution q n) (sym e) (λ x. x, λ x. x)
            | inr e ↦ subst (λ (q : FaultKind). HasFault c phase observed v.setting v.solution q n ↔ HasStepFault w v.setting v.solution q n) (sym e) (λ x. x, λ x. x)
          ]

      exact_here : (v : Case first) → (found_where v ≡ true) ↔ ((cared first v ≡ true) × Stands first (spot fault.kind fault.place) v)
      exact_here v = (
        λ e.
            let h = (f.exact v.valuation).0 e in
            let met : cared first v ≡ true = sym (kept_care v.valuation) ∙ h.0 in
            (met, (of_net v fault.place).0 (from_alone v.valuation v.setting v.solution met v.solved fault.kind fault.place (f.place, f.stands) h.1)),
        λ h.
            let there = (of_net v fault.place).1 h.1 in
            (f.exact v.valuation).1 (kept_care v.valuation ∙ h.0, to_alone v.valuation v.setting v.solution h.0 v.solved fault.kind fault.place (f.place, f.stands) there),
      )

      -- none stands at the nets of the part before it
      none_before : (i n : ℕ) (kind : FaultKind) → IsPlace part i n → (i < f.place) ⊎ ((i ≡ f.place) × (kind ≡ Fight) × (fault.kind ≡ Float))
          → (v : Case first) → cared first v ≡ true → ¬ HasFault c phase observed v.setting v.solution kind n
      none_before i n kind p order v met shown =
          f.before i n kind v.valuation p order (kept_care v.valuation ∙ met) (to_alone v.valuation v.setting v.solution met v.solved kind n (i, p) shown)

      found_in_part : IsFoundIn (Stands first) (cared first) found_where (spots_of (part_step part)) (spot fault.kind fault.place)
      found_in_part =
          found_listed ℕ (Case first) (Stands first) (cared first) (spots_at (Fight ∷ Float ∷ [])) found_where (spot fault.kind fault.place)
          (net_numbers part.nets) f.place fault.place (place_number part f.place fault.place f.stands)
          (λ i n lt e.
          let p = number_place part i n e in
          clear_both (Case first) (Stands first) (cared first) n Fight Float (none_before i n Fight p (inl lt)) (none_before i n Float p (inl lt)))
          (found_either (Case first) (Stands first) (cared first) fault.place found_where Fight Float fault.kind f.kinds exact_here
          (λ is. none_before f.place fault.place Fight f.stands (inr (refl, refl, is))))

      pub fault_found : IsFirstFault w care roots fault first new
      fault_found = record {
        kinds = elim f.kinds [ inl e ↦ inl e | inr e ↦ inr (inl e) ];
        live = f.live;
        some = f.some;
        found =
            found_step k (PartStep here.0) here.1 first now before found_where (spot fault.kind fault.place)
            (subst (λ (x : Step). IsFoundIn (Stands first) (cared first) found_where (spots_of x) (spot fault.kind fault.place)) (sym (step_is w here.0 part here.2)) found_in_part);
      }

  -- ---- all steps

  pub solved_all : (first now : Diagrams) → Before (length w.steps) first now → AreClearSteps w care roots gates first now
  solved_all first now s = record {
    bits = λ v setting a met at n o. s.bits v setting a met at n o (done n o);
    clear = clear_listed Step (Case first) (Stands first) (cared first) spots_of (steps_of w) clear_at;
    driven = λ v setting a met at number out e solved is agrees.
        s.driven v setting a met at number out e (are.all out.pin.net.0 (output_plain c (wired_wholes c phase observed wholes) number out e)) solved is agrees;
  }
    where
      done : (n : ℕ) → observed n ≡ true → Done (length w.steps) n
      done n o = elim (given_or_plain c n (seen.nets n o)) [ inl g ↦ inl g | inr p ↦ inr (inr (are.all n p)) ]

      clear_at : (j : ℕ) (x : Step) → At (steps_of w) j x → IsClearOf (Stands first) (cared first) (spots_of x)
      clear_at j x e =
          let from = at_map (step_of w.parts) w.steps j x e in
          subst (λ (y : Step). IsClearOf (Stands first) (cared first) (spots_of y)) from.2 (s.clear j from.0 (slice_get_within w.steps j from.0 from.1) from.1)

  -- and then no fault stands at any net
  pub clear_circuit : (first now : Diagrams) → ((v : Valuation) → HasFixedBits c phase (root_at first roots v))
      → AreClearSteps w care roots gates first now → IsClearCircuit c phase observed care roots gates first now
  clear_circuit first now fixed s = record {
    bits = s.bits;
    clear = λ v setting a met at kind n f. no_fault v setting a met at kind n f;
    driven = s.driven;
  }
    where
      none : (v : Case first) → cared first v ≡ true → (kind : FaultKind) (n : ℕ) → Among (Fight ∷ Float ∷ []) kind → IsInStepBefore w (length w.steps) n
          → ¬ Stands first (spot kind n) v
      none v met kind n is e =
          let there : Among (steps_of w) (part_step e.1) =
          subst (Among (steps_of w)) (step_is w e.3.0 e.1 e.3.2) (map_among (step_of w.parts) w.steps (PartStep e.3.0) (e.0, e.3.1)) in
          let m = net_spot (steps_of w) (least_of e.1) (net_numbers e.1.nets) kind n there (inside_number e.1 n e.4) is in
          s.clear m.0 (spot kind n) v m.1 met

      no_fault : (v : Valuation) (setting : Setting) (a : ℕ → Option Bool) → function_of first care v ≡ true → IsSolvedAt c phase observed (root_at first roots v) setting a
          → (kind : FaultKind) (n : ℕ) → ¬ HasFault c phase observed setting a kind n
      no_fault v setting a met at Fight n f = none (record { valuation = v; setting = setting; solution = a; solved = at }) met Fight n (0, refl) (are.all n f.0) f
      no_fault v setting a met at Float n f =
          elim (given_or_plain c n (seen.nets n f.0)) [
            | inl g ↦ given_no_float c phase observed wholes seen (root_at first roots v) (fixed v) setting at.given a at.solves n g f.1
            | inr p ↦ none (record { valuation = v; setting = setting; solution = a; solved = at }) met Float n (1, refl) (are.all n p) f
          ]
      no_fault v setting a met at FightKept n f = f
      no_fault v setting a met at Unsettled n f = f
      no_fault v setting a met at Constraint n f = f
      no_fault v setting a met at Differs n f = f
      no_fault v setting a met at Next n f = f
      no_fault v setting a met at Apart n f = f
      no_fault v setting a met at Enter n f = f

-- ---- the spans, as steps over the parts leave them

-- the words of a part among those of the greatest
abbrev pub words_in : Circuit → Span → Part → NetWords
words_in c out part = circuit_words c (record { start = out.start; len = net_words (source_level c) * length part.nets })

pub apart_inner : (a out : Span) (len : ℕ) → len ≤ out.len → IsApart a out → IsApart a (record { start = out.start; len = len })
apart_inner a out len le (inl low) = inl low
apart_inner a out len le (inr high) = inr (omega (arith, high, le))

-- the spans stand after steps that write three of them, and live handles of the outputs
pub spans_kept : (c : Circuit) (parts : List Part) (roots gates out : Span) (first now : Diagrams) → WritesThree (output_span c roots) gates out first now
    → IsFilled now roots → HasCircuitSpans c parts roots gates out first → HasCircuitSpans c parts roots gates out now
spans_kept c parts roots gates out first now wr live spans = record {
  roots_span = three_span (output_span c roots) gates out roots first now wr spans.roots_span;
  roots_len = spans.roots_len;
  roots_live = live;
  gates_span = three_span (output_span c roots) gates out gates first now wr spans.gates_span;
  gates_len = spans.gates_len;
  out_span = three_span (output_span c roots) gates out out first now wr spans.out_span;
  room = spans.room;
  roots_gates = spans.roots_gates;
  roots_out = spans.roots_out;
  gates_out = spans.gates_out;
}

module _ (c : Circuit) (parts : List Part) (roots gates out : Span) (now : Diagrams) (spans : HasCircuitSpans c parts roots gates out now) (part : Part) (member : Among parts part) where
  pub words_within : (words : NetWords) → words ≡ words_in c out part → IsWithinSpan words.span out
  words_within words is =
      subst (λ (s : NetWords). IsWithinSpan s.span out) (sym is) (record { start = omega arith; fits = (let room = spans.room part member in omega (arith, room)) })

  pub root_spans : (words : NetWords) → words ≡ words_in c out part → IsFilled now gates → HasRootSpans c part gates roots words now
  root_spans words is live =
      subst (λ (s : NetWords). HasRootSpans c part gates roots s now) (sym is) (record {
        spans = record {
          gates_span = spans.gates_span;
          gates_len = spans.gates_len;
          gates_live = live;
          source = refl;
          out_span = (spans.out_span.0, (let end = spans.out_span.1 in omega (arith, end, room)));
          out_len = refl;
          apart = apart_inner gates out (net_words (source_level c) * length part.nets) room spans.gates_out;
        };
        roots_span = spans.roots_span;
        roots_len = spans.roots_len;
        roots_live = spans.roots_live;
        roots_apart = apart_inner roots out (net_words (source_level c) * length part.nets) room spans.roots_out;
      })
    where
      room : net_words (source_level c) * length part.nets ≤ out.len
      room = spans.room part member

-- the bits of the nets' roots stay
pub net_roots_kept : (c : Circuit) (parts : List Part) (roots gates out : Span) (first now : Diagrams) → WritesThree (output_span c roots) gates out first now
    → HasCircuitSpans c parts roots gates out first → (n : ℕ) (v : Valuation) → n < length c.nets → shows now roots n v ≡ shows first roots n v
net_roots_kept c parts roots gates out first now wr spans n v lt =
    let within : n < roots.len = (let len = spans.roots_len in omega (arith, lt, len)) in
    ap (λ (h : ℕ). meaning now.nodes h v)
    (three_word (output_span c roots) gates out roots first now n wr (net_beside c roots n lt) spans.roots_gates spans.roots_out within)
    ∙ wr.adds.kept (word_at first roots n) (spans.roots_live n within) v

module _ (w : InPhase) (care : H) (roots gates out : Span) (wholes : HasSoundWholes w.circuit (phase_of w) w.observed) (seen : AreObserved w.circuit w.observed) (are : AreOrderedSteps w)
    (first : Diagrams) (spans : HasCircuitSpans w.circuit w.parts roots gates out first)
    (care_live : IsLive first care) (fixed : (v : Valuation) → HasFixedBits w.circuit (phase_of w) (root_at first roots v))
    (k : ℕ) (part : Part) (here : IsPartAt w k part) (now new : Diagrams) (before : WritesThree (output_span w.circuit roots) gates out first now) (live : IsFilled now gates)
    (solved : IsSolvedBefore w care roots gates k first now) (driven : AreDrivenAt w care roots part first now) where
  care_kept : (v : Valuation) → function_of now care v ≡ function_of first care v
  care_kept v = before.adds.kept care.0 care_live v

  roots_kept : (n : ℕ) (v : Valuation) → n < length w.circuit.nets → shows now roots n v ≡ shows first roots n v
  roots_kept n v lt = net_roots_kept w.circuit w.parts roots gates out first now before spans n v lt

  pub part_clear_next : IsPartClear w.circuit part w.observed care roots gates now new
      → ((n : ℕ) (v : Valuation) → n < length (output_pins w.circuit) → root_at new roots v (length w.circuit.nets + n) ≡ root_at now roots v (length w.circuit.nets + n))
      → ((h : ℕ) (v : Valuation) → h < length now.nodes → meaning new.nodes h v ≡ meaning now.nodes h v) → IsSolvedBefore w care roots gates (k + 1) first new
  part_clear_next p outputs kept =
      solved_more w care roots gates wholes seen are spans.roots_len spans.gates_len k part here first now solved driven fixed care_live live care_kept roots_kept new p outputs kept

  pub part_fault_first : (fault : CircuitFault) → IsPartFault w.circuit part w.observed care roots gates fault now new → IsFirstFault w care roots fault first new
  part_fault_first fault f =
      fault_found w care roots gates wholes seen are spans.roots_len spans.gates_len k part here first now solved driven fixed care_live live care_kept roots_kept new fault f
