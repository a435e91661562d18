-- The store between two phases.
use Rattle.std.proofs.Common.{◌≡◌, ℕ, ◌+◌, ◌*◌, ◌≤◌, ◌^◌, List, Option, None, Result, Ok, Err, All, arith, length, refl, subst, sym}
use Rattle.std.specs.Prelude.{IfOk}
use Rattle.std.proofs.Math.Nat.{mul-le-mul_left}
use Rattle.bdd_core.proofs.Frames.{filled_added}
use Rattle.bdd_core.specs.Store.{AddsNodes, Diagrams}
use Rattle.bdd_core.specs.declared.handle.H.{H}
use Rattle.bdd_core.specs.declared.handle.Spent.{Spent}
use Rattle.bdd_ops.specs.Counting.{Counts, IsCounted}
use Rattle.output_functions.specs.Phases.{IsBetween, JoinedGives, OpenedGives, SolvedGives, solved_operations}
use Rattle.output_functions.specs.declared.phase.Stop.{Stop}
use Rattle.output_functions.specs.declared.phase.Stop.TheVariants.{Spent as IsSpent, NoMemory}
use Rattle.output_joins.specs.Joins.{IsOutputWithin, IsWantedWithin}
use Rattle.phase_check.proofs.Ends.{adds_now, stage_none, words_now}
use Rattle.phase_check.proofs.Stays.{store_next}
use Rattle.phase_check.specs.States.{IsSolvedBare, StageGives, bare_operations}
use Rattle.phase_laws.proofs.Work.{may_spend}
use Rattle.phase_open.specs.Given.{WritesOpened}
use Rattle.phase_terms.specs.Found.{MaySpend}
use Rattle.phase_terms.specs.Opened.{IsOpen, opened_operations}
use Rattle.phase_terms.specs.Ready.{IsReady}
use Rattle.phase_terms.specs.declared.found.PhaseFault.{PhaseFault}
use Rattle.phase_terms.specs.declared.plan.PhasePlan.{PhasePlan}
use Rattle.phase_terms.specs.declared.words.PhaseWords.{PhaseWords}
use Rattle.phase_wishes.specs.Wishes.{AreOutputWishes}
use Rattle.phase_wishes.specs.declared.wishes.Wanted.{Wanted}
use Rattle.phase_wishes.specs.declared.wishes.Wish.{Wish}
use Rattle.vrt_model.proofs.Members.{all_by}
use Rattle.vrt_model.proofs.Observed.{output_observed}
use Rattle.vrt_model.specs.Comparison.{Comparison}
use Rattle.vrt_model.specs.Held.{sources_of}
use Rattle.vrt_model.specs.Lists.{Among}
use Rattle.phase_laws.proofs.Observed.{observed_nets}

-- where the outputs of a solved phase were joined
pub between_next : (k : Comparison) (phase budget made more : ℕ) (plan : PhasePlan) (care : H) (w : PhaseWords) (old new : Diagrams) → IsSolvedBare k phase budget made plan care w old
    → AddsNodes old new → IsCounted (length (sources_of k phase)) more old new → IsBetween k phase new.budget (made + more) w new
between_next k phase budget made more plan care w old new s adds counted = record {
  store = store_next k phase budget made more w old new (adds_now old new adds) (words_now old new adds) counted s.searched.store;
  roots = filled_added w.roots old new adds s.searched.opened.roots.live;
  inputs = filled_added w.inputs old new adds s.searched.opened.model.inputs_live;
  held = filled_added w.held old new adds s.searched.opened.model.held_live;
}

-- the nets and signals of outputs are there
pub outputs_within : (k : Comparison) (phase nets signals : ℕ) (wishes : List Wish) → IsReady k → AreOutputWishes k phase wishes → nets ≡ length k.circuit.nets → signals ≡ length k.model.signals
    → All (IsOutputWithin nets signals) wishes
outputs_within k phase nets signals wishes ready are count many = all_by (IsOutputWithin nets signals) wishes each
  where
    each : (wish : Wish) → Among wishes wish → IsOutputWithin nets signals wish
    each wish m =
        let at = are.each wish m in
        let seen = output_observed k phase wish.place at.0 at.1 at.2.there at.2.role at.2.seen in
        let net = (observed_nets k phase ready).0.nets at.0.net seen in
        let same = at.3 in
        let signal = ready.outputs wish.place at.0 at.1 at.2.there at.2.role in
        (omega (arith, net, same, count), subst (λ (x : Wanted). IsWantedWithin signals x) (sym at.4) (omega (arith, signal, many)))

-- ---- what a step gives

-- more operations may spend as much, and a budget that is the same
pub may_more : (k : Comparison) (phase budget other few many : ℕ) → other ≡ budget → few ≤ many → MaySpend k other phase few → MaySpend k budget phase many
may_more k phase budget other few many same le spend =
    let v : ℕ = length (sources_of k phase) in
    let passed = spend.passed in
    let product : 2 ^ v * few ≤ 2 ^ v * many = mul-le-mul_left {m = few} {n = many} (2 ^ v) le in
    record { many = spend.many; passed = omega (arith, passed, product, same) }

-- a phase is opened
pub opened_gives : (k : Comparison) (phase made : ℕ) (w : PhaseWords) (old new : Diagrams) (result : Result H Spent) → 65536 ≤ old.budget → IsBetween k phase old.budget made w old
    → IfOk result (λ care. IsOpen k phase care w new) → WritesOpened w old new → Counts (length (sources_of k phase)) (opened_operations k phase) old new result
    → OpenedGives k phase old.budget (made + opened_operations k phase) w new result
opened_gives k phase made w old new (Ok care) least between opened writes counts = record {
  store = store_next k phase old.budget made (opened_operations k phase) w old new writes.adds writes.len counts.added between.store;
  opened = opened;
}
opened_gives k phase made w old new (Err spent) least between opened writes counts =
    (may_spend k phase old.budget (length (sources_of k phase)) made (opened_operations k phase) (made + opened_operations k phase) old new spent between.store.used refl least (omega arith) counts).0

module _ (k : Comparison) (phase budget made : ℕ) (plan : PhasePlan) (care : H) (w : PhaseWords) (mid new : Diagrams) where
  abbrev behind : ℕ
  behind = made + opened_operations k phase + bare_operations k phase plan

  abbrev all : ℕ
  all = made + solved_operations k phase plan

  sum : behind ≡ all
  sum = omega arith

  abbrev Next : Type 0
  Next = IsSolvedBare k phase new.budget behind plan care w new

  -- and its bare circuit solved
  pub solved_gives : (found : Option PhaseFault) → found ≡ None → StageGives k phase mid.budget behind Next new (Ok found)
      → IsSolvedBare k phase new.budget (made + solved_operations k phase plan) plan care w new
  solved_gives found none gives = subst (λ (n : ℕ). IsSolvedBare k phase new.budget n plan care w new) sum (stage_none k phase mid.budget behind Next new found none gives)

  pub solved_spent : mid.budget ≡ budget → (spent : Spent) → StageGives k phase mid.budget behind Next new (Err spent) → MaySpend k budget phase (made + solved_operations k phase plan)
  solved_spent same spent gives = may_more k phase budget mid.budget behind all same (omega (arith, sum)) gives.0

-- a refusal is handed on
pub refused_more : (k : Comparison) (phase budget few many : ℕ) (plan : PhasePlan) (w : PhaseWords) (d : Diagrams) (handles : List H) (stop : Stop) → few ≤ many
    → SolvedGives k phase budget plan few w d (Err stop) → JoinedGives k phase budget many w d handles (Err stop)
refused_more k phase budget few many plan w d handles IsSpent le gives = may_more k phase budget budget few many refl le gives
refused_more k phase budget few many plan w d handles NoMemory le gives = tt

-- a refusal of some of the outputs
pub outputs_spent : (k : Comparison) (phase budget made more : ℕ) (plan : PhasePlan) (care : H) (w : PhaseWords) (old new : Diagrams) (spent : Spent) → 65536 ≤ budget → old.budget ≡ budget
    → IsSolvedBare k phase old.budget made plan care w old → Counts {A = Unit} (length (sources_of k phase)) more old new (Err spent) → MaySpend k budget phase (made + more)
outputs_spent k phase budget made more plan care w old new spent least same s counts =
    may_more k phase budget old.budget (made + more) (made + more) same (omega arith)
    (may_spend k phase old.budget (length (sources_of k phase)) made more (made + more) old new spent s.searched.store.used refl (omega (arith, least, same)) (omega arith) counts).0
