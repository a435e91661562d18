-- The phase is opened where no operation was made before, and then searched.
use Rattle.std.proofs.Common.{◌≡◌, ℕ, ◌+◌, arith, length, refl, subst}
use Rattle.phase_check.proofs.Ends.{spends_to, stage_fault, stage_none}
use Rattle.phase_check.proofs.Somewhere.{no_care}
use Rattle.phase_check.specs.States.{IsWished, stages_operations}
use Rattle.phase_laws.proofs.Work.{used_none}
use Rattle.phase_laws.specs.Sums.{search_operations}
use Rattle.phase_terms.specs.Opened.{opened_operations}
use Rattle.phase_terms.specs.Ready.{comparison_in}
use Rattle.vrt_model.specs.Held.{sources_of}
use Rattle.phase_check.proofs.search.check_phase.Goals as goal

pub returns-in-Err-clause-gives : goal.returns-in-Err-clause-gives
returns-in-Err-clause-gives c =
    let k = comparison_in c.args.compared in
    let phase = c.args.phase in
    let d = c.args.store.now in
    let opened : ℕ = 0 + opened_operations k phase in
    let all : ℕ = search_operations k phase c.args.plan.now in
    spends_to k phase d.budget d.budget opened all c.open_search.new.store refl (omega arith)
    (c.in-Err.ensures.gives 0 (used_none d.budget (length (sources_of k phase)) d refl c.requires.empty))

pub returns-then-opened-eq0-clause-gives : goal.returns-then-opened-eq0-clause-gives
returns-then-opened-eq0-clause-gives c =
    let k = comparison_in c.args.compared in
    let phase = c.args.phase in
    let d = c.args.store.now in
    let new = c.open_search.new.store in
    let open_phase = c.in-Ok.opened in
    no_care k phase new.budget (0 + opened_operations k phase) open_phase.care open_phase.words new
    (c.in-Ok.ensures.gives 0 (used_none d.budget (length (sources_of k phase)) d refl c.requires.empty)).opened (omega (arith, c.if-opened-eq0.true))

pub check_stages-requires-clause-opened : goal.check_stages-requires-clause-opened
check_stages-requires-clause-opened c =
    let k = comparison_in c.args.compared in
    let phase = c.args.phase in
    let d = c.args.store.now in
    (0 + opened_operations k phase, c.in-Ok.ensures.gives 0 (used_none d.budget (length (sources_of k phase)) d refl c.requires.empty))

pub returns-in-Ok-None-clause-gives : goal.returns-in-Ok-None-clause-gives
returns-in-Ok-None-clause-gives c =
    let k = comparison_in c.args.compared in
    let phase = c.args.phase in
    let plan = c.args.plan.now in
    let d = c.args.store.now in
    let mid = c.open_search.new.store in
    let new = c.check_stages.new.store in
    let open_phase = c.in-Ok.opened in
    let opened : ℕ = 0 + opened_operations k phase in
    let all : ℕ = stages_operations k phase plan opened in
    (stage_none k phase mid.budget all (IsWished k phase new.budget all plan open_phase.care open_phase.words new) new c.in-Ok-None.field-0 c.in-Ok-None.field-0-is
    (c.in-Ok-None.ensures.gives opened (c.in-Ok.ensures.gives 0 (used_none d.budget (length (sources_of k phase)) d refl c.requires.empty)))).equal

pub returns-in-Ok-None-clause-clear : goal.returns-in-Ok-None-clause-clear
returns-in-Ok-None-clause-clear c =
    let k = comparison_in c.args.compared in
    let phase = c.args.phase in
    let plan = c.args.plan.now in
    let d = c.args.store.now in
    let mid = c.open_search.new.store in
    let new = c.check_stages.new.store in
    let open_phase = c.in-Ok.opened in
    let opened : ℕ = 0 + opened_operations k phase in
    let all : ℕ = stages_operations k phase plan opened in
    let same : all ≡ search_operations k phase plan = omega arith in
    subst (λ (n : ℕ). IsWished k phase new.budget n plan open_phase.care open_phase.words new) same
    (stage_none k phase mid.budget all (IsWished k phase new.budget all plan open_phase.care open_phase.words new) new c.in-Ok-None.field-0 c.in-Ok-None.field-0-is
    (c.in-Ok-None.ensures.gives opened (c.in-Ok.ensures.gives 0 (used_none d.budget (length (sources_of k phase)) d refl c.requires.empty))))

pub returns-in-Ok-Some-clause-gives : goal.returns-in-Ok-Some-clause-gives
returns-in-Ok-Some-clause-gives c =
    let k = comparison_in c.args.compared in
    let phase = c.args.phase in
    let plan = c.args.plan.now in
    let d = c.args.store.now in
    let mid = c.open_search.new.store in
    let new = c.check_stages.new.store in
    let open_phase = c.in-Ok.opened in
    let opened : ℕ = 0 + opened_operations k phase in
    let all : ℕ = stages_operations k phase plan opened in
    stage_fault k phase mid.budget all (IsWished k phase new.budget all plan open_phase.care open_phase.words new) new c.in-Ok-Some.field-0 c.in-Ok-Some.fault c.in-Ok-Some.field-0-is
    (c.in-Ok-Some.ensures.gives opened (c.in-Ok.ensures.gives 0 (used_none d.budget (length (sources_of k phase)) d refl c.requires.empty)))

pub returns-in-Err-check_stages-clause-gives : goal.returns-in-Err-check_stages-clause-gives
returns-in-Err-check_stages-clause-gives c =
    let k = comparison_in c.args.compared in
    let phase = c.args.phase in
    let plan = c.args.plan.now in
    let d = c.args.store.now in
    let opened : ℕ = 0 + opened_operations k phase in
    spends_to k phase d.budget c.open_search.new.store.budget (stages_operations k phase plan opened) (search_operations k phase plan) c.check_stages.new.store c.open_search.ensures.kept.budget (omega arith)
    (c.in-Err-check_stages.ensures.gives opened (c.in-Ok.ensures.gives 0 (used_none d.budget (length (sources_of k phase)) d refl c.requires.empty)))
