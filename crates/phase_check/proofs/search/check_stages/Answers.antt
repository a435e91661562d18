-- The stages one after another, in one count of operations.
use Rattle.std.proofs.Common.{◌≡◌, ℕ, ◌+◌, ◌∙◌, arith, refl}
use Rattle.phase_check.proofs.Ends.{spends_to, stage_fault, stage_gives_to, stage_none}
use Rattle.phase_check.specs.States.{IsSolvedBare, IsSolvedKept, IsWished, bare_operations, model_operations, of_search, plan_kept_operations, stages_operations}
use Rattle.phase_check.proofs.search.check_stages.Goals as goal

pub returns-in-Ok-Some-clause-gives : goal.returns-in-Ok-Some-clause-gives
returns-in-Ok-Some-clause-gives c made opened =
    let s = c.args.search in
    let k = of_search s in
    let new = c.solve_bare.new.store in
    let bare : ℕ = made + bare_operations k s.phase s.plan.now in
    stage_fault k s.phase c.args.store.now.budget bare (IsSolvedBare k s.phase new.budget bare s.plan.now s.care s.words new) new c.in-Ok-Some.field-0 c.in-Ok-Some.fault c.in-Ok-Some.field-0-is
    (c.in-Ok-Some.ensures.gives made opened)

pub returns-in-Err-clause-gives : goal.returns-in-Err-clause-gives
returns-in-Err-clause-gives c made opened =
    let s = c.args.search in
    let k = of_search s in
    let bare : ℕ = made + bare_operations k s.phase s.plan.now in
    let all : ℕ = stages_operations k s.phase s.plan.now made in
    spends_to k s.phase c.args.store.now.budget c.args.store.now.budget bare all c.solve_bare.new.store refl (omega arith) (c.in-Err.ensures.gives made opened)

pub returns-in-Ok-Some-solve_kept-clause-gives : goal.returns-in-Ok-Some-solve_kept-clause-gives
returns-in-Ok-Some-solve_kept-clause-gives c made opened =
    let s = c.args.search in
    let k = of_search s in
    let first = c.solve_bare.new.store in
    let new = c.solve_kept.new.store in
    let bare : ℕ = made + bare_operations k s.phase s.plan.now in
    let kept : ℕ = bare + plan_kept_operations k s.plan.now in
    let solved = stage_none k s.phase c.args.store.now.budget bare (IsSolvedBare k s.phase first.budget bare s.plan.now s.care s.words first) first c.in-Ok-None.field-0 c.in-Ok-None.field-0-is
    (c.in-Ok-None.ensures.gives made opened) in
    stage_fault k s.phase first.budget kept (IsSolvedKept k s.phase new.budget kept s.plan.now s.care s.words new) new c.in-Ok-Some-solve_kept.field-0 c.in-Ok-Some-solve_kept.fault
    c.in-Ok-Some-solve_kept.field-0-is (c.in-Ok-Some-solve_kept.ensures.gives bare solved)

pub returns-in-Err-solve_kept-clause-gives : goal.returns-in-Err-solve_kept-clause-gives
returns-in-Err-solve_kept-clause-gives c made opened =
    let s = c.args.search in
    let k = of_search s in
    let first = c.solve_bare.new.store in
    let bare : ℕ = made + bare_operations k s.phase s.plan.now in
    let all : ℕ = stages_operations k s.phase s.plan.now made in
    let solved = stage_none k s.phase c.args.store.now.budget bare (IsSolvedBare k s.phase first.budget bare s.plan.now s.care s.words first) first c.in-Ok-None.field-0 c.in-Ok-None.field-0-is
    (c.in-Ok-None.ensures.gives made opened) in
    spends_to k s.phase c.args.store.now.budget first.budget (bare + plan_kept_operations k s.plan.now) all c.solve_kept.new.store c.solve_bare.ensures.kept.budget (omega arith)
    (c.in-Err-solve_kept.ensures.gives bare solved)

pub evaluate-requires-clause-solved : goal.evaluate-requires-clause-solved
evaluate-requires-clause-solved c =
    let s = c.args.search in
    let k = of_search s in
    let made = c.requires.opened.0 in
    let first = c.solve_bare.new.store in
    let new = c.solve_kept.new.store in
    let bare : ℕ = made + bare_operations k s.phase s.plan.now in
    let kept : ℕ = bare + plan_kept_operations k s.plan.now in
    let solved = stage_none k s.phase c.args.store.now.budget bare (IsSolvedBare k s.phase first.budget bare s.plan.now s.care s.words first) first c.in-Ok-None.field-0 c.in-Ok-None.field-0-is
    (c.in-Ok-None.ensures.gives made c.requires.opened.1) in (
      kept,
      stage_none k s.phase first.budget kept (IsSolvedKept k s.phase new.budget kept s.plan.now s.care s.words new) new c.in-Ok-None-solve_kept.field-0 c.in-Ok-None-solve_kept.field-0-is
          (c.in-Ok-None-solve_kept.ensures.gives bare solved),
    )

pub returns-in-Err-evaluate-clause-gives : goal.returns-in-Err-evaluate-clause-gives
returns-in-Err-evaluate-clause-gives c made opened =
    let s = c.args.search in
    let k = of_search s in
    let first = c.solve_bare.new.store in
    let new = c.solve_kept.new.store in
    let bare : ℕ = made + bare_operations k s.phase s.plan.now in
    let kept : ℕ = bare + plan_kept_operations k s.plan.now in
    let all : ℕ = stages_operations k s.phase s.plan.now made in
    let solved = stage_none k s.phase c.args.store.now.budget bare (IsSolvedBare k s.phase first.budget bare s.plan.now s.care s.words first) first c.in-Ok-None.field-0 c.in-Ok-None.field-0-is
    (c.in-Ok-None.ensures.gives made opened) in
    let held = stage_none k s.phase first.budget kept (IsSolvedKept k s.phase new.budget kept s.plan.now s.care s.words new) new c.in-Ok-None-solve_kept.field-0 c.in-Ok-None-solve_kept.field-0-is
    (c.in-Ok-None-solve_kept.ensures.gives bare solved) in
    spends_to k s.phase c.args.store.now.budget new.budget (kept + model_operations k) all c.evaluate.new.store (c.solve_kept.ensures.kept.budget ∙ c.solve_bare.ensures.kept.budget) (omega arith)
    (c.in-Err-evaluate.ensures.gives kept held)

pub check_wishes-requires-clause-evaluated : goal.check_wishes-requires-clause-evaluated
check_wishes-requires-clause-evaluated c =
    let s = c.args.search in
    let k = of_search s in
    let made = c.requires.opened.0 in
    let first = c.solve_bare.new.store in
    let new = c.solve_kept.new.store in
    let bare : ℕ = made + bare_operations k s.phase s.plan.now in
    let kept : ℕ = bare + plan_kept_operations k s.plan.now in
    let solved = stage_none k s.phase c.args.store.now.budget bare (IsSolvedBare k s.phase first.budget bare s.plan.now s.care s.words first) first c.in-Ok-None.field-0 c.in-Ok-None.field-0-is
    (c.in-Ok-None.ensures.gives made c.requires.opened.1) in
    let held = stage_none k s.phase first.budget kept (IsSolvedKept k s.phase new.budget kept s.plan.now s.care s.words new) new c.in-Ok-None-solve_kept.field-0 c.in-Ok-None-solve_kept.field-0-is
    (c.in-Ok-None-solve_kept.ensures.gives bare solved) in
    (kept + model_operations k, c.in-Ok.ensures.gives kept held)

pub returns-clause-gives : goal.returns-clause-gives
returns-clause-gives c made opened =
    let s = c.args.search in
    let k = of_search s in
    let first = c.solve_bare.new.store in
    let second = c.solve_kept.new.store in
    let new = c.check_wishes.new.store in
    let bare : ℕ = made + bare_operations k s.phase s.plan.now in
    let kept : ℕ = bare + plan_kept_operations k s.plan.now in
    let model : ℕ = kept + model_operations k in
    let all : ℕ = stages_operations k s.phase s.plan.now made in
    let solved = stage_none k s.phase c.args.store.now.budget bare (IsSolvedBare k s.phase first.budget bare s.plan.now s.care s.words first) first c.in-Ok-None.field-0 c.in-Ok-None.field-0-is
    (c.in-Ok-None.ensures.gives made opened) in
    let held = stage_none k s.phase first.budget kept (IsSolvedKept k s.phase second.budget kept s.plan.now s.care s.words second) second c.in-Ok-None-solve_kept.field-0
    c.in-Ok-None-solve_kept.field-0-is (c.in-Ok-None-solve_kept.ensures.gives bare solved) in
    stage_gives_to k s.phase c.args.store.now.budget c.evaluate.new.store.budget all all (IsWished k s.phase new.budget all s.plan.now s.care s.words new) new c.check_wishes.result
    (c.evaluate.ensures.kept.budget ∙ c.solve_kept.ensures.kept.budget ∙ c.solve_bare.ensures.kept.budget) (omega arith) (c.check_wishes.ensures.gives model (c.in-Ok.ensures.gives kept held))
