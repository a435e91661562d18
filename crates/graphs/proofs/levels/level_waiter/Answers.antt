use Rattle.std.proofs.Common.{inl, inr, ◌≡◌, ℕ, ◌+◌, List, Option, None, Some, length, slice_index, arith, ap, subst, sym, ◌∙◌}
use Rattle.std.specs.Prelude.{nat_lt}
use Rattle.std.proofs.lemmas.Bool.{cases_lt, ltb-false, ltb-true}
use Rattle.std.proofs.lemmas.Option.{same_Some}
use Rattle.graphs.proofs.LevelLaws.{look_level, look_settles, look_waits}
use Rattle.graphs.proofs.OrderLaws.{placed_next}
use Rattle.graphs.specs.Graphs.{sources_at}
use Rattle.graphs.specs.Levels.{IsFirstOpen, IsLevelling}
use Rattle.graphs.specs.Orders.{IsPlacing}
use Rattle.graphs.specs.declared.levels.Waiter.{Waiter}
use Rattle.vrt_model.specs.Lists.{At}
use Rattle.graphs.proofs.levels.level_waiter.Goals as goal

pub returns-then-has_level-clause-so_far : goal.returns-then-has_level-clause-so_far
returns-then-has_level-clause-so_far c =
    let t = c.args.levels.now.items in
    let waiter = c.waiter_at-waiter.result in
    let here : At c.args.queue.now c.args.at waiter = subst (λ (q : List Waiter). At q c.args.at waiter) c.as_slice-entries.ensures c.waiter_at-waiter.ensures in
    let has = ltb-true 0 (slice_index t waiter.node) (ap (λ (s : List ℕ). nat_lt 0 (slice_index s waiter.node)) (sym c.as_slice-now.ensures.value) ∙ (sym c.has_level.ensures ∙ c.if-has_level.true)) in
    look_level c.args.sources.now t c.args.waiting.now.items c.args.queue.now c.args.at waiter c.requires.so_far here has

pub returns-in_ok-wait-in-Some-clause-so_far : goal.returns-in_ok-wait-in-Some-clause-so_far
returns-in_ok-wait-in-Some-clause-so_far c =
    let sources = c.args.sources.now in
    let t = c.args.levels.now.items in
    let waiter = c.waiter_at-waiter.result in
    let here : At c.args.queue.now c.args.at waiter = subst (λ (q : List Waiter). At q c.args.at waiter) c.as_slice-entries.ensures c.waiter_at-waiter.ensures in
    let numbers : c.sources_at-numbers.result.now ≡ sources_at sources waiter.node = c.sources_at-numbers.ensures in
    let found : IsFirstOpen (sources_at sources waiter.node) t waiter.from (Some c.in-Some.place) =
    subst (λ (o : Option ℕ). IsFirstOpen (sources_at sources waiter.node) t waiter.from o) c.in-Some.is
    (subst (λ (xs : List ℕ). IsFirstOpen xs t waiter.from c.first_open-lacking.result) numbers
    (subst (λ (s : List ℕ). IsFirstOpen c.sources_at-numbers.result.now s waiter.from c.first_open-lacking.result) c.as_slice-now.ensures.value c.first_open-lacking.ensures)) in
    let source : At (sources_at sources waiter.node) c.in-Some.place c.number_at-source.result =
    subst (λ (xs : List ℕ). At xs c.in-Some.place c.number_at-source.result) numbers c.number_at-source.ensures in
    let same : found.0.0 ≡ c.number_at-source.result = same_Some found.0.0 c.number_at-source.result (sym found.0.1 ∙ source) in
    look_waits sources t c.args.waiting.now.items c.wait.new.waiting.items c.args.queue.now c.args.at c.number_at-source.result c.in-Some.place waiter c.requires.so_far here source
    (ap (slice_index t) (sym same) ∙ found.0.2) found.1 c.in_ok-wait-in-Some.ensures

pub returns-in_ok-release-in-None-clause-so_far : goal.returns-in_ok-release-in-None-clause-so_far
returns-in_ok-release-in-None-clause-so_far c =
    let sources = c.args.sources.now in
    let t = c.args.levels.now.items in
    let u = c.give_level.new.levels.items in
    let waiter = c.waiter_at-waiter.result in
    let here : At c.args.queue.now c.args.at waiter = subst (λ (q : List Waiter). At q c.args.at waiter) c.as_slice-entries.ensures c.waiter_at-waiter.ensures in
    let row = c.in_ok-release-in-None.ensures in
    let waits : At c.args.waiting.now.items waiter.node row.0 = subst (λ (ws : List (List Waiter)). At ws waiter.node row.0) c.as_slice.ensures.value row.1 in
    subst (λ (q : List Waiter). IsLevelling sources u c.args.waiting.now.items q (c.args.at + 1)) (sym row.2)
    (look_settles sources t u c.args.waiting.now.items c.args.queue.now row.0 c.args.at waiter c.requires.so_far here c.in_ok-give_level-in-None.ensures waits)

pub returns-in_ok-release-in-None-clause-placing : goal.returns-in_ok-release-in-None-clause-placing
returns-in_ok-release-in-None-clause-placing c =
    let sources = c.args.sources.now in
    let u = c.give_level.new.levels.items in
    subst (λ (xs : List ℕ). IsPlacing sources u xs) (sym c.in_ok-append-in-None.ensures)
    (placed_next sources c.waiter_at-waiter.result.node c.args.levels.now.items u c.args.steps.now c.in_ok-give_level-in-None.ensures c.requires.placing)

pub wait-requires : goal.wait-requires
wait-requires c =
    let sources = c.args.sources.now in
    let waiter = c.waiter_at-waiter.result in
    let source : At (sources_at sources waiter.node) c.in-Some.place c.number_at-source.result =
    subst (λ (xs : List ℕ). At xs c.in-Some.place c.number_at-source.result) c.sources_at-numbers.ensures c.number_at-source.ensures in
    let inside = c.requires.inside c.number_at-source.result waiter.node (c.in-Some.place, source) in
    let room = c.requires.so_far.room in
    omega (arith, inside, room)

pub give_level-requires-clause-there : goal.give_level-requires-clause-there
give_level-requires-clause-there c =
    let waiter = c.waiter_at-waiter.result in
    let here : At c.args.queue.now c.args.at waiter = subst (λ (q : List Waiter). At q c.args.at waiter) c.as_slice-entries.ensures c.waiter_at-waiter.ensures in
    let inside = (c.requires.so_far.listed waiter (c.args.at, here)).0 in
    let size = c.requires.so_far.size in
    omega (arith, inside, size)

pub give_level-requires-clause-none : goal.give_level-requires-clause-none
give_level-requires-clause-none c =
    let t = c.args.levels.now.items in
    let waiter = c.waiter_at-waiter.result in
    let le = ltb-false 0 (slice_index t waiter.node) (ap (λ (s : List ℕ). nat_lt 0 (slice_index s waiter.node)) (sym c.as_slice-now.ensures.value) ∙ (sym c.has_level.ensures ∙ c.if-has_level.false)) in
    omega (arith, le)

pub give_level-requires-clause-some : goal.give_level-requires-clause-some
give_level-requires-clause-some c q m =
    let sources = c.args.sources.now in
    let t = c.args.levels.now.items in
    let waiter = c.waiter_at-waiter.result in
    let here : At c.args.queue.now c.args.at waiter = subst (λ (q : List Waiter). At q c.args.at waiter) c.as_slice-entries.ensures c.waiter_at-waiter.ensures in
    let found : IsFirstOpen (sources_at sources waiter.node) t waiter.from None =
    subst (λ (o : Option ℕ). IsFirstOpen (sources_at sources waiter.node) t waiter.from o) c.in-None.is
    (subst (λ (xs : List ℕ). IsFirstOpen xs t waiter.from c.first_open-lacking.result) c.sources_at-numbers.ensures
    (subst (λ (s : List ℕ). IsFirstOpen c.sources_at-numbers.result.now s waiter.from c.first_open-lacking.result) c.as_slice-now.ensures.value c.first_open-lacking.ensures)) in
    elim (cases_lt m.0 waiter.from) [ inl lt ↦ (c.requires.so_far.listed waiter (c.args.at, here)).1 m.0 q lt m.1 | inr ge ↦ found m.0 q ge m.1 ]

pub release-requires : goal.release-requires
release-requires c =
    let waiter = c.waiter_at-waiter.result in
    let here : At c.args.queue.now c.args.at waiter = subst (λ (q : List Waiter). At q c.args.at waiter) c.as_slice-entries.ensures c.waiter_at-waiter.ensures in
    let inside = (c.requires.so_far.listed waiter (c.args.at, here)).0 in
    let room = c.requires.so_far.room in
    let same : length c.as_slice.result.now ≡ length c.args.waiting.now.items = ap length c.as_slice.ensures.value in
    omega (arith, inside, room, same)
