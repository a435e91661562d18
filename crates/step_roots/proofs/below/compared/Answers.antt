use Rattle.std.proofs.Common.{◌≡◌, ℕ, ◌+◌, ◌-◌, ◌<◌, get_or, length, arith, subst}
use Rattle.std.proofs.lemmas.Option.{slice_get-get_or}
use Rattle.step_roots.proofs.ComparedLaws.{IsBehind, behind_none, behind_one, behind_refused}
use Rattle.step_roots.proofs.below.compared.Goals as goal

pub left-init : goal.left-init
left-init c = behind_none c.args.lesser c.args.variables.now c.args.bits.now _ c.args.store.now c.sound.ensures.sound c.sound.ensures.within c.constant-rest.ensures

pub left-preserved : goal.left-preserved
left-preserved c =
    let variables = c.args.variables.now in
    let bits = c.args.bits.now in
    let m : ℕ = c.left.left - 1 in
    let fits = c.left.invariant.fits in
    let some = c.left-test.true in
    let same = c.requires.bits in
    let lt : m < length variables = omega (arith, fits, some) in
    let below : m < length bits = omega (arith, lt, same) in
    let next : c.left.left ≡ m + 1 = omega (arith, some) in
    let before : IsBehind c.args.lesser variables bits (m + 1) c.left.rest c.args.store.now c.left.store = subst (λ (x : ℕ). IsBehind c.args.lesser variables bits x c.left.rest c.args.store.now c.left.store) next c.left.invariant in
    behind_one c.args.lesser variables bits m (get_or variables m _) (get_or bits m _) c.left.rest c.in-Ok.next c.args.store.now c.left.store c.compared_bit.new.store (slice_get-get_or variables m _ lt)
    (slice_get-get_or bits m _ below) before c.in-Ok.ensures.gives c.in-Ok.ensures.counts

pub returns-in-Err-clause-counts : goal.returns-in-Err-clause-counts
returns-in-Err-clause-counts c =
    let m : ℕ = c.left.left - 1 in
    let some = c.left-test.true in
    let next : c.left.left ≡ m + 1 = omega (arith, some) in
    let before : IsBehind c.args.lesser c.args.variables.now c.args.bits.now (m + 1) c.left.rest c.args.store.now c.left.store =
    subst (λ (x : ℕ). IsBehind c.args.lesser c.args.variables.now c.args.bits.now x c.left.rest c.args.store.now c.left.store) next c.left.invariant in
    behind_refused c.args.lesser c.args.variables.now c.args.bits.now m c.left.rest c.args.store.now c.left.store c.compared_bit.new.store c.in-Err.spent before c.in-Err.ensures.counts
