use Rattle.std.proofs.Common.{ℕ, get_or, arith, subst, sym, ◌∙◌, below_more}
use Rattle.std.proofs.lemmas.Option.{same_Some, slice_get-get_or, slice_get_within}
use Rattle.known_nets.proofs.SpreadLaws.{plain_within}
use Rattle.known_nets.specs.Regions.{IsShutAt}
use Rattle.vrt_model.specs.Lists.{At}
use Rattle.known_nets.proofs.region.is_shut.Goals as goal

pub loop-net-preserved : goal.loop-net-preserved
loop-net-preserved c =
    let nets = c.args.nets.now in
    let at : At nets c.loop-net.net-index (get_or nets c.loop-net.net-index 0) = slice_get-get_or nets c.loop-net.net-index 0 c.loop-net-test.true in
    let shut : IsShutAt c.args.circuit.now c.args.known.now (get_or nets c.loop-net.net-index 0) = c.is_shut_at-shut.ensures.yes c.if-not-shut.false in
    let P : ℕ → Type 0 = λ i. (n : ℕ) → At nets i n → IsShutAt c.args.circuit.now c.args.known.now n in
    below_more P c.loop-net.net-index c.loop-net.invariant
    (λ n e. subst (IsShutAt c.args.circuit.now c.args.known.now) (same_Some (get_or nets c.loop-net.net-index 0) n (sym at ∙ e)) shut)

pub returns-then-net-len-clause-no : goal.returns-then-net-len-clause-no
returns-then-net-len-clause-no c e phase =
    let nets = c.args.nets.now in
    let net : ℕ = get_or nets c.loop-net.net-index 0 in
    let within = plain_within c.args.circuit.now net (c.requires.plain net (c.loop-net.net-index, slice_get-get_or nets c.loop-net.net-index 0 c.loop-net-test.true)) in
    let count = c.requires.by.count in
    absurd (omega (arith, within, count, c.if-net-len.true, c.len.ensures))

pub returns-then-not-shut-clause-no : goal.returns-then-not-shut-clause-no
returns-then-not-shut-clause-no c e phase =
    let nets = c.args.nets.now in
    let at = c.loop-net.net-index in
    (get_or nets at 0, (at, slice_get-get_or nets at 0 c.loop-net-test.true), c.is_shut_at-shut.ensures.no c.if-not-shut.true phase)

pub returns-clause-yes : goal.returns-clause-yes
returns-clause-yes c e n m =
    let inside = slice_get_within c.args.nets.now m.0 n m.1 in
    c.loop-net.invariant m.0 (omega (arith, inside, c.loop-net-test.false)) n m.1
