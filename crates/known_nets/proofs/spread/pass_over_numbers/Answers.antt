use Rattle.std.proofs.Common.{◌≡◌, ℕ, length, get_or, arith, subst, ◌∙◌}
use Rattle.std.proofs.lemmas.Option.{slice_get-get_or}
use Rattle.known_nets.proofs.SpreadLaws.{gone_none, gone_then, more_passed}
use Rattle.known_nets.specs.Spreads.{PassesFirst}
use Rattle.vrt_model.specs.Lists.{At}
use Rattle.known_nets.proofs.spread.pass_over_numbers.Goals as goal

pub loop-number-init : goal.loop-number-init
loop-number-init c = record {
  gone = gone_none c.args.over.spread c.args.over.circuit.now c.args.over.known.now c.args.over.levels.now c.args.amount c.args.net c.args.amounts.now.table.items c.args.amounts.now.met.items;
  passed = λ i k d lt. absurd (omega (arith, lt));
}

pub pass_over_number-requires-clause-size : goal.pass_over_number-requires-clause-size
pass_over_number-requires-clause-size c = c.loop-number.invariant.gone.growth.size ∙ c.requires.size

pub loop-number-preserved : goal.loop-number-preserved
loop-number-preserved c =
    let numbers = c.args.numbers.now in
    let i = c.loop-number.number-index in
    let k : ℕ = get_or numbers i 0 in
    let here : At numbers i k = slice_get-get_or numbers i 0 c.loop-number-test.true in
    let first = c.args.amounts.now in
    let old = c.loop-number.amounts in
    let new = c.pass_over_number.new.amounts in
    record {
      gone = gone_then c.args.over.spread c.args.over.circuit.now c.args.over.known.now c.args.over.levels.now c.args.amount c.args.net first.table.items old.table.items new.table.items
          first.met.items old.met.items new.met.items c.loop-number.invariant.gone c.in_ok-pass_over_number.ensures.gone;
      passed = more_passed c.args.over.spread c.args.over.circuit.now c.args.over.known.now c.args.over.levels.now old.table.items new.table.items numbers c.args.amount c.args.net i k
          c.in_ok-pass_over_number.ensures.gone.growth.grown here c.loop-number.invariant.passed c.in_ok-pass_over_number.ensures.passed;
    }

pub returns-clause-gone : goal.returns-clause-gone
returns-clause-gone c = c.loop-number.invariant.gone

pub returns-clause-passed : goal.returns-clause-passed
returns-clause-passed c =
    let numbers = c.args.numbers.now in
    let all : c.loop-number.number-index ≡ length numbers = omega (arith, c.loop-number-test.false, c.loop-number.auto.number-index-end) in
    subst (λ (k : ℕ). PassesFirst c.args.over c.loop-number.amounts c.args.amount c.args.net numbers k) all c.loop-number.invariant.passed
