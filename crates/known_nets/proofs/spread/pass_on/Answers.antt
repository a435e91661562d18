use Rattle.std.proofs.Common.{◌≡◌, ℕ, ◌<◌, List, length, ap, arith, subst, ◌∙◌}
use Rattle.std.proofs.lemmas.Result.{on_ok_weaker}
use Rattle.graphs.specs.Graphs.{sources_at}
use Rattle.known_nets.proofs.SpreadLaws.{all_passed, plain_within}
use Rattle.known_nets.specs.Spreads.{PassesAll, PassesFirst}
use Rattle.known_nets.proofs.spread.pass_on.Goals as goal

pub returns-clause-passed : goal.returns-clause-passed
returns-clause-passed c =
    let over = c.args.over in
    let net = c.args.net in
    let new = c.pass_over_numbers.new.amounts in
    let amount = c.at-amount.result in
    let ends = over.by.now.ends.items in
    let within = plain_within over.circuit.now net c.requires.plain in
    let inside : net < length ends = omega (arith, within, c.requires.by.count) in
    let first : List ℕ → Type 0 = λ numbers. PassesFirst over new amount net numbers (length numbers) in
    let row : c.numbers_at-numbers.result.now ≡ sources_at ends net = c.numbers_at-numbers.ensures ∙ ap (λ (e : List (List ℕ)). sources_at e net) c.as_slice.ensures.value in
    on_ok_weaker c.pass_over_numbers.result
    (λ (has : first c.numbers_at-numbers.result.now).
    subst (λ (a : ℕ). PassesAll over new a net) c.at-amount.ensures
    (all_passed over.spread over.circuit.now over.known.now over.levels.now new.table.items ends amount net c.requires.by.ends inside (subst first row has)))
    c.pass_over_numbers.ensures.passed
