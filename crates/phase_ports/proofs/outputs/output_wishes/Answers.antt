use Rattle.std.proofs.Common.{◌≡◌, List, subst}
use Rattle.std.specs.Prelude.{All, filter_map}
use Rattle.std.proofs.lemmas.Result.{IfOk-weaker}
use Rattle.phase_ports.proofs.WishLaws.{found_are, found_at, found_bits, found_few, found_is}
use Rattle.phase_ports.specs.Comparisons.{AreFew, AreOutputWishesOf, IsAtPort}
use Rattle.phase_ports.specs.DontCares.{HaveBitsOf}
use Rattle.phase_ports.specs.Seen.{seen_wish}
use Rattle.phase_wishes.specs.declared.wishes.Wish.{Wish}
use Rattle.vrt_model.specs.Comparison.{cell_at}
use Rattle.phase_ports.proofs.outputs.output_wishes.Goals as goal

pub returns-clause-are : goal.returns-clause-are
returns-clause-are c =
    let a = c.args in
    IfOk-weaker c.wishes_at.result (λ wishes. wishes ≡ filter_map (seen_wish a.rules.now c.cell_of-own.result.now a.phase a.bits.now) c.as_slice-2.result.now)
    (λ wishes. AreOutputWishesOf a.design.now a.rules.now a.cell a.pairing.now a.phase wishes)
    (λ wishes e k is. subst (λ (xs : List Wish). AreOutputWishesOf a.design.now a.rules.now a.cell a.pairing.now a.phase xs)
    (found_is a.design.now a.rules.now a.cell a.pairing.now a.phase a.bits.now c.requires.roles c.cell_of-own.result.now c.as_slice.result.now c.in_ok-ports.ports.items c.as_slice-2.result.now wishes
    c.cell_of-own.ensures c.as_slice.ensures c.in_ok-ports.ensures c.as_slice-2.ensures.value e)
    (found_are a.design.now a.rules.now a.cell a.pairing.now a.phase a.bits.now c.requires.roles) k is)
    c.wishes_at.ensures

pub returns-clause-at_ports : goal.returns-clause-at_ports
returns-clause-at_ports c =
    let a = c.args in
    IfOk-weaker c.wishes_at.result (λ wishes. wishes ≡ filter_map (seen_wish a.rules.now c.cell_of-own.result.now a.phase a.bits.now) c.as_slice-2.result.now)
    (All (IsAtPort a.rules.now (cell_at a.design.now a.cell)))
    (λ wishes e. subst (λ (xs : List Wish). All (IsAtPort a.rules.now (cell_at a.design.now a.cell)) xs)
    (found_is a.design.now a.rules.now a.cell a.pairing.now a.phase a.bits.now c.requires.roles c.cell_of-own.result.now c.as_slice.result.now c.in_ok-ports.ports.items c.as_slice-2.result.now wishes
    c.cell_of-own.ensures c.as_slice.ensures c.in_ok-ports.ensures c.as_slice-2.ensures.value e)
    (found_at a.design.now a.rules.now a.cell a.pairing.now a.phase a.bits.now c.requires.roles))
    c.wishes_at.ensures

pub returns-clause-few : goal.returns-clause-few
returns-clause-few c =
    let a = c.args in
    IfOk-weaker c.wishes_at.result (λ wishes. wishes ≡ filter_map (seen_wish a.rules.now c.cell_of-own.result.now a.phase a.bits.now) c.as_slice-2.result.now)
    (AreFew a.rules.now (cell_at a.design.now a.cell))
    (λ wishes e. subst (λ (xs : List Wish). AreFew a.rules.now (cell_at a.design.now a.cell) xs)
    (found_is a.design.now a.rules.now a.cell a.pairing.now a.phase a.bits.now c.requires.roles c.cell_of-own.result.now c.as_slice.result.now c.in_ok-ports.ports.items c.as_slice-2.result.now wishes
    c.cell_of-own.ensures c.as_slice.ensures c.in_ok-ports.ensures c.as_slice-2.ensures.value e)
    (found_few a.design.now a.rules.now a.cell a.pairing.now a.phase a.bits.now c.requires.roles))
    c.wishes_at.ensures

pub returns-clause-free : goal.returns-clause-free
returns-clause-free c =
    let a = c.args in
    IfOk-weaker c.wishes_at.result (λ wishes. wishes ≡ filter_map (seen_wish a.rules.now c.cell_of-own.result.now a.phase a.bits.now) c.as_slice-2.result.now)
    (HaveBitsOf a.bits.now)
    (λ wishes e. subst (λ (xs : List Wish). HaveBitsOf a.bits.now xs)
    (found_is a.design.now a.rules.now a.cell a.pairing.now a.phase a.bits.now c.requires.roles c.cell_of-own.result.now c.as_slice.result.now c.in_ok-ports.ports.items c.as_slice-2.result.now wishes
    c.cell_of-own.ensures c.as_slice.ensures c.in_ok-ports.ensures c.as_slice-2.ensures.value e)
    (found_bits a.design.now a.rules.now a.cell a.pairing.now a.phase a.bits.now c.requires.roles))
    c.wishes_at.ensures
