use Rattle.std.proofs.Common.{◌≡◌, ℕ, List, false, slice_index, ap, subst, sym, ◌∙◌}
use Rattle.channel_parts.proofs.PartLaws.{zero_ranks}
use Rattle.channel_parts.specs.Labels.{IsLeastTogether}
use Rattle.channel_parts.specs.PartLists.{AreParts}
use Rattle.vrt_model.specs.Known.{IsPlain}
use Rattle.channel_parts.proofs.assembly.kept_by.Goals as goal

pub returns : goal.returns
returns c phase table =
    let circuit = c.args.circuit.now in
    let are : (n : ℕ) → IsPlain circuit n → IsLeastTogether circuit phase false n (slice_index c.as_slice.result.now n) =
    subst (λ (t : List ℕ). (n : ℕ) → IsPlain circuit n → IsLeastTogether circuit phase false n (slice_index t n)) (sym c.as_slice.ensures.value) (λ n p. c.in_ok-labels.ensures.least phase table n p) in
    let zeros : slice_index c.as_slice-2.result.now ≡ (λ (n : ℕ). 0) = ap (λ (t : List ℕ). slice_index t) (c.as_slice-2.ensures.value ∙ c.in_ok-none.ensures) ∙ zero_ranks c.len.result in
    let at_zero : (n : ℕ) → slice_index c.as_slice-2.result.now n ≡ 0 = λ n. ap (λ (f : ℕ → ℕ). f n) zeros in
    subst (λ (rank : ℕ → ℕ). AreParts circuit phase false rank c.in_ok-parts.parts) zeros (c.in_ok-parts.ensures phase table are (λ n m t. at_zero n ∙ sym (at_zero m)))
