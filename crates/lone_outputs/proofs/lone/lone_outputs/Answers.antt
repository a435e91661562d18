use Rattle.std.proofs.Common.{◌≡◌, ◌∙◌, ℕ, Bool, List, length, arith, subst, sym, ap, slice_index}
use Rattle.std.proofs.lemmas.List.{length-map}
use Rattle.std.proofs.lemmas.Result.{IfOk-weaker}
use Rattle.channel_parts.specs.Labels.{IsLeastTogether}
use Rattle.lone_outputs.proofs.LoneLaws.{are_lone}
use Rattle.lone_outputs.specs.Owners.{AreCounts, is_lone}
use Rattle.vrt_model.specs.Known.{IsPlain}
use Rattle.vrt_model.specs.Reading.{kept}
use Rattle.lone_outputs.proofs.lone.lone_outputs.Goals as goal

pub returns-clause-alone : goal.returns-clause-alone
returns-clause-alone c =
    let circuit = c.args.circuit.now in
    let known = c.args.known.now in
    let labels = c.in_ok-labels.labels.items in
    let least = c.as_slice-least.result.now in
    let counts = c.as_slice.result.now in
    let nets = c.args.outputs.now in
    let same_counts = c.as_slice.ensures.value in
    let same_least = c.as_slice-least.ensures.value in
    let counts_len = ap (λ (t : List ℕ). length t) same_counts in
    let table_len = c.in_ok-counts.ensures.len in
    let least_len = c.as_slice-least.ensures.len in
    let nets_len = c.in_ok-labels.ensures.len in
    IfOk-weaker c.judge_nets.result _ _
    (λ lone is phase table.
    are_lone circuit phase known table least
    (subst (λ (t : List ℕ). (n : ℕ) → IsPlain circuit n → IsLeastTogether circuit phase kept n (slice_index t n)) (sym same_least) (c.in_ok-labels.ensures.least phase table)) nets counts
    (subst (AreCounts circuit least nets) (sym same_counts) c.in_ok-counts.ensures.is)
    (omega (arith, counts_len, table_len, least_len, nets_len)) lone is)
    c.judge_nets.ensures

pub returns-clause-len : goal.returns-clause-len
returns-clause-len c =
    let nets = c.args.outputs.now in
    IfOk-weaker c.judge_nets.result _ (λ lone. length lone ≡ length nets)
    (λ lone is. ap (λ (bits : List Bool). length bits) is ∙ length-map nets (is_lone c.args.circuit.now c.args.known.now c.as_slice-least.result.now c.as_slice.result.now)) c.judge_nets.ensures
