-- A written model passes no limit: a node has two rows, an output one, and no model stands in it.
use Rattle.std.proofs.Common.{◌≡◌, ℕ, suc, ◌+◌, ◌*◌, ◌-◌, ◌≤◌, false, List, [], ◌∷◌, ◌++◌, None, length, map, nat_lt, arith, ap, refl, ◌∙◌}
use Rattle.std.specs.Prelude.{sum_by}
use Rattle.std.proofs.lemmas.Bool.Decides.{nat_tests}
use Rattle.std.proofs.lemmas.List.Sums.{sum_by-append, sum_by-cons}
use Rattle.plain_models.proofs.FlatLaws.{driven_models_are_flat}
use Rattle.plain_models.specs.Flat.{flat_form, number_in, numbered_cover, signal_names}
use Rattle.plain_models.specs.Texts.{PlainCover, PlainModel, alone}
use Rattle.vrt_model.specs.FlatBlif.{all_models}
use Rattle.vrt_model.specs.Limits.{most_rows, most_signals, most_sub_models}
use Rattle.vrt_model.specs.Unsupported.{Limit, model_limits, too_large}
use Rattle.vrt_model.specs.declared.flat_model.Cover.{Cover}
use Rattle.vrt_model.specs.declared.flat_model.FlatModel.{FlatModel}
use Rattle.written_models.proofs.WrittenNames.{drivers}
use Rattle.written_models.specs.Functions.{Function, Node}
use Rattle.written_models.specs.Written.{IsWritable, Logic, constants, covers_of_nodes, covers_of_outputs, node_cover, nodes_in, output_cover, written_model}

-- ---- rows

abbrev rows : PlainCover → ℕ
rows c = length c.rows

rows_numbered : (number : List ℕ → ℕ) (cs : List PlainCover) → sum_by (λ (c : Cover). length c.rows) (map (numbered_cover number) cs) ≡ sum_by rows cs
rows_numbered number [] = refl
rows_numbered number (c ∷ cs) =
    sum_by-cons (λ (x : Cover). length x.rows) (numbered_cover number c) (map (numbered_cover number) cs)
    ∙ ap (λ (n : ℕ). length c.rows + n) (rows_numbered number cs) ∙ (let e = sum_by-cons rows c cs in omega (arith, e))

node_rows : (variables : List (List ℕ)) (nodes : List Node) (k : ℕ) (rest : List Node) → sum_by rows (covers_of_nodes variables nodes k rest) ≡ 2 * length rest
node_rows variables nodes k [] = refl
node_rows variables nodes k (node ∷ rest) =
    let one = sum_by-cons rows (node_cover variables nodes k node) (covers_of_nodes variables nodes (suc k) rest) in
    let more = node_rows variables nodes (suc k) rest in
    omega (arith, one, more)

output_rows : (inputs : ℕ) (nodes : List Node) (names : List (List ℕ)) (fs : List Function) → sum_by rows (covers_of_outputs inputs nodes names fs) ≤ length names
output_rows inputs nodes [] fs = omega arith
output_rows inputs nodes (name ∷ names) [] = omega arith
output_rows inputs nodes (name ∷ names) (f ∷ fs) =
    let one = sum_by-cons rows (output_cover inputs nodes name f) (covers_of_outputs inputs nodes names fs) in
    let more = output_rows inputs nodes names fs in
    omega (arith, one, more)

-- ---- limits

within : (count limit : ℕ) → count ≤ limit → nat_lt limit count ≡ false
within count limit le = grind (arith, nat_tests)

three_within : (a b c : Limit) → nat_lt a.limit a.count ≡ false → nat_lt b.limit b.count ≡ false → nat_lt c.limit c.count ≡ false → too_large (a ∷ b ∷ c ∷ []) ≡ None
three_within a b c e f g = rw (e, f, g) refl

alone_there : (m : PlainModel) → length (all_models (alone m) 0) - 1 ≡ 0
unfolding all_models
alone_there m = refl

abbrev limits_of : FlatModel → ℕ → List Limit
limits_of flat models =
    record { count = length flat.signals; limit = most_signals }
    ∷ record { count = sum_by (λ (c : Cover). length c.rows) flat.covers; limit = most_rows }
    ∷ record { count = models; limit = most_sub_models } ∷ []

pub written_models_are_small : (l : Logic) → IsWritable l → length (signal_names (written_model l)) ≤ most_signals → length l.outputs ≤ most_signals
    → too_large (model_limits (alone (written_model l)) 0) ≡ None
written_models_are_small l good signals outputs =
    let m : PlainModel = written_model l in
    let flat : FlatModel = flat_form m in
    let nodes : List Node = nodes_in l in
    let xs = covers_of_nodes l.variables nodes 2 nodes in
    let ys = covers_of_outputs (length l.variables) nodes l.outputs l.functions in
    let models : ℕ = length (all_models (alone m) 0) - 1 in
    let sum : sum_by (λ (c : Cover). length c.rows) flat.covers ≡ sum_by rows (constants ++ xs) + sum_by rows ys = rows_numbered (number_in m) (constants ++ xs ++ ys) ∙ sum_by-append rows (constants ++ xs) ys in
    let front = sum_by-append rows constants xs in
    let of_nodes = node_rows l.variables nodes 2 nodes in
    let of_outputs = output_rows (length l.variables) nodes l.outputs l.functions in
    let few = good.few in
    let all : sum_by (λ (c : Cover). length c.rows) flat.covers ≤ 200000 = omega (arith, sum, front, of_nodes, of_outputs, few, outputs) in
    ap (λ (f : FlatModel). too_large (limits_of f models)) (driven_models_are_flat m (drivers l good))
    ∙ three_within (record { count = length flat.signals; limit = most_signals }) (record { count = sum_by (λ (c : Cover). length c.rows) flat.covers; limit = most_rows }) (record { count = models; limit = most_sub_models })
    (within (length flat.signals) most_signals signals) (within (sum_by (λ (c : Cover). length c.rows) flat.covers) most_rows all)
    (within models most_sub_models (let none = alone_there m in omega (arith, none)))
