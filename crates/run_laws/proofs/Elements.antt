-- The elements of the latches of a model are numbered below the count of their names.
use Rattle.std.proofs.Common.{◌≡◌, ℕ, zero, suc, ◌+◌, ◌≤◌, List, [], ◌∷◌, length, length-append, arith, subst}
use Rattle.std.specs.Prelude.{flat_map}
use Rattle.std.proofs.lemmas.Option.{none-some, same_Some}
use Rattle.vrt_model.proofs.ElementCounts.{names_count}
use Rattle.vrt_model.specs.Elements.{Numbered, element_count, element_names, names_by_kind, numbered_from, numbered_latches, signal_name}
use Rattle.vrt_model.specs.Lists.{Among, At}
use Rattle.vrt_model.specs.declared.flat_model.FlatLatch.{FlatLatch}
use Rattle.vrt_model.specs.declared.flat_model.FlatModel.{FlatModel}

abbrev names_of : FlatModel → List FlatLatch → List (List ℕ)
names_of flat latches = flat_map (λ (l : FlatLatch). names_by_kind l.kind (signal_name flat l.output)) latches

one_more : (flat : FlatModel) (x : FlatLatch) (ls : List FlatLatch) → length (names_of flat (x ∷ ls)) ≡ element_count x.kind + length (names_of flat ls)
one_more flat x ls =
    let all = length-append (names_by_kind x.kind (signal_name flat x.output)) (names_of flat ls) in
    let first = names_count x.kind (signal_name flat x.output) in
    omega (arith, all, first)

below : (flat : FlatModel) (n : ℕ) (ls : List FlatLatch) (i : ℕ) (l : Numbered) → At (numbered_from n ls) i l → l.first + element_count l.latch.kind ≤ n + length (names_of flat ls)
below flat n [] i l e = absurd (none-some l e)
below flat n (x ∷ ls) zero l e =
    let more = one_more flat x ls in
    subst (λ (y : Numbered). y.first + element_count y.latch.kind ≤ n + length (names_of flat (x ∷ ls))) (same_Some (record { first = n; latch = x }) l e) (omega (arith, more))
below flat n (x ∷ ls) (suc i) l e =
    let rest = below flat (n + element_count x.kind) ls i l e in let more = one_more flat x ls in omega (arith, rest, more)

pub elements_below : (flat : FlatModel) (l : Numbered) → Among (numbered_latches flat) l → l.first + element_count l.latch.kind ≤ length (element_names flat)
elements_below flat l m = let low = below flat 0 flat.latches m.0 l m.1 in omega (arith, low)
