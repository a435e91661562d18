-- What stands among the variables of a comparison, and the bit of each.
use Rattle.std.proofs.Common.{◌≡◌, ℕ, zero, suc, ◌+◌, ◌<◌, ◌++◌, ◌∷◌, [], Bool, true, false, cond, List, Some, None, length, get_or, map, arith, ap, ap₂, refl, sym, subst, ◌∙◌}
use Rattle.std.specs.Prelude.{filter_map}
use Rattle.std.specs.List.{enumerate_from}
use Rattle.std.proofs.lemmas.Bool.{true≢false}
use Rattle.std.proofs.lemmas.List.FromFn.{get_or-enumerate_from, length-enumerate_from}
use Rattle.std.proofs.lemmas.Option.{get_or_from_slice_get, none-some, same_Some, slice_get-get_or, slice_get_within}
use Rattle.vrt_model.proofs.Lists.{filter_map_among, map_among}
use Rattle.vrt_model.proofs.Members.{among_later, among_left, among_right}
use Rattle.vrt_model.specs.Elements.{element_names}
use Rattle.vrt_model.specs.Held.{bit_of}
use Rattle.vrt_model.specs.Lists.{Among, At}
use Rattle.vrt_model.specs.Variables.{is_free, is_input, places, variables_of}
use Rattle.vrt_model.specs.declared.circuit.Circuit.{Circuit}
use Rattle.vrt_model.specs.declared.circuit.FlatNet.{FlatNet}
use Rattle.vrt_model.specs.declared.circuit.NetKind.TheVariants.{Input as InputNet}
use Rattle.vrt_model.specs.declared.flat_model.FlatModel.{FlatModel}
use Rattle.vrt_model.specs.declared.groups.Group.{Group as HoldGroup}
use Rattle.vrt_model.specs.declared.groups.Source.{Source}
use Rattle.vrt_model.specs.declared.groups.Source.TheVariants.{Input, Element, Group}
use Rattle.vrt_model.specs.declared.ids.Net.{Net}

-- an item stands beside its number
pub numbered_at : {X : Type 0} (xs : List X) (i : ℕ) (x : X) → At xs i x → At (enumerate_from 0 xs) i (i, x)
numbered_at {X} xs i x there =
    let lt = slice_get_within xs i x there in
    let len = length-enumerate_from 0 xs in
    let same : 0 + i ≡ i = omega arith in
    let is : get_or (enumerate_from 0 xs) i (i, x) ≡ (i, x) =
    get_or-enumerate_from 0 xs i (i, x) lt ∙ ap₂ (λ (n : ℕ) (y : X). (n, y)) same (get_or_from_slice_get xs i x x there) in
    slice_get-get_or (enumerate_from 0 xs) i (i, x) (omega (arith, lt, len)) ∙ ap (λ (p : ℕ × X). Some p) is

among_places : {X : Type 0} (n i : ℕ) (xs : List X) → i < length xs → Among (places n xs) (n + i)
among_places n i [] lt = absurd (omega (arith, lt))
among_places n zero (x ∷ xs) lt = (0, ap (λ (m : ℕ). Some m) (omega arith))
among_places n (suc i) (x ∷ xs) lt =
    among_later n (places (suc n) xs) (n + suc i) (subst (Among (places (suc n) xs)) (omega arith) (among_places (suc n) i xs (omega (arith, lt))))

-- ---- the variables

module _ (c : Circuit) (flat : FlatModel) (groups : List HoldGroup) (phase : ℕ) where
  abbrev input_at : ℕ → Source
  input_at n = let net : Net = record { 0 = n } in Input net

  abbrev of_nets : List Source
  of_nets = filter_map (λ (p : ℕ × FlatNet). cond (is_input p.1.kind) (let net : Net = record { 0 = p.0 } in Some (Input net)) None) (enumerate_from 0 c.nets)

  abbrev of_elements : List Source
  of_elements = map (λ (e : ℕ). Element e) (places 0 (element_names flat))

  abbrev of_groups : List Source
  of_groups = filter_map (λ (p : ℕ × HoldGroup). cond (is_free c phase p.1) (Some (Group p.0)) None) (enumerate_from 0 groups)

  pub input_listed : (n : ℕ) (net : FlatNet) → At c.nets n net → net.kind ≡ InputNet → Among (variables_of c flat groups phase) (input_at n)
  unfolding variables_of
  input_listed n net there kind =
      among_left (of_nets ++ of_elements) of_groups (input_at n)
      (among_left of_nets of_elements (input_at n)
      (filter_map_among (λ (p : ℕ × FlatNet). cond (is_input p.1.kind) (let net : Net = record { 0 = p.0 } in Some (Input net)) None) (enumerate_from 0 c.nets) n (n, net) (input_at n) (numbered_at c.nets n net there)
      (ap (λ kind. cond (is_input kind) (Some (input_at n)) None) kind)))

  pub element_listed : (e : ℕ) → e < length (element_names flat) → Among (variables_of c flat groups phase) (Element e)
  unfolding variables_of
  element_listed e lt =
      among_left (of_nets ++ of_elements) of_groups (Element e)
      (among_right of_nets of_elements (Element e)
      (map_among (λ (e : ℕ). Element e) (places 0 (element_names flat)) e (subst (Among (places 0 (element_names flat))) (omega arith) (among_places 0 e (element_names flat) lt))))

  pub group_listed : (at : ℕ) (group : HoldGroup) → At groups at group → is_free c phase group ≡ true → Among (variables_of c flat groups phase) (Group at)
  unfolding variables_of
  group_listed at group there free =
      among_right (of_nets ++ of_elements) of_groups (Group at)
      (filter_map_among (λ (p : ℕ × HoldGroup). cond (is_free c phase p.1) (Some (Group p.0)) None) (enumerate_from 0 groups) at (at, group) (Group at) (numbered_at groups at group there)
      (ap (λ (b : Bool). cond b (Some (Group at)) None) free))

-- ---- the bit of a variable

-- where each variable has the bit of a function, a test picks that of the variables that pass
pub bit_made : (is f : Source → Bool) (v : Bool) (sources : List Source) (x : Source) → Among sources x → is x ≡ true → ((y : Source) → is y ≡ true → f y ≡ v)
    → bit_of is sources (map f sources) ≡ v
bit_made is f v [] x m t same = absurd (none-some x m.1)
bit_made is f v (y ∷ ys) x m t same = by_test (is y) refl m (λ k. bit_made is f v ys x k t same)
  where
    by_test : (b : Bool) → is y ≡ b → Among (y ∷ ys) x → (Among ys x → bit_of is ys (map f ys) ≡ v) → cond b (f y) (bit_of is ys (map f ys)) ≡ v
    by_test true e m rest = same y e
    by_test false e (zero, here) rest = absurd (true≢false (sym t ∙ ap is (sym (same_Some y x here)) ∙ e))
    by_test false e (suc i, here) rest = rest (i, here)
