-- Models that stand in one another, by lists of the numbers of those that stand directly in each.
use Rattle.std.proofs.Common.{◌≡◌, ◌<◌, ◌≤◌, ◌∷◌, inl, inr, [], ℕ, zero, suc, List, map, length, get_or, Option, Some, None, refl, ap, ap₂, sym, ◌∙◌, subst, arith}
use Rattle.std.specs.Prelude.{◌⊎◌, bytes_eq, position, slice_get, unwrap_or}
use Rattle.std.proofs.Math.Path.{fun_ext}
use Rattle.std.proofs.lemmas.Bool.{cases_lt}
use Rattle.std.proofs.lemmas.List.{get_or_past, length-map}
use Rattle.nesting.specs.Depths.{AreInside, in_list}
use Rattle.nesting.specs.First.{AreShallow as AreShallowLists, IsFirstFault}
use Rattle.nesting.specs.declared.first.NestingFault.{NestingFault}
use Rattle.nesting.specs.declared.first.NestingFault.TheVariants.{Recursion as RecursionFault, Depth as DepthFault}
use Rattle.vrt_model.specs.FlatBlif.{model_at, model_numbered}
use Rattle.vrt_model.specs.Lists.{Among, At}
use Rattle.vrt_model.specs.Models.{models_within}
use Rattle.vrt_model.specs.Nesting.{depth_in}
use Rattle.vrt_model.specs.declared.blif.Blif.{Blif}
use Rattle.vrt_model.specs.declared.blif.BlifModel.{BlifModel}
use Rattle.vrt_model.specs.declared.blif.SubLine.{SubLine}
use Rattle.blif_checks.specs.Depths.{AreShallow, depth_after, numbers_in}
use Rattle.blif_checks.specs.Nested.{AreInner, IsNestingFault}
use Rattle.blif_checks.specs.Tables.{AreTables}
use Rattle.blif_checks.specs.declared.faults.ModelFault.{ModelFault}
use Rattle.blif_checks.specs.declared.faults.ModelFault.TheVariants.{Recursion, Depth, NoMemory}
use Rattle.blif_checks.specs.declared.tables.Tables.{Tables}
use Rattle.blif_checks.proofs.NameLaws.{place_in, place_is, within}

pub number_within : (blif : Blif) (name : List ℕ) → 0 < length blif.models → model_numbered blif name < length blif.models
number_within blif name some = by_place (place_in blif name) refl where
  by_place : (o : Option ℕ) → place_in blif name ≡ o → unwrap_or (place_in blif name) 0 < length blif.models
  by_place None e = subst (λ (o : Option ℕ). unwrap_or o 0 < length blif.models) (sym e) some
  by_place (Some n) e = subst (λ (o : Option ℕ). unwrap_or o 0 < length blif.models) (sym e) (within blif name n e)

-- ---- which models stand directly in one

pub inner_is : (blif : Blif) (tables : Tables) (all : List (List ℕ)) (models : List BlifModel) → AreTables blif tables → models ≡ blif.models → all ≡ map (numbers_in tables.names) models → AreInner blif all
inner_is blif tables all models are same e = e ∙ ap (map (numbers_in tables.names)) same ∙ each blif.models where
  subs : (ss : List SubLine) → map (λ (s : SubLine). unwrap_or (position (bytes_eq s.model) tables.names) 0) ss ≡ map (λ (s : SubLine). model_numbered blif s.model) ss
  subs [] = refl
  subs (s ∷ ss) = ap₂ ◌∷◌ (ap (λ (o : Option ℕ). unwrap_or o 0) (place_is blif tables s.model are)) (subs ss)

  each : (ms : List BlifModel) → map (numbers_in tables.names) ms ≡ map (λ (m : BlifModel). map (λ (s : SubLine). model_numbered blif s.model) m.subs) ms
  each [] = refl
  each (m ∷ ms) = ap₂ ◌∷◌ (subs m.subs) (each ms)

in_list_same : (f : SubLine → ℕ) (ms : List BlifModel) (n : ℕ)
    → get_or (map (λ (m : BlifModel). map f m.subs) ms) n []
    ≡ map f (unwrap_or (slice_get ms n) (record { line = 0; name = []; inputs = []; input_lines = []; clocks = []; clock_lines = []; outputs = []; output_lines = []; covers = []; latches = []; subs = []; exdc = [] })).subs
in_list_same f [] n = refl
in_list_same f (m ∷ ms) zero = refl
in_list_same f (m ∷ ms) (suc n) = in_list_same f ms n

in_list_is : (blif : Blif) (all : List (List ℕ)) → AreInner blif all → (n : ℕ) → in_list all n ≡ models_within blif n
in_list_is blif all inner n = ap (λ (xs : List (List ℕ)). get_or xs n []) inner ∙ in_list_same (λ (s : SubLine). model_numbered blif s.model) blif.models n

count_is : (blif : Blif) (all : List (List ℕ)) → AreInner blif all → length all ≡ length blif.models
count_is blif all inner = ap length inner ∙ length-map blif.models (λ (m : BlifModel). map (λ (s : SubLine). model_numbered blif s.model) m.subs)

numbered_sub : (blif : Blif) (ss : List SubLine) (i n : ℕ) → At (map (λ (s : SubLine). model_numbered blif s.model) ss) i n → (s : SubLine) × (n ≡ model_numbered blif s.model)
numbered_sub blif [] i n e = cc
numbered_sub blif (s ∷ ss) zero n e = let same : model_numbered blif s.model ≡ n = cc in (s, sym same)
numbered_sub blif (s ∷ ss) (suc i) n e = numbered_sub blif ss i n e

none_among : (i n : ℕ) → At [] i n → ⊥
none_among i n e = cc

pub inside_is : (blif : Blif) (all : List (List ℕ)) → AreInner blif all → AreInside all
inside_is blif all inner m n among = elim (cases_lt 0 (length blif.models)) [
  | inl some ↦
      let here : Among (models_within blif m) n = subst (λ (xs : List ℕ). Among xs n) (in_list_is blif all inner m) among in
      let from = numbered_sub blif (model_at blif m).subs here.0 n here.1 in
      let lt : model_numbered blif from.0.model < length blif.models = number_within blif from.0.model some in
      omega (arith, count_is blif all inner, from.1, lt)
  | inr none ↦
      let nothing : in_list all m ≡ [] = get_or_past all m [] (omega (arith, count_is blif all inner)) in
      let here : Among [] n = subst (λ (xs : List ℕ). Among xs n) nothing among in
      absurd (none_among here.0 n here.1)
]

-- ---- what is said of the lists, said of the models

children_are : (blif : Blif) (all : List (List ℕ)) → AreInner blif all → in_list all ≡ models_within blif
children_are blif all inner = fun_ext (in_list_is blif all inner)

-- whatever holds of the lists holds of the models
of_models : (P : (ℕ → List ℕ) → ℕ → Type 0) (blif : Blif) (all given : List (List ℕ)) → AreInner blif all → given ≡ all → P (in_list given) (length given) → P (models_within blif) (length blif.models)
of_models P blif all given inner same holds =
    let is : AreInner blif given = same ∙ inner in
    subst (λ (children : ℕ → List ℕ). P children (length blif.models)) (children_are blif given is) (subst (λ (count : ℕ). P (in_list given) count) (count_is blif given is) holds)

pub given_inside : (blif : Blif) (all given : List (List ℕ)) → AreInner blif all → given ≡ all → AreInside given
given_inside blif all given inner same = inside_is blif given (same ∙ inner)

pub given_few : (blif : Blif) (all given : List (List ℕ)) → AreInner blif all → given ≡ all → length blif.models ≤ 4096 → length given ≤ 4096
given_few blif all given inner same few = omega (arith, few, count_is blif given (same ∙ inner))

pub fault_is : (blif : Blif) (all given : List (List ℕ)) (fault : Option NestingFault) → AreInner blif all → given ≡ all → IsFirstFault (in_list given) (length given) 32 fault
    → IsFirstFault (models_within blif) (length blif.models) 32 fault
fault_is blif all given fault inner same is = of_models (λ children count. IsFirstFault children count 32 fault) blif all given inner same is

shallow_by : (blif : Blif) → AreShallowLists (models_within blif) (length blif.models) 32 → AreShallow blif
shallow_by blif is = record { well_founded = is.founded; depth_limit = is.within }

pub shallow_is : (blif : Blif) (all given : List (List ℕ)) → AreInner blif all → given ≡ all → AreShallowLists (in_list given) (length given) 32 → AreShallow blif
shallow_is blif all given inner same is = shallow_by blif (of_models (λ children count. AreShallowLists children count 32) blif all given inner same is)

-- one is deeper than so many levels
abbrev IsDeep : ℕ → (ℕ → List ℕ) → ℕ → Type 0
IsDeep k children count = (n : ℕ) × (n < count) × (k < depth_in children k n)

deep_by : (blif : Blif) (k : ℕ) → IsDeep k (models_within blif) (length blif.models) → (n : ℕ) × (n < length blif.models) × (k < depth_after blif k n)
unfolding depth_after
deep_by blif k deep = deep

pub deep_is : (blif : Blif) (k : ℕ) (all given : List (List ℕ)) → AreInner blif all → given ≡ all → (n : ℕ) × (n < length given) × (k < depth_in (in_list given) k n)
    → (n : ℕ) × (n < length blif.models) × (k < depth_after blif k n)
deep_is blif k all given inner same deep = deep_by blif k (of_models (IsDeep k) blif all given inner same deep)

-- ---- faults as they are told

pub recursion_told : (blif : Blif) (n : ℕ) (f : ModelFault) → IsFirstFault (models_within blif) (length blif.models) 32 (Some (RecursionFault n))
    → (f ≡ NoMemory) ⊎ (f ≡ Recursion (model_at blif n).line (model_at blif n).name) → (f ≡ NoMemory) ⊎ IsNestingFault blif f
recursion_told blif n f first (inl e) = inl e
recursion_told blif n f first (inr e) = inr (inl (n, record { there = first.0; recursive = first.1; first = first.2 }, e))

pub depth_told : (blif : Blif) (n line depth : ℕ) → IsFirstFault (models_within blif) (length blif.models) 32 (Some (DepthFault n depth)) → line ≡ (model_at blif n).line
    → (Depth line depth ≡ NoMemory) ⊎ IsNestingFault blif (Depth line depth)
depth_told blif n line depth fault l =
    inr (inr (fault.0, (n, record { there = fault.1.there; deep = fault.1.deep; first = fault.1.first }, ap₂ Depth l fault.2)))
