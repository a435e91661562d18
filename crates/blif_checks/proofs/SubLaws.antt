-- The formals of ties, one by one, and the sub-models.
use Rattle.std.proofs.Common.{arith, ◌≤◌, ◌≡◌, ◌++◌, ◌∷◌, ◌||◌, ◌<◌, ◌+◌, not, [], ℕ, List, Bool, true, false, cond, map, flat_map, length, drop, take, Option, Some, None, option_map, refl, ap, ap₂, sym, ◌∙◌}
use Rattle.std.specs.Prelude.{bytes_eq, slice_get, find, is_none}
use Rattle.std.specs.Option.{option_or}
use Rattle.std.proofs.lemmas.List.{drop_all, map-append, take_more}
use Rattle.std.proofs.lemmas.List.Folds.{find-append, list_any-append}
use Rattle.std.proofs.lemmas.Option.{get_or_from_slice_get}
use Rattle.vrt_model.proofs.Lists.{drop_one}
use Rattle.vrt_model.proofs.Tests.{map_or, or_swap}
use Rattle.text_lines.specs.Faults.{first_of, when}
use Rattle.vrt_model.specs.Lists.{has_name}
use Rattle.names.specs.Names.{first_missing, with_name}
use Rattle.vrt_model.specs.Models.{bad_formal, bad_formal_after, bad_sub, interface_of, is_bad_sub, is_model}
use Rattle.vrt_model.specs.declared.blif.BlifModel.{BlifModel}
use Rattle.text_lines.proofs.FaultLaws.{none_cons, when_no}
use Rattle.vrt_model.specs.FlatBlif.{formals}
use Rattle.vrt_model.specs.declared.blif.Blif.{Blif}
use Rattle.vrt_model.specs.declared.blif.SubLine.{SubLine}
use Rattle.vrt_model.specs.declared.blif.Tie.{Tie}
use Rattle.blif_checks.specs.declared.faults.ModelFault.{ModelFault}
use Rattle.blif_checks.specs.declared.faults.ModelFault.TheVariants.{Formals, UnknownModel}
use Rattle.blif_checks.specs.Subs.{bad_formal_in, is_bad_formal, sub_fault, subs_fault}
use Rattle.names.proofs.NameLaws.{HaveSame, with_front}

-- what ties refuse depends on the names alone
pub bad_same : (signals others seen known tied : List (List ℕ)) → HaveSame signals others → HaveSame seen known → bad_formal_after signals seen tied ≡ bad_formal_after others known tied
bad_same signals others seen known [] s k = refl
bad_same signals others seen known (f ∷ fs) s k =
    let rest = bad_same signals others (f ∷ seen) (f ∷ known) fs s (λ n. ap (λ b. bytes_eq n f || b) (k n)) in
    choose (s f) (k f) rest where
      choose : {a b c d : Bool} {x y : Option (List ℕ)} → a ≡ b → c ≡ d → x ≡ y → cond (not a || c) (Some f) x ≡ cond (not b || d) (Some f) y
      choose {a} {b} {c} {d} {x} {y} p q e = ap₂ (λ u v. cond (not u || v) (Some f) x) p q ∙ ap (λ z. cond (not b || d) (Some f) z) e

-- what is left out depends on the names alone
pub missing_same : (seen known names : List (List ℕ)) → HaveSame seen known → first_missing seen names ≡ first_missing known names
missing_same seen known [] k = refl
missing_same seen known (n ∷ names) k = ap₂ (λ b rest. cond (not b) (Some n) rest) (k n) (missing_same seen known names k)

pub missing_append : (known xs ys : List (List ℕ)) → first_missing known (xs ++ ys) ≡ option_or (first_missing known xs) (first_missing known ys)
missing_append known xs ys = find-append (λ name. not (has_name known name)) xs ys

-- one formal more that fits
pub formal_fits : (signals seen : List (List ℕ)) (f : List ℕ) (fs : List (List ℕ)) → is_bad_formal signals seen f ≡ false
    → bad_formal_after signals (with_name seen f) fs ≡ bad_formal_after signals seen (f ∷ fs)
formal_fits signals seen f fs good =
    bad_same signals signals (with_name seen f) (f ∷ seen) fs (λ n. refl) (with_front seen f) ∙ ap (λ b. cond b (Some f) (bad_formal_after signals (f ∷ seen) fs)) (sym good)

-- ---- the first fault of several lists

pub first_append : {F : Type 0} (xs ys : List (Option F)) → first_of (xs ++ ys) ≡ option_or (first_of xs) (first_of ys)
first_append [] ys = refl
first_append (None ∷ xs) ys = first_append xs ys
first_append (Some f ∷ xs) ys = refl

-- none so far, and one here
pub first_here : {X F : Type 0} (fault : X → Option F) (xs : List X) (i : ℕ) (x : X) (f : F) (all : Option F) → i < length xs → slice_get xs i ≡ Some x
    → first_of (map fault (drop i xs)) ≡ all → fault x ≡ Some f → all ≡ Some f
first_here fault xs i x f all lt here so_far e =
    sym so_far ∙ ap (λ ys. first_of (map fault ys)) (drop_one xs i x here) ∙ ap (λ o. first_of (o ∷ map fault (drop (i + 1) xs))) e

-- none so far, and none here
pub none_here : {X F : Type 0} (fault : X → Option F) (xs : List X) (i : ℕ) (x : X) (all : Option F) → i < length xs → slice_get xs i ≡ Some x
    → first_of (map fault (drop i xs)) ≡ all → fault x ≡ None → first_of (map fault (drop (i + 1) xs)) ≡ all
none_here fault xs i x all lt here so_far e =
    ap (λ o. first_of (o ∷ map fault (drop (i + 1) xs))) (sym e) ∙ sym (ap (λ ys. first_of (map fault ys)) (drop_one xs i x here)) ∙ so_far

-- the same for lists in things, as the sub-models in models
from_group : {G X F : Type 0} (fault : X → Option F) (items : G → List X) (gs : List G) (i : ℕ) (g : G) → i < length gs → slice_get gs i ≡ Some g
    → first_of (map fault (flat_map items (drop i gs))) ≡ option_or (first_of (map fault (items g))) (first_of (map fault (flat_map items (drop (i + 1) gs))))
from_group fault items gs i g lt here =
    ap (λ hs. first_of (map fault (flat_map items hs))) (drop_one gs i g here) ∙ ap first_of (map-append fault (items g) (flat_map items (drop (i + 1) gs)))
    ∙ first_append (map fault (items g)) (map fault (flat_map items (drop (i + 1) gs)))

pub first_in : {G X F : Type 0} (fault : X → Option F) (items : G → List X) (gs : List G) (i : ℕ) (g : G) (f : F) (all : Option F) → i < length gs → slice_get gs i ≡ Some g
    → first_of (map fault (flat_map items (drop i gs))) ≡ all → first_of (map fault (items g)) ≡ Some f → all ≡ Some f
first_in fault items gs i g f all lt here so_far e =
    sym so_far ∙ from_group fault items gs i g lt here ∙ ap (λ o. option_or o (first_of (map fault (flat_map items (drop (i + 1) gs))))) e

pub none_in : {G X F : Type 0} (fault : X → Option F) (items : G → List X) (gs : List G) (i : ℕ) (g : G) (all : Option F) → i < length gs → slice_get gs i ≡ Some g
    → first_of (map fault (flat_map items (drop i gs))) ≡ all → first_of (map fault (items g)) ≡ None → first_of (map fault (flat_map items (drop (i + 1) gs))) ≡ all
none_in fault items gs i g all lt here so_far e =
    ap (λ o. option_or o (first_of (map fault (flat_map items (drop (i + 1) gs))))) (sym e) ∙ sym (from_group fault items gs i g lt here) ∙ so_far

-- ---- ties

-- one tie more
pub formals_turn : (interface seen new : List (List ℕ)) (ties : List Tie) (i : ℕ) (tie : Tie) → i < length ties → slice_get ties i ≡ Some tie
    → (bad_formal_after interface seen (map (λ (t : Tie). t.formal) (drop i ties)) ≡ bad_formal_after interface [] (map (λ (t : Tie). t.formal) ties))
    × ((name : List ℕ) → has_name seen name ≡ has_name (map (λ (t : Tie). t.formal) (take i ties)) name)
    → is_bad_formal interface seen tie.formal ≡ false → new ≡ with_name seen tie.formal
    → (bad_formal_after interface new (map (λ (t : Tie). t.formal) (drop (i + 1) ties)) ≡ bad_formal_after interface [] (map (λ (t : Tie). t.formal) ties))
    × ((name : List ℕ) → has_name new name ≡ has_name (map (λ (t : Tie). t.formal) (take (i + 1) ties)) name)
formals_turn interface seen new ties i tie lt here so_far good e = (
  ap (λ s. bad_formal_after interface s (map (λ (t : Tie). t.formal) (drop (i + 1) ties))) e
      ∙ formal_fits interface seen tie.formal (map (λ (t : Tie). t.formal) (drop (i + 1) ties)) good
      ∙ ap (λ ts. bad_formal_after interface seen (map (λ (t : Tie). t.formal) ts)) (sym (drop_one ties i tie here))
      ∙ so_far.0,
  λ name.
      ap (λ s. has_name s name) e ∙ with_front seen tie.formal name
      ∙ ap (λ b. bytes_eq name tie.formal || b) (so_far.1 name)
      ∙ sym (or_swap (has_name (map (λ (t : Tie). t.formal) (take i ties)) name) (bytes_eq name tie.formal))
      ∙ sym (list_any-append (bytes_eq name) (map (λ (t : Tie). t.formal) (take i ties)) (tie.formal ∷ []))
      ∙ ap (λ ns. has_name ns name) (sym (map-append (λ (t : Tie). t.formal) (take i ties) (tie ∷ [])))
      ∙ ap (λ ts. has_name (map (λ (t : Tie). t.formal) ts) name) (ap (λ t. take i ties ++ t ∷ []) (sym (get_or_from_slice_get ties i tie tie here)) ∙ sym (take_more ties i tie lt)),
)

bad_in : (line : ℕ) (m : BlifModel) (tied : List (List ℕ))
    → option_map (Formals line) (bad_formal_in m tied) ≡ option_or (option_map (Formals line) (bad_formal_after (interface_of m) [] tied)) (option_map (Formals line) (first_missing tied (m.inputs ++ m.clocks)))
bad_in line m tied = map_or (Formals line) (bad_formal_after (interface_of m) [] tied) (first_missing tied (m.inputs ++ m.clocks))

left_out : (line : ℕ) (m : BlifModel) (seen tied : List (List ℕ)) → HaveSame seen tied
    → option_map (Formals line) (first_missing tied (m.inputs ++ m.clocks)) ≡ option_or (option_map (Formals line) (first_missing seen m.inputs)) (option_map (Formals line) (first_missing seen m.clocks))
left_out line m seen tied same =
    ap (option_map (Formals line)) (sym (missing_same seen tied (m.inputs ++ m.clocks) same) ∙ missing_append seen m.inputs m.clocks)
    ∙ map_or (Formals line) (first_missing seen m.inputs) (first_missing seen m.clocks)

-- the first formal that does not fit
pub ties_first : (line : ℕ) (m : BlifModel) (tied : List (List ℕ)) (f : ModelFault)
    → option_map (Formals line) (bad_formal_after (interface_of m) [] tied) ≡ Some f → option_map (Formals line) (bad_formal_in m tied) ≡ Some f
ties_first line m tied f e = bad_in line m tied ∙ ap (λ o. option_or o (option_map (Formals line) (first_missing tied (m.inputs ++ m.clocks)))) e

-- else the first input or clock that is left out, or none
pub ties_rest : (line : ℕ) (m : BlifModel) (seen tied : List (List ℕ)) (inputs all : Option ModelFault) → HaveSame seen tied
    → option_map (Formals line) (bad_formal_after (interface_of m) [] tied) ≡ None → option_map (Formals line) (first_missing seen m.inputs) ≡ inputs
    → option_or inputs (option_map (Formals line) (first_missing seen m.clocks)) ≡ all → option_map (Formals line) (bad_formal_in m tied) ≡ all
ties_rest line m seen tied inputs all same none e f =
    bad_in line m tied ∙ ap (λ o. option_or o (option_map (Formals line) (first_missing tied (m.inputs ++ m.clocks)))) none ∙ left_out line m seen tied same
    ∙ ap (λ o. option_or o (option_map (Formals line) (first_missing seen m.clocks))) e ∙ f

-- one tie more, by the call that takes its formal
pub formals_step : (line : ℕ) (interface seen new : List (List ℕ)) (ties : List Tie) (i : ℕ) (tie : Tie) (name : List ℕ) → i < length ties → slice_get ties i ≡ Some tie → name ≡ tie.formal
    → (bad_formal_after interface seen (map (λ (t : Tie). t.formal) (drop i ties)) ≡ bad_formal_after interface [] (map (λ (t : Tie). t.formal) ties))
    × ((n : List ℕ) → has_name seen n ≡ has_name (map (λ (t : Tie). t.formal) (take i ties)) n)
    → when (is_bad_formal interface seen name) (Formals line name) ≡ None → new ≡ with_name seen name
    → (bad_formal_after interface new (map (λ (t : Tie). t.formal) (drop (i + 1) ties)) ≡ bad_formal_after interface [] (map (λ (t : Tie). t.formal) ties))
    × ((n : List ℕ) → has_name new n ≡ has_name (map (λ (t : Tie). t.formal) (take (i + 1) ties)) n)
formals_step line interface seen new ties i tie name lt here is so_far none e =
    formals_turn interface seen new ties i tie lt here so_far
    (ap (is_bad_formal interface seen) (sym is) ∙ when_no (is_bad_formal interface seen name) (Formals line name) none) (e ∙ ap (with_name seen) is)

-- the faults of a sub-model, by the calls that judge its ties
pub sub_first : (sub : SubLine) (m : BlifModel) (ties : List Tie) (f : ModelFault) → ties ≡ sub.ties
    → option_map (Formals sub.line) (bad_formal_after (interface_of m) [] (map (λ (t : Tie). t.formal) ties)) ≡ Some f → option_map (Formals sub.line) (bad_formal_in m (formals sub)) ≡ Some f
sub_first sub m ties f same e =
    ties_first sub.line m (formals sub) f (ap (λ ts. option_map (Formals sub.line) (bad_formal_after (interface_of m) [] (map (λ (t : Tie). t.formal) ts))) (sym same) ∙ e)

pub sub_rest : (sub : SubLine) (m : BlifModel) (seen : List (List ℕ)) (ties : List Tie) (ins clks : List (List ℕ)) (inputs all : Option ModelFault)
    → ties ≡ sub.ties → ins ≡ m.inputs → clks ≡ m.clocks → HaveSame seen (map (λ (t : Tie). t.formal) ties)
    → option_map (Formals sub.line) (bad_formal_after (interface_of m) [] (map (λ (t : Tie). t.formal) ties)) ≡ None
    → option_map (Formals sub.line) (first_missing seen ins) ≡ inputs → option_or inputs (option_map (Formals sub.line) (first_missing seen clks)) ≡ all
    → option_map (Formals sub.line) (bad_formal_in m (formals sub)) ≡ all
sub_rest sub m seen ties ins clks inputs all same i c tied none e f =
    ties_rest sub.line m seen (formals sub) inputs all (λ n. tied n ∙ ap (λ ts. has_name (map (λ (t : Tie). t.formal) ts) n) same)
    (ap (λ ts. option_map (Formals sub.line) (bad_formal_after (interface_of m) [] (map (λ (t : Tie). t.formal) ts))) (sym same) ∙ none)
    (ap (λ ns. option_map (Formals sub.line) (first_missing seen ns)) (sym i) ∙ e) (ap (λ ns. option_or inputs (option_map (Formals sub.line) (first_missing seen ns))) (sym c) ∙ f)

-- the sub-models of the models, by the call that judges those of one
pub group_first : (blif : Blif) (models : List BlifModel) (subs : List SubLine) (i : ℕ) (m : BlifModel) (f : ModelFault) (all : Option ModelFault) → models ≡ blif.models → i < length models
    → slice_get models i ≡ Some m → first_of (map (sub_fault blif) (flat_map (λ (m : BlifModel). m.subs) (drop i blif.models))) ≡ all → subs ≡ m.subs
    → first_of (map (sub_fault blif) subs) ≡ Some f → all ≡ Some f
group_first blif models subs i m f all same lt here so_far is e =
    first_in (sub_fault blif) (λ (m : BlifModel). m.subs) models i m f all lt here
    (ap (λ ms. first_of (map (sub_fault blif) (flat_map (λ (m : BlifModel). m.subs) (drop i ms)))) same ∙ so_far) (ap (λ ss. first_of (map (sub_fault blif) ss)) (sym is) ∙ e)

pub group_none : (blif : Blif) (models : List BlifModel) (subs : List SubLine) (i : ℕ) (m : BlifModel) (all : Option ModelFault) → models ≡ blif.models → i < length models
    → slice_get models i ≡ Some m → first_of (map (sub_fault blif) (flat_map (λ (m : BlifModel). m.subs) (drop i blif.models))) ≡ all → subs ≡ m.subs
    → first_of (map (sub_fault blif) subs) ≡ None → first_of (map (sub_fault blif) (flat_map (λ (m : BlifModel). m.subs) (drop (i + 1) blif.models))) ≡ all
group_none blif models subs i m all same lt here so_far is e =
    ap (λ ms. first_of (map (sub_fault blif) (flat_map (λ (m : BlifModel). m.subs) (drop (i + 1) ms)))) (sym same)
    ∙ none_in (sub_fault blif) (λ (m : BlifModel). m.subs) models i m all lt here
    (ap (λ ms. first_of (map (sub_fault blif) (flat_map (λ (m : BlifModel). m.subs) (drop i ms)))) same ∙ so_far) (ap (λ ss. first_of (map (sub_fault blif) ss)) (sym is) ∙ e)

-- ---- sub-models that fit

not_bad : (blif : Blif) (s : SubLine) (b : Bool) (o : Option (List ℕ)) → is_model blif s.model ≡ b → bad_formal blif s ≡ o → cond b (option_map (Formals s.line) o) (Some (UnknownModel s.line s.model)) ≡ None
    → is_bad_sub blif s ≡ false
not_bad blif s true None m f e = ap₂ (λ p q. not p || not (is_none q)) m f
not_bad blif s true (Some name) m f e = cc
not_bad blif s false o m f e = cc

-- where no sub-model has a fault, none is bad
pub none_bad : (blif : Blif) (subs : List SubLine) → first_of (map (sub_fault blif) subs) ≡ None → find (is_bad_sub blif) subs ≡ None
none_bad blif [] e = refl
none_bad blif (s ∷ subs) e =
    let both = none_cons (sub_fault blif s) (map (sub_fault blif) subs) e in
    ap (λ b. cond b (Some s) (find (is_bad_sub blif) subs)) (not_bad blif s (is_model blif s.model) (bad_formal blif s) refl refl both.0) ∙ none_bad blif subs both.1

pub subs_fit : (blif : Blif) → subs_fault blif ≡ None → bad_sub blif ≡ None
subs_fit blif e = none_bad blif (flat_map (λ (m : BlifModel). m.subs) blif.models) e

-- no model is left
pub subs_done : (blif : Blif) (models : List BlifModel) (i : ℕ) → models ≡ blif.models → length models ≤ i
    → first_of (map (sub_fault blif) (flat_map (λ (m : BlifModel). m.subs) (drop i blif.models))) ≡ subs_fault blif → bad_sub blif ≡ None
subs_done blif models i same past e =
    subs_fit blif (sym e ∙ ap (λ ms. first_of (map (sub_fault blif) (flat_map (λ (m : BlifModel). m.subs) ms))) (drop_all i blif.models (omega (arith, ap length same))))
