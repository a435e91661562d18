-- Each meaning of modules comes from an assignment of the flat model.
use Rattle.std.proofs.Common.{◌≡◌, ℕ, zero, suc, ◌+◌, Bool, true, false, not, cond, ◌||◌, List, [], ◌∷◌, ◌++◌, map, flat_map, length, All, Some, refl, ap, sym, subst, ◌∙◌, append-nil, append_assoc}
use Rattle.std.specs.Prelude.{bytes_eq, is_none, slice_get, unwrap_or}
use Rattle.std.specs.List.{list_any}
use Rattle.std.proofs.lemmas.Bool.{or_parts}
use Rattle.std.proofs.lemmas.Option.{same_Some}
use Rattle.blif_flat.specs.Places.{placed}
use Rattle.blif_flat.proofs.OneDriverDepths.{Ends}
use Rattle.blif_flat.proofs.RangeLaws.{cover_named}
use Rattle.verilog_meaning.specs.Covered.{AreCovered, bits_fit}
use Rattle.verilog_meaning.specs.FlatBits.{IsGot, flat_place, place_on, sub_place}
use Rattle.verilog_meaning.specs.Meaning.{Instance, IsMeaning, StandsAt, instances_in, module_named}
use Rattle.verilog_meaning.specs.Meaning.StandsAt.{itself, inside}
use Rattle.verilog_meaning.specs.Nets.{entry_nets}
use Rattle.verilog_meaning.proofs.Names.{ArePlain}
use Rattle.verilog_meaning.specs.Terminals.{IsWhole}
use Rattle.verilog_meaning.proofs.BackLaws.{entries_back}
use Rattle.verilog_meaning.proofs.FlatLaws.{assigns, bits_at, cover_placed, cover_same, runs, stands_among}
use Rattle.verilog_meaning.proofs.InstanceLaws.{model_there, number_found}
use Rattle.verilog_meaning.proofs.NameLaws.{own_bits_there, plain_bit, plain_bits, with_own}
use Rattle.verilog_meaning.proofs.NetLaws.{net_named, net_signal, nets_named}
use Rattle.verilog_meaning.proofs.PathLaws.{Shows, shown_by, sub_shows}
use Rattle.verilog_meaning.proofs.PlaceLaws.{IsPlaceOf, place_model, sub_of_place, sub_placed, within_at}
use Rattle.verilog_meaning.proofs.ShownLaws.{instance_there}
use Rattle.verilog_meaning.proofs.SourceLaws.{source_whole}
use Rattle.verilog_meaning.proofs.WholeBits.{IsSlice, bits_in, sub_slice, whole_slice}
use Rattle.verilog_models.specs.Models.{blif_of, covers_in, model_of}
use Rattle.verilog_source.specs.Grammar.{IsSource}
use Rattle.verilog_source.specs.Modules.{Module}
use Rattle.verilog_tokens.specs.Signs.{Token}
use Rattle.vrt_model.specs.Covers.{cover_bit}
use Rattle.vrt_model.specs.FlatBlif.{ModelPlace, all_models, cover_signals, flat_cover, flat_model_of, formals, inner_count, inner_signals, model_at, model_numbered, models_in, network_names, signal_at, signals_of, subs_at, subs_from, top_model, unrolled_of}
use Rattle.vrt_model.specs.Inputs.{IsBlif}
use Rattle.vrt_model.specs.Lists.{Among, At, has_name, is_empty}
use Rattle.vrt_model.specs.Models.{AreModels, bad_formal, is_bad_sub, is_model, models_within}
use Rattle.vrt_model.specs.Unrolled.{deepest}
use Rattle.vrt_model.specs.declared.blif.Blif.{Blif}
use Rattle.vrt_model.specs.declared.blif.BlifModel.{BlifModel}
use Rattle.vrt_model.specs.declared.blif.CoverLine.{CoverLine}
use Rattle.vrt_model.specs.declared.blif.SubLine.{SubLine}
use Rattle.vrt_model.specs.declared.flat_model.Cover.{Cover}
use Rattle.vrt_model.proofs.Lists.{map_among, map_same}
use Rattle.vrt_model.proofs.Members.{all_among, among_flat_map, among_left, among_map, among_right, at_none, find_among, find_none, flat_map_among}

-- ---- paths

stands_more : (modules : List Module) (m : Module) (path : List ℕ) (last below : Module) (k : ℕ) (i : Instance) → StandsAt modules m path last → At (instances_in last.entries) k i
    → module_named modules i.module_name ≡ Some below → StandsAt modules m (path ++ k ∷ []) below
stands_more modules _ _ _ below k i itself a found = inside k i a found itself
stands_more modules _ _ _ below k i (inside {m} {inner} {last} {path} j x b g later) a found = inside j x b g (stands_more modules inner path last below k i later a found)

-- along a path the signals have the bits of the nets
pub shows_on : (all : List Bool) (modules : List Module) (top : Module) (bits : List ℕ → List ℕ → Bool) → IsBlif (blif_of modules) → AreModels (blif_of modules) → ArePlain modules → IsMeaning modules top bits
    → (depth : ℕ) (at : ModelPlace) (front : List ℕ) (m : Module) (path : List ℕ) (last : Module) → StandsAt modules top front m → Among modules m → Shows all modules bits front at m
    → IsSlice all at.base (bits_in modules bits depth at front) → Ends (models_within (blif_of modules)) depth at.model → StandsAt modules m path last
    → Shows all modules bits (front ++ path) (place_on (blif_of modules) depth at path) last
shows_on all modules top bits good are plain meaning depth at front _ _ _ stands among shown slice ends (itself {m}) = subst (λ fs. Shows all modules bits fs at m) (sym (append-nil front)) shown
shows_on all modules top bits good are plain meaning zero at front _ _ _ stands among shown slice ends (inside {m} {inner} {last} {path} k i a found later) =
    let s = sub_of_place modules at m k i (model_there modules at.model m shown.number) a in
    absurd (ends (model_numbered (blif_of modules) s.0.model) (within_at (blif_of modules) at.model k s.0 s.1))
shows_on all modules top bits good are plain meaning (suc depth) at front _ _ _ stands among shown slice ends (inside {m} {inner} {last} {path} k i a found later) =
    let blif = blif_of modules in
    let same = model_there modules at.model m shown.number in
    let s = sub_of_place modules at m k i same a in
    let q : ModelPlace = sub_place blif depth at k in
    let p = sub_placed blif depth at k s.0 s.1 in
    let from = instance_there 0 m.entries k s.0 (subst (λ (b : BlifModel). At b.subs k s.0) same s.1) in
    let part = sub_slice all modules bits depth at front slice k q p.0 in
    let next = sub_shows all modules top bits depth at q front m inner k i s.0 good are plain meaning stands shown among a found s.1 from p.1 part in
    let fewer : Ends (models_within blif) depth q.model
    = subst (Ends (models_within blif) depth) (sym (place_model blif at s.0 q p.1)) (ends (model_numbered blif s.0.model) (within_at blif at.model k s.0 s.1)) in
    let rest =
    shows_on all modules top bits good are plain meaning depth q (front ++ k ∷ []) inner path last (stands_more modules top front m inner k i stands a found)
    (find_among (λ (x : Module). bytes_eq x.name i.module_name) modules inner found).0 next part fewer later in
    subst (λ fs. Shows all modules bits fs (place_on blif depth q path) last) (append_assoc front (k ∷ []) path) rest

-- ---- each place has a path

placed_back : (blif : Blif) (at : ModelPlace) (depth number base : ℕ) (subs : List SubLine) (k : ℕ) (q : ModelPlace) → At (subs_from blif at depth number base subs) k q
    → (s : SubLine) × At subs k s × IsPlaceOf blif at s q
placed_back blif at depth number base [] k q e = absurd (at_none k q e)
placed_back blif at depth number base (x ∷ subs) zero q e = (x, refl, record { number = number; base = base; is = sym (same_Some (placed blif at number base x) q e) })
placed_back blif at depth number base (x ∷ subs) (suc k) q e =
    placed_back blif at depth (suc number) (base + inner_count blif depth (model_at blif (model_numbered blif x.model)) (formals x)) subs k q e

named_there : (modules : List Module) (name : List ℕ) → list_any (λ (b : BlifModel). bytes_eq b.name name) (map model_of modules) ≡ true → (m : Module) × (module_named modules name ≡ Some m)
named_there [] name e = cc
named_there (x ∷ modules) name e = by_test (bytes_eq x.name name) refl (named_there modules name) where
  by_test : (b : Bool) → bytes_eq x.name name ≡ b
      → (list_any (λ (b : BlifModel). bytes_eq b.name name) (map model_of modules) ≡ true → (m : Module) × (module_named modules name ≡ Some m))
      → (m : Module) × (module_named (x ∷ modules) name ≡ Some m)
  by_test true h later = (x, ap (λ c. cond c (Some x) (module_named modules name)) h)
  by_test false h later =
      let r = later (sym (ap (λ c. c || list_any (λ (b : BlifModel). bytes_eq b.name name) (map model_of modules)) h) ∙ e) in
      (r.0, ap (λ c. cond c (Some x) (module_named modules name)) h ∙ r.1)

no_not : (b : Bool) → not b ≡ false → b ≡ true
no_not true e = refl
no_not false e = cc

-- the module of a sub-model is there
sub_named : (modules : List Module) (n : ℕ) (m : Module) (k : ℕ) (s : SubLine) → AreModels (blif_of modules) → At modules n m → At (model_of m).subs k s → (inner : Module) × (module_named modules s.model ≡ Some inner)
sub_named modules n m k s are at e =
    let blif = blif_of modules in
    let among : Among (flat_map (λ (b : BlifModel). b.subs) blif.models) s = flat_map_among (λ (b : BlifModel). b.subs) blif.models (model_of m) s (map_among model_of modules m (n, at)) (k, e) in
    let fine : is_bad_sub blif s ≡ false = find_none (is_bad_sub blif) (flat_map (λ (b : BlifModel). b.subs) blif.models) s are.subs among in
    named_there modules s.model (no_not (is_model blif s.model) (or_parts (not (is_model blif s.model)) (not (is_none (bad_formal blif s))) fine).0)

pub record IsLedFrom (modules : List Module) (depth : ℕ) (at : ModelPlace) (m : Module) (q : ModelPlace) : Type 0 where
  pub path : List ℕ
  pub last : Module
  pub stands : StandsAt modules m path last
  pub is : q ≡ place_on (blif_of modules) depth at path

at_place : (modules : List Module) (depth : ℕ) (at : ModelPlace) (m : Module) (q : ModelPlace) → at ≡ q → IsLedFrom modules depth at m q
at_place modules depth at m q e = record { path = []; last = m; stands = itself; is = sym e }

pub led_from : (modules : List Module) → AreModels (blif_of modules) → (depth : ℕ) (at : ModelPlace) (m : Module) → At modules at.model m → (i : ℕ) (q : ModelPlace) → At (models_in (blif_of modules) depth at) i q
    → IsLedFrom modules depth at m q
led_from modules are zero at m is zero q e = at_place modules zero at m q (same_Some at q e)
led_from modules are zero at m is (suc i) q e = absurd (at_none i q e)
led_from modules are (suc depth) at m is zero q e = at_place modules (suc depth) at m q (same_Some at q e)
led_from modules are (suc depth) at m is (suc i) q e =
    let blif = blif_of modules in
    let r = among_flat_map (models_in blif depth) (subs_at blif depth at) q (i, e) in
    let k : ℕ = r.1.0 in
    let p : ModelPlace = r.0 in
    let s = placed_back blif at depth 0 (at.base + length (inner_signals (model_at blif at.model) at.tied)) (model_at blif at.model).subs k p r.1.1 in
    let sub : At (model_of m).subs k s.0 = subst (λ (b : BlifModel). At b.subs k s.0) (model_there modules at.model m is) s.1 in
    let from = instance_there 0 m.entries k s.0 sub in
    let name : s.0.model ≡ from.instance.module_name = ap (λ (y : SubLine). y.model) from.is in
    let inner = sub_named modules at.model m k s.0 are is sub in
    let found : module_named modules from.instance.module_name ≡ Some inner.0 = ap (module_named modules) (sym name) ∙ inner.1 in
    let number : At modules p.model inner.0
    = subst (λ n. At modules n inner.0) (sym (place_model blif at s.0 p s.2)) (number_found modules s.0.model inner.0 inner.1) in
    let h = led_from modules are depth p inner.0 number r.2.0 q r.2.1 in
    let here : sub_place blif depth at k ≡ p = ap (λ o. unwrap_or o at) r.1.1 in record {
      path = k ∷ h.path;
      last = h.last;
      stands = inside k from.instance from.there found h.stands;
      is = h.is ∙ ap (λ y. place_on blif depth y h.path) (sym here);
    }

-- ---- covers

-- the covers of a module hold at the bits of its nets and of its own signals
module_back : (tokens : List Token) (modules : List Module) (top : Module) (bits : List ℕ → List ℕ → Bool) (path : List ℕ) (m : Module) → IsSource tokens modules → ArePlain modules → Among modules m
    → IsMeaning modules top bits → StandsAt modules top path m → AreCovered (with_own (bits path) m.entries) (covers_in 0 m.entries)
module_back tokens modules top bits path m source plain among meaning stands =
    entries_back (with_own (bits path) m.entries) (bits path) 0 m.entries (all_among (λ (x : Module). All IsWhole x.entries) modules m (source_whole source) among)
    (plain_bits (bits path) m.entries (flat_map entry_nets m.entries)
    (λ x a. let e = among_flat_map entry_nets m.entries x a in plain.names m among e.0 e.1 x (nets_named e.0 x e.2)))
    (own_bits_there (bits path) m.entries (plain.counted m among)) (meaning.entries path m stands)

pub bit_in : List Bool → ℕ → Bool
bit_in all s = unwrap_or (slice_get all s) false

-- a cover at a place gives its output's bit
cover_back : (modules : List Module) (all : List Bool) (bits : List ℕ → List ℕ → Bool) (path : List ℕ) (p : ModelPlace) (m : Module) (c : CoverLine) → Shows all modules bits path p m
    → AreCovered (with_own (bits path) m.entries) (covers_in 0 m.entries) → Among (model_at (blif_of modules) p.model).covers c
    → bit_in all (signal_at (blif_of modules) p c.output) ≡ cover_bit (bit_in all) (flat_cover (blif_of modules) p c)
unfolding bit_in
cover_back modules all bits path p m c shown covered a =
    let blif = blif_of modules in
    let values = with_own (bits path) m.entries in
    let each : (x : List ℕ) → Among (cover_signals c) x → bits_at blif (bit_in all) p x ≡ values x
    = λ x b. ap (λ o. unwrap_or o false) (shown.shows x (cover_named (model_at blif p.model) c x a b)) in
    let inputs : map values c.inputs ≡ map (bits_at blif (bit_in all) p) c.inputs
    = map_same values (bits_at blif (bit_in all) p) c.inputs (λ i x b. sym (each x (among_left c.inputs (c.output ∷ []) x (i, b)))) in
    let here : Among (covers_in 0 m.entries) c = subst (λ (b : BlifModel). Among b.covers c) (model_there modules p.model m shown.number) a in
    each c.output (among_right c.inputs (c.output ∷ []) c.output (0, refl)) ∙ covered c here
    ∙ ap (λ bs. (let fits = list_any (bits_fit bs) c.rows in cond (c.on || is_empty c.rows) fits (not fits))) inputs ∙ sym (cover_same blif (bit_in all) p c)

-- ---- the assignment

-- along the paths from a module all signals have the bits of the nets
shown_along : (tokens : List Token) (modules : List Module) (k : ℕ) (top : Module) (bits : List ℕ → List ℕ → Bool) (depth : ℕ) → IsSource tokens modules → IsBlif (blif_of modules) → AreModels (blif_of modules)
    → ArePlain modules → At modules k top → IsMeaning modules top bits → Ends (models_within (blif_of modules)) depth k → (path : List ℕ) (m : Module) → StandsAt modules top path m
    → Shows (bits_in modules bits depth (top_model k) []) modules bits path (place_on (blif_of modules) depth (top_model k) path) m
shown_along tokens modules k top bits depth source good are plain at meaning ends path m stands =
    let all = bits_in modules bits depth (top_model k) [] in
    shows_on all modules top bits good are plain meaning depth (top_model k) [] top path m itself (k, at)
    (shown_by all modules bits depth (top_model k) [] top (whole_slice all) at (λ x e. absurd (no_name e))) (whole_slice all) ends stands where
      no_name : false ≡ true → ⊥
      no_name e = cc

-- each cover at each place gives its output's bit
obeyed_at : (tokens : List Token) (modules : List Module) (k : ℕ) (top : Module) (bits : List ℕ → List ℕ → Bool) (depth : ℕ) → IsSource tokens modules → IsBlif (blif_of modules) → AreModels (blif_of modules)
    → ArePlain modules → At modules k top → IsMeaning modules top bits → Ends (models_within (blif_of modules)) depth k → (p : ModelPlace) → Among (models_in (blif_of modules) depth (top_model k)) p
    → (c : CoverLine) → Among (model_at (blif_of modules) p.model).covers c
    → bit_in (bits_in modules bits depth (top_model k) []) (signal_at (blif_of modules) p c.output)
    ≡ cover_bit (bit_in (bits_in modules bits depth (top_model k) [])) (flat_cover (blif_of modules) p c)
obeyed_at tokens modules k top bits depth source good are plain at meaning ends p a c b =
    let h = led_from modules are depth (top_model k) top at a.0 p a.1 in
    let shown = shown_along tokens modules k top bits depth source good are plain at meaning ends h.path h.last h.stands in
    let among = stands_among modules top h.path h.last h.stands (k, at) in
    let all = bits_in modules bits depth (top_model k) [] in
    cover_back modules all bits h.path p h.last c (subst (λ q. Shows all modules bits h.path q h.last) (sym h.is) shown)
    (module_back tokens modules top bits h.path h.last source plain among meaning h.stands) b

pub meaning_got : (tokens : List Token) (modules : List Module) (k : ℕ) (top : Module) (bits : List ℕ → List ℕ → Bool) → IsSource tokens modules → IsBlif (blif_of modules) → AreModels (blif_of modules)
    → ArePlain modules → At modules k top → IsMeaning modules top bits → IsGot modules k top bits
unfolding flat_place all_models bit_in
meaning_got tokens modules k top bits source good are plain at meaning =
    let blif = blif_of modules in
    let all = bits_in modules bits deepest (top_model k) [] in
    let ends = (runs modules k top are at).ends in record {
      signals = bit_in all;
      assigned = assigns modules k (bit_in all) (λ c a. (
          let p = among_flat_map (λ (q : ModelPlace). map (flat_cover blif q) (model_at blif q.model).covers) (models_in blif deepest (top_model k)) c (cover_placed modules k c a) in
          let x = among_map (flat_cover blif p.0) (model_at blif p.0.model).covers c p.2 in
          subst (λ (y : Cover). bit_in all y.output ≡ cover_bit (bit_in all) y) x.2 (obeyed_at tokens modules k top bits deepest source good are plain at meaning ends p.0 p.1 x.0 x.1)));
      nets = λ path m stands x a. (
          let shown = shown_along tokens modules k top bits deepest source good are plain at meaning ends path m stands in
          let number = model_there modules (place_on blif deepest (top_model k) path).model m shown.number in
          let among = stands_among modules top path m stands (k, at) in
          let signal = net_signal m (all_among (λ (y : Module). All IsWhole y.entries) modules m (source_whole source) among) x a in
          let named = net_named m x a in
          ap (λ o. unwrap_or o false) (shown.shows x (ap (λ (b : BlifModel). has_name (signals_of b) x) number ∙ signal))
          ∙ plain_bit (bits path) m.entries x (plain.names m among named.0 named.1 x named.2));
    }
