-- Along the paths of instances, the signals of the places of a flat model have the bits of the nets.
use Rattle.std.proofs.Common.{◌≡◌, ℕ, zero, suc, Bool, true, false, not, ◌&&◌, List, [], ◌∷◌, ◌++◌, Option, Some, refl, ap, ap₂, sym, subst, ◌∙◌}
use Rattle.std.specs.Prelude.{bytes_eq}
use Rattle.std.proofs.lemmas.Option.{same_Some}
use Rattle.std.proofs.lemmas.Slice.Eq.{bytes_eq-Decides}
use Rattle.blif_flat.proofs.OneDriverLaws.{good_driven}
use Rattle.blif_flat.proofs.RangeLaws.{tie_named}
use Rattle.names.proofs.FilterLaws.{has_name_filter}
use Rattle.verilog_meaning.specs.Meaning.{Instance, IsMeaning, IsTied, StandsAt, actual_bit, instance_in, instances_in, module_named, value_of}
use Rattle.verilog_meaning.specs.Nets.{actual_nets, nets_of}
use Rattle.verilog_meaning.proofs.Names.{ArePlain, IsPlain, entry_names, tie_names}
use Rattle.verilog_meaning.proofs.BackLaws.{HaveBits, value_back}
use Rattle.verilog_meaning.proofs.InstanceLaws.{number_found}
use Rattle.verilog_meaning.proofs.NameLaws.{own_bits_there, plain_bit, plain_bits, with_own}
use Rattle.verilog_meaning.proofs.PlaceLaws.{IsPlaceOf, place_model, tie_same}
use Rattle.verilog_meaning.proofs.ShownLaws.{IsInstanceOf, IsTieFrom, tie_from}
use Rattle.verilog_meaning.proofs.WholeBits.{IsSlice, bits_in, own_shown}
use Rattle.verilog_models.specs.Gates.{actual_value}
use Rattle.verilog_models.specs.Models.{blif_of}
use Rattle.verilog_source.specs.Modules.{Actual, Entry, Module, PortTie}
use Rattle.verilog_source.specs.Modules.Actual.{to_net, to_constant}
use Rattle.verilog_source.specs.Modules.Entry.{listed, directed, assigned, gate, instance}
use Rattle.vrt_model.specs.FlatBlif.{ModelPlace, formals, model_at, model_numbered, signal_at, signals_of}
use Rattle.vrt_model.specs.Inputs.{IsBlif}
use Rattle.vrt_model.specs.Lists.{Among, At, has_name}
use Rattle.vrt_model.specs.Models.{AreModels}
use Rattle.vrt_model.specs.declared.blif.SubLine.{SubLine}
use Rattle.vrt_model.specs.declared.blif.Tie.{Tie}
use Rattle.vrt_model.proofs.Lists.{map_among, one_at}
use Rattle.vrt_model.proofs.Members.{among_flat_map, among_later, among_map, any_among, at_none, flat_map_among}

-- ---- names of ties

instance_entry : (e : Entry) (i : Instance) → Among (instance_in e) i → (l : ℕ) × (e ≡ instance l i.module_name i.ties)
instance_entry (listed n) i a = absurd (at_none a.0 i a.1)
instance_entry (directed l d n) i a = absurd (at_none a.0 i a.1)
instance_entry (assigned l n f) i a = absurd (at_none a.0 i a.1)
instance_entry (gate l g os fs) i a = absurd (at_none a.0 i a.1)
instance_entry (instance l m ts) i (zero, e) = (l, ap (λ (x : Instance). instance l x.module_name x.ties) (same_Some (record { module_name = m; ties = ts }) i e))
instance_entry (instance l m ts) i (suc j, e) = absurd (at_none j i e)

-- the names of the ties of an instance are plain
tie_plain : (modules : List Module) (m : Module) (k : ℕ) (i : Instance) (t : PortTie) → ArePlain modules → Among modules m → At (instances_in m.entries) k i → Among i.ties t
    → (x : List ℕ) → Among (tie_names t) x → IsPlain x
tie_plain modules m k i t plain a at b x c =
    let e = among_flat_map instance_in m.entries i (k, at) in
    let is = instance_entry e.0 i e.2 in
    plain.names m a e.0 e.1 x (subst (λ y. Among (entry_names y) x) (sym is.1) (flat_map_among tie_names i.ties t x b c))

-- ---- signals with their bits

-- each signal of a place has the bit of its name
pub record Shows (all : List Bool) (modules : List Module) (bits : List ℕ → List ℕ → Bool) (path : List ℕ) (p : ModelPlace) (m : Module) : Type 0 where
  pub number : At modules p.model m
  pub shows : (x : List ℕ) → has_name (signals_of (model_at (blif_of modules) p.model)) x ≡ true → At all (signal_at (blif_of modules) p x) (with_own (bits path) m.entries x)

pub shown_by : (all : List Bool) (modules : List Module) (bits : List ℕ → List ℕ → Bool) (depth : ℕ) (p : ModelPlace) (path : List ℕ) (m : Module) → IsSlice all p.base (bits_in modules bits depth p path)
    → At modules p.model m
    → ((x : List ℕ) → has_name p.tied x ≡ true → At all (signal_at (blif_of modules) p x) (with_own (bits path) m.entries x)) → Shows all modules bits path p m
shown_by all modules bits depth p path m slice is tied = record { number = is; shows = λ x e. by_test x e (has_name p.tied x) refl } where
  by_test : (x : List ℕ) → has_name (signals_of (model_at (blif_of modules) p.model)) x ≡ true → (b : Bool) → has_name p.tied x ≡ b
      → At all (signal_at (blif_of modules) p x) (with_own (bits path) m.entries x)
  by_test x e true h = tied x h
  by_test x e false h =
      own_shown all modules bits depth p path m slice is x h
      (has_name_filter (λ name. not (has_name p.tied name)) (signals_of (model_at (blif_of modules) p.model)) x ∙ ap₂ (λ a b. not a && b) h e)

-- what a port of an instance is tied to has the bit of the port
actual_value_bit : (bits : List ℕ → Bool) (a : Actual) → value_of bits (actual_value a) ≡ actual_bit bits a
actual_value_bit bits (to_net n) = refl
actual_value_bit bits (to_constant b) = refl

tied_is : (around : List ℕ → Bool) (bit : Bool) (o : Option Actual) (a : Actual) → o ≡ Some a → IsTied around bit o → bit ≡ actual_bit around a
tied_is around bit o a e h = subst (IsTied around bit) e h

-- so have the signals of a sub-model, where those around it have
pub sub_shows : (all : List Bool) (modules : List Module) (top : Module) (bits : List ℕ → List ℕ → Bool) (depth : ℕ) (p q : ModelPlace) (path : List ℕ) (m inner : Module) (k : ℕ) (i : Instance) (s : SubLine)
    → IsBlif (blif_of modules) → AreModels (blif_of modules) → ArePlain modules → IsMeaning modules top bits → StandsAt modules top path m → Shows all modules bits path p m → Among modules m
    → At (instances_in m.entries) k i → module_named modules i.module_name ≡ Some inner → At (model_at (blif_of modules) p.model).subs k s → IsInstanceOf 0 m.entries k s → IsPlaceOf (blif_of modules) p s q
    → IsSlice all q.base (bits_in modules bits depth q (path ++ k ∷ [])) → Shows all modules bits (path ++ k ∷ []) q inner
sub_shows all modules top bits depth p q path m inner k i s good are plain meaning stands shown among at found there from place slice = shown_by all modules bits depth q (path ++ k ∷ []) inner slice number tied where
  same : from.instance ≡ i
  same = one_at (instances_in m.entries) k from.instance i from.there at

  named : s.model ≡ i.module_name
  named = ap (λ (y : SubLine). y.model) from.is ∙ ap (λ (y : Instance). y.module_name) same

  number : At modules q.model inner
  number =
      subst (λ n. At modules n inner) (sym (place_model (blif_of modules) p s q place))
      (subst (λ n. At modules (model_numbered (blif_of modules) n) inner) (sym named) (number_found modules i.module_name inner found))

  tie_bit : (t : Tie) → Among s.ties t → IsTieFrom (with_own (bits path) m.entries) (bits path) from.instance.ties t → At all (signal_at (blif_of modules) q t.formal) (with_own (bits (path ++ k ∷ [])) inner.entries t.formal)
  tie_bit t b tie =
      let own_tie : Among i.ties tie.tie = subst (λ (y : Instance). Among y.ties tie.tie) same tie.there in
      let names = tie_plain modules m k i tie.tie plain among at own_tie in
      let around : At all (signal_at (blif_of modules) p t.actual) (with_own (bits path) m.entries t.actual)
      = shown.shows t.actual (tie_named (model_at (blif_of modules) p.model) s t.actual (k, there) (map_among (λ (y : Tie). y.actual) s.ties t b)) in
      let nets : HaveBits (with_own (bits path) m.entries) (bits path) (nets_of (actual_value tie.actual))
      = plain_bits (bits path) m.entries (nets_of (actual_value tie.actual))
      (λ x c. names x (among_later tie.tie.port (actual_nets tie.tie.actual) x (subst (λ o. Among (actual_nets o) x) (sym tie.tied) c))) in
      let bit : with_own (bits path) m.entries t.actual ≡ bits (path ++ k ∷ []) tie.tie.port
      = ap (with_own (bits path) m.entries) tie.signal ∙ value_back (with_own (bits path) m.entries) (bits path) tie.count (actual_value tie.actual) nets tie.own ∙ actual_value_bit (bits path) tie.actual
      ∙ sym (tied_is (bits path) (bits (path ++ k ∷ []) tie.tie.port) tie.tie.actual tie.actual tie.tied (meaning.ties path m stands k i at tie.tie own_tie)) in
      let port : with_own (bits (path ++ k ∷ [])) inner.entries t.formal ≡ bits (path ++ k ∷ []) tie.tie.port
      = ap (with_own (bits (path ++ k ∷ [])) inner.entries) tie.port ∙ plain_bit (bits (path ++ k ∷ [])) inner.entries tie.tie.port (names tie.tie.port (0, refl)) in
      subst (λ n. At all n (with_own (bits (path ++ k ∷ [])) inner.entries t.formal)) (sym (tie_same (blif_of modules) p s q t ((good_driven (blif_of modules) good are).tied p.model s (k, there)) place b))
      (around ∙ ap Some (bit ∙ sym port))

  tied : (x : List ℕ) → has_name q.tied x ≡ true → At all (signal_at (blif_of modules) q x) (with_own (bits (path ++ k ∷ [])) inner.entries x)
  tied x e =
      let y = any_among (bytes_eq x) (formals s) (ap (λ (r : ModelPlace). has_name r.tied x) (sym place.is) ∙ e) in
      let t = among_map (λ (z : Tie). z.formal) s.ties y.0 y.1 in
      let is : t.0.formal ≡ x = t.2 ∙ sym ((bytes_eq-Decides x y.0).0 y.2) in
      let own = from.own (with_own (bits path) m.entries) (bits path) (own_bits_there (bits path) m.entries (plain.counted m among)) in
      let tie = tie_from (with_own (bits path) m.entries) (bits path) from.count from.instance.ties t.0 own (subst (λ (z : SubLine). Among z.ties t.0) from.is t.1) in
      subst (λ z. At all (signal_at (blif_of modules) q z) (with_own (bits (path ++ k ∷ [])) inner.entries z)) is (tie_bit t.0 t.1 tie)
