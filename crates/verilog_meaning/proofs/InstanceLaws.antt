-- The sub-models of the instances of a module.
use Rattle.std.proofs.Common.{◌≡◌, ℕ, zero, suc, ◌+◌, Bool, true, false, cond, List, [], ◌∷◌, ◌++◌, map, Some, refl, ap, sym, subst, ◌∙◌}
use Rattle.std.specs.Prelude.{bytes_eq, option_map, position, slice_get, unwrap_or}
use Rattle.std.proofs.lemmas.Option.{same_Some}
use Rattle.names.proofs.PlaceLaws.{place_cons}
use Rattle.verilog_meaning.specs.Meaning.{Instance, instances_in, module_named}
use Rattle.verilog_models.specs.Covers.{signal_of, value_covers}
use Rattle.verilog_models.specs.Gates.{actual_covers, actual_own, actual_value, sub_of, tie_of, ties_covers, ties_of}
use Rattle.verilog_models.specs.Models.{blif_of, covers_in, entry_covers, entry_own, model_of, subs_in}
use Rattle.verilog_source.specs.Modules.{Actual, Entry, Module, PortTie}
use Rattle.verilog_source.specs.Modules.Entry.{listed, directed, assigned, gate, instance}
use Rattle.vrt_model.specs.FlatBlif.{model_at, model_numbered}
use Rattle.vrt_model.specs.Lists.{Among, At}
use Rattle.vrt_model.specs.declared.blif.BlifModel.{BlifModel}
use Rattle.vrt_model.specs.declared.blif.CoverLine.{CoverLine}
use Rattle.vrt_model.specs.declared.blif.SubLine.{SubLine}
use Rattle.vrt_model.specs.declared.blif.Tie.{Tie}
use Rattle.vrt_model.proofs.Lists.{map_at}
use Rattle.vrt_model.proofs.Members.{among_left, among_right, at_none}

-- ---- sub-models

-- a sub-model is that of an instance, whose own signals are numbered from here, and covers have those of its ties
pub record IsSubOf (i : Instance) (s : SubLine) (covers : List CoverLine) : Type 0 where
  pub line : ℕ
  pub count : ℕ
  pub is : s ≡ sub_of line count i.module_name i.ties
  pub ties : (c : CoverLine) → Among (ties_covers line count i.ties) c → Among covers c

more_covers : (i : Instance) (s : SubLine) (xs ys : List CoverLine) → IsSubOf i s ys → IsSubOf i s (xs ++ ys)
more_covers i s xs ys h = record { line = h.line; count = h.count; is = h.is; ties = λ c a. among_right xs ys c (h.ties c a) }

-- the sub-model of the instance of a number has it too
pub sub_there : (n : ℕ) (es : List Entry) (k : ℕ) (i : Instance) → At (instances_in es) k i → (s : SubLine) × At (subs_in n es) k s × IsSubOf i s (covers_in n es)
sub_there n [] k i a = absurd (at_none k i a)
sub_there n (listed x ∷ es) k i a = let h = sub_there (n + entry_own (listed x)) es k i a in (h.0, h.1, more_covers i h.0 (entry_covers n (listed x)) (covers_in (n + entry_own (listed x)) es) h.2)
sub_there n (directed l d x ∷ es) k i a =
    let h = sub_there (n + entry_own (directed l d x)) es k i a in (h.0, h.1, more_covers i h.0 (entry_covers n (directed l d x)) (covers_in (n + entry_own (directed l d x)) es) h.2)
sub_there n (assigned l x f ∷ es) k i a =
    let h = sub_there (n + entry_own (assigned l x f)) es k i a in (h.0, h.1, more_covers i h.0 (entry_covers n (assigned l x f)) (covers_in (n + entry_own (assigned l x f)) es) h.2)
sub_there n (gate l g os fs ∷ es) k i a =
    let h = sub_there (n + entry_own (gate l g os fs)) es k i a in (h.0, h.1, more_covers i h.0 (entry_covers n (gate l g os fs)) (covers_in (n + entry_own (gate l g os fs)) es) h.2)
sub_there n (instance l m ts ∷ es) zero i a =
    let same : record { module_name = m; ties = ts } ≡ i = same_Some (record { module_name = m; ties = ts }) i a in (
      sub_of l n m ts,
      refl,
      subst (λ x. IsSubOf x (sub_of l n m ts) (covers_in n (instance l m ts ∷ es))) same
          (record { line = l; count = n; is = refl; ties = λ c b. among_left (ties_covers l n ts) (covers_in (n + entry_own (instance l m ts)) es) c b }),
    )
sub_there n (instance l m ts ∷ es) (suc k) i a =
    let h = sub_there (n + entry_own (instance l m ts)) es k i a in (h.0, h.1, more_covers i h.0 (entry_covers n (instance l m ts)) (covers_in (n + entry_own (instance l m ts)) es) h.2)

-- ---- ties

-- the tie of a port to something, with the covers of the constant
pub record IsTieOf (line : ℕ) (port : List ℕ) (a : Actual) (ties : List Tie) (covers : List CoverLine) : Type 0 where
  pub count : ℕ
  pub there : Among ties (record { formal = port; actual = signal_of count (actual_value a) })
  pub covered : (c : CoverLine) → Among (value_covers line count (actual_value a)) c → Among covers c

pub tie_there : (line n : ℕ) (ts : List PortTie) (j : ℕ) (t : PortTie) (a : Actual) → At ts j t → t.actual ≡ Some a → IsTieOf line t.port a (ties_of n ts) (ties_covers line n ts)
tie_there line n [] j t a at e = absurd (at_none j t at)
tie_there line n (u ∷ ts) zero t a at e =
    let same : u ≡ t = same_Some u t at in
    let is : u.actual ≡ Some a = ap (λ (x : PortTie). x.actual) same ∙ e in
    let port : u.port ≡ t.port = ap (λ (x : PortTie). x.port) same in record {
      count = n;
      there =
          among_left (tie_of n u.port u.actual) (ties_of (n + actual_own u.actual) ts) (record { formal = t.port; actual = signal_of n (actual_value a) })
          (subst (λ o. Among (tie_of n u.port o) (record { formal = t.port; actual = signal_of n (actual_value a) })) (sym is)
          (subst (λ p. Among (tie_of n u.port (Some a)) (record { formal = p; actual = signal_of n (actual_value a) })) port (0, refl)));
      covered = λ c b. among_left (actual_covers line n u.actual) (ties_covers line (n + actual_own u.actual) ts) c (subst (λ o. Among (actual_covers line n o) c) (sym is) b);
    }
tie_there line n (u ∷ ts) (suc j) t a at e =
    let h = tie_there line (n + actual_own u.actual) ts j t a at e in record {
      count = h.count;
      there =
          among_right (tie_of n u.port u.actual) (ties_of (n + actual_own u.actual) ts) (record { formal = t.port; actual = signal_of h.count (actual_value a) }) h.there;
      covered = λ c b. among_right (actual_covers line n u.actual) (ties_covers line (n + actual_own u.actual) ts) c (h.covered c b);
    }

-- ---- models by their names

-- the number of the model of a module of a name
pub record IsNumberOf (modules : List Module) (name : List ℕ) (m : Module) : Type 0 where
  pub number : ℕ
  pub found : position (λ (b : BlifModel). bytes_eq b.name name) (map model_of modules) ≡ Some number
  pub there : slice_get (map model_of modules) number ≡ Some (model_of m)
  pub at : At modules number m

named_model : (modules : List Module) (name : List ℕ) (m : Module) → module_named modules name ≡ Some m → IsNumberOf modules name m
named_model [] name m e = cc
named_model (x ∷ modules) name m e = by_test (bytes_eq x.name name) refl (named_model modules name m) where
  by_test : (b : Bool) → bytes_eq x.name name ≡ b → (module_named modules name ≡ Some m → IsNumberOf modules name m) → IsNumberOf (x ∷ modules) name m
  by_test true h later = record {
    number = 0;
    found =
        place_cons (λ (b : BlifModel). bytes_eq b.name name) (model_of x) (map model_of modules)
        ∙ ap (λ c. cond c (Some 0) (option_map suc (position (λ (b : BlifModel). bytes_eq b.name name) (map model_of modules)))) h;
    there = ap (λ y. Some (model_of y)) (same_Some x m (sym (ap (λ c. cond c (Some x) (module_named modules name)) h) ∙ e));
    at = sym (ap (λ c. cond c (Some x) (module_named modules name)) h) ∙ e;
  }
  by_test false h later =
      let r = later (sym (ap (λ c. cond c (Some x) (module_named modules name)) h) ∙ e) in record {
        number = suc r.number;
        found =
            place_cons (λ (b : BlifModel). bytes_eq b.name name) (model_of x) (map model_of modules)
            ∙ ap (λ c. cond c (Some 0) (option_map suc (position (λ (b : BlifModel). bytes_eq b.name name) (map model_of modules)))) h ∙ ap (option_map suc) r.found;
        there = r.there;
        at = r.at;
      }

-- its number
pub number_found : (modules : List Module) (name : List ℕ) (m : Module) → module_named modules name ≡ Some m → At modules (model_numbered (blif_of modules) name) m
number_found modules name m e = let r = named_model modules name m e in ap (λ o. slice_get modules (unwrap_or o 0)) r.found ∙ r.at

abbrev no_model : BlifModel
no_model = record { line = 0; name = []; inputs = []; input_lines = []; clocks = []; clock_lines = []; outputs = []; output_lines = []; covers = []; latches = []; subs = []; exdc = [] }

pub model_found : (modules : List Module) (name : List ℕ) (m : Module) → module_named modules name ≡ Some m → model_at (blif_of modules) (model_numbered (blif_of modules) name) ≡ model_of m
model_found modules name m e =
    let r = named_model modules name m e in
    ap (λ o. model_at (blif_of modules) (unwrap_or o 0)) r.found ∙ ap (λ o. unwrap_or o no_model) r.there

pub model_there : (modules : List Module) (k : ℕ) (m : Module) → At modules k m → model_at (blif_of modules) k ≡ model_of m
model_there modules k m e = ap (λ o. unwrap_or o no_model) (map_at model_of modules k m e)
