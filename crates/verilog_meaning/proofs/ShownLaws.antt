-- The instances of sub-models and the ties of their ports, with the bits of own signals.
use Rattle.std.proofs.Common.{◌≡◌, ◌⊎◌, inl, inr, ℕ, zero, suc, ◌+◌, Bool, List, [], ◌∷◌, ◌++◌, Option, Some, None, refl, ap, sym, ◌∙◌}
use Rattle.std.specs.Prelude.{slice_get}
use Rattle.std.proofs.lemmas.Option.{same_Some}
use Rattle.verilog_meaning.specs.Meaning.{Instance, instance_in, instances_in}
use Rattle.verilog_meaning.proofs.OwnBits.{HaveOwn, actual_bits, actual_long, entries_bits, entry_bits, entry_long, own_bits, own_left, own_right, ties_bits}
use Rattle.verilog_models.specs.Covers.{signal_of}
use Rattle.verilog_models.specs.Gates.{actual_own, actual_value, sub_of, tie_of, ties_of}
use Rattle.verilog_models.specs.Models.{entry_own, subs_in}
use Rattle.verilog_source.specs.Modules.{Actual, Entry, PortTie}
use Rattle.verilog_source.specs.Modules.Entry.{listed, directed, assigned, gate, instance}
use Rattle.vrt_model.specs.Lists.{Among, At}
use Rattle.vrt_model.specs.declared.blif.SubLine.{SubLine}
use Rattle.vrt_model.specs.declared.blif.Tie.{Tie}
use Rattle.vrt_model.proofs.Members.{among_either, at_none}

-- ---- instances of sub-models

-- the instance of a sub-model, with the bits of its own signals where those of the module are
pub record IsInstanceOf (n : ℕ) (es : List Entry) (k : ℕ) (s : SubLine) : Type 0 where
  pub instance : Instance
  pub there : At (instances_in es) k instance
  pub line : ℕ
  pub count : ℕ
  pub is : s ≡ sub_of line count instance.module_name instance.ties
  pub own : (values bits : List ℕ → Bool) → HaveOwn values n (entries_bits bits es) → HaveOwn values count (ties_bits bits instance.ties)

behind : (n : ℕ) (x : Entry) (es : List Entry) (k : ℕ) (s : SubLine) → instance_in x ≡ [] → IsInstanceOf (n + entry_own x) es k s → IsInstanceOf n (x ∷ es) k s
behind n x es k s none h = record {
  instance = h.instance;
  there = ap (λ xs. slice_get (xs ++ instances_in es) k) none ∙ h.there;
  line = h.line;
  count = h.count;
  is = h.is;
  own = λ values bits o. h.own values bits (own_right values n (entry_own x) (entry_bits bits x) (entries_bits bits es) (entry_long bits x) o);
}

pub instance_there : (n : ℕ) (es : List Entry) (k : ℕ) (s : SubLine) → At (subs_in n es) k s → IsInstanceOf n es k s
instance_there n [] k s a = absurd (at_none k s a)
instance_there n (listed x ∷ es) k s a = behind n (listed x) es k s refl (instance_there (n + entry_own (listed x)) es k s a)
instance_there n (directed l d x ∷ es) k s a = behind n (directed l d x) es k s refl (instance_there (n + entry_own (directed l d x)) es k s a)
instance_there n (assigned l x f ∷ es) k s a = behind n (assigned l x f) es k s refl (instance_there (n + entry_own (assigned l x f)) es k s a)
instance_there n (gate l g os fs ∷ es) k s a = behind n (gate l g os fs) es k s refl (instance_there (n + entry_own (gate l g os fs)) es k s a)
instance_there n (instance l m ts ∷ es) zero s a = record {
  instance = record { module_name = m; ties = ts };
  there = refl;
  line = l;
  count = n;
  is = sym (same_Some (sub_of l n m ts) s a);
  own = λ values bits o. own_left values n (ties_bits bits ts) (entries_bits bits es) o;
}
instance_there n (instance l m ts ∷ es) (suc k) s a =
    let h = instance_there (n + entry_own (instance l m ts)) es k s a in record {
      instance = h.instance;
      there = h.there;
      line = h.line;
      count = h.count;
      is = h.is;
      own = λ values bits o. h.own values bits (own_right values n (entry_own (instance l m ts)) (entry_bits bits (instance l m ts)) (entries_bits bits es) (entry_long bits (instance l m ts)) o);
    }

-- ---- ties of sub-models

-- the tie of a port to something, with the bits of its own signals
pub record IsTieFrom (values bits : List ℕ → Bool) (ts : List PortTie) (t : Tie) : Type 0 where
  pub tie : PortTie
  pub there : Among ts tie
  pub actual : Actual
  pub tied : tie.actual ≡ Some actual
  pub port : t.formal ≡ tie.port
  pub count : ℕ
  pub signal : t.actual ≡ signal_of count (actual_value actual)
  pub own : HaveOwn values count (own_bits bits (actual_value actual))

tie_first : (values bits : List ℕ → Bool) (n : ℕ) (u : PortTie) (ts : List PortTie) (t : Tie) (o : Option Actual) → u.actual ≡ o → HaveOwn values n (actual_bits bits o) → Among (tie_of n u.port o) t
    → IsTieFrom values bits (u ∷ ts) t
tie_first values bits n u ts t None e own a = absurd (at_none a.0 t a.1)
tie_first values bits n u ts t (Some x) e own (zero, a) =
    let same : record { formal = u.port; actual = signal_of n (actual_value x) } ≡ t = same_Some (record { formal = u.port; actual = signal_of n (actual_value x) }) t a in record {
      tie = u;
      there = (0, refl);
      actual = x;
      tied = e;
      port = sym (ap (λ (y : Tie). y.formal) same);
      count = n;
      signal = sym (ap (λ (y : Tie). y.actual) same);
      own = own;
    }
tie_first values bits n u ts t (Some x) e own (suc i, a) = absurd (at_none i t a)

tie_later : (values bits : List ℕ → Bool) (u : PortTie) (ts : List PortTie) (t : Tie) → IsTieFrom values bits ts t → IsTieFrom values bits (u ∷ ts) t
tie_later values bits u ts t h = record {
  tie = h.tie;
  there = (suc h.there.0, h.there.1);
  actual = h.actual;
  tied = h.tied;
  port = h.port;
  count = h.count;
  signal = h.signal;
  own = h.own;
}

pub tie_from : (values bits : List ℕ → Bool) (n : ℕ) (ts : List PortTie) (t : Tie) → HaveOwn values n (ties_bits bits ts) → Among (ties_of n ts) t → IsTieFrom values bits ts t
tie_from values bits n [] t own a = absurd (at_none a.0 t a.1)
tie_from values bits n (u ∷ ts) t own a = by_side (among_either (tie_of n u.port u.actual) (ties_of (n + actual_own u.actual) ts) t a)
    (λ b. tie_from values bits (n + actual_own u.actual) ts t (own_right values n (actual_own u.actual) (actual_bits bits u.actual) (ties_bits bits ts) (actual_long bits u.actual) own) b) where
      by_side : Among (tie_of n u.port u.actual) t ⊎ Among (ties_of (n + actual_own u.actual) ts) t → (Among (ties_of (n + actual_own u.actual) ts) t → IsTieFrom values bits ts t) → IsTieFrom values bits (u ∷ ts) t
      by_side (inl first) later = tie_first values bits n u ts t u.actual refl (own_left values n (actual_bits bits u.actual) (ties_bits bits ts) own) first
      by_side (inr rest) later = tie_later values bits u ts t (later rest)
