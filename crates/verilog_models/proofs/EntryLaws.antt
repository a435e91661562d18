-- What one entry more makes of a module.
use Rattle.std.proofs.Common.{◌≡◌, ℕ, ◌+◌, ◌++◌, ◌∷◌, [], List, Option, Some, None, flat_map, refl, ap, ap₂, sym, ◌∙◌, arith, append-nil, append_assoc}
use Rattle.std.proofs.lemmas.Grind.{flat_map-append}
use Rattle.std.specs.Option.{option_or}
use Rattle.names.specs.Names.{with_names}
use Rattle.names.proofs.NameLaws.{distinct_more}
use Rattle.verilog_models.specs.Drafts.{AddsEntry, IsDraft, with_entry}
use Rattle.verilog_models.specs.Models.{covers_in, entry_covers, entry_own, entry_subs, given, given_in, listed_name, own_in, ports_in, subs_in}
use Rattle.verilog_models.specs.declared.draft.Draft.{Draft}
use Rattle.verilog_models.specs.declared.interface.Given.{Given}
use Rattle.verilog_source.specs.Modules.{Entry, Module}
use Rattle.vrt_model.specs.Lists.{distinct}

own_more : (es : List Entry) (e : Entry) → own_in (es ++ e ∷ []) ≡ own_in es + entry_own e
own_more [] e = omega arith
own_more (x ∷ es) e = let h = own_more es e in omega (arith, h)

further_on : (n a b : ℕ) → n + a + b ≡ n + (a + b)
further_on n a b = omega arith

covers_more : (n : ℕ) (es : List Entry) (e : Entry) → covers_in n (es ++ e ∷ []) ≡ covers_in n es ++ entry_covers (n + own_in es) e
covers_more n [] e = append-nil (entry_covers n e) ∙ ap (λ k. entry_covers k e) (nothing n) where
  nothing : (k : ℕ) → k ≡ k + 0
  nothing k = omega arith
covers_more n (x ∷ es) e =
    ap (λ cs. entry_covers n x ++ cs) (covers_more (n + entry_own x) es e)
    ∙ sym (append_assoc (entry_covers n x) (covers_in (n + entry_own x) es) (entry_covers (n + entry_own x + own_in es) e))
    ∙ ap (λ k. entry_covers n x ++ covers_in (n + entry_own x) es ++ entry_covers k e) (further_on n (entry_own x) (own_in es))

subs_more : (n : ℕ) (es : List Entry) (e : Entry) → subs_in n (es ++ e ∷ []) ≡ subs_in n es ++ entry_subs (n + own_in es) e
subs_more n [] e = append-nil (entry_subs n e) ∙ ap (λ k. entry_subs k e) (nothing n) where
  nothing : (k : ℕ) → k ≡ k + 0
  nothing k = omega arith
subs_more n (x ∷ es) e =
    ap (λ cs. entry_subs n x ++ cs) (subs_more (n + entry_own x) es e)
    ∙ sym (append_assoc (entry_subs n x) (subs_in (n + entry_own x) es) (entry_subs (n + entry_own x + own_in es) e))
    ∙ ap (λ k. entry_subs n x ++ subs_in (n + entry_own x) es ++ entry_subs k e) (further_on n (entry_own x) (own_in es))

or_none : (o : Option Given) → option_or o None ≡ o
or_none None = refl
or_none (Some g) = refl

or_assoc : (a b c : Option Given) → option_or a (option_or b c) ≡ option_or (option_or a b) c
or_assoc None b c = refl
or_assoc (Some g) b c = refl

given_more : (es : List Entry) (e : Entry) (name : List ℕ) → given_in (es ++ e ∷ []) name ≡ option_or (given_in es name) (given e name)
given_more [] e name = or_none (given e name)
given_more (x ∷ es) e name = ap (λ o. option_or (given x name) o) (given_more es e name) ∙ or_assoc (given x name) (given_in es name) (given e name)

ports_more : (es : List Entry) (e : Entry) → ports_in (es ++ e ∷ []) ≡ with_names (ports_in es) (listed_name e)
ports_more es e =
    ap distinct (flat_map-append listed_name es (e ∷ []) ∙ ap (λ ns. flat_map listed_name es ++ ns) (append-nil (listed_name e)))
    ∙ distinct_more (flat_map listed_name es) (listed_name e)

-- what is made of a module with an entry more
pub draft_more : (m : Module) (e : Entry) (old new : Draft) → IsDraft m old → AddsEntry e old new → IsDraft (with_entry m e) new
draft_more m e old new d a = record {
  line = a.line ∙ d.line;
  name = a.name ∙ d.name;
  ports = a.ports ∙ ap (λ ps. with_names ps (listed_name e)) d.ports ∙ sym (ports_more m.entries e);
  even = a.even;
  gives = λ name. a.gives name ∙ ap (λ o. option_or o (given e name)) (d.gives name) ∙ sym (given_more m.entries e name);
  covers = a.covers ∙ ap₂ (λ cs k. cs ++ entry_covers k e) d.covers d.count ∙ ap (λ k. covers_in 0 m.entries ++ entry_covers k e) (from_none (own_in m.entries)) ∙ sym (covers_more 0 m.entries e);
  count = a.count ∙ ap (λ k. k + entry_own e) d.count ∙ sym (own_more m.entries e);
  subs = a.subs ∙ ap₂ (λ cs k. cs ++ entry_subs k e) d.subs d.count ∙ ap (λ k. subs_in 0 m.entries ++ entry_subs k e) (from_none (own_in m.entries)) ∙ sym (subs_more 0 m.entries e);
} where
  from_none : (k : ℕ) → k ≡ 0 + k
  from_none k = omega arith
