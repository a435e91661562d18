-- Laws of what is known.
use Rattle.std.proofs.Common.{◌≡◌, ◌++◌, ◌&&◌, not, ◌∷◌, [], ℕ, List, Bool, true, false, Option, Some, None, is_none, option_map, map, refl, ap, sym, subst, ◌∙◌}
use Rattle.verilog_expression.specs.Grammar.{seen}
use Rattle.verilog_expression.specs.declared.tree.Expression.{Expression}
use Rattle.verilog_source.specs.Grammar.{Begins}
use Rattle.verilog_source.specs.Known.{Known, known_by, known_from, learned, learned_by, nothing_known, with_entry, with_event, with_events}
use Rattle.verilog_source.specs.Modules.{Entry}
use Rattle.verilog_source.specs.Modules.Entry.{listed, directed, assigned, gate, instance}
use Rattle.verilog_source.specs.Places.{Event, Place, Step, reached, step}
use Rattle.verilog_source.specs.Places.Event.{begins, has, ends}
use Rattle.verilog_source.specs.Places.Place.{Outside}
use Rattle.verilog_source.specs.Refused.{is_end, is_refused}
use Rattle.verilog_source.proofs.Begun.{begun, refused}
use Rattle.verilog_tokens.specs.Signs.{Sign, Token}

-- values tell nothing of modules and ports
pub values_known : (k : Known) (line : ℕ) (n : List ℕ) (es : List Expression) → with_events k (map (λ e. has (assigned line n (seen e))) es) ≡ k
values_known k line n [] = refl
values_known k line n (e ∷ es) = values_known k line n es

-- ---- what is known behind one token more

from_more : (k : Known) (ts : List Token) (t : Token) → known_from k (ts ++ t ∷ []) ≡ learned (known_from k ts) t
from_more k [] t = refl
from_more k (u ∷ ts) t = from_more (learned k u) ts t

-- the last token is learned behind those before it
pub known_more : (ts : List Token) (t : Token) → known_by (ts ++ t ∷ []) ≡ learned (known_by ts) t
unfolding known_by
known_more ts t = from_more nothing_known ts t

-- ---- the place that is known is the one that is reached

same_place_entry : (k : Known) (e : Entry) → (with_entry k e).place ≡ k.place
same_place_entry k (listed n) = refl
same_place_entry k (directed l d n) = refl
same_place_entry k (assigned l n f) = refl
same_place_entry k (gate l g os fs) = refl
same_place_entry k (instance l m ts) = refl

same_place_event : (k : Known) (e : Event) → (with_event k e).place ≡ k.place
same_place_event k (begins l n) = refl
same_place_event k (has e) = same_place_entry k e
same_place_event k ends = refl

same_place : (k : Known) (es : List Event) → (with_events k es).place ≡ k.place
same_place k [] = refl
same_place k (e ∷ es) = same_place (with_event k e) es ∙ same_place_event k e

none_reached : {p : Place} (ts : List Token) → reached None ts ≡ Some p → ⊥
none_reached [] e = cc
none_reached (t ∷ ts) e = cc

same_some : (p q : Place) → Some p ≡ Some q → p ≡ q
same_some p q e = cc

abbrev place_of : Option Step → Option Place
place_of o = option_map (λ (s : Step). s.place) o

reached_from : (ts : List Token) (k : Known) (p : Place) → reached (Some k.place) ts ≡ Some p → (known_from k ts).place ≡ p
reached_from [] k p e = same_some k.place p e
reached_from (t ∷ ts) k p e = by_step (step k.place t.line t.sign) refl e (λ j h. reached_from ts j p h) where
  by_step : (o : Option Step) → step k.place t.line t.sign ≡ o → reached (place_of o) ts ≡ Some p
      → ((j : Known) → reached (Some j.place) ts ≡ Some p → (known_from j ts).place ≡ p) → (known_from (learned k t) ts).place ≡ p
  by_step None h r later = absurd (none_reached ts r)
  by_step (Some s) h r later =
      ap (λ o. (known_from (learned_by k t o) ts).place) h
      ∙ later (learned_by k t (Some s)) (ap (λ q. reached (Some q) ts) (same_place _ s.events) ∙ r)

reached_more : (ts us : List Token) (o : Option Place) → reached o (ts ++ us) ≡ reached (reached o ts) us
reached_more ts us None = none us where
  none : (us : List Token) → None ≡ reached None us
  none [] = refl
  none (u ∷ us) = refl
reached_more [] us (Some p) = refl
reached_more (t ∷ ts) us (Some p) = reached_more ts us (place_of (step p t.line t.sign))

-- one token more
reached_one : (ts : List Token) (t : Token) (p : Place) → reached (Some Outside) ts ≡ Some p
    → reached (Some Outside) (ts ++ t ∷ []) ≡ reached (place_of (step (known_by ts).place t.line t.sign)) []
unfolding known_by
reached_one ts t p e =
    reached_more ts (t ∷ []) (Some Outside) ∙ ap (λ o. reached o (t ∷ [])) e
    ∙ ap (λ q. reached (place_of (step q t.line t.sign)) []) (sym (reached_from ts nothing_known p e))

some_reached : (ts : List Token) → Begins ts → (p : Place) × (reached (Some Outside) ts ≡ Some p)
some_reached ts b = by_place (reached (Some Outside) ts) refl where
  by_place : (o : Option Place) → reached (Some Outside) ts ≡ o → (p : Place) × (reached (Some Outside) ts ≡ Some p)
  by_place None e = absurd (refused ts e b)
  by_place (Some p) e = (p, e)

-- no text of modules begins with a token that is refused
pub refused_more : (ts : List Token) (t : Token) → Begins ts → is_refused (known_by ts) t ≡ true → Begins (ts ++ t ∷ []) → ⊥
refused_more ts t b e more =
    let x = some_reached ts b in
    refused (ts ++ t ∷ []) (reached_one ts t x.0 x.1 ∙ by_step (is_end t.sign) (step (known_by ts).place t.line t.sign) e) more where
      by_step : (end : Bool) (o : Option Step) → (not end && is_none o) ≡ true → reached (place_of o) [] ≡ None
      by_step true o h = cc
      by_step false None h = refl
      by_step false (Some s) h = cc

-- and one begins with any other, but for the end
pub goes_on_more : (ts : List Token) (t : Token) → Begins ts → is_end t.sign ≡ false → is_refused (known_by ts) t ≡ false → Begins (ts ++ t ∷ [])
goes_on_more ts t b no_end e =
    let x = some_reached ts b in
    begun (ts ++ t ∷ []) (λ none. by_step (step (known_by ts).place t.line t.sign) (is_end t.sign) no_end e (sym (reached_one ts t x.0 x.1) ∙ none)) where
      by_step : (o : Option Step) (end : Bool) → end ≡ false → (not end && is_none o) ≡ false → reached (place_of o) [] ≡ None → ⊥
      by_step None true a h k = cc
      by_step None false a h k = cc
      by_step (Some s) end a h k = cc
