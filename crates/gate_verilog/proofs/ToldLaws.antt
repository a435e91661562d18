-- What one token more tells.
use Rattle.std.proofs.Common.{◌≡◌, ◌++◌, ◌∷◌, [], List, Option, Some, None, option_map, refl, ap, sym, ◌∙◌, append-nil, append_assoc}
use Rattle.names.specs.Names.{with_names}
use Rattle.gate_verilog.proofs.Kept.{names_told}
use Rattle.gate_verilog.specs.Told.{told_by, told_from}
use Rattle.verilog_source.specs.Kept.{told_events}
use Rattle.verilog_source.specs.Known.{Known, known_by, known_from, learned, nothing_known, with_entry, with_event, with_events}
use Rattle.verilog_source.specs.Modules.{Entry}
use Rattle.verilog_source.specs.Modules.Entry.{listed, directed, assigned, gate, instance}
use Rattle.verilog_source.specs.Places.{Event, Place, Step, at_end, behind_step, events_from, step}
use Rattle.verilog_source.specs.Places.Event.{begins, has, ends}
use Rattle.verilog_source.specs.Places.Place.{Outside}
use Rattle.verilog_tokens.specs.Signs.{Token}

from_more : (k : Known) (ts : List Token) (t : Token) → told_from k (ts ++ t ∷ []) ≡ told_from k ts ++ told_events (step (known_from k ts).place t.line t.sign)
from_more k [] t = append-nil (told_events (step k.place t.line t.sign))
from_more k (u ∷ ts) t =
    ap (λ es. told_events (step k.place u.line u.sign) ++ es) (from_more (learned k u) ts t)
    ∙ sym (append_assoc (told_events (step k.place u.line u.sign)) (told_from (learned k u) ts) (told_events (step (known_from (learned k u) ts).place t.line t.sign)))

-- what the last token tells is told behind what those before it tell
pub told_more : (ts : List Token) (t : Token) → told_by (ts ++ t ∷ []) ≡ told_by ts ++ told_events (step (known_by ts).place t.line t.sign)
unfolding told_by known_by
told_more ts t = from_more nothing_known ts t

-- ---- what is known behind events

same_place_entry : (k : Known) (e : Entry) → (with_entry k e).place ≡ k.place
same_place_entry k (listed n) = refl
same_place_entry k (directed l d n) = refl
same_place_entry k (assigned l n f) = refl
same_place_entry k (gate l g os fs) = refl
same_place_entry k (instance l m ts) = refl

same_place_event : (k : Known) (e : Event) → (with_event k e).place ≡ k.place
same_place_event k (begins l n) = refl
same_place_event k (has e) = same_place_entry k e
same_place_event k ends = refl

-- events do not change the place
pub same_place : (k : Known) (es : List Event) → (with_events k es).place ≡ k.place
same_place k [] = refl
same_place k (e ∷ es) = same_place (with_event k e) es ∙ same_place_event k e

same_modules : (k : Known) (e : Entry) → (with_entry k e).modules ≡ k.modules
same_modules k (listed n) = refl
same_modules k (directed l d n) = refl
same_modules k (assigned l n f) = refl
same_modules k (gate l g os fs) = refl
same_modules k (instance l m ts) = refl

-- they add the names of the modules that they begin
pub more_modules : (k : Known) (es : List Event) → (with_events k es).modules ≡ with_names k.modules (names_told es)
more_modules k [] = refl
more_modules k (begins l n ∷ es) = more_modules (with_event k (begins l n)) es
more_modules k (has e ∷ es) = more_modules (with_entry k e) es ∙ ap (λ ms. with_names ms (names_told es)) (same_modules k e)
more_modules k (ends ∷ es) = more_modules k es

-- ---- tokens that are read as far as they go

-- the tokens behind these are read from where these lead, and these tell their events before theirs
abbrev pub RunsTo : List Token → Place → List Event → Type 0
RunsTo ts p es = (later : List Token) → events_from (ts ++ later) Outside ≡ option_map (λ more. es ++ more) (events_from later p)

pub runs_none : RunsTo [] Outside []
runs_none later = by_events (events_from later Outside) where
  by_events : (o : Option (List Event)) → o ≡ option_map (λ more. [] ++ more) o
  by_events None = refl
  by_events (Some es) = refl

maps_join : (es fs : List Event) (o : Option (List Event)) → option_map (λ more. es ++ more) (option_map (λ more. fs ++ more) o) ≡ option_map (λ more. (es ++ fs) ++ more) o
maps_join es fs None = refl
maps_join es fs (Some gs) = ap Some (sym (append_assoc es fs gs))

pub runs_more : (ts : List Token) (t : Token) (p : Place) (s : Step) (es : List Event) → RunsTo ts p es → step p t.line t.sign ≡ Some s → RunsTo (ts ++ t ∷ []) s.place (es ++ s.events)
runs_more ts t p s es r e later =
    ap (λ xs. events_from xs Outside) (append_assoc ts (t ∷ []) later) ∙ r (t ∷ later)
    ∙ ap (λ o. option_map (λ more. es ++ more) (behind_step (events_from later) o)) e ∙ maps_join es s.events (events_from later s.place)

-- where they lead out of all modules, these are all their events
pub runs_all : (ts : List Token) (p : Place) (es : List Event) → RunsTo ts p es → p ≡ Outside → events_from ts Outside ≡ Some es
runs_all ts p es r e =
    ap (λ xs. events_from xs Outside) (sym (append-nil ts)) ∙ r [] ∙ ap (λ q. option_map (λ more. es ++ more) (at_end q)) e ∙ ap Some (append-nil es)
