-- What the definitions compute on small texts.
use Rattle.std.specs.Prelude.{◌≡◌, ℕ, List, [], ◌∷◌, ◌++◌, true, false, map, flat_map, Option, Some, None, codes, refl}
use Rattle.text_lines.specs.Bytes.{is_text, words_of}
use Rattle.text_lines.specs.Lines.{text_lines}
use Rattle.rules_expression.specs.Grammar.Formula.{a_port, negation, conjunction}
use Rattle.rules_expression.specs.Readings.{formula_of}
use Rattle.rules_expression.specs.Tokens.{tokens_of}
use Rattle.rules_lines.specs.Lines.{entry_of}
use Rattle.rules_reader.specs.Entries.{cards_of}
use Rattle.rules_reader.specs.Refused.{entry_fault, known_by, rules_fault}
use Rattle.rules_reader.specs.Tables.{all_from, assumes_in, clocks_of, devices_in, enters_in, holds_in, phase_names_of, phases_in, scale_by, strengths_in, supplies_in, table}
use Rattle.rules_reader.specs.declared.cards.Card.{Card}
use Rattle.rules_reader.specs.declared.faults.RulesFault.{RulesFault}
use Rattle.rules_reader.specs.declared.faults.RulesFault.TheVariants.{Word, Number, Expr, Twice, UnknownPhase, UnknownClock}
use Rattle.vrt_model.specs.declared.design.Kind.TheVariants.{N, P}

-- lines, each with its LF
abbrev file : List (List ℕ) → List ℕ
file ls = flat_map (λ l. l ++ 10 ∷ []) ls

abbrev cards : List (List ℕ) → List Card
cards ls = cards_of (file ls)

abbrev fault_in : List (List ℕ) → Option RulesFault
fault_in ls = rules_fault (cards ls)

-- rules of a domino stage
abbrev dom_lines : List (List ℕ)
dom_lines =
    codes "supply 1 VDD vcc" ∷ codes "supply 0 gnd" ∷ codes "device n n" ∷ codes "device P p 7" ∷ [] ∷ codes " # x" ∷ codes "clock c" ∷ codes "phase pre c=0" ∷ codes "phase eval C=1"
    ∷ codes "hold dom d" ∷ codes "strength dom m7 4" ∷ codes "enter dom eval d 1" ∷ codes "assume dom pre !A & b" ∷ codes "assume dom * a" ∷ []

dom_good : fault_in dom_lines ≡ None
unfolding cards_of words_of text_lines is_text entry_of tokens_of formula_of known_by clocks_of phase_names_of scale_by entry_fault
dom_good = refl

dom_supplies : table supplies_in (cards dom_lines)
    ≡ record { line = 1; value = true; net = codes "vdd" } ∷ record { line = 1; value = true; net = codes "vcc" } ∷ record { line = 2; value = false; net = codes "gnd" } ∷ []
unfolding cards_of words_of text_lines is_text entry_of tokens_of
dom_supplies = refl

dom_devices : table (devices_in (scale_by (cards dom_lines))) (cards dom_lines)
    ≡ record { line = 3; model = codes "n"; kind = N; level = 6 } ∷ record { line = 4; model = codes "p"; kind = P; level = 7 } ∷ []
unfolding cards_of words_of text_lines is_text entry_of tokens_of scale_by
dom_devices = refl

dom_phases : table (phases_in (clocks_of (cards dom_lines))) (cards dom_lines)
    ≡ record { line = 8; name = codes "pre"; bits = false ∷ [] } ∷ record { line = 9; name = codes "eval"; bits = true ∷ [] } ∷ []
unfolding cards_of words_of text_lines is_text entry_of tokens_of clocks_of
dom_phases = refl

dom_enters : table (enters_in (phase_names_of (cards dom_lines))) (cards dom_lines) ≡ record { line = 12; cell = codes "dom"; phase = 1; net = codes "d"; value = true } ∷ []
unfolding cards_of words_of text_lines is_text entry_of tokens_of phase_names_of
dom_enters = refl

dom_assumes : table (assumes_in (phase_names_of (cards dom_lines))) (cards dom_lines)
    ≡ record { line = 13; cell = codes "dom"; phase = Some 0; formula = conjunction (negation (a_port (codes "a"))) (a_port (codes "b")) }
    ∷ record { line = 14; cell = codes "dom"; phase = None; formula = a_port (codes "a") } ∷ []
unfolding cards_of words_of text_lines is_text entry_of tokens_of formula_of phase_names_of
dom_assumes = refl

-- levels and sizes at scale 16
abbrev fine_lines : List (List ℕ)
fine_lines = codes "scale 16" ∷ codes "device n n" ∷ codes "device p p 14" ∷ codes "strength k m 6" ∷ codes "hold k a" ∷ codes "hold k b 5" ∷ []

fine_good : fault_in fine_lines ≡ None
unfolding cards_of words_of text_lines is_text entry_of tokens_of formula_of known_by clocks_of phase_names_of scale_by entry_fault
fine_good = refl

fine_devices : table (devices_in (scale_by (cards fine_lines))) (cards fine_lines)
    ≡ record { line = 2; model = codes "n"; kind = N; level = 10 } ∷ record { line = 3; model = codes "p"; kind = P; level = 14 } ∷ []
unfolding cards_of words_of text_lines is_text entry_of tokens_of scale_by
fine_devices = refl

fine_strengths : table (strengths_in (scale_by (cards fine_lines))) (cards fine_lines) ≡ record { line = 4; cell = codes "k"; device = codes "m"; level = 6 } ∷ []
unfolding cards_of words_of text_lines is_text entry_of tokens_of scale_by
fine_strengths = refl

fine_holds : table (holds_in (scale_by (cards fine_lines))) (cards fine_lines)
    ≡ record { line = 5; cell = codes "k"; net = codes "a"; size = 1 } ∷ record { line = 6; cell = codes "k"; net = codes "b"; size = 5 } ∷ []
unfolding cards_of words_of text_lines is_text entry_of tokens_of scale_by
fine_holds = refl

-- numbers of the other scale, of another form, and the line that says the scale
scale_faults : map fault_in (
    (codes "scale 16" ∷ codes "hold k p 6" ∷ [])
    ∷ (codes "scale 16" ∷ codes "hold k p 05" ∷ [])
    ∷ (codes "scale 16" ∷ codes "device x n 06" ∷ [])
    ∷ (codes "scale 16" ∷ codes "device x n 5" ∷ [])
    ∷ (codes "scale 16" ∷ codes "device x n 15" ∷ [])
    ∷ (codes "scale 8" ∷ codes "strength k m 8" ∷ [])
    ∷ (codes "hold k p 4" ∷ [])
    ∷ (codes "scale 9" ∷ [])
    ∷ (codes "scale" ∷ [])
    ∷ (codes "scale 16 16" ∷ [])
    ∷ (codes "scale 016" ∷ [])
    ∷ (codes "SCALE 16" ∷ [])
    ∷ (codes "scale 16" ∷ codes "scale 9" ∷ [])
    ∷ (codes "scale 16" ∷ codes "device n n" ∷ codes "scale 16" ∷ [])
    ∷ (codes "hold k p" ∷ codes "scale 16" ∷ [])
    ∷ (codes "supply 1 v" ∷ codes "scale 16" ∷ codes "scale 8" ∷ []) ∷ [])
    ≡ Some (Number 2) ∷ Some (Number 2) ∷ Some (Number 2) ∷ Some (Number 2) ∷ Some (Number 2) ∷ Some (Number 2) ∷ Some (Number 1) ∷ Some (Word 1) ∷ Some (Word 1) ∷ Some (Word 1) ∷ Some (Word 1)
    ∷ Some (Word 1) ∷ Some (Word 2) ∷ Some (Word 3) ∷ Some (Word 2) ∷ Some (Twice 3 (codes "scale")) ∷ []
unfolding cards_of words_of text_lines is_text entry_of tokens_of formula_of known_by clocks_of phase_names_of scale_by entry_fault
scale_faults = refl

-- without a phase line there is the phase `all`
no_phase : all_from (clocks_of (cards (codes "clock a b" ∷ []))) (table (phases_in (clocks_of (cards (codes "clock a b" ∷ [])))) (cards (codes "clock a b" ∷ [])))
    ≡ record { line = 0; name = codes "all"; bits = false ∷ false ∷ [] } ∷ []
unfolding cards_of words_of text_lines is_text entry_of tokens_of clocks_of
no_phase = refl

faults : map fault_in (
    (codes "phase p c=0" ∷ codes "clock c" ∷ [])
    ∷ (codes "clock c" ∷ codes "phase p c=0" ∷ codes "clock d" ∷ [])
    ∷ (codes "clock c d" ∷ codes "phase p c=0" ∷ [])
    ∷ (codes "enter k all n 1" ∷ codes "phase p c=0" ∷ [])
    ∷ (codes "strength inv m1 8" ∷ [])
    ∷ (codes "clock c" ∷ codes "phase p c=2" ∷ [])
    ∷ (codes "device p p" ∷ codes "device P p" ∷ [])
    ∷ (codes "enter inv mid a 1" ∷ [])
    ∷ (codes "assume inv * (a" ∷ [])
    ∷ (codes "assume inv p" ∷ [])
    ∷ (codes "clock c" ∷ codes "defaultclock c" ∷ codes "defaultclock c" ∷ [])
    ∷ (codes "clockport k p !" ∷ [])
    ∷ (codes "match k i:q x" ∷ codes "match k i:q y" ∷ [])
    ∷ (codes "clock c" ∷ codes "phase p c=0 c=1" ∷ [])
    ∷ (codes "supply 2 x" ∷ [])
    ∷ (codes "observe k y all all" ∷ codes "observe k Y all" ∷ []) ∷ [])
    ≡ Some (UnknownClock 1 (codes "c")) ∷ Some (Word 3) ∷ Some (Word 2) ∷ Some (Word 2) ∷ Some (Number 1) ∷ Some (Number 2) ∷ Some (Twice 2 (codes "p")) ∷ Some (UnknownPhase 1 (codes "mid"))
    ∷ Some (Expr 1) ∷ Some (Word 1) ∷ Some (Twice 3 (codes "defaultclock")) ∷ Some (UnknownClock 1 []) ∷ Some (Twice 2 (codes "q")) ∷ Some (Twice 2 (codes "c")) ∷ Some (Word 1)
    ∷ Some (Twice 2 (codes "y")) ∷ []
unfolding cards_of words_of text_lines is_text entry_of tokens_of formula_of known_by clocks_of phase_names_of scale_by entry_fault
faults = refl
