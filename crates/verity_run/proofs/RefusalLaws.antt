-- What refusals tell.
use Rattle.std.proofs.Common.{◌≡◌, ◌≢◌, ◌⊎◌, inl, inr, ℕ, List, get_or, ap, ◌∙◌, Result, Ok, Err, sym, subst}
use Rattle.std.specs.Prelude.{[], codes, IfOk, MatchResult}
use Rattle.blif_checks.specs.Checked.{IsModelFault}
use Rattle.blif_checks.specs.declared.faults.ModelFault.{ModelFault}
use Rattle.blif_checks.specs.declared.faults.ModelFault.TheVariants.{NoMemory as ModelsMemory}
use Rattle.refusal_lines.specs.Lines.{models_line, refusal_line}
use Rattle.rules_reader.specs.Refused.{fault_of as rules_fault_of}
use Rattle.spice_reader.specs.Refused.{IsNetlist}
use Rattle.text_lines.specs.Faults.{IsClean}
use Rattle.verity_run.specs.Given.{ByFile, Given, netlist_cards, rules_cards}
use Rattle.verity_run.specs.Models.{AreModelsOf}
use Rattle.verity_run.specs.Reads.{Source, StopsBy}
use Rattle.verity_run.specs.Refusals.{IsRefusal, OfRules, OfUnrolling, Tells, TellsFiles, TellsStop}
use Rattle.verity_run.specs.declared.reads.Stop.{Stop}
use Rattle.verity_run.specs.declared.refusals.Refusal.{Refusal}
use Rattle.verity_run.specs.declared.refusals.Refusal.TheVariants.{Unread, Told, NoMemory}
use Rattle.vrt_model.specs.Comparison.{cell_at}
use Rattle.vrt_model.specs.declared.blif.Blif.{Blif}
use Rattle.vrt_model.specs.declared.design.Design.{Design}

fault_stands : (blif : Blif) (fault : ModelFault) → fault ≢ ModelsMemory → (fault ≡ ModelsMemory) ⊎ IsModelFault blif fault → IsModelFault blif fault
fault_stands blif fault other (inl none) = absurd (other none)
fault_stands blif fault other (inr stands) = stands

-- the line of models that cannot be unrolled
pub unrolling_told : {E : Type 0} (word : List ℕ) (blif : Blif) (fault : ModelFault) (line : Result (List ℕ) E) (r : Refusal) → fault ≢ ModelsMemory
    → (fault ≡ ModelsMemory) ⊎ IsModelFault blif fault → IfOk line (λ t. t ≡ models_line word fault)
    → MatchResult line (λ t. r ≡ Told t) (λ _. r ≡ NoMemory) → Tells (OfUnrolling word blif) r
unrolling_told word blif fault (Ok text) r other stands told is =
    subst (Tells (OfUnrolling word blif)) (sym is) (record { fault = fault; first = fault_stands blif fault other stands; told = told })
unrolling_told word blif fault (Err e) r other stands told is = subst (Tells (OfUnrolling word blif)) (sym is) tt

-- the rules, where the models are read
pub rules_told : (g : Given) (blif : Blif) (r : Refusal) → IsNetlist (netlist_cards g) → AreModelsOf g.words.blif g.bytes.blif blif → Tells (OfRules g.words.rules g.bytes.rules) r
    → Tells (IsRefusal g) r
rules_told g blif (Unread line) netlist models told = absurd told
rules_told g blif (Told line) netlist models told = inr (netlist, inr (blif, models, inl told))
rules_told g blif NoMemory netlist models told = tt

-- the last of the refusals
pub last_told : (g : Given) (blif : Blif) (r : Refusal) → IsNetlist (netlist_cards g) → AreModelsOf g.words.blif g.bytes.blif blif → IsClean rules_fault_of (rules_cards g)
    → Tells (OfUnrolling g.words.blif blif) r → Tells (IsRefusal g) r
last_told g blif (Unread line) netlist models lines told = absurd told
last_told g blif (Told line) netlist models lines told = inr (netlist, inr (blif, models, inr (lines, told)))
last_told g blif NoMemory netlist models lines told = tt

-- ---- the order of the cells

-- the line of a cell that is too deep
pub depth_line : {E : Type 0} (line : ℕ) (file word : List ℕ) (r : Result (List ℕ) E) → file ≡ word → IfOk r (λ t. t ≡ refusal_line file line (codes "deeper than 32") [])
    → IfOk r (λ t. t ≡ refusal_line word line (codes "deeper than 32") [])
depth_line line file word r f told = subst (λ (x : List ℕ). IfOk r (λ t. t ≡ refusal_line x line (codes "deeper than 32") [])) f told

-- the line of a cell that contains itself
pub recursion_line : {E : Type 0} (design : Design) (line : ℕ) (chain given : List ℕ) (file word name : List ℕ) (r : Result (List ℕ) E) → given ≡ chain → file ≡ word
    → name ≡ (cell_at design (get_or given 0 0)).name → IfOk r (λ t. t ≡ refusal_line file line (codes "cell contains itself: ") name)
    → IfOk r (λ t. t ≡ refusal_line word line (codes "cell contains itself: ") (cell_at design (get_or chain 0 0)).name)
recursion_line design line chain given file word name r same f n told =
    subst (λ (x : List ℕ). IfOk r (λ t. t ≡ refusal_line x line (codes "cell contains itself: ") (cell_at design (get_or chain 0 0)).name)) f
    (subst (λ (x : List ℕ). IfOk r (λ t. t ≡ refusal_line file line (codes "cell contains itself: ") x)) (n ∙ ap (λ (xs : List ℕ). (cell_at design (get_or xs 0 0)).name) same) told)

-- ---- the three files

-- a file that was not read
pub stop_told : (source : Source) (words : ByFile) (before now : ℕ) (stop : Stop) (name : List ℕ) (r : Refusal) → TellsStop stop name r
    → StopsBy stop name source words before now → TellsFiles source words before now r
stop_told source words before now stop name (Unread line) t by =
    let P : Stop → Type 0 = λ s. StopsBy s name source words before now in let cause = subst P t.0 by in
    record { name = name; rose = cause.0; named = cause.1.0; failed = cause.1.1; line_is = t.1 }
stop_told source words before now stop name (Told line) t by =
    let P : Stop → Type 0 = λ s. StopsBy s name source words before now in record { name = name; first = subst P t.0 by; line_is = t.1 }
stop_told source words before now stop name NoMemory t by = tt
