-- The fault of a token, from those that are judged one by one.
use Rattle.std.proofs.Common.{◌≡◌, ◌⊎◌, ◌∷◌, [], ◌&&◌, inl, inr, ℕ, List, Bool, true, false, not, Option, Some, None, is_none, refl, ap, sym, ◌∙◌}
use Rattle.text_lines.specs.Faults.{first_of, when}
use Rattle.verilog_source.specs.Known.{Gathered, Known}
use Rattle.verilog_source.specs.Places.{Place, Step, step}
use Rattle.verilog_source.specs.Places.Place.{Body, ModuleWord}
use Rattle.verilog_source.specs.Refused.{ends_module, fault_by, fault_within, is_end, later_faults, module_name, next_fault, open_line, passes_limit, port_fault, sign_fault, twice_by, unfinished}
use Rattle.verilog_source.specs.declared.faults.VerilogFault.{VerilogFault}
use Rattle.verilog_source.specs.declared.faults.VerilogFault.TheVariants.{Limit, NoMemory, Syntax}
use Rattle.verilog_tokens.specs.Signs.{Sign, Token}
use Rattle.verilog_tokens.specs.Signs.Sign.{OpenComment, End}

-- a token that can stand where it does
pub judged_within : (k : Known) (t : Token) (o : Option Step) (st : Step) (f : VerilogFault) (modules : List (List ℕ)) (ports directions : Gathered) (b : Bool) → o ≡ Some st
    → modules ≡ k.modules → ports ≡ k.ports → directions ≡ k.directions → b ≡ passes_limit k t.sign
    → (f ≡ NoMemory) ⊎ (next_fault modules ports directions k.place b t.line t.sign ≡ Some f) → (f ≡ NoMemory) ⊎ (fault_within k t o ≡ Some f)
judged_within k t o st f modules ports directions b e same_modules same_ports same_directions same_limit (inl h) = inl h
judged_within k t o st f modules ports directions b e same_modules same_ports same_directions same_limit (inr h) =
    inr (ap (fault_within k t) e ∙ sym (
    ap (λ x. next_fault x ports directions k.place b t.line t.sign) same_modules
    ∙ ap (λ x. next_fault k.modules x directions k.place b t.line t.sign) same_ports
    ∙ ap (λ x. next_fault k.modules k.ports x k.place b t.line t.sign) same_directions
    ∙ ap (λ x. next_fault k.modules k.ports k.directions k.place x t.line t.sign) same_limit) ∙ h)

-- ---- the first of the faults

-- what the token shows itself comes first
pub sign_first : (k : Known) (t : Token) (f : VerilogFault) → sign_fault t.line t.sign ≡ Some f → fault_by k t ≡ Some f
unfolding fault_by
sign_first k t f e = ap (λ o. first_of (o ∷ later_faults k t)) e

no_twice : (ms : List (List ℕ)) (line : ℕ) (p : Place) (s : Sign) → is_end s ≡ true → twice_by ms line (module_name p s) ≡ None
no_twice ms line (ModuleWord l) End e = refl
no_twice ms line (ModuleWord l) OpenComment e = refl
no_twice ms line (ModuleWord l) _ e = cc
no_twice ms line _ s e = refl

no_port : (ports directions : Gathered) (line : ℕ) (p : Place) (s : Sign) → is_end s ≡ true → port_fault ports directions line (ends_module p s) ≡ None
no_port ports directions line Body End e = refl
no_port ports directions line Body OpenComment e = refl
no_port ports directions line Body _ e = cc
no_port ports directions line _ s e = refl

single : (o : Option VerilogFault) → first_of (o ∷ None ∷ []) ≡ o
single None = refl
single (Some f) = refl

-- the end of a text has no fault but that it is unfinished
pub end_fault : (k : Known) (t : Token) → sign_fault t.line t.sign ≡ None → is_end t.sign ≡ true → fault_by k t ≡ unfinished (open_line k.line k.place) t.line t.sign
unfolding fault_by
end_fault k t none e =
    ap (λ o. first_of (o ∷ later_faults k t)) none
    ∙ ap (λ b. first_of (when (not b && is_none (step k.place t.line t.sign)) (Syntax t.line) ∷ twice_by k.modules t.line (module_name k.place t.sign)
    ∷ port_fault k.ports k.directions t.line (ends_module k.place t.sign) ∷ unfinished (open_line k.line k.place) t.line t.sign ∷ when (not b && passes_limit k t.sign) (Limit t.line) ∷ [])) e
    ∙ ap (λ o. first_of (o ∷ port_fault k.ports k.directions t.line (ends_module k.place t.sign) ∷ unfinished (open_line k.line k.place) t.line t.sign ∷ None ∷ []))
    (no_twice k.modules t.line k.place t.sign e)
    ∙ ap (λ o. first_of (o ∷ unfinished (open_line k.line k.place) t.line t.sign ∷ None ∷ [])) (no_port k.ports k.directions t.line k.place t.sign e)
    ∙ single (unfinished (open_line k.line k.place) t.line t.sign)

not_unfinished : (open_on : Option ℕ) (line : ℕ) (s : Sign) → is_end s ≡ false → unfinished open_on line s ≡ None
not_unfinished o line End e = cc
not_unfinished o line OpenComment e = cc
not_unfinished o line _ e = refl

pass_none : (a b : Option VerilogFault) (c : Option VerilogFault) → first_of (a ∷ b ∷ None ∷ c ∷ []) ≡ first_of (a ∷ b ∷ c ∷ [])
pass_none None None c = refl
pass_none None (Some f) c = refl
pass_none (Some f) b c = refl

by_step : (k : Known) (t : Token) (o : Option Step)
    → first_of (when (is_none o) (Syntax t.line) ∷ twice_by k.modules t.line (module_name k.place t.sign) ∷ port_fault k.ports k.directions t.line (ends_module k.place t.sign)
    ∷ None ∷ when (passes_limit k t.sign) (Limit t.line) ∷ []) ≡ fault_within k t o
by_step k t None = refl
by_step k t (Some s) =
    pass_none (twice_by k.modules t.line (module_name k.place t.sign)) (port_fault k.ports k.directions t.line (ends_module k.place t.sign)) (when (passes_limit k t.sign) (Limit t.line))

-- a token that is not the end
pub within_fault : (k : Known) (t : Token) → sign_fault t.line t.sign ≡ None → is_end t.sign ≡ false → fault_by k t ≡ fault_within k t (step k.place t.line t.sign)
unfolding fault_by
within_fault k t none e =
    ap (λ o. first_of (o ∷ later_faults k t)) none
    ∙ ap (λ b. first_of (when (not b && is_none (step k.place t.line t.sign)) (Syntax t.line) ∷ twice_by k.modules t.line (module_name k.place t.sign)
    ∷ port_fault k.ports k.directions t.line (ends_module k.place t.sign) ∷ unfinished (open_line k.line k.place) t.line t.sign ∷ when (not b && passes_limit k t.sign) (Limit t.line) ∷ [])) e
    ∙ ap (λ o. first_of (when (is_none (step k.place t.line t.sign)) (Syntax t.line) ∷ twice_by k.modules t.line (module_name k.place t.sign)
    ∷ port_fault k.ports k.directions t.line (ends_module k.place t.sign) ∷ o ∷ when (passes_limit k t.sign) (Limit t.line) ∷ []))
    (not_unfinished (open_line k.line k.place) t.line t.sign e)
    ∙ by_step k t (step k.place t.line t.sign)
