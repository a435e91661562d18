-- The faults of a text of modules.
use Rattle.std.specs.Prelude.{ℕ, List, [], ◌∷◌, Bool, true, false, not, ◌||◌, ◌&&◌, nat_le, length, find, is_none, is_some, Option, Some, None, option_map}
use Rattle.std.specs.Option.{option_or}
use Rattle.text_lines.specs.Faults.{first_of, when}
use Rattle.verilog_source.specs.Known.{Gathered, Known, counted, known_by}
use Rattle.verilog_source.specs.Places.{Place, Step, step}
use Rattle.verilog_source.specs.Places.Place.{Outside, Body, ModuleWord, TerminalWanted}
use Rattle.verilog_source.specs.declared.faults.VerilogFault.{VerilogFault}
use Rattle.verilog_source.specs.declared.faults.VerilogFault.TheVariants.{NotText as NotTextFault, Unsupported as UnsupportedFault, Syntax, ModuleTwice, PortForm, Unfinished, Limit}
use Rattle.verilog_tokens.specs.Signs.{Sign, Token}
use Rattle.verilog_tokens.specs.Signs.Part.{Name}
use Rattle.verilog_tokens.specs.Signs.Sign.{Of, EndModule, NotText, Unsupported, OpenComment, End}
use Rattle.verilog_tokens.specs.declared.token.GateKind.{GateKind}
use Rattle.verilog_tokens.specs.declared.token.GateKind.TheVariants.{And, Nand, Or, Nor, Xor, Xnor, Buf, Not}
use Rattle.vrt_model.specs.Lists.{has_name}

-- what one token shows: a byte that is not text, and what is not supported
abbrev pub sign_fault : ℕ → Sign → Option VerilogFault
sign_fault line NotText = Some (NotTextFault line)
sign_fault line (Unsupported word) = Some (UnsupportedFault line word)
sign_fault line s = None

-- the end of the text, or a comment that does not end
abbrev pub is_end : Sign → Bool
is_end OpenComment = true
is_end End = true
is_end s = false

-- a token with which, behind those before it, no text of modules begins
abbrev pub is_refused : Known → Token → Bool
is_refused k t = not (is_end t.sign) && is_none (step k.place t.line t.sign)

-- the name that a module begins with
abbrev pub module_name : Place → Sign → Option (List ℕ)
module_name (ModuleWord l) (Of (Name n)) = Some n
module_name place s = None

abbrev pub twice_by : List (List ℕ) → ℕ → Option (List ℕ) → Option VerilogFault
twice_by modules line None = None
twice_by modules line (Some n) = when (has_name modules n) (ModuleTwice line n)

-- a listed port with no direction, with two, or listed twice; a name with a direction that is not listed
abbrev pub is_bad_port : Gathered → Gathered → List ℕ → Bool
is_bad_port ports directions n = not (has_name ports.once n) || has_name ports.again n || not (has_name directions.once n) || has_name directions.again n

-- the first one: the listed ports in their order, then the names with directions in theirs
abbrev pub bad_port : Gathered → Gathered → Option (List ℕ)
bad_port ports directions = option_or (find (is_bad_port ports directions) ports.once) (find (is_bad_port ports directions) directions.once)

abbrev pub ends_module : Place → Sign → Bool
ends_module Body EndModule = true
ends_module place s = false

abbrev pub port_fault : Gathered → Gathered → ℕ → Bool → Option VerilogFault
port_fault ports directions line true = option_map (λ n. PortForm line n) (bad_port ports directions)
port_fault ports directions line false = None

-- the line of the module that is open
abbrev pub open_line : ℕ → Place → Option ℕ
open_line line Outside = None
open_line line (ModuleWord l) = Some l
open_line line place = Some line

-- the text ends in a module, else in a comment
abbrev pub unfinished : Option ℕ → ℕ → Sign → Option VerilogFault
unfinished open_on line End = option_map Unfinished open_on
unfinished open_on line OpenComment = option_or (option_map Unfinished open_on) (Some (Unfinished line))
unfinished open_on line s = None

-- the kinds of gates that become one cover, which has 1,000 inputs at most
abbrev pub is_limited : GateKind → Bool
is_limited And = true
is_limited Nand = true
is_limited Or = true
is_limited Nor = true
is_limited Xor = false
is_limited Xnor = false
is_limited Buf = false
is_limited Not = false

abbrev pub is_full : Place → Bool
is_full (TerminalWanted g) = is_limited g.kind && nat_le 1000 (length g.inputs)
is_full place = false

-- 4,096 modules, at the name of the next; 1,000 operators and 64 open parentheses of an expression; 1,000 inputs of a gate, at the next
abbrev pub passes_limit : Known → Sign → Bool
passes_limit k s =
    (is_some (module_name k.place s) && nat_le 4096 (length k.modules)) || is_none (counted k.place k.counts s) || is_full k.place

-- the fault of a token that can stand where it does
abbrev pub next_fault : List (List ℕ) → Gathered → Gathered → Place → Bool → ℕ → Sign → Option VerilogFault
next_fault modules ports directions place has_passed line s =
    first_of (twice_by modules line (module_name place s) ∷ port_fault ports directions line (ends_module place s) ∷ when has_passed (Limit line) ∷ [])

-- the fault of a token that is not the end
abbrev pub fault_within : Known → Token → Option Step → Option VerilogFault
fault_within k t None = Some (Syntax t.line)
fault_within k t (Some s) = next_fault k.modules k.ports k.directions k.place (passes_limit k t.sign) t.line t.sign

-- the faults at a token but those that it shows itself, by their numbers
abbrev pub later_faults : Known → Token → List (Option VerilogFault)
later_faults k t =
    when (is_refused k t) (Syntax t.line)
    ∷ twice_by k.modules t.line (module_name k.place t.sign)
    ∷ port_fault k.ports k.directions t.line (ends_module k.place t.sign)
    ∷ unfinished (open_line k.line k.place) t.line t.sign
    ∷ when (not (is_end t.sign) && passes_limit k t.sign) (Limit t.line)
    ∷ []

-- of several faults at one token the one of the lowest number
unfoldable pub fault_by : Known → Token → Option VerilogFault
fault_by k t = first_of (sign_fault t.line t.sign ∷ later_faults k t)

abbrev pub fault_of : List Token → Token → Option VerilogFault
fault_of before t = fault_by (known_by before) t
