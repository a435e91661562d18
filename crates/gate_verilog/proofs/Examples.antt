-- What the definitions compute on small texts.
use Rattle.std.specs.Prelude.{◌≡◌, ℕ, true, false, List, [], ◌∷◌, ◌++◌, map, flat_map, Option, Some, None, codes, refl}
use Rattle.gate_verilog.specs.Built.{built}
use Rattle.gate_verilog.specs.Told.{told_by}
use Rattle.text_lines.specs.Faults.{first_fault}
use Rattle.verilog_models.specs.Covers.{cover_of, own_name}
use Rattle.verilog_models.specs.Models.{model_of}
use Rattle.verilog_models.specs.declared.functions.Function.TheVariants as F
use Rattle.verilog_source.specs.Known.{known_by}
use Rattle.verilog_source.specs.Refused.{fault_by, fault_of}
use Rattle.verilog_source.specs.declared.faults.VerilogFault.{VerilogFault}
use Rattle.verilog_source.specs.declared.faults.VerilogFault.TheVariants.{ModuleTwice, PortForm, Syntax, Unfinished, Unsupported}
use Rattle.verilog_tokens.specs.Tokens.{tokens_from, tokens_of}
use Rattle.vrt_model.specs.declared.blif.BlifModel.{BlifModel}
use Rattle.vrt_model.specs.declared.blif.CoverLine.{CoverLine}
use Rattle.vrt_model.specs.declared.blif.SubLine.{SubLine}

-- the models of a text that has no fault
abbrev models_in : List ℕ → List BlifModel
models_in text = map model_of (built (told_by (tokens_of text))).modules

abbrev covers_in_text : List ℕ → List CoverLine
covers_in_text text = flat_map (λ (m : BlifModel). m.covers) (models_in text)

abbrev subs_in_text : List ℕ → List SubLine
subs_in_text text = flat_map (λ (m : BlifModel). m.subs) (models_in text)

abbrev fault_in : List ℕ → Option VerilogFault
fault_in text = first_fault fault_of (tokens_of text)

-- lines
abbrev two_lines : List ℕ → List ℕ → List ℕ
two_lines first second = first ++ 10 ∷ second

-- ports in the order of the list, with the lines of the statements that give their directions
inverter : models_in (two_lines (codes "module inv(y,a);input a;") (codes "output y;not(y,a);endmodule")) ≡ record {
  line = 1;
  name = codes "inv";
  inputs = codes "a" ∷ [];
  input_lines = 1 ∷ [];
  clocks = [];
  clock_lines = [];
  outputs = codes "y" ∷ [];
  output_lines = 2 ∷ [];
  covers = cover_of 2 F.Not (codes "a" ∷ []) (codes "y") ∷ [];
  latches = [];
  subs = [];
  exdc = [];
} ∷ []
unfolding told_by tokens_from
inverter = refl

-- operands before their operator, and the outermost gives the net; numbers go on behind it
nested : covers_in_text (codes "module m;assign y=a&~b|c,z=1'b0,w=~(~v);endmodule") ≡
    cover_of 1 F.Not (codes "b" ∷ []) (own_name 0) ∷ cover_of 1 F.And (codes "a" ∷ own_name 0 ∷ []) (own_name 1)
    ∷ cover_of 1 F.Or (own_name 1 ∷ codes "c" ∷ []) (codes "y") ∷ cover_of 1 (F.Constant false) [] (codes "z") ∷ cover_of 1 F.Not (codes "v" ∷ []) (own_name 2)
    ∷ cover_of 1 F.Not (own_name 2 ∷ []) (codes "w") ∷ []
unfolding told_by tokens_from
nested = refl

-- a chain from the left of which the last link complements, and a gate of one input
chained : covers_in_text (codes "module m;xnor g(y,a,b,c&d),(z,e);endmodule") ≡
    cover_of 1 F.And (codes "c" ∷ codes "d" ∷ []) (own_name 0) ∷ cover_of 1 F.Xor (codes "a" ∷ codes "b" ∷ []) (own_name 1)
    ∷ cover_of 1 F.Xnor (own_name 1 ∷ own_name 0 ∷ []) (codes "y") ∷ cover_of 1 F.Not (codes "e" ∷ []) (codes "z") ∷ []
unfolding told_by tokens_from
chained = refl

-- one cover for each output
two_outputs : covers_in_text (codes "module m;buf(x,y,a?b:c);endmodule") ≡
    cover_of 1 F.Choice (codes "a" ∷ codes "b" ∷ codes "c" ∷ []) (own_name 0) ∷ cover_of 1 F.Same (own_name 0 ∷ []) (codes "x") ∷ cover_of 1 F.Same (own_name 0 ∷ []) (codes "y") ∷ []
unfolding told_by tokens_from
two_outputs = refl

-- a constant in a tie has a signal, and a tie to nothing is left out
abbrev tied : List ℕ
tied = codes "module m;s u(.p(1'b1),.q(),.r(n));endmodule"

tied_covers : covers_in_text tied ≡ cover_of 1 (F.Constant true) [] (own_name 0) ∷ []
unfolding told_by tokens_from
tied_covers = refl

tied_subs : subs_in_text tied ≡ record {
  line = 1;
  model = codes "s";
  ties = record { formal = codes "p"; actual = own_name 0 } ∷ record { formal = codes "r"; actual = codes "n" } ∷ [];
} ∷ []
unfolding told_by tokens_from
tied_subs = refl

-- ---- faults

-- none, also behind a comment that ends with the text
no_fault : fault_in (codes "module m;endmodule//") ≡ None
unfolding tokens_from known_by fault_by
no_fault = refl

bad_port : fault_in (two_lines (codes "module m(a,b);input a;") (codes "endmodule")) ≡ Some (PortForm 2 (codes "b"))
unfolding tokens_from known_by fault_by
bad_port = refl

twice : fault_in (two_lines (codes "module m;endmodule") (codes "module m;")) ≡ Some (ModuleTwice 2 (codes "m"))
unfolding tokens_from known_by fault_by
twice = refl

not_ended : fault_in (two_lines (codes "module m;") (codes "endmodule module n;/*")) ≡ Some (Unfinished 2)
unfolding tokens_from known_by fault_by
not_ended = refl

unsupported : fault_in (codes "module m(output reg") ≡ Some (Unsupported 1 (codes "reg"))
unfolding tokens_from known_by fault_by
unsupported = refl

-- a further output is a plain name
bad_output : fault_in (codes "module m;not(y,(a),b") ≡ Some (Syntax 1)
unfolding tokens_from known_by fault_by
bad_output = refl
