-- The three texts of a size, from 1 to 32: a ripple adder of so many places, with a multiplexer at each.
use Rattle.std.specs.Prelude.{◌≡◌, ◌≤◌, ℕ, Bool, ◌==◌, ◌||◌, ◌&&◌, nat_le, length, List, [], ◌∷◌, ◌++◌, codes}
use Rattle.std.specs.Fmt.{decimal}
use Rattle.std.specs.List.{AllPass}
use Rattle.generator.specs.Forms.{text_of, for_each}
use Rattle.generator.specs.Parts.{inv_cell, nand2_cell, fa_cell, mux2_cell, inv_model, nand2_model, fa_model, mux2_model, operands, outputs, place_cards, place_models}
use Rattle.generator.specs.declared.texts.Generated.{Generated}

-- the cell `top`: its ports are `s c0`, the operands of each place and the outputs
unfoldable pub top_cell : ℕ → List ℕ
top_cell size =
    codes ".subckt top s c0" ++ for_each size operands ++ for_each size outputs ++ codes "\n"
    ++ for_each size place_cards
    ++ codes ".ends\n"

-- the model `top`
unfoldable pub top_model : ℕ → List ℕ
top_model size =
    codes ".model top\n.inputs s c0" ++ for_each size operands ++ codes "\n.outputs" ++ for_each size outputs ++ codes "\n"
    ++ for_each size place_models
    ++ codes ".end\n"

unfoldable pub spice_text : ℕ → List ℕ
spice_text size = codes "* size " ++ decimal size ++ codes "\n" ++ inv_cell ++ nand2_cell ++ fa_cell ++ mux2_cell ++ top_cell size

unfoldable pub blif_text : ℕ → List ℕ
blif_text size = inv_model ++ nand2_model ++ fa_model ++ mux2_model ++ top_model size

unfoldable pub rules_text : List ℕ
rules_text = text_of (codes "supply 1 vdd" ∷ codes "supply 0 gnd" ∷ codes "device n n" ∷ codes "device p p" ∷ [])

-- the sizes that can be asked for
pub record IsSize (size : ℕ) : Type 0 where
  pub least : 1 ≤ size
  pub most : size ≤ 32

-- these are the three texts of a size
pub record AreTexts (made : Generated) (size : ℕ) : Type 0 where
  pub spice : made.spice ≡ spice_text size
  pub blif : made.blif ≡ blif_text size
  pub rules : made.rules ≡ rules_text

-- none has more bytes than a file may have
pub record AreShort (made : Generated) : Type 0 where
  pub spice : length made.spice ≤ 16777216
  pub blif : length made.blif ≤ 16777216
  pub rules : length made.rules ≤ 16777216

-- a line feed, or a byte from the space to the tilde
abbrev pub is_plain : ℕ → Bool
is_plain byte = (byte == 10) || (nat_le 32 byte && nat_le byte 126)

-- each byte of each text is one of these
pub record ArePlain (made : Generated) : Type 0 where
  pub spice : AllPass is_plain made.spice
  pub blif : AllPass is_plain made.blif
  pub rules : AllPass is_plain made.rules
