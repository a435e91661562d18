-- The texts are short, and of plain bytes.
use Rattle.std.proofs.Common.{◌≡◌, ◌≤◌, ◌+◌, ◌*◌, ◌++◌, ℕ, List, true, length, codes, refl, sym, subst, length-append, lit≤, arith}
use Rattle.std.proofs.lemmas.List.Sums.{AllPass-from_list_all}
use Rattle.std.specs.Fmt.{decimal}
use Rattle.std.specs.List.{list_all}
use Rattle.generator.specs.Forms.{for_each}
use Rattle.generator.specs.Parts.{inv_cell, nand2_cell, fa_cell, mux2_cell, inv_model, nand2_model, fa_model, mux2_model, operands, outputs, place_cards, place_models}
use Rattle.generator.specs.Texts.{is_plain, top_cell, top_model, spice_text, blif_text, rules_text, IsSize, AreTexts, AreShort, ArePlain}
use Rattle.generator.specs.declared.texts.Generated.{Generated}
use Rattle.generator.proofs.PlainLaws.{joined_plain, digits_plain, all_plain}
use Rattle.generator.proofs.ShortLaws.{digits_short, all_short}

-- a text of so many pieces, of which each has at most 8192 bytes, all of them plain
pub record IsGood (text : List ℕ) (pieces : ℕ) : Type 0 where
  pub short : length text ≤ pieces * 8192
  pub plain : list_all is_plain text ≡ true

-- two texts
join : {xs ys : List ℕ} {m n : ℕ} → IsGood xs m → IsGood ys n → IsGood (xs ++ ys) (m + n)
join {xs = xs} {ys = ys} {m = m} {n = n} a b = record {
  short =
      let front : length xs ≤ m * 8192 = a.short in
      let back : length ys ≤ n * 8192 = b.short in
      let joined : length (xs ++ ys) ≡ length xs + length ys = length-append xs ys in
      omega arith;
  plain = joined_plain xs ys a.plain b.plain;
}

-- a text that is given
given : (text : List ℕ) → length text ≤ 8192 → list_all is_plain text ≡ true → IsGood text 1
given text short plain = record { short = short; plain = plain }

-- a number
number : (n : ℕ) → n ≤ 32 → IsGood (decimal n) 1
number n small = record {
  short = let few : length (decimal n) ≤ 2 = digits_short n (omega arith) in omega arith;
  plain = digits_plain n (omega arith);
}

-- a form filled for each place
each : (form : List ℕ) (size : ℕ) → length form ≤ 100 → list_all is_plain form ≡ true → size ≤ 32 → IsGood (for_each size form) 1
each form size short plain small = record {
  short = let bound : length (for_each size form) ≤ size * 200 = all_short form short 0 size (omega arith) in omega arith;
  plain = all_plain form plain 0 size (omega arith);
}

top_cell_good : (size : ℕ) → size ≤ 32 → IsGood (top_cell size) 6
unfolding top_cell operands outputs place_cards
top_cell_good size small =
    join (join (join (join (join (given (codes ".subckt top s c0") (lit≤ tt) refl) (each operands size (lit≤ tt) refl small))
    (each outputs size (lit≤ tt) refl small)) (given (codes "\n") (lit≤ tt) refl))
    (each place_cards size (lit≤ tt) refl small)) (given (codes ".ends\n") (lit≤ tt) refl)

top_model_good : (size : ℕ) → size ≤ 32 → IsGood (top_model size) 7
unfolding top_model operands outputs place_models
top_model_good size small =
    join (join (join (join (join (join (given (codes ".model top\n.inputs s c0") (lit≤ tt) refl) (each operands size (lit≤ tt) refl small))
    (given (codes "\n.outputs") (lit≤ tt) refl)) (each outputs size (lit≤ tt) refl small)) (given (codes "\n") (lit≤ tt) refl))
    (each place_models size (lit≤ tt) refl small)) (given (codes ".end\n") (lit≤ tt) refl)

spice_good : (size : ℕ) → size ≤ 32 → IsGood (spice_text size) 13
unfolding spice_text inv_cell nand2_cell fa_cell mux2_cell
spice_good size small =
    join (join (join (join (join (join (join (given (codes "* size ") (lit≤ tt) refl) (number size small)) (given (codes "\n") (lit≤ tt) refl))
    (given inv_cell (lit≤ tt) refl)) (given nand2_cell (lit≤ tt) refl)) (given fa_cell (lit≤ tt) refl)) (given mux2_cell (lit≤ tt) refl))
    (top_cell_good size small)

blif_good : (size : ℕ) → size ≤ 32 → IsGood (blif_text size) 11
unfolding blif_text inv_model nand2_model fa_model mux2_model
blif_good size small =
    join (join (join (join (given inv_model (lit≤ tt) refl) (given nand2_model (lit≤ tt) refl)) (given fa_model (lit≤ tt) refl))
    (given mux2_model (lit≤ tt) refl)) (top_model_good size small)

rules_good : IsGood rules_text 1
unfolding rules_text
rules_good = given rules_text (lit≤ tt) refl

-- what holds of a text holds of one that equals it
short_of : (text good : List ℕ) (pieces : ℕ) → pieces ≤ 99 → text ≡ good → IsGood good pieces → length text ≤ 16777216
short_of text good pieces few e g =
    let bound : length good ≤ pieces * 8192 = g.short in
    let P : List ℕ → Type 0 = λ t. length t ≤ 16777216 in
    subst P (sym e) (omega arith)

plain_of : (text good : List ℕ) (pieces : ℕ) → text ≡ good → IsGood good pieces → list_all is_plain text ≡ true
plain_of text good pieces e g =
    let P : List ℕ → Type 0 = λ t. list_all is_plain t ≡ true in
    subst P (sym e) g.plain

-- no text of a size is longer than a file may be
pub texts_short : (made : Generated) (size : ℕ) → IsSize size → AreTexts made size → AreShort made
texts_short made size is texts = record {
  spice = short_of made.spice (spice_text size) 13 (lit≤ tt) texts.spice (spice_good size is.most);
  blif = short_of made.blif (blif_text size) 11 (lit≤ tt) texts.blif (blif_good size is.most);
  rules = short_of made.rules rules_text 1 (lit≤ tt) texts.rules rules_good;
}

-- each byte of each text is plain
pub texts_plain : (made : Generated) (size : ℕ) → IsSize size → AreTexts made size → ArePlain made
texts_plain made size is texts = record {
  spice = AllPass-from_list_all is_plain made.spice (plain_of made.spice (spice_text size) 13 texts.spice (spice_good size is.most));
  blif = AllPass-from_list_all is_plain made.blif (plain_of made.blif (blif_text size) 11 texts.blif (blif_good size is.most));
  rules = AllPass-from_list_all is_plain made.rules (plain_of made.rules rules_text 1 texts.rules rules_good);
}
