-- What the definitions compute on small texts.
use Rattle.std.specs.Prelude.{◌≡◌, ℕ, List, [], ◌∷◌, ◌++◌, true, false, map, flat_map, Option, Some, None, codes, refl}
use Rattle.text_lines.specs.Bytes.{is_text, words_of}
use Rattle.text_lines.specs.Lines.{text_lines}
use Rattle.blif_reader.specs.Cards.{cards_of, joined}
use Rattle.blif_reader.specs.Models.{blif_of}
use Rattle.blif_reader.specs.Refused.{blif_fault, fault_by, known_by}
use Rattle.blif_reader.specs.declared.faults.BlifFault.{BlifFault}
use Rattle.blif_reader.specs.declared.faults.BlifFault.TheVariants.{NotText, Unsupported, OutsideModel, Row, MixedRows, LatchForm, Formal, ModelTwice, Short}
use Rattle.vrt_model.specs.declared.blif.LatchKind.TheVariants.{Re, Ah}

-- lines, each with its LF
abbrev file : List (List ℕ) → List ℕ
file ls = flat_map (λ l. l ++ 10 ∷ []) ls

abbrev fault_in : List (List ℕ) → Option BlifFault
fault_in ls = blif_fault (cards_of (file ls))

-- `\` joins bytes, and none is left at the end; a comment is cut before
joins : joined ((1, codes "a\\") ∷ (2, codes "b \\ # c") ∷ (3, codes "c\\#\\") ∷ (4, codes "d\\") ∷ []) ≡ (1, codes "ab \\ ") ∷ (3, codes "cd") ∷ []
joins = refl

joins_over_comment : joined ((1, codes "a\\# x") ∷ (2, codes "b") ∷ (3, []) ∷ []) ≡ (1, codes "ab") ∷ (3, []) ∷ []
joins_over_comment = refl

-- a cover of off-set rows, a repeated list, a joined line, a latch, a sub-model
abbrev nand_lines : List (List ℕ)
nand_lines =
    codes ".model nand2 # two" ∷ codes ".inputs a \\" ∷ codes "b" ∷ codes ".inputs c a" ∷ codes ".clock clk" ∷ codes ".outputs y q" ∷ codes ".names a b y" ∷ codes "11 0" ∷ codes "0- 0"
    ∷ codes ".latch y q ah clk 2" ∷ codes ".latch y r" ∷ codes ".latch y s re NIL" ∷ codes ".names z" ∷ codes "1" ∷ codes ".names w" ∷ codes ".subckt sub p=a o=x=y" ∷ codes ".end" ∷ []

nand_is : blif_of (cards_of (file nand_lines)) ≡ record {
  models =
      record {
        line = 1;
        name = codes "nand2";
        inputs = codes "a" ∷ codes "b" ∷ codes "c" ∷ [];
        input_lines = 2 ∷ 2 ∷ 4 ∷ [];
        clocks = codes "clk" ∷ [];
        clock_lines = 5 ∷ [];
        outputs = codes "y" ∷ codes "q" ∷ [];
        output_lines = 6 ∷ 6 ∷ [];
        covers =
            record { line = 7; inputs = codes "a" ∷ codes "b" ∷ []; output = codes "y"; on = false; rows = codes "11" ∷ codes "0-" ∷ [] }
            ∷ record { line = 13; inputs = []; output = codes "z"; on = true; rows = [] ∷ [] }
            ∷ record { line = 15; inputs = []; output = codes "w"; on = true; rows = [] } ∷ [];
        latches =
            record { line = 10; input = codes "y"; output = codes "q"; kind = Some Ah; control = Some (codes "clk"); init = 2 }
            ∷ record { line = 11; input = codes "y"; output = codes "r"; kind = None; control = None; init = 3 }
            ∷ record { line = 12; input = codes "y"; output = codes "s"; kind = Some Re; control = None; init = 3 } ∷ [];
        subs = record { line = 16; model = codes "sub"; ties = record { formal = codes "p"; actual = codes "a" } ∷ record { formal = codes "o"; actual = codes "x=y" } ∷ [] } ∷ [];
        exdc = [];
      } ∷ [];
}
unfolding blif_of cards_of words_of text_lines is_text
nand_is = refl

nand_good : fault_in nand_lines ≡ None
unfolding cards_of words_of text_lines is_text fault_by known_by
nand_good = refl

-- `.model` ends the model before, a stray `.end` is passed over
two_models : blif_of (cards_of (file (codes ".end" ∷ codes ".model a x" ∷ codes ".model b" ∷ codes ".end" ∷ codes ".end" ∷ []))) ≡ record {
  models =
      record { line = 2; name = codes "a"; inputs = []; input_lines = []; clocks = []; clock_lines = []; outputs = []; output_lines = []; covers = []; latches = []; subs = []; exdc = [] }
      ∷ record { line = 3; name = codes "b"; inputs = []; input_lines = []; clocks = []; clock_lines = []; outputs = []; output_lines = []; covers = []; latches = []; subs = []; exdc = [] } ∷ [];
}
unfolding blif_of cards_of words_of text_lines is_text
two_models = refl

-- a don't-care network: its lists of signals are passed over, and it ends with its model
abbrev network_lines : List (List ℕ)
network_lines =
    codes ".model m" ∷ codes ".inputs a" ∷ codes ".outputs y" ∷ codes ".names a y" ∷ codes "1 1" ∷ codes ".exdc x" ∷ codes ".inputs b" ∷ codes ".outputs z" ∷ codes ".names a y" ∷ codes "0 1" ∷ codes ".end"
    ∷ codes ".model n" ∷ codes ".clock c" ∷ codes ".exdc" ∷ []

network_is : blif_of (cards_of (file network_lines)) ≡ record {
  models =
      record {
        line = 1;
        name = codes "m";
        inputs = codes "a" ∷ [];
        input_lines = 2 ∷ [];
        clocks = [];
        clock_lines = [];
        outputs = codes "y" ∷ [];
        output_lines = 3 ∷ [];
        covers = record { line = 4; inputs = codes "a" ∷ []; output = codes "y"; on = true; rows = codes "1" ∷ [] } ∷ [];
        latches = [];
        subs = [];
        exdc = record { line = 9; inputs = codes "a" ∷ []; output = codes "y"; on = true; rows = codes "0" ∷ [] } ∷ [];
      }
      ∷ record { line = 12; name = codes "n"; inputs = []; input_lines = []; clocks = codes "c" ∷ []; clock_lines = 13 ∷ []; outputs = []; output_lines = []; covers = []; latches = []; subs = []; exdc = [] } ∷ [];
}
unfolding blif_of cards_of words_of text_lines is_text
network_is = refl

network_good : fault_in network_lines ≡ None
unfolding cards_of words_of text_lines is_text fault_by known_by
network_good = refl

-- what a don't-care network cannot have: another one, latches, clocks, sub-models, rows of no cover
network_faults : map fault_in (
    (codes ".model m" ∷ codes ".exdc" ∷ codes ".exdc" ∷ [])
    ∷ (codes ".model m" ∷ codes ".exdc" ∷ codes ".latch a y as c" ∷ [])
    ∷ (codes ".model m" ∷ codes ".exdc" ∷ codes ".clock a" ∷ [])
    ∷ (codes ".model m" ∷ codes ".exdc" ∷ codes ".subckt x a=a" ∷ [])
    ∷ (codes ".model m" ∷ codes ".names a y" ∷ codes ".exdc" ∷ codes "1 1" ∷ [])
    ∷ (codes ".model m" ∷ codes ".exdc" ∷ codes ".names a y" ∷ codes ".inputs a" ∷ codes "1 1" ∷ [])
    ∷ (codes ".model m" ∷ codes ".exdc" ∷ codes ".names a y" ∷ codes "11 1" ∷ [])
    ∷ (codes ".model m" ∷ codes ".end" ∷ codes ".exdc" ∷ [])
    ∷ (codes ".model m" ∷ codes ".exdc" ∷ codes ".model n" ∷ codes ".latch a y" ∷ []) ∷ [])
    ≡ Some (Unsupported 3 (codes ".exdc")) ∷ Some (Unsupported 3 (codes ".latch")) ∷ Some (Unsupported 3 (codes ".clock")) ∷ Some (Unsupported 3 (codes ".subckt")) ∷ Some (Unsupported 4 (codes "1"))
    ∷ Some (Unsupported 5 (codes "1")) ∷ Some (Row 4) ∷ Some (OutsideModel 3) ∷ None ∷ []
unfolding cards_of words_of text_lines is_text fault_by known_by
network_faults = refl

-- rows that do not fit: too long, behind another card, of an output that is no bit, mixed
rows : map fault_in (
    (codes ".model m" ∷ codes ".names a y" ∷ codes "00 1" ∷ [])
    ∷ (codes ".model m" ∷ codes ".names a y" ∷ codes ".inputs b" ∷ codes "0 1" ∷ [])
    ∷ (codes ".model m" ∷ codes ".names a y" ∷ codes "0 2" ∷ [])
    ∷ (codes ".model m" ∷ codes ".names y" ∷ codes "0" ∷ codes "- 1" ∷ [])
    ∷ (codes ".model m" ∷ codes ".names a y" ∷ codes "0 1" ∷ codes "1 1" ∷ codes "1 0" ∷ [])
    ∷ (codes "0 1" ∷ [])
    ∷ (codes ".end" ∷ codes ".names y" ∷ []) ∷ [])
    ≡ Some (Row 3) ∷ Some (Row 4) ∷ Some (Row 3) ∷ Some (Row 4) ∷ Some (MixedRows 5) ∷ Some (OutsideModel 1) ∷ Some (OutsideModel 2) ∷ []
unfolding cards_of words_of text_lines is_text fault_by known_by
rows = refl

-- latches, ties, names
others : map fault_in (
    (codes ".model m" ∷ codes ".latch a b as clk" ∷ [])
    ∷ (codes ".model m" ∷ codes ".latch a b as" ∷ [])
    ∷ (codes ".model m" ∷ codes ".latch a b as clk 3 4" ∷ [])
    ∷ (codes ".model m" ∷ codes ".latch a" ∷ [])
    ∷ (codes ".latch a b as c 7" ∷ [])
    ∷ (codes ".model m" ∷ codes ".subckt s a=b c" ∷ [])
    ∷ (codes ".model m" ∷ codes ".subckt s =b" ∷ [])
    ∷ (codes ".model m" ∷ codes ".model m" ∷ [])
    ∷ (codes ".model m" ∷ codes ".model" ∷ [])
    ∷ (codes ".gate x" ∷ [])
    ∷ (codes ".model m" ∷ (codes ".inputs " ++ 13 ∷ []) ∷ (codes ".inputs " ++ 13 ∷ codes "a") ∷ []) ∷ [])
    ≡ Some (Unsupported 2 (codes "as")) ∷ Some (LatchForm 2) ∷ Some (LatchForm 2) ∷ Some (Short 2) ∷ Some (Unsupported 1 (codes "as")) ∷ Some (Formal 2) ∷ Some (Formal 2)
    ∷ Some (ModelTwice 2 (codes "m")) ∷ Some (Short 2) ∷ Some (Unsupported 1 (codes ".gate")) ∷ Some (NotText 3) ∷ []
unfolding cards_of words_of text_lines is_text fault_by known_by
others = refl
