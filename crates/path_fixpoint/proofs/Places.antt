-- The places of a part, and their words.
use Rattle.std.proofs.Common.{◌≡◌, ℕ, ◌+◌, ◌*◌, ◌-◌, ◌<◌, ◌≤◌, ◌⊎◌, ◌==◌, true, length, Option, Some, None, arith, ap, refl, sym, ◌∙◌, inl, inr}
use Rattle.std.specs.Prelude.{IfSome, IsNone}
use Rattle.std.specs.List.{list_any}
use Rattle.std.proofs.Math.Nat.{mul_comm}
use Rattle.std.proofs.lemmas.Bool.{cases_Bool, eq-eqb, eqb-true, false≢true}
use Rattle.std.proofs.lemmas.Nat.{column_fits, same_from_place}
use Rattle.std.proofs.lemmas.Option.{same_Some, slice_get_within}
use Rattle.node_pool.specs.declared.region.Span.{Span}
use Rattle.bdd_core.specs.Store.{Diagrams}
use Rattle.vrt_model.proofs.Members.{among_any, any_among}
use Rattle.vrt_model.specs.declared.circuit.Circuit.{Circuit}
use Rattle.vrt_model.specs.declared.ids.Net.{Net}
use Rattle.channel_parts.specs.declared.part.Part.{Part}
use Rattle.path_fixpoint.specs.declared.side.Side.{Side}
use Rattle.path_fixpoint.specs.declared.side.Side.TheVariants.{Inside, Outside}
use Rattle.path_fixpoint.specs.Parts.{IsOnSide, IsPlace, is_on_side}
use Rattle.path_fixpoint.specs.Strengths.{HasWords, word_of}
use Rattle.path_fixpoint.specs.declared.words.NetWords.{NetWords}
use Rattle.path_fixpoint.specs.Strengths.{net_words}

-- where a net stands in a part
pub record EndIs (part : Part) (place : Option ℕ) (n : ℕ) : Type 0 where
  pub some : IfSome place (λ i. IsPlace part i n)
  pub none : IsNone place → (i : ℕ) → IsPlace part i n → ⊥

-- a side is one of the two
pub cases_Side : (side : Side) → (side ≡ Inside) ⊎ (side ≡ Outside)
cases_Side Inside = inl refl
cases_Side Outside = inr refl

-- a net is in the part or outside it
pub on_a_side : (part : Part) (n : ℕ) → IsOnSide part Inside n ⊎ IsOnSide part Outside n
on_a_side part n =
    elim (cases_Bool (list_any (λ (net : Net). net.0 == n) part.nets)) [
      | inl there ↦ let found = any_among (λ (net : Net). net.0 == n) part.nets there in inl (found.1.0, (found.0, found.1.1, eqb-true found.0.0 n found.2))
      | inr none ↦ inr (λ i p. false≢true (sym none ∙ among_any (λ (net : Net). net.0 == n) part.nets p.0 (i, p.1) (eq-eqb p.0.0 n p.2)))
    ]

-- the place of a net tells on which side it is
pub side_of : (part : Part) (side : Side) (place : Option ℕ) (n : ℕ) → EndIs part place n → IsOnSide part side n → is_on_side side place ≡ true
side_of part Inside (Some i) n e lies = refl
side_of part Inside None n e lies = absurd (e.none refl lies.0 lies.1)
side_of part Outside (Some i) n e lies = absurd (lies i e.some)
side_of part Outside None n e lies = refl

pub place_in : (part : Part) (i n : ℕ) → IsPlace part i n → i < length part.nets
place_in part i n p = slice_get_within part.nets i p.0 p.1

-- a place has its words
pub place_words : (out : NetWords) (count i : ℕ) → out.span.len ≡ net_words out.source * count → i < count → net_words out.source * i + net_words out.source ≤ out.span.len
place_words out count i len lt =
    let fits : net_words out.source * i + net_words out.source ≤ net_words out.source * count = column_fits (net_words out.source) i (net_words out.source) count lt (omega arith) in
    omega (arith, fits, len)

pub word_in : (c : Circuit) (part : Part) (gates : Span) (out : NetWords) (d : Diagrams) (level i : ℕ) → HasWords c part gates out d → 1 ≤ level → level ≤ out.source
    → i < length part.nets → word_of out level i < out.span.len
word_in c part gates out d level i words low high lt = omega (arith, place_words out (length part.nets) i words.out_len lt, low, high)

pub place_word : (c : Circuit) (part : Part) (gates : Span) (out : NetWords) (d : Diagrams) (level i n : ℕ) → HasWords c part gates out d → 1 ≤ level → level ≤ out.source
    → IsPlace part i n → word_of out level i < out.span.len
place_word c part gates out d level i n words low high p = word_in c part gates out d level i words low high (place_in part i n p)

-- one net stands at a place
pub place_once : (part : Part) (i m n : ℕ) → IsPlace part i m → IsPlace part i n → m ≡ n
place_once part i m n p q = sym p.2 ∙ ap (λ (x : Net). x.0) (same_Some p.0 q.0 (sym p.1 ∙ q.1)) ∙ q.2

-- different places have different words, and so have different levels
pub words_differ : (out : NetWords) (level i j : ℕ) → word_of out level i ≡ word_of out level j → i ≡ j
words_differ out level i j e =
    let turned : i * net_words out.source + 0 ≡ j * net_words out.source + 0 = omega (arith, e, mul_comm i (net_words out.source), mul_comm j (net_words out.source)) in
    (same_from_place i 0 j 0 (net_words out.source) (omega arith) (omega arith) turned).0

pub levels_differ : (out : NetWords) (level other i j : ℕ) → 1 ≤ level → level ≤ net_words out.source → 1 ≤ other → other ≤ net_words out.source
    → word_of out level i ≡ word_of out other j → level ≡ other
levels_differ out level other i j low high low' high' e =
    let turned : i * net_words out.source + (level - 1) ≡ j * net_words out.source + (other - 1) =
    omega (arith, e, mul_comm i (net_words out.source), mul_comm j (net_words out.source)) in
    let same = (same_from_place i (level - 1) j (other - 1) (net_words out.source) (omega (arith, low, high)) (omega (arith, low', high')) turned).1 in
    omega (arith, same, low, low')

-- a place that was found has its words
pub place_fits : (part : Part) (out : NetWords) (place : Option ℕ) (n : ℕ) → out.span.len ≡ net_words out.source * length part.nets → IfSome place (λ i. IsPlace part i n) → IfSome place (λ i. net_words out.source * i + net_words out.source ≤ out.span.len)
place_fits part out None n len p = tt
place_fits part out (Some i) n len p = place_words out (length part.nets) i len (place_in part i n p)
