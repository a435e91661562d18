-- Ranks by the least nets of the parts, and the arcs from gates that are not known.
use Rattle.std.proofs.Common.{◌≡◌, ℕ, ◌≤◌, Bool, true, List, length, None, Option, Some, arith, subst, sym, refl, ◌∙◌, inl, inr, slice_index}
use Rattle.std.specs.Prelude.{IfSome, is_none}
use Rattle.std.proofs.lemmas.Bool.{and_parts, cases_Bool, cond-false, cond-true, false≢true}
use Rattle.std.proofs.Math.Path.{fun_ext}
use Rattle.std.proofs.lemmas.Option.{none-some, same_Some, slice_get_within}
use Rattle.channel_parts.proofs.Labels.{together_further}
use Rattle.channel_parts.specs.Ranks.{AreLeast, has_unknown_gate, rank_by}
use Rattle.known_nets.proofs.NetKinds.{is_plain_is, plain_is}
use Rattle.known_nets.specs.Conduction.{is_plain_at}
use Rattle.known_nets.specs.KnownTables.{IsKnownTable, known_at}
use Rattle.vrt_model.proofs.GatesGiven.{IsGiven}
use Rattle.vrt_model.proofs.Laws.{turned}
use Rattle.vrt_model.proofs.Ranked.{plain_not_given, together_plain}
use Rattle.vrt_model.specs.Known.{IsPlain, IsRanking, IsTogether, IsUnknown, itself, onward}
use Rattle.vrt_model.specs.Reading.{is_in}
use Rattle.vrt_model.specs.declared.circuit.Circuit.{Circuit}
use Rattle.vrt_model.specs.declared.circuit.Device.{Device}
use Rattle.vrt_model.specs.declared.rules.Phase.{Phase}

-- ---- tables

pub rank_plain : (c : Circuit) (least t : List ℕ) (n : ℕ) → IsPlain c n → rank_by c least t n ≡ slice_index t (slice_index least n)
rank_plain c least t n p = cond-true (is_plain_at c n) (slice_index t (slice_index least n)) 0 (is_plain_is c n p)

pub rank_given : (c : Circuit) (least t : List ℕ) (n : ℕ) → IsGiven c n → rank_by c least t n ≡ 0
rank_given c least t n g =
    cond-false (is_plain_at c n) (slice_index t (slice_index least n)) 0
    (elim (cases_Bool (is_plain_at c n)) [ inl e ↦ absurd (plain_not_given c n (plain_is c n e) g) | inr f ↦ f ])

-- ---- parts

pub together_back : (c : Circuit) (phase : Phase) (bare : Bool) (n m : ℕ) → IsTogether c phase bare n m → IsTogether c phase bare m n
together_back c phase bare n m (itself p) = itself p
together_back c phase bare n m (onward {l = l} d t i j p) =
    together_further c phase bare m l n (onward d (itself p) i (turned d l m j) (together_plain c phase bare n l t)) (together_back c phase bare n l t)

-- two nets with one least net are in one part
pub same_part : (c : Circuit) (phase : Phase) (least : List ℕ) (n m : ℕ) → AreLeast c phase least → IsPlain c n → IsPlain c m → slice_index least n ≡ slice_index least m → IsTogether c phase true n m
same_part c phase least n m are pn pm e =
    together_further c phase true n (slice_index least n) m (are n pn).together
    (subst (λ (x : ℕ). IsTogether c phase true x m) (sym e) (together_back c phase true m (slice_index least m) (are m pm).together))

-- ---- arcs

pub unknown_gate : (c : Circuit) (phase : Phase) (known : List (Option Bool)) (n : ℕ) → IsKnownTable c phase (known_at known) → known_at known n ≡ None → IsUnknown c phase n
unknown_gate c phase known n table e v k = none-some v (sym e ∙ (table n v).1 k)

-- ---- one device

pub unknown_parts : (known : List (Option Bool)) (d : Device) → has_unknown_gate known d ≡ true → (is_in true d ≡ true) × (known_at known d.gate.0 ≡ None)
unknown_parts known d e =
    let both = and_parts (is_in true d) (is_none (known_at known d.gate.0)) e in
    (both.0, entry (known_at known d.gate.0) both.1)
  where
    entry : (o : Option Bool) → is_none o ≡ true → o ≡ None
    entry None t = refl
    entry (Some v) t = absurd (false≢true t)

pub unknown_entry : (c : Circuit) (phase : Phase) (known : List (Option Bool)) (n : ℕ) → IsKnownTable c phase (known_at known) → (o : Option Bool) → known_at known n ≡ o → IsUnknown c phase n → known_at known n ≡ None
unknown_entry c phase known n table None e u = e
unknown_entry c phase known n table (Some v) e u = absurd (u v ((table n v).0 e))

-- ---- the ranks by net

-- past the nets all ranks are 0
pub rank_past : (c : Circuit) (least t : List ℕ) (n : ℕ) → length c.nets ≤ n → rank_by c least t n ≡ 0
rank_past c least t n ge =
    cond-false (is_plain_at c n) (slice_index t (slice_index least n)) 0
    (elim (cases_Bool (is_plain_at c n)) [
      | inl e ↦ (let p = plain_is c n e in let inside = slice_get_within c.nets n p.0 p.1 in absurd (omega (arith, inside, ge)))
      | inr f ↦ f
    ])

pub same_ranking : (c : Circuit) (phase : Phase) (r q : ℕ → ℕ) → ((n : ℕ) → r n ≡ q n) → IsRanking c phase q → IsRanking c phase r
same_ranking c phase r q same ranks = subst (IsRanking c phase) (sym (fun_ext same)) ranks

-- what holds of a value, if there is one, gives something else of it
pub some_map : {X : Type 0} {P Q : X → Type 0} (o : Option X) → ((x : X) → P x → Q x) → IfSome o P → IfSome o Q
some_map None f h = h
some_map (Some x) f h = f x h

pub at_some : {X : Type 0} (P : X → Type 0) (o : Option X) (x : X) → o ≡ Some x → IfSome o P → P x
at_some P None x e h = absurd (none-some x e)
at_some P (Some y) x e h = subst P (same_Some y x e) h
