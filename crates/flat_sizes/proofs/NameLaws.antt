-- Whether a name is among those of the cards.
use Rattle.std.proofs.Common.{◌≡◌, ◌∷◌, ◌||◌, [], ℕ, List, Bool, true, false, refl, ap, sym, ◌∙◌}
use Rattle.std.specs.Prelude.{bytes_eq, flat_map}
use Rattle.std.specs.List.{list_any}
use Rattle.std.proofs.lemmas.List.Folds.{list_any-append}
use Rattle.flat_sizes.specs.Mentions.{mentioned, tied}
use Rattle.vrt_model.specs.Lists.{has_name}
use Rattle.vrt_model.specs.declared.design.DeviceCard.{DeviceCard}
use Rattle.vrt_model.specs.declared.design.InstanceCard.{InstanceCard}

-- ---- names of cards

-- a name is among those of some item
any_named : {X : Type 0} (f : X → List (List ℕ)) (xs : List X) (name : List ℕ) → list_any (λ (x : X). has_name (f x) name) xs ≡ has_name (flat_map f xs) name
any_named f [] name = refl
any_named {X} f (x ∷ xs) name =
    ap (λ (b : Bool). has_name (f x) name || b) (any_named f xs name) ∙ sym (list_any-append (bytes_eq name) (f x) (flat_map f xs))

pub tied_named : (cards : List InstanceCard) (name : List ℕ) → list_any (λ (i : InstanceCard). has_name i.nets name) cards ≡ has_name (tied cards) name
tied_named cards name = any_named (λ (i : InstanceCard). i.nets) cards name

-- a device names it, or else it is tied
mentioned_is : (devices : List DeviceCard) (instances : List InstanceCard) (name : List ℕ)
    → (list_any (λ (d : DeviceCard). has_name (d.drain ∷ d.gate ∷ d.source ∷ []) name) devices || has_name (tied instances) name) ≡ has_name (mentioned devices instances) name
mentioned_is devices instances name =
    let nets : DeviceCard → List (List ℕ) = λ d. d.drain ∷ d.gate ∷ d.source ∷ [] in
    ap (λ (b : Bool). b || has_name (tied instances) name) (any_named nets devices name) ∙ sym (list_any-append (bytes_eq name) (flat_map nets devices) (tied instances))

pub by_device : (devices : List DeviceCard) (instances : List InstanceCard) (name : List ℕ) (b : Bool)
    → b ≡ list_any (λ (d : DeviceCard). has_name (d.drain ∷ d.gate ∷ d.source ∷ []) name) devices → b ≡ true → b ≡ has_name (mentioned devices instances) name
by_device devices instances name b e t =
    t ∙ sym (ap (λ (x : Bool). x || has_name (tied instances) name) (sym e ∙ t)) ∙ mentioned_is devices instances name

pub by_tie : (devices : List DeviceCard) (instances : List InstanceCard) (name : List ℕ) (b r : Bool)
    → b ≡ list_any (λ (d : DeviceCard). has_name (d.drain ∷ d.gate ∷ d.source ∷ []) name) devices → b ≡ false → r ≡ has_name (tied instances) name
    → r ≡ has_name (mentioned devices instances) name
by_tie devices instances name b r e f h =
    h ∙ sym (ap (λ (x : Bool). x || has_name (tied instances) name) (sym e ∙ f)) ∙ mentioned_is devices instances name

-- ---- names behind
