-- One card or one global net more, while the names of nets are gathered.
use Rattle.std.proofs.Common.{◌≡◌, ◌<◌, ◌≤◌, ◌+◌, ◌++◌, ◌∷◌, [], ℕ, List, Bool, true, false, cond, filter, length, get_or, drop, refl, ap, sym, ◌∙◌}
use Rattle.std.proofs.lemmas.List.{drop_all, drop_more}
use Rattle.names.proofs.NameLaws.{among_names, with_names-append}
use Rattle.vrt_model.specs.Lists.{has_name}
use Rattle.names.specs.Names.{with_names}
use Rattle.names.proofs.FilterLaws.{filter_same}
use Rattle.flatten.proofs.CellNets.{with_nets-append}
use Rattle.flatten.specs.NetTables.{Supplies, card_nets, globals_named, nets_named, with_named, with_net, with_nets}
use Rattle.vrt_model.specs.declared.design.DeviceCard.{DeviceCard}

-- the nets of one card more
pub cards_on : (supply : Supplies) (i : ℕ) (cards : List DeviceCard) (card : DeviceCard) (old new all : List (List ℕ)) → i < length cards → card ≡ get_or cards i card
    → new ≡ with_nets supply old (card_nets card) → with_nets supply old (nets_named (drop i cards)) ≡ all → with_nets supply new (nets_named (drop (i + 1) cards)) ≡ all
cards_on supply i cards card old new all lt here e so_far =
    let rest = nets_named (drop (i + 1) cards) in
    ap (λ (names : List (List ℕ)). with_nets supply names rest) e
    ∙ sym (with_nets-append supply old (card_nets card) rest)
    ∙ ap (λ (c : DeviceCard). with_nets supply old (card_nets c ++ rest)) here
    ∙ ap (λ (cs : List DeviceCard). with_nets supply old (nets_named cs)) (sym (drop_more cards i card lt))
    ∙ so_far

-- the names of one card more
pub names_on : (i : ℕ) (cards : List DeviceCard) (card : DeviceCard) (old new all : List (List ℕ)) → i < length cards → card ≡ get_or cards i card
    → new ≡ with_names old (card_nets card) → with_names old (nets_named (drop i cards)) ≡ all → with_names new (nets_named (drop (i + 1) cards)) ≡ all
names_on i cards card old new all lt here e so_far =
    let rest = nets_named (drop (i + 1) cards) in
    ap (λ (names : List (List ℕ)). with_names names rest) e
    ∙ sym (with_names-append old (card_nets card) rest)
    ∙ ap (λ (c : DeviceCard). with_names old (card_nets c ++ rest)) here
    ∙ ap (λ (cs : List DeviceCard). with_names old (nets_named cs)) (sym (drop_more cards i card lt))
    ∙ so_far

-- one global net more
pub named_on : (supply : Supplies) (named globals : List (List ℕ)) (i : ℕ) (name : List ℕ) (old new all : List (List ℕ)) → i < length globals → name ≡ get_or globals i name
    → new ≡ with_named supply named old name → with_nets supply old (filter (has_name named) (drop i globals)) ≡ all → with_nets supply new (filter (has_name named) (drop (i + 1) globals)) ≡ all
named_on supply named globals i name old new all lt here e so_far =
    let rest = drop (i + 1) globals in
    ap (λ (names : List (List ℕ)). with_nets supply names (filter (has_name named) rest)) e
    ∙ by_test (has_name named name)
    ∙ ap (λ (n : List ℕ). with_nets supply old (filter (has_name named) (n ∷ rest))) here
    ∙ ap (λ (ns : List (List ℕ)). with_nets supply old (filter (has_name named) ns)) (sym (drop_more globals i name lt))
    ∙ so_far where
      by_test : (b : Bool) → with_nets supply (cond b (with_net supply old name) old) (filter (has_name named) (drop (i + 1) globals))
          ≡ with_nets supply old (cond b (name ∷ filter (has_name named) (drop (i + 1) globals)) (filter (has_name named) (drop (i + 1) globals)))
      by_test true = refl
      by_test false = refl

-- no global net is left
pub named_kept : (supply : Supplies) (i : ℕ) (named globals now old : List (List ℕ)) → length globals ≤ i
    → with_nets supply now (filter (has_name named) (drop i globals)) ≡ with_nets supply old (filter (has_name named) globals)
    → now ≡ with_nets supply old (filter (has_name named) globals)
named_kept supply i named globals now old past so_far =
    sym (ap (λ (ns : List (List ℕ)). with_nets supply now (filter (has_name named) ns)) (drop_all i globals past)) ∙ so_far

-- the global nets that cards name
pub globals_kept : (supply : Supplies) (named globals old : List (List ℕ)) (cards : List DeviceCard) → named ≡ with_names [] (nets_named cards)
    → with_nets supply old (filter (has_name named) globals) ≡ with_nets supply old (globals_named cards globals)
globals_kept supply named globals old cards e =
    ap (with_nets supply old)
    (filter_same (has_name named) (has_name (nets_named cards)) globals
    (λ i y at. ap (λ (ns : List (List ℕ)). has_name ns y) e ∙ among_names [] (nets_named cards) y))

-- no card is left
pub cards_kept : (supply : Supplies) (i : ℕ) (cards : List DeviceCard) (now old : List (List ℕ)) → length cards ≤ i
    → with_nets supply now (nets_named (drop i cards)) ≡ with_nets supply old (nets_named cards) → now ≡ with_nets supply old (nets_named cards)
cards_kept supply i cards now old past so_far =
    sym (ap (λ (cs : List DeviceCard). with_nets supply now (nets_named cs)) (drop_all i cards past)) ∙ so_far

pub names_kept : (i : ℕ) (cards : List DeviceCard) (now old : List (List ℕ)) → length cards ≤ i
    → with_names now (nets_named (drop i cards)) ≡ with_names old (nets_named cards) → now ≡ with_names old (nets_named cards)
names_kept i cards now old past so_far =
    sym (ap (λ (cs : List DeviceCard). with_names now (nets_named cs)) (drop_all i cards past)) ∙ so_far
