-- The variables by the steps in which they are listed.
use Rattle.std.specs.Prelude.{ℕ, Bool, cond, List, [], ◌++◌, map, filter_map, find, flat_map, Option, Some, None, option_map, unwrap_or, slice_get, ◌==◌}
use Rattle.std.specs.List.{enumerate_from}
use Rattle.vrt_model.specs.Comparison.{net_name}
use Rattle.vrt_model.specs.Elements.{names_by_kind, signal_name}
use Rattle.vrt_model.specs.Lists.{differ}
use Rattle.vrt_model.specs.Variables.{enter_of, is_free, is_input, least_net, places}
use Rattle.vrt_model.specs.declared.circuit.Circuit.{Circuit}
use Rattle.vrt_model.specs.declared.circuit.Enter.{Enter}
use Rattle.vrt_model.specs.declared.circuit.FlatNet.{FlatNet}
use Rattle.vrt_model.specs.declared.circuit.NetKind.{NetKind}
use Rattle.vrt_model.specs.declared.flat_model.FlatLatch.{FlatLatch}
use Rattle.vrt_model.specs.declared.flat_model.FlatModel.{FlatModel}
use Rattle.vrt_model.specs.declared.groups.Group.{Group as HoldGroup}
use Rattle.vrt_model.specs.declared.groups.Member.{Member}
use Rattle.vrt_model.specs.declared.groups.Source.{Source}
use Rattle.vrt_model.specs.declared.groups.Source.TheVariants.{Input, Element, Group}
use Rattle.vrt_model.specs.declared.ids.Net.{Net}

-- ---- entered holds

-- the value of the first `enter` line that is for a phase
abbrev pub value_in : List Enter → ℕ → Option Bool
value_in enters phase = option_map (λ (e : Enter). e.value) (find (λ (e : Enter). e.phase == phase) enters)

-- the bit of a group with which a member has its constant
abbrev pub entered_by : Circuit → ℕ → Member → Option Bool
entered_by c phase m = option_map (λ (v : Bool). differ m.inverted v) (enter_of c phase m.hold)

-- ---- sources

-- the variable of a net
abbrev pub input_at : ℕ → NetKind → Option Source
input_at n kind = cond (is_input kind) (let net : Net = record { 0 = n } in Some (Input net)) None

-- the inputs among nets that are numbered from a number on
abbrev pub input_sources : ℕ → List FlatNet → List Source
input_sources n nets = filter_map (λ (p : ℕ × FlatNet). input_at p.0 p.1.kind) (enumerate_from n nets)

-- an element for each name
abbrev pub element_sources : ℕ → List (List ℕ) → List Source
element_sources n names = map (λ (e : ℕ). Element e) (places n names)

-- the variable of a group
abbrev pub group_at : Circuit → ℕ → ℕ → HoldGroup → Option Source
group_at c phase n group = cond (is_free c phase group) (Some (Group n)) None

abbrev pub group_sources : Circuit → ℕ → ℕ → List HoldGroup → List Source
group_sources c phase n groups = filter_map (λ (p : ℕ × HoldGroup). group_at c phase p.0 p.1) (enumerate_from n groups)

-- the inputs, then the elements, then the groups
abbrev pub sources_by : Circuit → List (List ℕ) → List HoldGroup → ℕ → List Source
sources_by c elements groups phase = input_sources 0 c.nets ++ element_sources 0 elements ++ group_sources c phase 0 groups

-- ---- names

-- the names of the elements of some latches
abbrev pub elements_of : FlatModel → List FlatLatch → List (List ℕ)
elements_of flat latches = flat_map (λ (l : FlatLatch). names_by_kind l.kind (signal_name flat l.output)) latches

abbrev pub group_name : Circuit → List HoldGroup → ℕ → List ℕ
group_name c groups g = unwrap_or (option_map (λ (group : HoldGroup). net_name c (least_net c group)) (slice_get groups g)) []

-- the name of a variable, by the names of the elements
abbrev pub name_in : Circuit → List (List ℕ) → List HoldGroup → Source → List ℕ
name_in c elements groups (Input net) = net_name c net.0
name_in c elements groups (Element e) = unwrap_or (slice_get elements e) []
name_in c elements groups (Group g) = group_name c groups g
