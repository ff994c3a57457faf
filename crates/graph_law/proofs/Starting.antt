-- The first configurations stand.
use Rattle.std.proofs.Common.{◌≡◌, refl, sym, ap, ◌∙◌, subst, ℕ, ℤ, List, [], ◌∷◌, take, Option, None, Some}
use Rattle.std.specs.Prelude.{slice_get, slice_index_or, IsSomeAnd, IsTrue}
use Rattle.std.specs.Option.{option_map, option_map_or, option_and_then}
use Rattle.std.proofs.lemmas.Option.{slice_get-map, slice_get_within, get_or_from_slice_get}
use Rattle.gob_tree.specs.WellMade.{IsWellMade, IsWellMadeFunction, ends_in_return}
use Rattle.gob_tree.specs.declared.stmt.Placed.{Placed}
use Rattle.gob_tree.specs.declared.unit.Function.{Function}
use Rattle.gob_tree.specs.declared.unit.Unit.{Unit as TranslationUnit}
use Rattle.gob_tree.specs.declared.graph.FuncGraph.{FuncGraph}
use Rattle.c_meaning.specs.Tree as Tree
use Rattle.c_meaning.specs.Tree.{first_tree}
use Rattle.c_meaning.specs.Graph.{MarkedEdge, MarkedProgram, marked_of, program_of, graph_of, flow_of, graph_slots}
use Rattle.c_meaning.specs.GraphStep as Graph
use Rattle.c_meaning.specs.GraphStep.{first_graph}
use Rattle.c_meaning.specs.Walk.{Moment, Walked, after_choices, marked_edges_at, settled_from, StandsInFront, StandsFrame}
use Rattle.graph_law.specs.Settling.{settled_frame}
use Rattle.graph_law.specs.Entering.{entered}
use Rattle.graph_law.specs.Starting.{FirstStands}
use Rattle.graph_law.proofs.Settling.{silent_edges_are_moves}
use Rattle.graph_law.proofs.Entering.{new_frames_stand, first_room}

-- where a new frame of a function settles
entered_frame : ℕ → List ℤ → Function → Graph.Frame
entered_frame k args f = record (Graph.frame_of k args (graph_of f)) { node = (entered f args).node; slots = (entered f args).slots }

frame_stands : (unit : TranslationUnit) (k : ℕ) (f : Function) (s : Placed) (ss : List Placed) (args : List ℤ) → slice_get unit.funcs k ≡ Some f → f.body ≡ s ∷ ss → StandsFrame unit (Tree.frame_of k f args) (entered_frame k args f)
unfolding entered_frame
frame_stands unit k f s ss args at same =
    let new = new_frames_stand f s ss args same in
    record {
      func = refl;
      vars = refl;
      named = ap (λ n. take n (entered f args).slots) (first_room f.slots args) ∙ new.named;
      front = subst (λ (o : Option Function). StandsInFront o (Tree.frame_of k f args).todo (Tree.frame_of k f args).slots [] (entered f args).node (entered f args).slots) (sym at) new.front;
    }

pub graph_there : (unit : TranslationUnit) (k : ℕ) (f : Function) → slice_get unit.funcs k ≡ Some f → slice_get (program_of unit).funcs k ≡ Some (graph_of f)
graph_there unit k f at = slice_get-map graph_of unit.funcs k ∙ ap (option_map graph_of) at

settles_there : (unit : TranslationUnit) (k : ℕ) (f : Function) (args : List ℤ) → slice_get unit.funcs k ≡ Some f → (settled_frame (marked_of unit) (Graph.frame_of k args (graph_of f))).1 ≡ entered f args
settles_there unit k f args at =
    let here : Moment = record { node = 0; slots = (Graph.frame_of k args (graph_of f)).slots } in
    let slots : Graph.func_slots (program_of unit) k ≡ graph_slots f = ap (λ (o : Option FuncGraph). option_map_or (λ g. g.slots) o []) (graph_there unit k f at) in
    let edges : marked_edges_at (marked_of unit) k ≡ (flow_of f).edges = ap (λ (o : Option (List MarkedEdge)). option_map_or (λ es. es) o []) (slice_get-map (λ (g : Function). (flow_of g).edges) unit.funcs k ∙ ap (option_map (λ (g : Function). (flow_of g).edges)) at) in
    ap (λ ls. (settled_from ls (marked_edges_at (marked_of unit) k) here).1) slots
    ∙ ap (λ es. (settled_from (graph_slots f) es here).1) edges

-- the settled frame of a thread that has just begun
settled_new : MarkedProgram → Graph.Frame → Graph.Frame
settled_new m g = record g { node = (settled_frame m g).1.node; slots = (settled_frame m g).1.slots }

settled_is : (unit : TranslationUnit) (k : ℕ) (f : Function) (args : List ℤ) → slice_get unit.funcs k ≡ Some f → settled_new (marked_of unit) (Graph.new_frame (program_of unit) k args) ≡ entered_frame k args f
unfolding settled_new entered_frame
settled_is unit k f args at =
    ap (λ (o : Option FuncGraph). settled_new (marked_of unit) (Graph.new_frame_or k args o)) (graph_there unit k f at)
    ∙ ap (λ (m : Moment). record (Graph.frame_of k args (graph_of f)) { node = m.node; slots = m.slots }) (settles_there unit k f args at)

pub tree_is : (unit : TranslationUnit) (k : ℕ) (f : Function) (args : List ℤ) → slice_get unit.funcs k ≡ Some f → Tree.new_frame unit k args ≡ Tree.frame_of k f args
tree_is unit k f args at = ap (Tree.new_frame_or k args) at

-- a function that is there has a body with a statement
has_statement : (body : List Placed) → IsTrue (ends_in_return body) → (s : Placed) × (ss : List Placed) × (body ≡ s ∷ ss)
has_statement [] e = absurd (cc)
has_statement (s ∷ ss) e = (s, ss, refl)

pub body_there : (unit : TranslationUnit) (k : ℕ) (f : Function) → IsWellMade unit → slice_get unit.funcs k ≡ Some f → (s : Placed) × (ss : List Placed) × (f.body ≡ s ∷ ss)
body_there unit k f made at =
    let formed = made.functions k f (slice_get_within unit.funcs k f at) in
    let here : slice_index_or unit.funcs k f ≡ f = get_or_from_slice_get unit.funcs k f f at in
    has_statement f.body (subst (IsWellMadeFunction unit) here formed).ends

main_found : (P : Function → Type 0) (o : Option Function) → IsSomeAnd o P → (f : Function) × (o ≡ Some f)
main_found P None h = absurd h
main_found P (Some f) h = (f, refl)

pub first_stands : FirstStands
unfolding settled_new
first_stands unit made =
    let main = main_found _ (slice_get unit.funcs unit.main) made.main_there in
    let b = body_there unit unit.main main.0 made main.1 in
    let start : Walked = record { moves = []; config = first_graph (program_of unit) } in
    let frame = Graph.new_frame (program_of unit) unit.main [] in
    let walk = silent_edges_are_moves unit start 1 frame [] refl in
    let standing : StandsFrame unit (Tree.new_frame unit unit.main []) (settled_new (marked_of unit) frame) =
    subst (λ (g : Graph.Frame). StandsFrame unit (Tree.new_frame unit unit.main []) g) (sym (settled_is unit unit.main main.0 [] main.1))
    (subst (λ (t : Tree.Frame). StandsFrame unit t (entered_frame unit.main [] main.0)) (sym (tree_is unit unit.main main.0 [] main.1))
    (frame_stands unit unit.main main.0 b.0 b.1 [] main.1 b.2)) in
    let waits : frame.waits ≡ None = ap (λ (o : Option FuncGraph). (Graph.new_frame_or unit.main [] o).waits) (graph_there unit unit.main main.0 main.1) in
    (_, ap (option_and_then (after_choices (marked_of unit) [])) walk, record { globals = refl; owners = refl; threads = ((standing, waits, tt), tt) })
