-- How a label moves the frames of a thread and their contexts.
use Rattle.std.proofs.Common.{◌≡◌, ℕ, List, [], ◌∷◌, Option, None, Some, true}
use Rattle.gob_tree.specs.declared.expr.Expr.{Expr}
use Rattle.gob_tree.specs.declared.graph.Action.TheVariants.{Call}
use Rattle.gob_tree.specs.declared.graph.Edge.{Edge}
use Rattle.gob_tree.specs.declared.graph.Program.{Program}
use Rattle.c_meaning.specs.Config.{Config, Effect, after_effect, next_thread}
use Rattle.c_meaning.specs.GraphStep.{Frame, Label, Do, Enter, Leave, edge_at}
use Rattle.state_dom.specs.StateValue.{StateValue, is_reached}
use Rattle.constraint_sys.specs.declared.unknown.Key.{Key}
use Rattle.constraint_sys.specs.declared.unknown.Unknown.TheVariants.{Point}
use Rattle.constraint_sys.specs.declared.value.Value.TheVariants.{State}
use Rattle.constraint_sys.specs.Contribution.{outcome_of}
use Rattle.constraint_sys.specs.Table.{TableValue, empty_key, state_at}
use Rattle.action_law.specs.Described.{DescribesFrame, DescribesGlobals}
use Rattle.action_law.proofs.Others.{MayChange}
use Rattle.run_law.specs.Known.{KnowsThread}
use Rattle.run_law.proofs.Threads.{IfStarts}

-- an edge that isn't a call is done: the frame goes to its end, which its transfer reaches
pub record Does (p : Program) (t : TableValue) (top : Frame) (key : Key) (number : ℕ) (after : Frame) : Type 0 where
  pub edge : Edge
  pub there : edge_at p top.func number ≡ Some edge
  pub leaves : edge.from ≡ top.node
  pub no_call : (d : Option ℕ) (f : ℕ) (args : List Expr) → edge.act ≡ Call d f args → ⊥
  pub reached : is_reached (outcome_of p t top.func key edge).value ≡ true
  pub func : after.func ≡ top.func
  pub node : after.node ≡ edge.to
  pub waits : after.waits ≡ top.waits

-- a call is entered: the new frame is at the callee's start, to which the call contributes
pub record Enters (p : Program) (t : TableValue) (top : Frame) (key : Key) (number : ℕ) (callee : Frame) (entry : Key) : Type 0 where
  pub edge : Edge
  pub destination : Option ℕ
  pub args : List Expr
  pub state : StateValue
  pub there : edge_at p top.func number ≡ Some edge
  pub leaves : edge.from ≡ top.node
  pub calls : edge.act ≡ Call destination callee.func args
  pub effects : (outcome_of p t top.func key edge).effects ≡ record { target = Point callee.func entry 0; value = State state } ∷ []
  pub node : callee.node ≡ 0
  pub waits : callee.waits ≡ None

-- a frame returns: it is at its exit, and the caller goes to the end of the call at which it waits,
-- which the call's transfer reaches
pub record Returns (p : Program) (t : TableValue) (top caller : Frame) (own : Key) (back : Frame) : Type 0 where
  pub number : ℕ
  pub edge : Edge
  pub destination : Option ℕ
  pub args : List Expr
  pub at_exit : top.node ≡ 1
  pub waits : caller.waits ≡ Some number
  pub there : edge_at p caller.func number ≡ Some edge
  pub leaves : edge.from ≡ caller.node
  pub calls : edge.act ≡ Call destination top.func args
  pub reached : is_reached (outcome_of p t caller.func own edge).value ≡ true
  pub func : back.func ≡ caller.func
  pub node : back.node ≡ edge.to
  pub rests : back.waits ≡ None

abbrev pub Goes : Program → TableValue → List Frame → List Key → Label → List Frame → List Key → Type 0
Goes p t (top ∷ below) (key ∷ keys) (Do number) mine after = (frame : Frame) × (mine ≡ frame ∷ below) × (after ≡ key ∷ keys) × Does p t top key number frame
Goes p t (top ∷ below) (key ∷ keys) (Enter number) mine after =
    (callee : Frame) × (entry : Key) × (mine ≡ callee ∷ record top { waits = Some number } ∷ below) × (after ≡ entry ∷ key ∷ keys) × Enters p t top key number callee entry
Goes p t (top ∷ caller ∷ below) (key ∷ own ∷ keys) Leave mine after = (back : Frame) × (mine ≡ back ∷ below) × (after ≡ own ∷ keys) × Returns p t top caller own back
Goes p t frames keys label mine after = ⊥

-- a step of a thread of which the table knows the frames, in these contexts
pub record StepsTo (p : Program) (t : TableValue) (c : Config Frame) (thread : ℕ) (frames : List Frame) (keys : List Key) (label : Label) (next : Config Frame) : Type 0 where
  pub mine : List Frame
  pub effect : Effect Frame
  pub after : List Key
  pub may : MayChange c.owners thread effect
  pub leads : after_effect c thread mine effect ≡ next
  pub globals : DescribesGlobals p t (after_effect c thread mine effect)
  pub starts : IfStarts effect (λ (frame : Frame). DescribesFrame p c.owners (next_thread c) (state_at p t frame.func empty_key frame.node) frame)
  pub fresh : IfStarts effect (λ (frame : Frame). (frame.node ≡ 0) × (frame.waits ≡ None))
  pub own : KnowsThread p t (after_effect c thread mine effect).owners thread mine after
  pub goes : Goes p t frames keys label mine after
