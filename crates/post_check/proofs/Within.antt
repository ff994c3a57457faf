-- Functions and globals of a shaped table's unknowns, and what its points get.
use Rattle.std.proofs.Common.{◌≡◌, sym, subst, zero, suc, ℕ, ◌<◌, Option, None, Some, length, refl, arith, slice_get}
use Rattle.std.specs.Prelude.{All, IsSomeAnd}
use Rattle.std.proofs.lemmas.List.Elements.{All-weaker}
use Rattle.std.proofs.lemmas.Option.{slice_get_within}
use Rattle.gob_tree.specs.Formed.{IsFormed}
use Rattle.gob_tree.specs.declared.graph.FuncGraph.{FuncGraph}
use Rattle.gob_tree.specs.declared.graph.Program.{Program}
use Rattle.gob_tree.specs.declared.unit.GlobalDecl.{GlobalDecl}
use Rattle.constraint_sys.specs.declared.unknown.Key.{Key}
use Rattle.constraint_sys.specs.declared.unknown.Unknown.{Unknown}
use Rattle.constraint_sys.specs.declared.unknown.Unknown.TheVariants.{Point, Global}
use Rattle.constraint_sys.specs.declared.value.Contribution.{Contribution}
use Rattle.constraint_sys.specs.declared.value.Effect.{Effect}
use Rattle.constraint_sys.specs.declared.value.Value.{Value}
use Rattle.constraint_sys.specs.declared.value.Value.TheVariants.{State, Number}
use Rattle.constraint_sys.specs.Contribution.{contribution_at, contribution_of}
use Rattle.constraint_sys.specs.Sound.{CanTurn, IsShaped, IsShapedEntry}
use Rattle.constraint_sys.specs.Table.{TableValue, IsThere, nodes_at, nodes_of_function, value_at}
use Rattle.constraint_sys.proofs.Contributing.{contribution_fits}
use Rattle.constraint_sys.proofs.Entries.{there_value}
use Rattle.constraint_sys.proofs.Fitting.{IsFitEffect}

node_within : (p : Program) (f : ℕ) (key : Key) (node : ℕ) (v : Value) → IsShapedEntry p (Point f key node) v → node < length (nodes_at p f)
node_within p f key node (State s) fits = fits.within
node_within p f key node (Number x) fits = absurd fits

function_by : (p : Program) (f n : ℕ) (o : Option FuncGraph) → slice_get p.funcs f ≡ o → n < length (nodes_of_function o) → f < length p.funcs
function_by p f n None at inside = absurd (omega (arith, inside))
function_by p f n (Some function) at inside = slice_get_within p.funcs f function at

pub function_within : (p : Program) (t : TableValue) (f : ℕ) (key : Key) (node : ℕ) → IsShaped p t → IsThere t (Point f key node) → f < length p.funcs
function_within p t f key node shaped there =
    let found = there_value (value_at t (Point f key node)) there in
    function_by p f node (slice_get p.funcs f) refl (node_within p f key node found.0 (shaped (Point f key node) found.0 found.1))

global_by : (p : Program) (g : ℕ) (P : GlobalDecl → Type 0) (o : Option GlobalDecl) → slice_get p.globals g ≡ o → IsSomeAnd o P → g < length p.globals
global_by p g P None at there = absurd there
global_by p g P (Some decl) at there = slice_get_within p.globals g decl at

global_fits : (p : Program) (g : ℕ) (v : Value) → IsShapedEntry p (Global g) v → g < length p.globals
global_fits p g (State s) fits = absurd fits
global_fits p g (Number x) fits = global_by p g _ (slice_get p.globals g) refl fits

pub global_within : (p : Program) (t : TableValue) (g : ℕ) → IsShaped p t → IsThere t (Global g) → g < length p.globals
global_within p t g shaped there =
    let found = there_value (value_at t (Global g)) there in
    global_fits p g found.0 (shaped (Global g) found.0 found.1)

-- ---- what a point gets fits
pub own_fits : (p : Program) → IsFormed p → (t : TableValue) → IsShaped p t → (u : Unknown) → CanTurn t u → (c : Contribution) → c ≡ contribution_at p t u
    → IsShapedEntry p u (State c.value) × All (λ (e : Effect). IsShapedEntry p e.target e.value) c.effects
own_fits p formed t shaped (Point f key zero) can c is = absurd can
own_fits p formed t shaped (Point f key (suc node)) can c is =
    let found = there_value (value_at t (Point f key (suc node))) can in
    let fit = contribution_fits p formed t shaped f key (suc node) found.0 found.1 in
    subst (λ (d : Contribution). IsShapedEntry p (Point f key (suc node)) (State d.value) × All (λ (e : Effect). IsShapedEntry p e.target e.value) d.effects) (sym is)
    (fit.value, All-weaker (IsFitEffect p) (λ (e : Effect). IsShapedEntry p e.target e.value) (λ e one. one.fits) (contribution_of p t f key (suc node)).effects fit.effects)
own_fits p formed t shaped (Global g) can c is = absurd can
