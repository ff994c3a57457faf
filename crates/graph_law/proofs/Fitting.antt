-- No step gives a global a number beyond its width.
use Rattle.std.proofs.Common.{◌≡◌, refl, subst, ℕ, zero, suc, ℤ, ◌≤ℤ◌, Bool, true, false, List, [], ◌∷◌, map, Option, None, Some, Result, Ok, Err, arith}
use Rattle.std.specs.Prelude.{if◌then◌else◌, int_le, slice_set, slice_index_or, IsTrue, All}
use Rattle.std.specs.List.{AllByRecursion}
use Rattle.std.proofs.lemmas.Int.{ints, SFits-int_wrap}
use Rattle.gob_tree.specs.Widths.{fits, lowest, greatest}
use Rattle.gob_tree.specs.declared.expr.Width.{Width}
use Rattle.gob_tree.specs.declared.expr.Width.TheVariants.{W32, W64}
use Rattle.gob_tree.specs.declared.stmt.Target.{Target}
use Rattle.gob_tree.specs.declared.stmt.Stmt.{Stmt}
use Rattle.gob_tree.specs.declared.stmt.Stmt.TheOpen.{Stmt-F}
use Rattle.gob_tree.specs.declared.stmt.Placed.{Placed}
use Rattle.gob_tree.specs.declared.unit.GlobalDecl.{GlobalDecl}
use Rattle.gob_tree.specs.declared.unit.Unit.{Unit as TranslationUnit}
use Rattle.c_meaning.specs.declared.demand.Demand.{Demand}
use Rattle.c_meaning.specs.declared.demand.Demand.TheVariants.{Global, Nondet, Call, Fault}
use Rattle.c_meaning.specs.declared.config.Choice.{Choice}
use Rattle.c_meaning.specs.declared.config.Todo.{Todo}
use Rattle.c_meaning.specs.declared.config.Todo.TheVariants.{Stmt as Doing, Test, Last}
use Rattle.c_meaning.specs.Demand.{bits_of, conversion, is_zero}
use Rattle.c_meaning.specs.Config.{Config, Effect, Keeps, SetsGlobal, SetsOwner, Starts, after_effect, global_width, thread_at, owner_at, owner_after_lock, owner_after_unlock}
use Rattle.c_meaning.specs.Tree.{Frame, FrameStep, Goes, Waits, Fails, Site, layer_of, only, pass_step, owner_step, join_step, stmt_step, last_step, todo_step, front_step, frame_step, front_demand, has_ended, outcome_of, thread_step, TreeStep, MovesTo, IsBlocked, IsFaulted, IsEnded, HasNoThread, first_tree}
use Rattle.c_meaning.specs.Run.{chosen, if_moved, moved_from}
use Rattle.graph_law.specs.Fitting.{FitEach, GlobalsFit}

-- ---- widths

test_passes : (a b : ℤ) → a ≤ℤ b → int_le a b ≡ true
test_passes a b h = grind (arith, ints, h)

conversion_fits : (w : Width) (n : ℤ) → IsTrue (fits w (conversion w n))
conversion_fits W32 n = let f = SFits-int_wrap (bits_of W32) n in within W32 (conversion W32 n) (omega (arith, ints, f)) (omega (arith, ints, f))
  where
    within : (w : Width) (m : ℤ) → lowest w ≤ℤ m → m ≤ℤ greatest w → IsTrue (fits w m)
    within w m low high = rw (test_passes (lowest w) m low, test_passes m (greatest w) high) refl
conversion_fits W64 n = let f = SFits-int_wrap (bits_of W64) n in within W64 (conversion W64 n) (omega (arith, ints, f)) (omega (arith, ints, f))
  where
    within : (w : Width) (m : ℤ) → lowest w ≤ℤ m → m ≤ℤ greatest w → IsTrue (fits w m)
    within w m low high = rw (test_passes (lowest w) m low, test_passes m (greatest w) high) refl

pub by_parts : {A : Type 0} (P : A → Type 0) (xs : List A) → All P xs → AllByRecursion P xs
by_parts P [] a = tt
by_parts P (x ∷ xs) a = (a 0 x (omega arith), by_parts P xs (λ k d h. a (suc k) d (omega (arith, h))))

pub fit_initials : (gs : List GlobalDecl) → AllByRecursion (λ (g : GlobalDecl). IsTrue (fits g.width g.initial)) gs → FitEach gs (map (λ (g : GlobalDecl). g.initial) gs)
fit_initials [] a = tt
fit_initials (g ∷ gs) a = (a.0, fit_initials gs a.1)

fit_set : (gs : List GlobalDecl) (ns : List ℤ) (k : ℕ) (n : ℤ) → FitEach gs ns → IsTrue (fits (global_width gs k) n) → FitEach gs (slice_set ns k n)
fit_set [] [] k n a h = tt
fit_set [] (m ∷ ns) k n a h = absurd a
fit_set (g ∷ gs) [] k n a h = absurd a
fit_set (g ∷ gs) (m ∷ ns) zero n a h = (h, a.1)
fit_set (g ∷ gs) (m ∷ ns) (suc k) n a h = (a.0, fit_set gs ns k n a.1 h)

-- ---- steps

FitsEffect : TranslationUnit → Effect Frame → Type 0
FitsEffect unit Keeps = Unit {0}
FitsEffect unit (SetsGlobal g n) = IsTrue (fits (global_width unit.globals g) n)
FitsEffect unit (SetsOwner m owner) = Unit {0}
FitsEffect unit (Starts frame) = Unit {0}

FitsStep : TranslationUnit → FrameStep → Type 0
FitsStep unit (Goes frames effect) = FitsEffect unit effect
FitsStep unit Waits = Unit {0}
FitsStep unit Fails = Unit {0}

owner_fits : (s : Site) (m : ℕ) (next : List Todo) (otherwise : FrameStep) (o : Option (Option ℕ)) → FitsStep s.unit otherwise → FitsStep s.unit (owner_step s m next otherwise o)
unfolding FitsStep FitsEffect
owner_fits s m next otherwise None h = h
owner_fits s m next otherwise (Some owner) h = tt

if_fits : (s : Site) (b : Bool) (next : List Todo) (otherwise : FrameStep) → FitsStep s.unit otherwise → FitsStep s.unit (if b then pass_step s next else otherwise)
unfolding FitsStep FitsEffect
if_fits s true next otherwise h = tt
if_fits s false next otherwise h = h

unless_fits : (s : Site) (b : Bool) (next : List Todo) → FitsStep s.unit (if b then Fails else pass_step s next)
unfolding FitsStep FitsEffect
unless_fits s true next = tt
unless_fits s false next = tt

join_fits : (s : Site) (o : Option ℕ) (next : List Todo) → FitsStep s.unit (join_step s o next)
unfolding FitsStep
join_fits s None next = tt
join_fits s (Some t) next = if_fits s (has_ended s.config t) next Waits tt

stmt_fits : (l : Stmt-F Stmt Placed) (own : Placed) (rest : List Todo) (s : Site) (values : List ℤ) → FitsStep s.unit (stmt_step l own rest s values)
unfolding FitsStep FitsEffect
stmt_fits (Stmt-F.DeclareThread x) own rest s values = tt
stmt_fits (Stmt-F.CallOnly g args) own rest s values = tt
stmt_fits (Stmt-F.If e a b) own rest s values = tt
stmt_fits (Stmt-F.While e body) own rest s values = tt
stmt_fits (Stmt-F.DoWhile body e) own rest s values = tt
stmt_fits (Stmt-F.For first test last body) own rest s values = tt
stmt_fits (Stmt-F.Block all) own rest s values = tt
stmt_fits Stmt-F.Break own rest s values = tt
stmt_fits Stmt-F.Continue own rest s values = tt
stmt_fits (Stmt-F.Return e) own rest s values = tt
stmt_fits (Stmt-F.Create x g) own rest s values = tt
stmt_fits Stmt-F.Empty own rest s values = tt
stmt_fits (Stmt-F.Declare x None) own rest s values = tt
stmt_fits (Stmt-F.Declare x (Some e)) own rest s values = tt
stmt_fits (Stmt-F.Assign (Target.Local x) e) own rest s values = tt
stmt_fits (Stmt-F.Assign (Target.Global g) e) own rest s values = conversion_fits (global_width s.unit.globals g) (only values)
stmt_fits (Stmt-F.Join x) own rest s values = join_fits s (slice_index_or s.frame.vars x None) rest
stmt_fits (Stmt-F.Lock m) own rest s values = owner_fits s m rest Waits (owner_after_lock s.thread (owner_at s.config m)) tt
stmt_fits (Stmt-F.Unlock m) own rest s values = owner_fits s m rest Fails (owner_after_unlock s.thread (owner_at s.config m)) tt
stmt_fits (Stmt-F.Assert e) own rest s values = unless_fits s (is_zero (only values)) rest

last_fits : (l : Stmt-F Stmt Placed) (rest : List Todo) (s : Site) (values : List ℤ) → FitsStep s.unit (last_step l rest s values)
unfolding FitsStep FitsEffect
last_fits (Stmt-F.For first test (Some last) body) rest s values = stmt_fits (layer_of last) last rest s values
last_fits (Stmt-F.For first test None body) rest s values = tt
last_fits (Stmt-F.Declare x e) rest s values = tt
last_fits (Stmt-F.DeclareThread x) rest s values = tt
last_fits (Stmt-F.Assign to e) rest s values = tt
last_fits (Stmt-F.CallOnly g args) rest s values = tt
last_fits (Stmt-F.If e a b) rest s values = tt
last_fits (Stmt-F.While e body) rest s values = tt
last_fits (Stmt-F.DoWhile body e) rest s values = tt
last_fits (Stmt-F.Block all) rest s values = tt
last_fits Stmt-F.Break rest s values = tt
last_fits Stmt-F.Continue rest s values = tt
last_fits (Stmt-F.Return e) rest s values = tt
last_fits (Stmt-F.Create x g) rest s values = tt
last_fits (Stmt-F.Join x) rest s values = tt
last_fits (Stmt-F.Lock m) rest s values = tt
last_fits (Stmt-F.Unlock m) rest s values = tt
last_fits (Stmt-F.Assert e) rest s values = tt
last_fits Stmt-F.Empty rest s values = tt

todo_fits : (t : Todo) (rest : List Todo) (s : Site) (values : List ℤ) → FitsStep s.unit (todo_step t rest s values)
unfolding FitsStep FitsEffect
todo_fits (Doing p) rest s values = stmt_fits (layer_of p) p rest s values
todo_fits (Test p) rest s values = tt
todo_fits (Last p) rest s values = last_fits (layer_of p) rest s values

front_fits : (t : Todo) (rest : List Todo) (s : Site) (r : Result (List ℤ) Demand) → FitsStep s.unit (front_step t rest s r)
unfolding FitsStep FitsEffect
front_fits t rest s (Ok values) = todo_fits t rest s values
front_fits t rest s (Err (Global g)) = tt
front_fits t rest s (Err (Nondet w)) = tt
front_fits t rest s (Err (Call g args)) = tt
front_fits t rest s (Err Fault) = tt

frame_fits : (todo : List Todo) (s : Site) → FitsStep s.unit (frame_step todo s)
unfolding FitsStep FitsEffect
frame_fits [] s = tt
frame_fits (t ∷ rest) s = front_fits t rest s (front_demand s.unit s.frame)

-- ---- runs

effect_fits : (unit : TranslationUnit) (c : Config Frame) (t : ℕ) (frames : List Frame) (effect : Effect Frame) → FitEach unit.globals c.globals → FitsEffect unit effect → FitEach unit.globals (after_effect c t frames effect).globals
unfolding FitsEffect
effect_fits unit c t frames Keeps a h = a
effect_fits unit c t frames (SetsGlobal g n) a h = fit_set unit.globals c.globals g n a h
effect_fits unit c t frames (SetsOwner m owner) a h = a
effect_fits unit c t frames (Starts frame) a h = a

outcome_fits : (unit : TranslationUnit) (c : Config Frame) (t : ℕ) (s : FrameStep) (next : Config Frame) → FitEach unit.globals c.globals → FitsStep unit s → outcome_of c t s ≡ MovesTo next → FitEach unit.globals next.globals
unfolding FitsStep
outcome_fits unit c t (Goes frames effect) next a h e = let same : after_effect c t frames effect ≡ next = cc in subst (λ (n : Config Frame). FitEach unit.globals n.globals) same (effect_fits unit c t frames effect a h)
outcome_fits unit c t Waits next a h e = cc
outcome_fits unit c t Fails next a h e = cc

unless_ended : (unit : TranslationUnit) (c : Config Frame) (t : ℕ) (ended : Bool) (s : FrameStep) (next : Config Frame) → FitEach unit.globals c.globals → FitsStep unit s → (if ended then IsEnded else outcome_of c t s) ≡ MovesTo next → FitEach unit.globals next.globals
unless_ended unit c t true s next a h e = cc
unless_ended unit c t false s next a h e = outcome_fits unit c t s next a h e

pub thread_fits : (unit : TranslationUnit) (c : Config Frame) (t : ℕ) (input : ℤ) (frames : Option (List Frame)) (next : Config Frame) → FitEach unit.globals c.globals → thread_step unit c t input frames ≡ MovesTo next → FitEach unit.globals next.globals
thread_fits unit c t input None next a e = cc
thread_fits unit c t input (Some []) next a e = cc
thread_fits unit c t input (Some (frame ∷ below)) next a e =
    let s : Site = record { unit = unit; config = c; thread = t; input = input; frame = frame; below = below } in
    unless_ended unit c t (has_ended c 1) (frame_step frame.todo s) next a (frame_fits frame.todo s) e

run_fits : (unit : TranslationUnit) (choices : List Choice) (c last : Config Frame) → FitEach unit.globals c.globals → moved_from unit c choices ≡ Some last → FitEach unit.globals last.globals
run_fits unit [] c last a e = let same : c ≡ last = cc in subst (λ (n : Config Frame). FitEach unit.globals n.globals) same a
run_fits unit (choice ∷ choices) c last a e = go (chosen unit c choice) (λ next q. thread_fits unit c choice.thread choice.input (thread_at c.threads choice.thread) next a q) (λ next b q. run_fits unit choices next last b q) e
  where
    go : (s : TreeStep) → ((next : Config Frame) → s ≡ MovesTo next → FitEach unit.globals next.globals) → ((next : Config Frame) → FitEach unit.globals next.globals → moved_from unit next choices ≡ Some last → FitEach unit.globals last.globals)
        → if_moved s (λ next. moved_from unit next choices) ≡ Some last → FitEach unit.globals last.globals
    go (MovesTo next) fit later q = later next (fit next refl) q
    go IsBlocked fit later q = cc
    go IsFaulted fit later q = cc
    go IsEnded fit later q = cc
    go HasNoThread fit later q = cc

pub globals_fit : GlobalsFit
globals_fit unit choices last made run =
    run_fits unit choices (first_tree unit) last
    (fit_initials unit.globals (by_parts (λ (g : GlobalDecl). IsTrue (fits g.width g.initial)) unit.globals made.initials_fit)) run
