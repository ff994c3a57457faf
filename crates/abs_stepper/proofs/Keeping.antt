-- Steps keep positions: some thread is left, ids differ, and all tops stand at one node.
use Rattle.std.proofs.Common.{◌≡◌, ◌<◌, ◌-◌, ◌++◌, inl, inr, ℕ, nat_eq, ◌&&◌, Bool, true, false, cond, true≢false, List, [], ◌∷◌, Option, None, Some, length, take, refl, sym, ap, subst, ◌∙◌, append_assoc, arith}
use Rattle.std.specs.Prelude.{Contains, IsSome, IsSomeAnd, filter_map}
use Rattle.std.specs.List.{AllByRecursion, IsDistinct, cons_option}
use Rattle.std.specs.Option.{option_eq, option_map}
use Rattle.std.proofs.lemmas.Bool.Decides.{nat_tests}
use Rattle.std.proofs.lemmas.Map.Keys.{IsDistinct-cons, IsDistinct-head, IsDistinct-tail}
use Rattle.std.proofs.lemmas.Option.{none-some, same_Some}
use Rattle.gob_tree.specs.declared.graph.Program.{Program}
use Rattle.constraint_sys.specs.Table.{TableValue}
use Rattle.constraint_sys.proofs.Ordered.{Contains-cases, Contains-head, Contains-nil, Contains-tail}
use Rattle.arg_graph.specs.Following.{Offers, StackValue, goes_on, left, moved, returned, rooted, stepped_frames, target_of, top_frame, top_of, waiting_frame}
use Rattle.arg_graph.specs.declared.graph.Graph.{Graph}
use Rattle.arg_graph.specs.Graphs.{IsGraphOf, offered_in}
use Rattle.arg_graph.specs.declared.stack.Frame.{Frame}
use Rattle.arg_graph.specs.declared.vertex.Label.{Label}
use Rattle.arg_graph.specs.declared.vertex.Label.TheVariants.{Do, Over, Enter, Thread as ThreadOf, Leave}
use Rattle.arg_graph.specs.declared.vertex.Vertex.{Vertex}
use Rattle.abs_stepper.specs.declared.position.Thread.{Thread}
use Rattle.abs_stepper.specs.Positions.{IsPosition, StandTogether, StandsAt, ids_of, stack_of}
use Rattle.abs_stepper.specs.Stepping.{caller_of, goes_along, moved_along, returned_along, same_call, with_stack}
use Rattle.arg_graph.proofs.Tops.{IsStep, last_there, moved-last, stepped_to, top_of-last}
use Rattle.abs_stepper.proofs.Edges.{same_end}

-- ---- lists of which some are left out

module _ {X Y : Type 0} (f : X → Option Y) where
  kept_case : (x : X) (o : Option Y) (xs : List X) (y : Y) → f x ≡ o → ((z : X) × Contains xs z × (f z ≡ Some y) → (z : X) × Contains (x ∷ xs) z × (f z ≡ Some y)) → (Contains (filter_map f xs) y → (z : X) × Contains xs z × (f z ≡ Some y)) → Contains (cons_option o (filter_map f xs)) y → (z : X) × Contains (x ∷ xs) z × (f z ≡ Some y)
  kept_case x None xs y is more later one = more (later one)
  kept_case x (Some w) xs y is more later one = elim (Contains-cases w y (filter_map f xs) one) [
    | inl same ↦ (x, Contains-head x xs, is ∙ ap Some (sym same))
    | inr rest ↦ more (later rest)
  ]

  -- what is kept comes from the list
  pub kept_from : (xs : List X) (y : Y) → Contains (filter_map f xs) y → (x : X) × Contains xs x × (f x ≡ Some y)
  kept_from [] y one = absurd (Contains-nil y one)
  kept_from (x ∷ xs) y one = kept_case x (f x) xs y refl (λ from. (from.0, Contains-tail x from.0 xs from.1, from.2)) (λ later. kept_from xs y later) one

  some_kept : (o : Option Y) (y : Y) (rest : List Y) → o ≡ Some y → 0 < length (cons_option o rest)
  some_kept None y rest is = absurd (none-some y is)
  some_kept (Some w) y rest is = omega arith

  still_some : (o : Option Y) (rest : List Y) → 0 < length rest → 0 < length (cons_option o rest)
  still_some None rest some = some
  still_some (Some w) rest some = omega arith

  pub kept_some : (xs : List X) (x : X) (y : Y) → Contains xs x → f x ≡ Some y → 0 < length (filter_map f xs)
  kept_some [] x y one is = absurd (Contains-nil x one)
  kept_some (z ∷ xs) x y one is = elim (Contains-cases z x xs one) [
    | inl same ↦ some_kept (f z) y (filter_map f xs) (ap f (sym same) ∙ is)
    | inr later ↦ still_some (f z) (filter_map f xs) (kept_some xs x y later is)
  ]

-- ---- ids

module _ (f : Thread → Option Thread) (keeps : (t u : Thread) → f t ≡ Some u → u.id ≡ t.id) where
  apart_kept : (id : ℕ) (ts : List Thread) → AllByRecursion (λ y. nat_eq id y ≡ false) (ids_of ts) → AllByRecursion (λ y. nat_eq id y ≡ false) (ids_of (filter_map f ts))
  apart_kept id [] all = all
  apart_kept id (t ∷ ts) all = by (f t) refl (apart_kept id ts all.1)
    where
      by : (o : Option Thread) → f t ≡ o → AllByRecursion (λ y. nat_eq id y ≡ false) (ids_of (filter_map f ts)) → AllByRecursion (λ y. nat_eq id y ≡ false) (ids_of (cons_option o (filter_map f ts)))
      by None is rest = rest
      by (Some u) is rest = (ap (nat_eq id) (keeps t u is) ∙ all.0, rest)

  pub ids_kept : (ts : List Thread) → IsDistinct nat_eq (ids_of ts) → IsDistinct nat_eq (ids_of (filter_map f ts))
  ids_kept [] apart = apart
  ids_kept (t ∷ ts) apart = by (f t) refl (ids_kept ts (IsDistinct-tail nat_eq t.id (ids_of ts) apart))
    where
      by : (o : Option Thread) → f t ≡ o → IsDistinct nat_eq (ids_of (filter_map f ts)) → IsDistinct nat_eq (ids_of (cons_option o (filter_map f ts)))
      by None is rest = rest
      by (Some u) is rest =
          subst (λ (n : ℕ). IsDistinct nat_eq (n ∷ ids_of (filter_map f ts))) (sym (keeps t u is))
          (IsDistinct-cons nat_eq t.id (ids_of (filter_map f ts)) (apart_kept t.id ts (IsDistinct-head nat_eq t.id (ids_of ts) apart)) rest)

-- ---- the named thread

pub thread_with : (ts : List Thread) (id : ℕ) (stack : StackValue) → stack_of ts id ≡ Some stack → (t : Thread) × Contains ts t × (t.stack ≡ stack)
thread_with [] id stack is = absurd (none-some stack is)
thread_with (t ∷ ts) id stack is = by (nat_eq t.id id) is (λ later. thread_with ts id stack later)
  where
    by : (b : Bool) → cond b (Some t.stack) (stack_of ts id) ≡ Some stack → (stack_of ts id ≡ Some stack → (u : Thread) × Contains ts u × (u.stack ≡ stack)) → (u : Thread) × Contains (t ∷ ts) u × (u.stack ≡ stack)
    by true found later = (t, Contains-head t ts, same_Some t.stack stack found)
    by false found later = (let rest = later found in (rest.0, Contains-tail t rest.0 ts rest.1, rest.2))

-- ---- tops of stacks that move

mapped_some : {A B : Type 0} (g : A → B) (o : Option A) (y : B) → option_map g o ≡ Some y → (x : A) × (o ≡ Some x) × (g x ≡ y)
mapped_some g None y is = absurd (none-some y is)
mapped_some g (Some x) y is = (x, refl, same_Some (g x) y is)

-- a frame more below leaves the top
top_under : (x : Frame) (stack : StackValue) (v : Vertex) → top_of stack ≡ Some v → top_of (x ∷ stack) ≡ Some v
top_under x [] v is = absurd (none-some v is)
top_under x (y ∷ rest) v is = is

top_of_rooted : (below : StackValue) (to : Vertex) → top_of (below ++ rooted to) ≡ Some to
top_of_rooted below to = top_of-last below (top_frame to)

top_of_stepped : (label : Label) (below : StackValue) (from to : Vertex) → top_of (stepped_frames label below from to) ≡ Some to
top_of_stepped (Do n) below from to = top_of_rooted below to
top_of_stepped (Over n) below from to = top_of_rooted below to
top_of_stepped (Enter n) below from to = ap top_of (sym (append_assoc below (waiting_frame from n ∷ []) (rooted to))) ∙ top_of_rooted (below ++ waiting_frame from n ∷ []) to
top_of_stepped (ThreadOf n) below from to = refl
top_of_stepped Leave below from to = top_of_rooted below to

-- where a stack's top goes by a label
abbrev pub TopGoes : Offers → Label → StackValue → StackValue → Type 0
TopGoes offers label stack new = (v : Vertex) × (to : Vertex) × (top_of stack ≡ Some v) × (target_of label (offers v) ≡ Some to) × (top_of new ≡ Some to)

stepped_some : (label : Label) (below : StackValue) (from : Vertex) (o : Option Vertex) (new : StackValue) → stepped_to label below from o ≡ Some new → (to : Vertex) × (o ≡ Some to) × (top_of new ≡ Some to)
stepped_some label below from None new is = absurd (none-some new is)
stepped_some label below from (Some to) new is = (to, refl, ap top_of (sym (same_Some (stepped_frames label below from to) new is)) ∙ top_of_stepped label below from to)

no_stack : (offers : Offers) (label : Label) → IsStep label → (new : StackValue) → moved offers label [] ≡ Some new → ⊥
no_stack offers (Do n) step new is = none-some new is
no_stack offers (Over n) step new is = none-some new is
no_stack offers (Enter n) step new is = none-some new is
no_stack offers (ThreadOf n) step new is = none-some new is
no_stack offers Leave step new is = step

pub top_goes : (offers : Offers) (label : Label) → IsStep label → (stack new : StackValue) → moved offers label stack ≡ Some new → TopGoes offers label stack new
top_goes offers label step [] new is = absurd (no_stack offers label step new is)
top_goes offers label step (y ∷ ys) new is =
    let last = last_there (y ∷ ys) (omega arith) in
    let below = take (length (y ∷ ys) - 1) (y ∷ ys) in
    let found = stepped_some label below last.0.vertex (target_of label (offers last.0.vertex)) new (sym (moved-last offers label step below last.0) ∙ ap (moved offers label) last.1 ∙ is) in
    (last.0.vertex, found.0, ap top_of (sym last.1) ∙ top_of-last below last.0, found.1, found.2)

-- where a caller goes on
abbrev CallerGoes : Offers → StackValue → StackValue → Type 0
CallerGoes offers stack new = (x : Frame) × (to : Vertex) × (caller_of stack ≡ Some x) × (goes_on offers x.vertex x.call ≡ Some to) × (top_of new ≡ Some to)

caller_goes : (offers : Offers) (stack new : StackValue) → returned offers stack ≡ Some new → CallerGoes offers stack new
caller_goes offers [] new is = absurd (none-some new is)
caller_goes offers (x ∷ []) new is = absurd (none-some new is)
caller_goes offers (x ∷ y ∷ []) new is =
    let found = mapped_some rooted (goes_on offers x.vertex x.call) new is in
    (x, found.0, refl, found.1, ap top_of (sym found.2))
caller_goes offers (x ∷ y ∷ z ∷ rest) new is =
    let found = mapped_some (λ (l : StackValue). x ∷ l) (returned offers (y ∷ z ∷ rest)) new is in
    let inner = caller_goes offers (y ∷ z ∷ rest) found.0 found.1 in
    (inner.0, inner.1, inner.2, inner.3, ap top_of (sym found.2) ∙ top_under x found.0 inner.1 inner.4)

if_some : (b : Bool) (o : Option StackValue) (new : StackValue) → cond b o None ≡ Some new → o ≡ Some new
if_some true o new is = is
if_some false o new is = absurd (none-some new is)

-- a stack that leaves also returns
pub left_returns : (offers : Offers) (stack new : StackValue) → left offers stack ≡ Some new → returned offers stack ≡ Some new
left_returns offers [] new is = absurd (none-some new is)
left_returns offers (x ∷ []) new is = absurd (none-some new is)
left_returns offers (x ∷ y ∷ []) new is = if_some (nat_eq y.vertex.node 1) (option_map rooted (goes_on offers x.vertex x.call)) new is
left_returns offers (x ∷ y ∷ z ∷ rest) new is =
    let found = mapped_some (λ (l : StackValue). x ∷ l) (left offers (y ∷ z ∷ rest)) new is in
    ap (option_map (λ (l : StackValue). x ∷ l)) (left_returns offers (y ∷ z ∷ rest) found.0 found.1) ∙ ap Some found.2

-- ---- two stacks at one node

module _ (p : Program) (t : TableValue) (g : Graph) (is : IsGraphOf p t g) where
  ends : (label : Label) (v w a b : Vertex) → v.func ≡ w.func → target_of label (offered_in g v) ≡ Some a → target_of label (offered_in g w) ≡ Some b → (a.func ≡ b.func) × (a.node ≡ b.node)
  ends label v w a b same first second = same_end p t label v w a b same (ap (target_of label) (sym (is.steps v)) ∙ first) (ap (target_of label) (sym (is.steps w)) ∙ second)

  -- tops that stand at one node go to one node
  together_moved : (label : Label) → IsStep label → (a b a' b' : StackValue) (f node : ℕ) → StandsAt f node a → StandsAt f node b → moved (offered_in g) label a ≡ Some a' → moved (offered_in g) label b ≡ Some b'
      → (v : Vertex) × (w : Vertex) × (top_of a' ≡ Some v) × (top_of b' ≡ Some w) × (w.func ≡ v.func) × (w.node ≡ v.node)
  together_moved label step a b a' b' f node at_a at_b first second =
      let x = top_goes (offered_in g) label step a a' first in
      let y = top_goes (offered_in g) label step b b' second in
      let fx : y.0.func ≡ x.0.func = func_of b y.0 f node y.2 at_b ∙ sym (func_of a x.0 f node x.2 at_a) in
      let end = ends label y.0 x.0 y.1 x.1 fx y.3 x.3 in
      (x.1, y.1, x.4, y.4, end.0, end.1)
    where
      func_of : (s : StackValue) (v : Vertex) (f node : ℕ) → top_of s ≡ Some v → StandsAt f node s → v.func ≡ f
      func_of s v f node top stands = by (top_of s) top stands
        where
          by : (o : Option Vertex) → o ≡ Some v → IsSomeAnd o (λ w. (w.func ≡ f) × (w.node ≡ node)) → v.func ≡ f
          by None e some = absurd (none-some v e)
          by (Some w) e some = ap (λ (u : Vertex). u.func) (sym (same_Some w v e)) ∙ some.0

  both_true : (x y : Bool) → x && y ≡ true → (x ≡ true) × (y ≡ true)
  both_true true y is = (refl, is)
  both_true false y is = absurd (true≢false (sym is))

  number_same : (m n : ℕ) → nat_eq m n ≡ true → m ≡ n
  number_same m n same = grind (arith, nat_tests)

  number_itself : (n : ℕ) → nat_eq n n ≡ true
  number_itself n = grind (arith, nat_tests)

  edge_same : (a b : Option ℕ) → option_eq nat_eq a b ≡ true → a ≡ b
  edge_same None None same = refl
  edge_same None (Some n) same = absurd (true≢false (sym same))
  edge_same (Some m) None same = absurd (true≢false (sym same))
  edge_same (Some m) (Some n) same = ap Some (number_same m n same)

  edge_itself : (a : Option ℕ) → option_eq nat_eq a a ≡ true
  edge_itself None = refl
  edge_itself (Some n) = number_itself n

  both_are : (x y : Bool) → x ≡ true → y ≡ true → x && y ≡ true
  both_are true y first second = second
  both_are false y first second = absurd (true≢false (sym first))

  call_itself : (x : Frame) → same_call (Some x) (Some x) ≡ true
  call_itself x = both_are (nat_eq x.vertex.func x.vertex.func) (option_eq nat_eq x.call x.call) (number_itself x.vertex.func) (edge_itself x.call)

  goes_ends : (v w to to' : Vertex) (call : Option ℕ) → w.func ≡ v.func → goes_on (offered_in g) v call ≡ Some to → goes_on (offered_in g) w call ≡ Some to' → (to'.func ≡ to.func) × (to'.node ≡ to.node)
  goes_ends v w to to' None same first second = absurd (none-some to first)
  goes_ends v w to to' (Some edge) same first second = ends (Over edge) w v to' to same second first

  -- stacks that go back to one call come to one node
  together_returned : (a b a' b' : StackValue) → same_call (caller_of a) (caller_of b) ≡ true → returned (offered_in g) a ≡ Some a' → returned (offered_in g) b ≡ Some b'
      → (v : Vertex) × (w : Vertex) × (top_of a' ≡ Some v) × (top_of b' ≡ Some w) × (w.func ≡ v.func) × (w.node ≡ v.node)
  together_returned a b a' b' same first second =
      let x = caller_goes (offered_in g) a a' first in
      let y = caller_goes (offered_in g) b b' second in
      let calls : same_call (Some x.0) (Some y.0) ≡ true = sym (ap (λ (o : Option Frame). same_call o (Some y.0)) x.2) ∙ sym (ap (same_call (caller_of a)) y.2) ∙ same in
      let parts = both_true (nat_eq x.0.vertex.func y.0.vertex.func) (option_eq nat_eq x.0.call y.0.call) calls in
      let func : y.0.vertex.func ≡ x.0.vertex.func = sym (number_same x.0.vertex.func y.0.vertex.func parts.0) in
      let end = goes_ends x.0.vertex y.0.vertex x.1 y.1 x.0.call func x.3 (ap (goes_on (offered_in g) y.0.vertex) (edge_same x.0.call y.0.call parts.1) ∙ y.3) in
      (x.1, y.1, x.4, y.4, end.0, end.1)

  -- ---- what goes along

  taken_by : (b : Bool) (id : ℕ) (o : Option StackValue) (u : Thread) → cond b (with_stack id o) None ≡ Some u → (b ≡ true) × (o ≡ Some u.stack) × (u.id ≡ id)
  taken_by false id o u is = absurd (none-some u is)
  taken_by true id o u is =
      let found = mapped_some (λ (new : StackValue). record { id = id; stack = new }) o u is in
      (refl, found.1 ∙ ap (λ (x : Thread). Some x.stack) found.2, ap (λ (x : Thread). x.id) (sym found.2))

  top_at : (new : StackValue) (v : Vertex) → top_of new ≡ Some v → (f node : ℕ) → v.func ≡ f → v.node ≡ node → StandsAt f node new
  top_at new v top f node func at = subst (λ (o : Option Vertex). IsSomeAnd o (λ w. (w.func ≡ f) × (w.node ≡ node))) (sym top) (func, at)

  same_vertex : (new : StackValue) (v w : Vertex) → top_of new ≡ Some v → top_of new ≡ Some w → v ≡ w
  same_vertex new v w first second = same_Some v w (sym first ∙ second)

  pub some_is : (o : Option StackValue) → IsSome o → (new : StackValue) × (o ≡ Some new)
  some_is None some = absurd (true≢false (sym some))
  some_is (Some new) some = (new, refl)

  -- what is kept of a position by a rule under which all come to the node of the named thread
  module _ (ts : List Thread) (position : IsPosition ts) (rule : Thread → Option Thread) (keeps : (t u : Thread) → rule t ≡ Some u → u.id ≡ t.id)
      (named : Thread) (among : Contains ts named) (u0 : Thread) (stays : rule named ≡ Some u0) (v0 : Vertex) (top0 : top_of u0.stack ≡ Some v0)
      (follow : (t u : Thread) → Contains ts t → rule t ≡ Some u → (w : Vertex) × (top_of u.stack ≡ Some w) × (w.func ≡ v0.func) × (w.node ≡ v0.node)) where
    kept_position : IsPosition (filter_map rule ts)
    kept_position = record {
      some = kept_some rule ts named u0 among stays;
      apart = ids_kept rule keeps ts position.apart;
      together = (
        v0.func,
        v0.node,
        λ u one.
            let from = kept_from rule ts u one in
            let at = follow from.0 u from.1 from.2 in
            top_at u.stack at.0 at.1 v0.func v0.node at.2 at.3,
      );
    }

  pub moved_keeps : (label : Label) (named : StackValue) (t u : Thread) → moved_along (offered_in g) label named t ≡ Some u → u.id ≡ t.id
  moved_keeps label named t u is = (taken_by (goes_along label named t.stack) t.id (moved (offered_in g) label t.stack) u is).2

  returned_keeps : (named : StackValue) (t u : Thread) → returned_along (offered_in g) named t ≡ Some u → u.id ≡ t.id
  returned_keeps named t u is = (taken_by (same_call (caller_of named) (caller_of t.stack)) t.id (returned (offered_in g) t.stack) u is).2

  -- a stack that goes back goes along with itself
  along_itself : (named new : StackValue) → returned (offered_in g) named ≡ Some new → same_call (caller_of named) (caller_of named) ≡ true
  along_itself named new is = (let x = caller_goes (offered_in g) named new is in ap (λ (o : Option Frame). same_call o o) x.2 ∙ call_itself x.0)

  pub moves_itself : (label : Label) (named new : StackValue) → moved (offered_in g) label named ≡ Some new → goes_along label named named ≡ true
  moves_itself (Do n) named new is = refl
  moves_itself (Over n) named new is = refl
  moves_itself (Enter n) named new is = refl
  moves_itself (ThreadOf n) named new is = refl
  moves_itself Leave named new is = along_itself named new (left_returns (offered_in g) named new is)

  follows_named : (label : Label) (ts : List Thread) → StandTogether ts → (named new : Thread) → Contains ts named → moved (offered_in g) label named.stack ≡ Some new.stack → (t u : Thread) → Contains ts t → goes_along label named.stack t.stack ≡ true → moved (offered_in g) label t.stack ≡ Some u.stack
      → (v : Vertex) × (w : Vertex) × (top_of new.stack ≡ Some v) × (top_of u.stack ≡ Some w) × (w.func ≡ v.func) × (w.node ≡ v.node)
  follows_named (Do n) ts at named new among is t u one along moves = together_moved (Do n) tt named.stack t.stack new.stack u.stack at.0 at.1 (at.2 named among) (at.2 t one) is moves
  follows_named (Over n) ts at named new among is t u one along moves = together_moved (Over n) tt named.stack t.stack new.stack u.stack at.0 at.1 (at.2 named among) (at.2 t one) is moves
  follows_named (Enter n) ts at named new among is t u one along moves = together_moved (Enter n) tt named.stack t.stack new.stack u.stack at.0 at.1 (at.2 named among) (at.2 t one) is moves
  follows_named (ThreadOf n) ts at named new among is t u one along moves = together_moved (ThreadOf n) tt named.stack t.stack new.stack u.stack at.0 at.1 (at.2 named among) (at.2 t one) is moves
  follows_named Leave ts at named new among is t u one along moves = together_returned named.stack t.stack new.stack u.stack along (left_returns (offered_in g) named.stack new.stack is) (left_returns (offered_in g) t.stack u.stack moves)

  pub with_new : (t : Thread) (b : Bool) (o : Option StackValue) (new : StackValue) → b ≡ true → o ≡ Some new → cond b (with_stack t.id o) None ≡ Some (record { id = t.id; stack = new })
  with_new t b o new along is = ap (λ (c : Bool). cond c (with_stack t.id o) None) along ∙ ap (with_stack t.id) is

  pub step_keeps : (ts : List Thread) (id : ℕ) (label : Label) (named : StackValue) → IsPosition ts → stack_of ts id ≡ Some named → IsSome (moved (offered_in g) label named) → IsPosition (filter_map (moved_along (offered_in g) label named) ts)
  step_keeps ts id label named position there some =
      let t0 = thread_with ts id named there in
      let new = some_is (moved (offered_in g) label named) some in
      let u0 : Thread = record { id = t0.0.id; stack = new.0 } in
      let moves : moved (offered_in g) label t0.0.stack ≡ Some new.0 = ap (moved (offered_in g) label) t0.2 ∙ new.1 in
      let own : goes_along label named t0.0.stack ≡ true = ap (goes_along label named) t0.2 ∙ moves_itself label named new.0 new.1 in
      let stays : moved_along (offered_in g) label named t0.0 ≡ Some u0 = with_new t0.0 (goes_along label named t0.0.stack) (moved (offered_in g) label t0.0.stack) new.0 own moves in
      let first = follows_named label ts position.together t0.0 u0 t0.1 moves t0.0 u0 t0.1 (ap (λ (s : StackValue). goes_along label s t0.0.stack) t0.2 ∙ own) moves in
      kept_position ts position (moved_along (offered_in g) label named) (moved_keeps label named) t0.0 t0.1 u0 stays first.0 first.2 (λ t u one is.
      let parts = taken_by (goes_along label named t.stack) t.id (moved (offered_in g) label t.stack) u is in
      let both = follows_named label ts position.together t0.0 u0 t0.1 moves t u one (ap (λ (s : StackValue). goes_along label s t.stack) t0.2 ∙ parts.0) parts.1 in
      let top : both.0 ≡ first.0 = same_vertex new.0 both.0 first.0 both.2 first.2 in
      (both.1, both.3, both.4 ∙ ap (λ (v : Vertex). v.func) top, both.5 ∙ ap (λ (v : Vertex). v.node) top))

  pub out_keeps : (ts : List Thread) (id : ℕ) (named : StackValue) → IsPosition ts → stack_of ts id ≡ Some named → IsSome (returned (offered_in g) named) → IsPosition (filter_map (returned_along (offered_in g) named) ts)
  out_keeps ts id named position there some =
      let t0 = thread_with ts id named there in
      let new = some_is (returned (offered_in g) named) some in
      let u0 : Thread = record { id = t0.0.id; stack = new.0 } in
      let moves : returned (offered_in g) t0.0.stack ≡ Some new.0 = ap (returned (offered_in g)) t0.2 ∙ new.1 in
      let own : same_call (caller_of named) (caller_of t0.0.stack) ≡ true = ap (λ (s : StackValue). same_call (caller_of named) (caller_of s)) t0.2 ∙ along_itself named new.0 new.1 in
      let stays : returned_along (offered_in g) named t0.0 ≡ Some u0 = with_new t0.0 (same_call (caller_of named) (caller_of t0.0.stack)) (returned (offered_in g) t0.0.stack) new.0 own moves in
      let first = caller_goes (offered_in g) t0.0.stack new.0 moves in
      kept_position ts position (returned_along (offered_in g) named) (returned_keeps named) t0.0 t0.1 u0 stays first.1 first.4 (λ t u one is.
      let parts = taken_by (same_call (caller_of named) (caller_of t.stack)) t.id (returned (offered_in g) t.stack) u is in
      let both = together_returned named t.stack new.0 u.stack parts.0 new.1 parts.1 in
      let top : both.0 ≡ first.1 = same_vertex new.0 both.0 first.1 both.2 first.4 in
      (both.1, both.3, both.4 ∙ ap (λ (v : Vertex). v.func) top, both.5 ∙ ap (λ (v : Vertex). v.node) top))
