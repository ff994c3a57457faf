-- What fits an unknown of the old program fits it under the new numbers.
use Rattle.std.proofs.Common.{◌≡◌, ◌↔◌, inl, inr, ℕ, ◌<◌, ◌≤◌, List, length, Option, sym, ap, subst, ◌∙◌, arith}
use Rattle.std.specs.Prelude.{IsSomeAnd, slice_get}
use Rattle.std.proofs.lemmas.Option.{slice_get_within}
use Rattle.gob_tree.specs.Formed.{IsFormed, IsThreadFunction}
use Rattle.gob_tree.specs.Named.{NamedGraph, SameFunction}
use Rattle.gob_tree.specs.declared.graph.FuncGraph.{FuncGraph}
use Rattle.gob_tree.specs.declared.graph.Program.{Program}
use Rattle.gob_tree.specs.declared.unit.FuncKind.TheVariants.{Thread}
use Rattle.gob_tree.specs.declared.unit.GlobalDecl.{GlobalDecl}
use Rattle.gob_tree.specs.declared.unit.Slot.{Slot}
use Rattle.interval_dom.specs.Bounds.{Bounds, Covers}
use Rattle.interval_dom.specs.Ranges.{full}
use Rattle.lockset_dom.specs.Members.{no_locks}
use Rattle.state_dom.specs.Operators.{interval_width_of}
use Rattle.state_dom.specs.StateValue.{StateValue, Bottom, Reached, FitsEach, HasShape, locks_of}
use Rattle.constraint_sys.specs.declared.unknown.ArgKey.{ArgKey}
use Rattle.constraint_sys.specs.declared.unknown.ArgKey.TheVariants.{Absent}
use Rattle.constraint_sys.specs.declared.unknown.Key.{Key}
use Rattle.constraint_sys.specs.declared.unknown.Unknown.{Unknown}
use Rattle.constraint_sys.specs.declared.unknown.Unknown.TheVariants.{Point, Global}
use Rattle.constraint_sys.specs.declared.value.Value.{Value}
use Rattle.constraint_sys.specs.declared.value.Value.TheVariants.{State, Number}
use Rattle.constraint_sys.specs.Carry.{Carries, IsRemoved, RenamesLocks, node_of_removed}
use Rattle.constraint_sys.specs.PostSolution.{IsPostSolution}
use Rattle.constraint_sys.specs.Sound.{IsKeyOf, IsMutexSet, IsShapedEntry}
use Rattle.constraint_sys.specs.Table.{TableValue, IsThere, empty_key, main_start, nodes_at, nodes_of_function, params_at, slots_at}
use Rattle.constraint_sys.specs.Turn.{Solving}
use Rattle.constraint_sys.proofs.Shaping.{no_mutex}
use Rattle.carry_law.proofs.Mains.{start_is_main}
use Rattle.carry_law.proofs.Naming.{are_one, same_global, same_mutex}
use Rattle.carry_law.proofs.Renamed.{IsRenamed, IsRenamedValue}
use Rattle.carry_law.proofs.RenamedStates.{IsRenamedState}
use Rattle.carry_law.proofs.Renaming.{new_locks, no_locks_renamed}
use Rattle.carry_law.proofs.Transfers.{same_params, same_slots}

module _ (old new : Program) where
  pub same_nodes : (f g : ℕ) → SameFunction old f new g → length (nodes_at old f) ≡ length (nodes_at new g)
  same_nodes f g same =
      let one = are_one old f new g same in
      ap (λ (o : Option FuncGraph). length (nodes_of_function o)) one.at ∙ ap (λ (x : NamedGraph). x.nodes) one.same ∙ sym (ap (λ (o : Option FuncGraph). length (nodes_of_function o)) one.stands)

  thread_before : (f g : ℕ) → SameFunction old f new g → IsSomeAnd (slice_get new.funcs g) IsThreadFunction → IsSomeAnd (slice_get old.funcs f) IsThreadFunction
  thread_before f g same thread =
      let one = are_one old f new g same in
      let kind : one.there.kind ≡ Thread = subst (λ (o : Option FuncGraph). IsSomeAnd o IsThreadFunction) one.stands thread in
      subst (λ (o : Option FuncGraph). IsSomeAnd o IsThreadFunction) (sym one.at) (ap (λ (x : NamedGraph). x.kind) one.same ∙ kind)

  mutexes_over : (a b : ℕ) → RenamesLocks old new a b → IsMutexSet new b
  mutexes_over a b locks m held =
      let found = (locks m).0 held in
      let both = same_mutex old found.0 new m found.2 in
      slice_get_within new.mutexes m both.0 both.2

  state_mutexes : (s r : StateValue) → IsRenamedState old new s r → IsMutexSet new (locks_of r)
  state_mutexes (Bottom room) (Bottom other) same = no_mutex new
  state_mutexes (Bottom room) (Reached ys others) same = absurd same
  state_mutexes (Reached xs locks) (Bottom other) same = absurd same
  state_mutexes (Reached xs locks) (Reached ys others) same = mutexes_over locks others same.1

  shape_over : (slots : List Slot) (s r : StateValue) → IsRenamedState old new s r → HasShape slots s → HasShape slots r
  shape_over slots (Bottom room) (Bottom other) same shape = sym same ∙ shape
  shape_over slots (Bottom room) (Reached ys others) same shape = absurd same
  shape_over slots (Reached xs locks) (Bottom other) same shape = absurd same
  shape_over slots (Reached xs locks) (Reached ys others) same shape = subst (FitsEach slots) same.0 shape

  global_over : (g h : ℕ) (x y : Bounds) → IsRenamed old new (Global g) (Global h) → x ≡ y → IsShapedEntry old (Global g) (Number x) → IsShapedEntry new (Global h) (Number y)
  global_over g h x y same value fits =
      let decls = same_global old g new h same in
      let old_fits : Covers (full (interval_width_of decls.0.width)) x = subst (λ (o : Option GlobalDecl). IsSomeAnd o (λ (d : GlobalDecl). Covers (full (interval_width_of d.width)) x)) decls.1 fits in
      subst (λ (o : Option GlobalDecl). IsSomeAnd o (λ (d : GlobalDecl). Covers (full (interval_width_of d.width)) y)) (sym decls.2)
      (subst (λ (z : Bounds). Covers (full (interval_width_of decls.0.width)) z) value old_fits)

-- ---- contexts

module _ (old new : Program) (old_formed : IsFormed old) (new_formed : IsFormed new) (t : TableValue) (post : IsPostSolution old t) (s : Solving) (c : Carries old new t s) where
  -- a start stays with each of its nodes
  pub start_there : (f : ℕ) (key : Key) (node : ℕ) → IsThere t (Point f key node) → 0 < length (nodes_at old f) → IsThere t (Point f key 0)
  start_there f key node there some = post.roots.nodes_there f key node 0 there some

  pub start_stays : (f : ℕ) (key : Key) (node : ℕ) → IsThere t (Point f key node) → (IsRemoved old new t (Point f key node) → ⊥) → IsRemoved old new t (Point f key 0) → ⊥
  start_stays f key node there stays removed = stays (node_of_removed removed there)

  empty_over : (key other : Key) → key.a ≡ other.a → key.b ≡ other.b → RenamesLocks old new key.locks other.locks → key ≡ empty_key → other ≡ empty_key
  empty_over key other first second locks is =
      let a : other.a ≡ Absent = sym first ∙ ap (λ (k : Key). k.a) is in
      let b : other.b ≡ Absent = sym second ∙ ap (λ (k : Key). k.b) is in
      let held : other.locks ≡ no_locks = new_locks old new no_locks other.locks no_locks (subst (λ (l : ℕ). RenamesLocks old new l other.locks) (ap (λ (k : Key). k.locks) is) locks) (no_locks_renamed old new) in
      λ i. record { a = a i; b = b i; locks = held i }

  absent_over : (x y : ArgKey) (P Q : Type 0) → x ≡ y → (P → Q) → (Q → P) → ((x ≡ Absent) ↔ P) → ((y ≡ Absent) ↔ Q)
  absent_over x y P Q same forth back before = (λ none. forth (before.0 (same ∙ none)), λ q. sym same ∙ before.1 (back q))

  context_over : (f g : ℕ) (key other : Key) (node n : ℕ) → IsRenamed old new (Point f key node) (Point g other n) → IsThere t (Point f key node) → (IsRemoved old new t (Point f key node) → ⊥) → node < length (nodes_at old f) → IsKeyOf old f key → IsKeyOf new g other
  context_over f g key other node n named there stays within context =
      let params = same_params old new f g named.0 in
      record {
        first = absent_over key.a other.a (params_at old f ≡ 0) (params_at new g ≡ 0) named.1 (λ none. sym params ∙ none) (λ none. params ∙ none) context.first;
        second = absent_over key.b other.b (params_at old f ≤ 1) (params_at new g ≤ 1) named.2 (λ few. omega (arith, params, few)) (λ few. omega (arith, params, few)) context.second;
        mutexes = mutexes_over old new key.locks other.locks named.3;
        started = λ starts. elim starts [
          | inl main ↦
              let is = start_is_main old new old_formed new_formed t s c f key (start_there f key node there (omega (arith, within))) (start_stays f key node there stays) (subst (λ (k : ℕ). SameFunction old f new k) main named.0) in
              empty_over key other named.1 named.2 named.3 (key_of_start f key 0 is)
          | inr thread ↦ empty_over key other named.1 named.2 named.3 (context.started (inr (thread_before old new f g named.0 thread)))
        ];
      }
    where
      key_of_start : (f : ℕ) (key : Key) (n : ℕ) → Point f key n ≡ main_start old → key ≡ empty_key
      key_of_start f key n is = cc is

  -- ---- entries

  pub entry_over : (u w : Unknown) (v x : Value) → IsRenamed old new u w → IsRenamedValue old new v x → IsThere t u → (IsRemoved old new t u → ⊥) → IsShapedEntry old u v → IsShapedEntry new w x
  entry_over (Point f key node) (Point g other n) (State a) (State b) named same there stays fits = record {
    within = subst (λ (k : ℕ). k < length (nodes_at new g)) named.4 (subst (λ (k : ℕ). node < k) (same_nodes old new f g named.0) fits.within);
    context = context_over f g key other node n named there stays fits.within fits.context;
    shape = shape_over old new (slots_at new g) a b same (subst (λ (l : List Slot). HasShape l a) (same_slots old new f g named.0) fits.shape);
    mutexes = state_mutexes old new a b same;
  }
  entry_over (Point f key node) (Point g other n) (State a) (Number y) named same there stays fits = absurd same
  entry_over (Point f key node) (Point g other n) (Number x) z named same there stays fits = absurd fits
  entry_over (Point f key node) (Global h) v x named same there stays fits = absurd named
  entry_over (Global g) (Point f key node) v x named same there stays fits = absurd named
  entry_over (Global g) (Global h) (State a) z named same there stays fits = absurd fits
  entry_over (Global g) (Global h) (Number x) (State b) named same there stays fits = absurd same
  entry_over (Global g) (Global h) (Number x) (Number y) named same there stays fits = global_over old new g h x y named same fits
