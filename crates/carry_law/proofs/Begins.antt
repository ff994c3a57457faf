-- What is carried over is a sound beginning.
use Rattle.std.proofs.Common.{◌≡◌, ◌≢◌, ◌⊎◌, inl, inr, ℕ, zero, suc, ◌+◌, ◌-◌, ◌<◌, ◌≤◌, pos, List, ◌++◌, length, replicate, Option, None, Some, refl, sym, ap, subst, ◌∙◌, arith, is_some}
use Rattle.std.specs.Prelude.{Contains, IsSome, filter, slice_get}
use Rattle.std.proofs.lemmas.Option.{same_Some, slice_get_cases}
use Rattle.gob_tree.specs.Formed.{IsFormed}
use Rattle.gob_tree.specs.Named.{SameFunction}
use Rattle.gob_tree.specs.declared.graph.Program.{Program}
use Rattle.gob_tree.specs.declared.unit.GlobalDecl.{GlobalDecl}
use Rattle.gob_tree.specs.declared.unit.Slot.{Slot}
use Rattle.interval_dom.specs.Bounds.{between}
use Rattle.state_dom.specs.StateValue.{Bottom}
use Rattle.constraint_sys.specs.declared.unknown.Key.{Key}
use Rattle.constraint_sys.specs.declared.unknown.Unknown.{Unknown}
use Rattle.constraint_sys.specs.declared.unknown.Unknown.TheVariants.{Point, Global}
use Rattle.constraint_sys.specs.declared.value.Value.{Value}
use Rattle.constraint_sys.specs.declared.value.Value.TheVariants.{State, Number}
use Rattle.constraint_sys.specs.Carry.{Affects, Carries, IsRemoved, lacking, roots_of, targets_of, with_roots}
use Rattle.constraint_sys.specs.PostSolution.{BoundsAt, CoversValue, HasRoots, IsPostSolution, IsSatisfied, initial_value, main_start_value}
use Rattle.constraint_sys.specs.Sound.{CanTurn, IsShaped, IsShapedEntry, IsSound}
use Rattle.constraint_sys.specs.Table.{TableValue, IsThere, main_start, nodes_at, slots_at, value_at}
use Rattle.constraint_sys.specs.Turn.{Solving, fellows, initial_globals, is_absent}
use Rattle.constraint_sys.proofs.Covering.{CoversValue-refl}
use Rattle.constraint_sys.proofs.Entries.{AllEntries, IsThere-append_left, IsThere-append_right, there_value, value_at-absent, value_at-all, value_at-appended, value_at-either, value_at-head}
use Rattle.constraint_sys.proofs.Numbered.{AllEntries-numbers, IsThere-numbers}
use Rattle.constraint_sys.proofs.Ordered.{Contains-nil}
use Rattle.constraint_sys.proofs.Raising.{AllEntries-filter, IsThere-filtered}
use Rattle.constraint_sys.proofs.Shaping.{no_mutex}
use Rattle.constraint_sys.proofs.SoundStart.{initial_fits, main_start_fits}
use Rattle.carry_law.proofs.Fits.{entry_over, start_stays, start_there}
use Rattle.carry_law.proofs.Mains.{start_is_main}
use Rattle.carry_law.proofs.Naming.{same_global}
use Rattle.carry_law.proofs.Origins.{Origin, carried, kept_over, origin}
use Rattle.carry_law.proofs.Renamed.{IsCarriedOver, IsRenamed, renamed, renamed_once}
use Rattle.carry_law.proofs.Renaming.{no_locks_renamed}
use Rattle.carry_law.proofs.Satisfied.{bounds_over, satisfied_after}
use Rattle.carry_law.proofs.Tables.{all_keys, all_made, all_there, global_begins, globals_are, key_of_there, there_of_key, there_with_one, value_at-filtered}
use Rattle.carry_law.proofs.Transfers.{same_slots}

there_or_not : (o : Option Value) → IsSome o ⊎ (o ≡ None)
there_or_not None = inr refl
there_or_not (Some v) = inl refl

-- ---- what comes to the kept entries

-- a root is no inner point
abbrev IsRootKey : Unknown → Type 0
IsRootKey (Point f key zero) = Unit {0}
IsRootKey (Point f key (suc node)) = ⊥
IsRootKey (Global g) = Unit {0}

-- an inner point whose start is there
abbrev HasStart : TableValue → Unknown → Type 0
HasStart t (Point f key zero) = ⊥
HasStart t (Point f key (suc node)) = IsThere t (Point f key 0)
HasStart t (Global g) = ⊥

main_fits : (p : Program) → IsFormed p → IsShapedEntry p (main_start p) (main_start_value p)
main_fits p formed = main_start_fits p formed

roots_fit : (p : Program) → IsFormed p → AllEntries (IsShapedEntry p) (roots_of p)
roots_fit p formed = (main_fits p formed, globals_are (IsShapedEntry p) 0 p.globals (λ k decl at. initial_fits p formed (0 + k) decl (subst (λ (n : ℕ). slice_get p.globals n ≡ Some decl) (omega arith) at)))

roots_are : (p : Program) → AllEntries (λ (u : Unknown) (v : Value). IsRootKey u) (roots_of p)
roots_are p = (tt, globals_are (λ (u : Unknown) (v : Value). IsRootKey u) 0 p.globals (λ k decl at. tt))

module _ (p : Program) (t : TableValue) where
  fellows_fit : (u : Unknown) → (v : Value) × IsShapedEntry p u v → AllEntries (IsShapedEntry p) (fellows p u)
  fellows_fit (Point f key zero) (State s, fits) =
      AllEntries-numbers (IsShapedEntry p) (λ (node : ℕ). (Point f key node, State (Bottom (length (slots_at p f))))) 1 (length (nodes_at p f) - 1)
      (λ i low high. record { within = omega arith; context = fits.context; shape = refl; mutexes = no_mutex p })
  fellows_fit (Point f key zero) (Number x, fits) = absurd fits
  fellows_fit (Point f key (suc node)) shape = tt
  fellows_fit (Global g) shape = tt

  inner_start : (f : ℕ) (key : Key) (i : ℕ) → 1 ≤ i → IsThere t (Point f key 0) → HasStart t (Point f key i)
  inner_start f key zero low there = absurd (omega arith)
  inner_start f key (suc i) low there = there

  fellows_start : (u : Unknown) → IsThere t u → AllEntries (λ (q : Unknown) (v : Value). HasStart t q) (fellows p u)
  fellows_start (Point f key zero) there =
      AllEntries-numbers (λ (q : Unknown) (v : Value). HasStart t q) (λ (node : ℕ). (Point f key node, State (Bottom (length (slots_at p f))))) 1 (length (nodes_at p f) - 1)
      (λ i low high. inner_start f key i low there)
  fellows_start (Point f key (suc node)) there = tt
  fellows_start (Global g) there = tt

-- ---- the carried table

module _ (old new : Program) (old_formed : IsFormed old) (new_formed : IsFormed new) (t : TableValue) (shaped : IsShaped old t) (post : IsPostSolution old t) (s : Solving) (c : Carries old new t s) where
  abbrev rooted : TableValue
  rooted = with_roots new c.kept

  abbrev lacked : TableValue
  lacked = lacking new (with_roots new c.kept)

  at_table : (w : Unknown) → value_at s.table w ≡ value_at (rooted ++ lacked) w
  at_table w = ap (λ (l : TableValue). value_at l w) c.table

  from_rooted : (w : Unknown) → IsThere rooted w → IsThere s.table w
  from_rooted w there = ap is_some (at_table w) ∙ IsThere-append_left w rooted lacked there

  -- an entry is a kept one, a root or a node that a start lacked
  record Cases (w : Unknown) (x : Value) : Type 0 where
    case : (value_at c.kept w ≡ Some x) ⊎ ((value_at (filter (is_absent c.kept) (roots_of new)) w ≡ Some x) ⊎ (value_at lacked w ≡ Some x))

  cases : (w : Unknown) (x : Value) → value_at s.table w ≡ Some x → Cases w x
  cases w x at = elim (value_at-either w rooted lacked x (sym (at_table w) ∙ at)) [
    | inl front ↦ elim (value_at-either w c.kept (filter (is_absent c.kept) (roots_of new)) x front) [
      | inl here ↦ record { case = inl here }
      | inr root ↦ record { case = inr (inl root.1) }
    ]
    | inr back ↦ record { case = inr (inr back.1) }
  ]

  came_from : (w : Unknown) (x : Value) → value_at c.kept w ≡ Some x → Origin old new t t w x
  came_from w x at = origin old new new_formed t c.entries w x at

  -- ---- shapes

  kept_fits : (w : Unknown) (x : Value) → value_at c.kept w ≡ Some x → IsShapedEntry new w x
  kept_fits w x at =
      let o = came_from w x at in
      entry_over old new old_formed new_formed t post s c o.from w o.was x (renamed o.renames) o.same (ap is_some o.at) o.stays (shaped o.from o.was o.at)

  rooted_fits : (w : Unknown) (x : Value) → value_at rooted w ≡ Some x → IsShapedEntry new w x
  rooted_fits w x at = elim (value_at-either w c.kept (filter (is_absent c.kept) (roots_of new)) x at) [
    | inl here ↦ kept_fits w x here
    | inr root ↦ value_at-all (IsShapedEntry new) (filter (is_absent c.kept) (roots_of new)) (AllEntries-filter (IsShapedEntry new) (is_absent c.kept) (roots_of new) (roots_fit new new_formed)) w x root.1
  ]

  rooted_shape : (w : Unknown) → IsThere rooted w → (v : Value) × IsShapedEntry new w v
  rooted_shape w there = let v = there_value (value_at rooted w) there in (v.0, rooted_fits w v.0 v.1)

  rooted_there : AllEntries (λ (u : Unknown) (v : Value). IsThere rooted u) rooted
  rooted_there = all_there rooted rooted (λ q there. there)

  lacked_fits : AllEntries (IsShapedEntry new) lacked
  lacked_fits = all_made (IsShapedEntry new) (IsThere rooted) (λ (e : Unknown × Value). filter (is_absent rooted) (fellows new e.0))
      (λ e there. AllEntries-filter (IsShapedEntry new) (is_absent rooted) (fellows new e.0) (fellows_fit new rooted e.0 (rooted_shape e.0 there))) rooted rooted_there

  lacked_start : AllEntries (λ (u : Unknown) (v : Value). HasStart rooted u) lacked
  lacked_start = all_made (λ (u : Unknown) (v : Value). HasStart rooted u) (IsThere rooted) (λ (e : Unknown × Value). filter (is_absent rooted) (fellows new e.0))
      (λ e there. AllEntries-filter (λ (u : Unknown) (v : Value). HasStart rooted u) (is_absent rooted) (fellows new e.0) (fellows_start new rooted e.0 there)) rooted rooted_there

  table_fits : IsShaped new s.table
  table_fits w x at = elim (value_at-either w rooted lacked x (sym (at_table w) ∙ at)) [
    | inl front ↦ rooted_fits w x front
    | inr back ↦ value_at-all (IsShapedEntry new) lacked lacked_fits w x back.1
  ]

  -- ---- roots

  root_at : (w : Unknown) (x : Value) → value_at c.kept w ≡ None → value_at (roots_of new) w ≡ Some x → value_at s.table w ≡ Some x
  root_at w x none at =
      at_table w ∙ value_at-appended w rooted lacked x (value_at-absent w c.kept (filter (is_absent c.kept) (roots_of new)) none ∙ value_at-filtered c.kept w (roots_of new) x none at)

  main_begins : value_at (roots_of new) (main_start new) ≡ Some (main_start_value new)
  main_begins = value_at-head (main_start new) (main_start_value new) (initial_globals 0 new.globals)

  global_is_root : (g : ℕ) (decl : GlobalDecl) → slice_get new.globals g ≡ Some decl → value_at (roots_of new) (Global g) ≡ Some (initial_value decl)
  global_is_root g decl at =
      let number : 0 + g ≡ g = omega arith in
      subst (λ (n : ℕ). value_at (initial_globals 0 new.globals) (Global n) ≡ Some (initial_value decl)) number (global_begins 0 new.globals g decl at)

  bounded_root : (w : Unknown) (x y : Value) → value_at s.table w ≡ Some y → y ≡ x → BoundsAt s.table w x
  bounded_root w x y at is = subst (λ (o : Option Value). CoversValue o x) (sym (at ∙ ap Some is)) (CoversValue-refl x)

  main_before : (u : Unknown) → IsRenamed old new u (main_start new) → IsThere t u → (IsRemoved old new t u → ⊥) → BoundsAt s.table (main_start new) (main_start_value new)
  main_before (Point f key node) named there stays =
      let point_is : Point f key node ≡ Point f key 0 = ap (Point f key) named.4 in
      let is : Point f key 0 ≡ main_start old = start_is_main old new old_formed new_formed t s c f key (subst (IsThere t) point_is there) (subst (λ (u : Unknown). IsRemoved old new t u → ⊥) point_is stays) named.0 in
      let function : f ≡ old.main = cc is in
      let same : SameFunction old old.main new new.main = subst (λ (n : ℕ). SameFunction old n new new.main) function named.0 in
      let over : IsCarriedOver old new t s.table (main_start old) = carried old new old_formed t s c (main_start old) (subst (IsThere t) (point_is ∙ is) there) (subst (λ (u : Unknown). IsRemoved old new t u → ⊥) (point_is ∙ is) stays) in
      bounds_over old new old_formed new_formed t s.table (main_start old) (main_start new) (main_start_value old) (main_start_value new) over (same, refl, refl, no_locks_renamed old new, refl)
      (ap (λ (l : List Slot). replicate (length l) (between (pos 0) (pos 0))) (same_slots old new old.main new.main same), no_locks_renamed old new) post.roots.main_bounded
  main_before (Global g) named there stays = absurd named

  main_by : (o : Option Value) → value_at c.kept (main_start new) ≡ o → BoundsAt s.table (main_start new) (main_start_value new)
  main_by None none = bounded_root (main_start new) (main_start_value new) (main_start_value new) (root_at (main_start new) (main_start_value new) none main_begins) refl
  main_by (Some x) at = let o = came_from (main_start new) x at in main_before o.from (renamed o.renames) (ap is_some o.at) o.stays

  global_before : (u : Unknown) (g : ℕ) (decl : GlobalDecl) → slice_get new.globals g ≡ Some decl → IsRenamed old new u (Global g) → IsThere t u → (IsRemoved old new t u → ⊥) → BoundsAt s.table (Global g) (initial_value decl)
  global_before (Point f key node) g decl at named there stays = absurd named
  global_before (Global h) g decl at named there stays =
      let decls = same_global old h new g named in
      let same : decls.0 ≡ decl = same_Some decls.0 decl (sym decls.2 ∙ at) in
      bounds_over old new old_formed new_formed t s.table (Global h) (Global g) (initial_value decl) (initial_value decl) (carried old new old_formed t s c (Global h) there stays) named refl
      (post.roots.globals_bounded h decl (decls.1 ∙ ap Some same))

  global_by : (g : ℕ) (decl : GlobalDecl) → slice_get new.globals g ≡ Some decl → (o : Option Value) → value_at c.kept (Global g) ≡ o → BoundsAt s.table (Global g) (initial_value decl)
  global_by g decl at None none = bounded_root (Global g) (initial_value decl) (initial_value decl) (root_at (Global g) (initial_value decl) none (global_is_root g decl at)) refl
  global_by g decl at (Some x) found = let o = came_from (Global g) x found in global_before o.from g decl at (renamed o.renames) (ap is_some o.at) o.stays

  global_bounded : (g : ℕ) (decl : GlobalDecl) → slice_get new.globals g ≡ Some decl → BoundsAt s.table (Global g) (initial_value decl)
  global_bounded g decl at = global_by g decl at (value_at c.kept (Global g)) refl

  there_of_bound : (o : Option Value) (v : Value) → CoversValue o v → IsSome o
  there_of_bound None v bound = absurd bound
  there_of_bound (Some x) v bound = refl

  global_there : (g : ℕ) → g < length new.globals → IsThere s.table (Global g)
  global_there g within = elim ((slice_get_cases new.globals g).1) [
    | inl found ↦ there_of_bound (value_at s.table (Global g)) (initial_value found.0) (global_bounded g found.0 found.2)
    | inr past ↦ absurd (omega (arith, past.0, within))
  ]

  -- ---- nodes

  kept_start : (u : Unknown) (g : ℕ) (key : Key) (node : ℕ) → IsRenamed old new u (Point g key node) → IsThere t u → (IsRemoved old new t u → ⊥) → IsThere c.kept (Point g key 0)
  kept_start (Point f context n) g key node named there stays =
      let v = there_value (value_at t (Point f context n)) there in
      let start = start_there old new old_formed new_formed t post s c f context n there (some_node f context n v.0 (shaped (Point f context n) v.0 v.1)) in
      let k = kept_over old new old_formed t s c (Point f context 0) start (start_stays old new old_formed new_formed t post s c f context n there stays) in
      ap is_some (ap (value_at c.kept) (renamed_once old new new_formed (Point f context 0) (Point g key 0) k.place (named.0, named.1, named.2, named.3, refl) k.named) ∙ k.stands)
    where
      some_node : (f : ℕ) (key : Key) (n : ℕ) (v : Value) → IsShapedEntry old (Point f key n) v → 0 < length (nodes_at old f)
      some_node f key n (State a) fits = omega (arith, fits.within)
      some_node f key n (Number x) fits = absurd fits
  kept_start (Global h) g key node named there stays = absurd named

  root_start : (g : ℕ) (key : Key) (node : ℕ) → IsRootKey (Point g key node) → IsThere rooted (Point g key node) → IsThere rooted (Point g key 0)
  root_start g key zero root there = there
  root_start g key (suc node) root there = absurd root

  lacked_has_start : (g : ℕ) (key : Key) (node : ℕ) → HasStart rooted (Point g key node) → IsThere rooted (Point g key 0)
  lacked_has_start g key zero has = absurd has
  lacked_has_start g key (suc node) has = has

  start_of_entry : (g : ℕ) (key : Key) (node : ℕ) (x : Value) → value_at s.table (Point g key node) ≡ Some x → IsThere rooted (Point g key 0)
  start_of_entry g key node x at = elim ((cases (Point g key node) x at).case) [
    | inl here ↦
        let o = came_from (Point g key node) x here in
        IsThere-append_left (Point g key 0) c.kept (filter (is_absent c.kept) (roots_of new)) (kept_start o.from g key node (renamed o.renames) (ap is_some o.at) o.stays)
    | inr other ↦ elim other [
      | inl root ↦ root_start g key node
          (value_at-all (λ (u : Unknown) (v : Value). IsRootKey u) (filter (is_absent c.kept) (roots_of new)) (AllEntries-filter (λ (u : Unknown) (v : Value). IsRootKey u) (is_absent c.kept) (roots_of new) (roots_are new)) (Point g key node) x root)
          (IsThere-append_right (Point g key node) c.kept (filter (is_absent c.kept) (roots_of new)) (ap is_some root))
      | inr lack ↦ lacked_has_start g key node (value_at-all (λ (u : Unknown) (v : Value). HasStart rooted u) lacked lacked_start (Point g key node) x lack)
    ]
  ]

  node_of_rooted : (g : ℕ) (key : Key) (n : ℕ) → IsThere rooted (Point g key 0) → n < length (nodes_at new g) → IsThere s.table (Point g key n)
  node_of_rooted g key zero start within = from_rooted (Point g key 0) start
  node_of_rooted g key (suc n) start within = elim (there_or_not (value_at rooted (Point g key (suc n)))) [
    | inl there ↦ from_rooted (Point g key (suc n)) there
    | inr none ↦
        ap is_some (at_table (Point g key (suc n)))
        ∙ IsThere-append_right (Point g key (suc n)) rooted lacked
        (there_with_one (λ (e : Unknown × Value). filter (is_absent rooted) (fellows new e.0)) (λ (u : Unknown). filter (is_absent rooted) (fellows new u)) (λ e. refl) rooted (Point g key 0) (Point g key (suc n)) start
        (IsThere-filtered rooted (Point g key (suc n)) (fellows new (Point g key 0)) none (IsThere-numbers g key (State (Bottom (length (slots_at new g)))) 1 (length (nodes_at new g) - 1) (suc n) (omega arith) (omega (arith, within)))))
  ]

  node_there : (g : ℕ) (key : Key) (node other : ℕ) → IsThere s.table (Point g key node) → other < length (nodes_at new g) → IsThere s.table (Point g key other)
  node_there g key node other there within =
      let v = there_value (value_at s.table (Point g key node)) there in
      node_of_rooted g key other (start_of_entry g key node v.0 v.1) within

  table_roots : HasRoots new s.table
  table_roots =
      let main = main_by (value_at c.kept (main_start new)) refl in
      record {
        main_there = there_of_bound (value_at s.table (main_start new)) (main_start_value new) main;
        globals_there = global_there;
        main_bounded = main;
        globals_bounded = global_bounded;
        nodes_there = node_there;
      }

  -- ---- dirty points

  turns_lacked : (q : Unknown) → HasStart rooted q → IsThere s.table q → CanTurn s.table q
  turns_lacked (Point f key zero) has there = absurd has
  turns_lacked (Point f key (suc n)) has there = there
  turns_lacked (Global g) has there = absurd has

  turns_kept : (u q v : Unknown) → IsRenamed old new u q → IsThere s.table q → Contains (targets_of old t u) v → CanTurn s.table q
  turns_kept (Point f key zero) q v named there one = absurd (Contains-nil v one)
  turns_kept (Point f key (suc n)) (Point g other zero) v named there one = let clash : suc n ≡ 0 = named.4 in absurd (omega arith)
  turns_kept (Point f key (suc n)) (Point g other (suc m)) v named there one = there
  turns_kept (Point f key (suc n)) (Global h) v named there one = absurd named
  turns_kept (Global g) q v named there one = absurd (Contains-nil v one)

  dirty_turns : (q : Unknown) → Contains s.dirty q → CanTurn s.table q
  dirty_turns q one = elim ((c.dirty q).0 one) [
    | inl lack ↦ turns_lacked q (all_keys (HasStart rooted) lacked lacked_start q lack)
        (ap is_some (at_table q) ∙ IsThere-append_right q rooted lacked (there_of_key lacked q lack))
    | inr lost ↦
        let u = lost.0 in
        let over = carried old new old_formed t s c u lost.4.0 lost.3 in
        turns_kept u q lost.1 (renamed lost.2) (ap is_some (ap (value_at s.table) (renamed_once old new new_formed u q over.place (renamed lost.2) over.named) ∙ over.stands)) lost.4.1
  ]

  -- ---- satisfied points

  satisfied_kept : (u : Unknown) (g : ℕ) (key : Key) (m : ℕ) → (renames : IsRenamed old new u (Point g key (suc m))) → IsThere t u → (IsRemoved old new t u → ⊥) → ((v : Unknown) → Affects old t u v → IsRemoved old new t v → ⊥) → IsSatisfied new s.table g key (suc m)
  satisfied_kept (Point f context n) g key m named there stays clean =
      let point_is : Point f context n ≡ Point f context (suc m) = ap (Point f context) named.4 in
      satisfied_after old new old_formed new_formed t post s c f context m (subst (IsThere t) point_is there) (subst (λ (u : Unknown). IsRemoved old new t u → ⊥) point_is stays)
      (subst (λ (u : Unknown). (v : Unknown) → Affects old t u v → IsRemoved old new t v → ⊥) point_is clean) g key (named.0, named.1, named.2, named.3, refl)
  satisfied_kept (Global h) g key m named there stays clean = absurd named

  clean_satisfied : (g : ℕ) (key : Key) (node : ℕ) → IsThere s.table (Point g key node) → node ≢ 0 → (Contains s.dirty (Point g key node) → ⊥) → IsSatisfied new s.table g key node
  clean_satisfied g key zero there inner clean = absurd (inner refl)
  clean_satisfied g key (suc m) there inner clean =
      let q = Point g key (suc m) in
      let v = there_value (value_at s.table q) there in
      elim ((cases q v.0 v.1).case) [
        | inl here ↦
            let o = came_from q v.0 here in
            satisfied_kept o.from g key m (renamed o.renames) (ap is_some o.at) o.stays
            (λ x affects removed. clean ((c.dirty q).1 (inr (o.from, x, o.renames, o.stays, affects, removed))))
        | inr other ↦ elim other [
          | inl root ↦ absurd (value_at-all (λ (u : Unknown) (x : Value). IsRootKey u) (filter (is_absent c.kept) (roots_of new)) (AllEntries-filter (λ (u : Unknown) (x : Value). IsRootKey u) (is_absent c.kept) (roots_of new) (roots_are new)) q v.0 root)
          | inr lack ↦ absurd (clean ((c.dirty q).1 (inl (key_of_there lacked q (ap is_some lack)))))
        ]
      ]

  pub carried_sound : IsSound new s
  carried_sound = record {
    roots = table_roots;
    shaped = table_fits;
    dirty_points = dirty_turns;
    satisfied = clean_satisfied;
  }
