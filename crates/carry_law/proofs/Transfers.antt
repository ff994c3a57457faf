-- What an action gives, under the new numbers, where all that it reads and contributes to is carried over.
use Rattle.std.proofs.Common.{◌≡◌, ◌≢◌, ◌↔◌, inl, inr, ℕ, ◌<◌, pos, Bool, true, false, nat_eq, List, [], length, replicate, Option, Some, None, refl, sym, ap, subst, ◌∙◌, arith}
use Rattle.std.specs.Prelude.{IsSomeAnd, slice_get, if◌then◌else◌}
use Rattle.std.specs.Int.{bit_at}
use Rattle.std.specs.Option.{option_map}
use Rattle.std.proofs.lemmas.Bool.{cases_eq}
use Rattle.std.proofs.lemmas.Bool.Decides.{nat_tests}
use Rattle.std.proofs.lemmas.Option.{none-some, same_Some, slice_get_cases}
use Rattle.gob_tree.specs.Formed.{IsFormed, IsFormedAction}
use Rattle.gob_tree.specs.Named.{NamedGraph, SameFunction, function_name, global_name, mutex_name}
use Rattle.gob_tree.specs.declared.expr.Expr.{Expr}
use Rattle.gob_tree.specs.declared.graph.Action.{Action}
use Rattle.gob_tree.specs.declared.graph.Action.TheVariants.{Assign, Read, Write, Nondet, Guard, Assert, Lock, Unlock, Create, Join, Call, Skip}
use Rattle.gob_tree.specs.declared.graph.FuncGraph.{FuncGraph}
use Rattle.gob_tree.specs.declared.graph.Program.{Program}
use Rattle.gob_tree.specs.declared.unit.GlobalDecl.{GlobalDecl}
use Rattle.gob_tree.specs.declared.unit.Slot.{Slot}
use Rattle.interval_dom.specs.Bounds.{Bounds, between}
use Rattle.lockset_dom.specs.Members.{with_member}
use Rattle.state_dom.specs.Evaluation.{interval_of}
use Rattle.state_dom.specs.Operators.{converted_to}
use Rattle.state_dom.specs.StateValue.{StateValue, Bottom, Reached, start_of}
use Rattle.constraint_sys.specs.declared.unknown.Key.{Key}
use Rattle.constraint_sys.specs.declared.unknown.Unknown.{Unknown}
use Rattle.constraint_sys.specs.declared.unknown.Unknown.TheVariants.{Point, Global}
use Rattle.constraint_sys.specs.declared.value.Effect.{Effect}
use Rattle.constraint_sys.specs.declared.value.Outcome.{Outcome}
use Rattle.constraint_sys.specs.declared.value.Value.{Value}
use Rattle.constraint_sys.specs.declared.value.Value.TheVariants.{State, Number}
use Rattle.constraint_sys.specs.Carry.{SameGlobal, SameMutex, RenamesLocks}
use Rattle.constraint_sys.specs.Table.{TableValue, empty_key, params_at, params_of_function, shown, shown_state, slots_at, slots_of_function, state_at, value_at}
use Rattle.constraint_sys.specs.Transfer.{assigned, called, frame_of, holds, key_of, locked, number_at, only, outcome_in, read_from, returned, shown_number, values_of, width_of_global, written}
use Rattle.constraint_sys.proofs.Ordered.{Contains-head}
use Rattle.carry_law.proofs.Alike.{AreAlikeActions, same_expr, same_exprs}
use Rattle.carry_law.proofs.Guards.{guard_renamed}
use Rattle.carry_law.proofs.Naming.{are_one, one_function, one_global, same_global}
use Rattle.carry_law.proofs.Renamed.{IsCarriedOver, IsKnown, IsRenamed, IsRenamedOutcome, IsRenamedValue, renamed_once}
use Rattle.carry_law.proofs.RenamedStates.{IsRenamedState}
use Rattle.carry_law.proofs.Renaming.{held_renamed, member_renamed, no_locks_renamed, taken_renamed}

-- ---- what has the same name

module _ {X : Type 0} (name : X → List ℕ) where
  pub named_by : (o : Option X) (n : List ℕ) → option_map name o ≡ Some n → (x : X) × (o ≡ Some x) × (name x ≡ n)
  named_by None n is = absurd (none-some n is)
  named_by (Some x) n is = (x, refl, same_Some (name x) n is)

module _ (old new : Program) where
  -- the function that is the same, by its name alone
  pub function_is : IsFormed new → (f g h : ℕ) → SameFunction old f new g → function_name old f ≡ function_name new h → g ≡ h
  function_is formed f g h same names =
      let one = are_one old f new g same in
      let found = named_by (λ (x : FuncGraph). x.name) (slice_get new.funcs h) one.here.name (sym names ∙ ap (option_map (λ (x : FuncGraph). x.name)) one.at) in
      one_function new formed g h one.there found.0 one.stands found.1 (ap (λ (x : NamedGraph). x.name) (sym one.same) ∙ sym found.2)

  pub global_is : IsFormed new → (g h k : ℕ) → SameGlobal old g new h → global_name old g ≡ global_name new k → h ≡ k
  global_is formed g h k same names =
      let one = same_global old g new h same in
      let found = named_by (λ (x : GlobalDecl). x.name) (slice_get new.globals k) one.0.name (sym names ∙ ap (option_map (λ (x : GlobalDecl). x.name)) one.1) in
      one_global new formed h k one.0 found.0 one.2 found.1 (sym found.2)

  pub mutex_is : (m n : ℕ) → m < length old.mutexes → mutex_name old m ≡ mutex_name new n → SameMutex old m new n
  mutex_is m n within names = elim ((slice_get_cases old.mutexes m).1) [
    | inl found ↦ subst (λ (o : Option (List ℕ)). IsSomeAnd o (λ (name : List ℕ). slice_get new.mutexes n ≡ Some name)) (sym found.2) (sym names ∙ found.2)
    | inr past ↦ absurd (omega (arith, past.0, within))
  ]

  pub same_slots : (f g : ℕ) → SameFunction old f new g → slots_at old f ≡ slots_at new g
  same_slots f g same = let one = are_one old f new g same in ap slots_of_function one.at ∙ ap (λ (x : NamedGraph). x.slots) one.same ∙ sym (ap slots_of_function one.stands)

  pub same_params : (f g : ℕ) → SameFunction old f new g → params_at old f ≡ params_at new g
  same_params f g same = let one = are_one old f new g same in ap params_of_function one.at ∙ ap (λ (x : NamedGraph). x.params) one.same ∙ sym (ap params_of_function one.stands)

-- ---- what is read

-- two equations in one step
pub on_both : {A B : Type 0} (P : A → B → Type 0) (p q : A) (r s : B) → p ≡ q → r ≡ s → P p r → P q s
on_both P p q r s first second h = subst (λ x. P x s) first (subst (λ y. P p y) second h)

module _ (old new : Program) where
  number_shown : (v x : Value) → IsRenamedValue old new v x → shown_number (shown (Some v)) ≡ shown_number (shown (Some x))
  number_shown (State (Bottom room)) (State (Bottom other)) same = refl
  number_shown (State (Bottom room)) (State (Reached ys others)) same = absurd same
  number_shown (State (Reached xs locks)) (State (Bottom other)) same = absurd same
  number_shown (State (Reached xs locks)) (State (Reached ys others)) same = refl
  number_shown (State s) (Number y) same = absurd same
  number_shown (Number x) (State r) same = absurd same
  number_shown (Number x) (Number y) same = ap Some same

  state_shown : (n m : ℕ) → n ≡ m → (v x : Value) → IsRenamedValue old new v x → IsRenamedState old new (shown_state n (shown (Some v))) (shown_state m (shown (Some x)))
  state_shown n m room (State (Bottom o)) (State (Bottom other)) same = room
  state_shown n m room (State (Bottom o)) (State (Reached ys others)) same = absurd same
  state_shown n m room (State (Reached xs locks)) (State (Bottom other)) same = absurd same
  state_shown n m room (State (Reached xs locks)) (State (Reached ys others)) same = same
  state_shown n m room (State s) (Number y) same = absurd same
  state_shown n m room (Number x) (State r) same = absurd same
  state_shown n m room (Number x) (Number y) same = room

module _ (old new : Program) (old_formed : IsFormed old) (new_formed : IsFormed new) (t n : TableValue) where
  -- a carried entry stands where its new name says
  pub stands_at : (u w : Unknown) → (c : IsCarriedOver old new t n u) → IsRenamed old new u w → value_at n w ≡ Some c.is
  stands_at u w c named = ap (value_at n) (renamed_once old new new_formed u w c.place named c.named) ∙ c.stands

  global_named : (g h : ℕ) → IsCarriedOver old new t n (Global g) → global_name old g ≡ global_name new h → SameGlobal old g new h
  global_named g h c names = by c.place c.named
    where
      by : (w : Unknown) → IsRenamed old new (Global g) w → SameGlobal old g new h
      by (Point f key node) named = absurd named
      by (Global k) named = subst (λ (j : ℕ). SameGlobal old g new j) (global_is old new new_formed g k h named names) named

  function_named : (f g : ℕ) (key : Key) (node : ℕ) → IsCarriedOver old new t n (Point f key node) → function_name old f ≡ function_name new g → SameFunction old f new g
  function_named f g key node c names = by c.place c.named
    where
      by : (w : Unknown) → IsRenamed old new (Point f key node) w → SameFunction old f new g
      by (Point k other m) named = subst (λ (j : ℕ). SameFunction old f new j) (function_is old new new_formed f k g named.0 names) named.0
      by (Global k) named = absurd named

  number_carried : (g h : ℕ) → IsCarriedOver old new t n (Global g) → global_name old g ≡ global_name new h → number_at t g ≡ number_at n h
  number_carried g h c names =
      ap (λ (o : Option Value). shown_number (shown o)) c.at
      ∙ number_shown old new c.was c.is c.same
      ∙ ap (λ (o : Option Value). shown_number (shown o)) (sym (stands_at (Global g) (Global h) c (global_named g h c names)))

  pub state_carried : (f g : ℕ) (key other : Key) (node : ℕ) → IsCarriedOver old new t n (Point f key node) → IsRenamed old new (Point f key node) (Point g other node) → IsRenamedState old new (state_at old t f key node) (state_at new n g other node)
  state_carried f g key other node c named =
      let room : length (slots_at old f) ≡ length (slots_at new g) = ap (λ (l : List Slot). length l) (same_slots old new f g named.0) in
      let before : shown_state (length (slots_at old f)) (shown (value_at t (Point f key node))) ≡ shown_state (length (slots_at old f)) (shown (Some c.was)) = ap (λ (o : Option Value). shown_state (length (slots_at old f)) (shown o)) c.at in
      let after : shown_state (length (slots_at new g)) (shown (value_at n (Point g other node))) ≡ shown_state (length (slots_at new g)) (shown (Some c.is)) = ap (λ (o : Option Value). shown_state (length (slots_at new g)) (shown o)) (stands_at (Point f key node) (Point g other node) c named) in
      on_both (IsRenamedState old new) _ _ _ _ (sym before) (sym after) (state_shown old new (length (slots_at old f)) (length (slots_at new g)) room c.was c.is c.same)

-- ---- states and outcomes

module _ (old new : Program) where
  pub only_renamed : (s r : StateValue) → IsRenamedState old new s r → IsRenamedOutcome old new (only s) (only r)
  only_renamed s r same = record { state = same; effects = tt }

  assigned_renamed : (slots : List Slot) (state : List Bounds) (a b x : ℕ) (v : Option Bounds) → RenamesLocks old new a b → IsRenamedState old new (assigned slots state a x v) (assigned slots state b x v)
  assigned_renamed slots state a b x None locks = refl
  assigned_renamed slots state a b x (Some v) locks = (refl, locks)

  returned_renamed : (slots : List Slot) (state : List Bounds) (d : Option ℕ) (s r : StateValue) → IsRenamedState old new s r → IsRenamedState old new (returned slots state d s) (returned slots state d r)
  returned_renamed slots state d (Bottom room) (Bottom other) same = refl
  returned_renamed slots state d (Bottom room) (Reached ys others) same = absurd same
  returned_renamed slots state d (Reached xs locks) (Bottom other) same = absurd same
  returned_renamed slots state None (Reached xs locks) (Reached ys others) same = (refl, same.1)
  returned_renamed slots state (Some x) (Reached xs locks) (Reached ys others) same =
      subst (λ (zs : List Bounds). IsRenamedState old new (assigned slots state locks x (slice_get xs 0)) (assigned slots state others x (slice_get zs 0))) same.0
      (assigned_renamed slots state locks others x (slice_get xs 0) same.1)

  same_test : (x y : ℕ) → ((x ≡ 1) ↔ (y ≡ 1)) → nat_eq x 1 ≡ nat_eq y 1
  same_test x y alike = elim (cases_eq x 1) [
    | inl one ↦ ap (λ (k : ℕ). nat_eq k 1) (one ∙ sym (alike.0 one))
    | inr other ↦
        let neither : y ≢ 1 = λ one. other (alike.1 one) in
        grind (arith, nat_tests, other, neither)
  ]

  locked_by : (b c : Bool) (state : List Bounds) (k l : ℕ) → b ≡ c → RenamesLocks old new k l → IsRenamedState old new (if b then Bottom (length state) else Reached state k) (if c then Bottom (length state) else Reached state l)
  locked_by true true state k l same locks = refl
  locked_by true false state k l same locks = cc
  locked_by false true state k l same locks = cc
  locked_by false false state k l same locks = (refl, locks)

  locked_renamed : IsFormed old → IsFormed new → (state : List Bounds) (a b m n : ℕ) → SameMutex old m new n → RenamesLocks old new a b → IsRenamedState old new (locked state a m) (locked state b n)
  locked_renamed old_formed new_formed state a b m n same locks =
      locked_by (holds a m) (holds b n) state (with_member a m) (with_member b n) (same_test (bit_at a m) (bit_at b n) (held_renamed old new old_formed a b m n same locks)) (member_renamed old new new_formed a b m n same locks)

-- ---- actions

module _ (old new : Program) (old_formed : IsFormed old) (new_formed : IsFormed new) (t n : TableValue) (x y : FuncGraph) (slots : List Slot) (state : List Bounds) (a b : ℕ) (locks : RenamesLocks old new a b) where
  abbrev Alike : Outcome → Outcome → Type 0
  Alike o p = IsRenamedOutcome old new o p

  assign_renamed : (i j : ℕ) (v w : Option Bounds) → i ≡ j → v ≡ w → Alike (only (assigned slots state a i v)) (only (assigned slots state b j w))
  assign_renamed i j v w place value =
      on_both (λ (k : ℕ) (z : Option Bounds). Alike (only (assigned slots state a i v)) (only (assigned slots state b k z))) i j v w place value
      (only_renamed old new (assigned slots state a i v) (assigned slots state b i v) (assigned_renamed old new slots state a b i v locks))

  read_renamed : (i j : ℕ) (g h : ℕ) → i ≡ j → number_at t g ≡ number_at n h → Alike (read_from t slots state a i g) (read_from n slots state b j h)
  read_renamed i j g h place value = record {
    state = on_both (λ (k : ℕ) (z : Option Bounds). IsRenamedState old new (assigned slots state a i (number_at t g)) (assigned slots state b k z)) i j (number_at t g) (number_at n h) place value
        (assigned_renamed old new slots state a b i (number_at t g) locks);
    effects = tt;
  }

  written_renamed : (g h : ℕ) (v : Option Bounds) → global_name old g ≡ global_name new h → IsKnown old new t n (written old state a g v) → Alike (written old state a g v) (written new state b h v)
  written_renamed g h None names known = only_renamed old new (Bottom (length state)) (Bottom (length state)) refl
  written_renamed g h (Some v) names known =
      let e : Effect = record { target = Global g; value = Number (converted_to (width_of_global (slice_get old.globals g)) v) } in
      let carried : IsCarriedOver old new t n (Global g) = known.targets e (Contains-head e []) in
      let same : SameGlobal old g new h = global_named old new old_formed new_formed t n g h carried names in
      let decls = same_global old g new h same in
      record {
        state = (refl, locks);
        effects = (same, ap (λ (o : Option GlobalDecl). converted_to (width_of_global o) v) (decls.1 ∙ sym decls.2), tt);
      }

  created_renamed : (f g : ℕ) → function_name old f ≡ function_name new g → IsKnown old new t n (outcome_in old t slots state a (Create 0 f)) → Alike (outcome_in old t slots state a (Create 0 f)) (outcome_in new n slots state b (Create 0 g))
  created_renamed f g names known =
      let e : Effect = record { target = Point f empty_key 0; value = State (start_of (length (slots_at old f))) } in
      let carried : IsCarriedOver old new t n (Point f empty_key 0) = known.targets e (Contains-head e []) in
      let same : SameFunction old f new g = function_named old new old_formed new_formed t n f g empty_key 0 carried names in
      record {
        state = (refl, locks);
        effects = ((same, refl, refl, no_locks_renamed old new, refl), (ap (λ (l : List Slot). replicate (length l) (between (pos 0) (pos 0))) (same_slots old new f g same), no_locks_renamed old new), tt);
      }

  called_renamed : (d : Option ℕ) (f g : ℕ) (args : Option (List Bounds)) → function_name old f ≡ function_name new g → IsKnown old new t n (called old t slots state a d f args) → Alike (called old t slots state a d f args) (called new n slots state b d g args)
  called_renamed d f g None names known = only_renamed old new (Bottom (length state)) (Bottom (length state)) refl
  called_renamed d f g (Some args) names known =
      let frame = frame_of (slots_at old f) args in
      let key = key_of (params_at old f) frame a in
      let frame_new = frame_of (slots_at new g) args in
      let key_new = key_of (params_at new g) frame_new b in
      let e : Effect = record { target = Point f key 0; value = State (Reached frame a) } in
      let entered : IsCarriedOver old new t n (Point f key 0) = known.targets e (Contains-head e []) in
      let left : IsCarriedOver old new t n (Point f key 1) = known.reads (Point f key 1) (Contains-head (Point f key 1) []) in
      let same : SameFunction old f new g = function_named old new old_formed new_formed t n f g key 0 entered names in
      let frames : frame ≡ frame_new = ap (λ (l : List Slot). frame_of l args) (same_slots old new f g same) in
      let keys : key_of (params_at old f) frame b ≡ key_new = λ i. key_of (same_params old new f g same i) (frames i) b in
      let first : key.a ≡ key_new.a = ap (λ (k : Key). k.a) keys in
      let second : key.b ≡ key_new.b = ap (λ (k : Key). k.b) keys in
      record {
        state = returned_renamed old new slots state d (state_at old t f key 1) (state_at new n g key_new 1)
            (state_carried old new old_formed new_formed t n f g key key_new 1 left (same, first, second, locks, refl));
        effects = ((same, first, second, locks, refl), (frames, locks), tt);
      }

  outcome_by : (act bct : Action) → AreAlikeActions old new act bct → IsFormedAction old x act → IsFormedAction new y bct → IsKnown old new t n (outcome_in old t slots state a act) → Alike (outcome_in old t slots state a act) (outcome_in new n slots state b bct)
  outcome_by (Assign i d) (Assign j e) alike here there known =
      assign_renamed i j (interval_of slots state d) (interval_of slots state e) alike.0 (ap (interval_of slots state) (same_expr old new (length x.slots) (length y.slots) d e here.1 there.1 alike.1))
  outcome_by (Read i g) (Read j h) alike here there known =
      read_renamed i j g h alike.0 (number_carried old new old_formed new_formed t n g h (known.reads (Global g) (Contains-head (Global g) [])) alike.1)
  outcome_by (Write g d) (Write h e) alike here there known =
      let same = same_expr old new (length x.slots) (length y.slots) d e here.1 there.1 alike.1 in
      subst (λ (z : Expr). Alike (written old state a g (interval_of slots state d)) (written new state b h (interval_of slots state z))) same (written_renamed g h (interval_of slots state d) alike.0 known)
  outcome_by (Nondet i) (Nondet j) alike here there known =
      subst (λ (k : ℕ). Alike (outcome_in old t slots state a (Nondet i)) (outcome_in new n slots state b (Nondet k))) alike (only_renamed old new _ _ (refl, locks))
  outcome_by (Guard d want) (Guard e wanted) alike here there known =
      on_both (λ (z : Expr) (w : Bool). Alike (outcome_in old t slots state a (Guard d want)) (outcome_in new n slots state b (Guard z w))) d e want wanted (same_expr old new (length x.slots) (length y.slots) d e here there alike.0) alike.1
      (only_renamed old new _ _ (guard_renamed old new old_formed slots d want (Reached state a) (Reached state b) (refl, locks)))
  outcome_by (Assert d) (Assert e) alike here there known =
      subst (λ (z : Expr). Alike (outcome_in old t slots state a (Assert d)) (outcome_in new n slots state b (Assert z))) (same_expr old new (length x.slots) (length y.slots) d e here there alike)
      (only_renamed old new _ _ (guard_renamed old new old_formed slots d true (Reached state a) (Reached state b) (refl, locks)))
  outcome_by (Lock m) (Lock k) alike here there known =
      only_renamed old new _ _ (locked_renamed old new old_formed new_formed state a b m k (mutex_is old new m k here alike) locks)
  outcome_by (Unlock m) (Unlock k) alike here there known =
      only_renamed old new _ _ (refl, taken_renamed old new old_formed new_formed a b m k (mutex_is old new m k here alike) locks)
  outcome_by (Create i f) (Create j g) alike here there known =
      created_renamed f g alike (record { reads = known.reads; targets = known.targets })
  outcome_by (Join i) (Join j) alike here there known = only_renamed old new _ _ (refl, locks)
  outcome_by (Call c f ds) (Call d g es) alike here there known =
      let same = same_exprs old new (length x.slots) (length y.slots) ds es here.3 there.3 alike.1.1 in
      on_both (λ (z : Option ℕ) (w : List Expr). Alike (called old t slots state a c f (values_of slots state ds)) (called new n slots state b z g (values_of slots state w))) c d ds es alike.0 same
      (called_renamed c f g (values_of slots state ds) alike.1.0 known)
  outcome_by Skip Skip alike here there known = only_renamed old new _ _ (refl, locks)
  outcome_by act bct alike here there known = absurd alike

  pub outcome_renamed : (act bct : Action) → AreAlikeActions old new act bct → IsFormedAction old x act → IsFormedAction new y bct → IsKnown old new t n (outcome_in old t slots state a act) → Alike (outcome_in old t slots state a act) (outcome_in new n slots state b bct)
  outcome_renamed act bct alike here there known = outcome_by act bct alike here there known
