-- What is noted of the unknowns of a table, one after another.
use Rattle.std.proofs.Common.{◌≡◌, ◌≢◌, ◌⊎◌, ◌↔◌, inl, inr, ℕ, zero, suc, ◌+◌, ◌<◌, ◌≤◌, Bool, true, false, cond, List, [], ◌∷◌, ◌++◌, Option, Some, None, length, map, take, get_or, refl, sym, ap, subst, ◌∙◌, arith, is_some, true≢false}
use Rattle.std.specs.Prelude.{All, Contains, IsPermutation, IsSome, slice_get}
use Rattle.std.specs.Map.{keys_of, lookup}
use Rattle.std.proofs.lemmas.Bool.{cases_lt}
use Rattle.std.proofs.lemmas.List.Elements.{All-head, All-tail}
use Rattle.std.proofs.lemmas.List.Sorted.{Contains-permutation, IsPermutation-sym}
use Rattle.std.proofs.lemmas.Option.{get_or_from_slice_get, slice_get_read, slice_get_within}
use Rattle.gob_tree.specs.declared.graph.FuncGraph.{FuncGraph}
use Rattle.gob_tree.specs.declared.graph.Program.{Program}
use Rattle.constraint_sys.specs.contracts.unknown.UnknownEq.TheImpl.Laws.{laws-law}
use Rattle.constraint_sys.specs.declared.unknown.Key.{Key}
use Rattle.constraint_sys.specs.declared.unknown.Unknown.{Unknown}
use Rattle.constraint_sys.specs.declared.unknown.Unknown.TheVariants.{Point, Global}
use Rattle.constraint_sys.specs.declared.value.Effect.{Effect}
use Rattle.constraint_sys.specs.declared.value.Value.{Value}
use Rattle.constraint_sys.specs.declared.value.Value.TheVariants.{State, Number}
use Rattle.constraint_sys.specs.Carry.{Affects, targets_of}
use Rattle.constraint_sys.specs.Contribution.{Reads, contribution_at, read_by}
use Rattle.constraint_sys.specs.PostSolution.{BoundsAt, CoversValue, IsPostSolution}
use Rattle.constraint_sys.specs.Sound.{CanTurn}
use Rattle.constraint_sys.specs.Table.{TableValue, IsThere, nodes_at, nodes_of_function, unknown_eq, value_at}
use Rattle.constraint_sys.proofs.Awakening.{place_of, there_at}
use Rattle.constraint_sys.proofs.Entries.{cases_unknown, lookup-insert_entry, unknown_eq-apart, unknown_eq-refl}
use Rattle.constraint_sys.proofs.Ordered.{Contains-cases, Contains-nil, Contains-push, Contains-take_all, Contains-take_more}
use Rattle.destabilise.specs.Linked.{IsInner, IsNumberedNode, IsStart, Targets, list_or_none, targets_at, with_targets}

pub there_of_some : (o : Option Value) → o ≢ None → IsSome o
there_of_some None some = absurd (some refl)
there_of_some (Some v) some = refl

some_of_there : (o : Option Value) → IsSome o → o ≢ None
some_of_there None there = absurd (true≢false (sym there))
some_of_there (Some v) there = λ none. true≢false (ap is_some none)

-- ---- the unknowns of a table, as a list

pub listed : (t : TableValue) (us : List Unknown) → IsPermutation (keys_of t) us → (w : Unknown) → Contains us w ↔ IsThere t w
listed t us same w = (
  λ one.
      let at = Contains-permutation us (keys_of t) w (IsPermutation-sym (keys_of t) us same) one in
      there_at t at.0 w (slice_get_read (keys_of t) (length (keys_of t)) at.0 w refl at.1 (sym at.2)),
  λ there.
      let at = place_of t w there in
      Contains-permutation (keys_of t) us w same (at.0, slice_get_within (keys_of t) at.0 w at.1, get_or_from_slice_get (keys_of t) at.0 w w at.1),
)

-- ---- one more is noted

module _ (us : List Unknown) (i : ℕ) (x : Unknown) (within : i < length us) (is : x ≡ get_or us i x) (value old new : Unknown → List Unknown) (put : (q : Unknown) → new q ≡ cond (unknown_eq q x) (value x) (old q)) (known : (u q : Unknown) → Contains (old q) u ↔ (Contains (take i us) q × Contains (value q) u)) where
  at_itself : (q : Unknown) → q ≡ x → new q ≡ value q
  at_itself q same = put q ∙ ap (λ (y : Unknown). cond (unknown_eq y x) (value x) (old q)) same ∙ ap (λ (b : Bool). cond b (value x) (old q)) (unknown_eq-refl x) ∙ ap value (sym same)

  at_others : (q : Unknown) → q ≢ x → new q ≡ old q
  at_others q apart = put q ∙ ap (λ (b : Bool). cond b (value x) (old q)) (unknown_eq-apart q x apart)

  pub noted_more : (u q : Unknown) → Contains (new q) u ↔ (Contains (take (i + 1) us) q × Contains (value q) u)
  noted_more u q = elim (cases_unknown q x) [
    | inl same ↦ (
      λ one. ((Contains-take_more us i x q within is).1 (inr same), subst (λ (l : List Unknown). Contains l u) (at_itself q same) one),
      λ both. subst (λ (l : List Unknown). Contains l u) (sym (at_itself q same)) both.1,
    )
    | inr apart ↦ (
      λ one. (let both = (known u q).0 (subst (λ (l : List Unknown). Contains l u) (at_others q apart) one) in ((Contains-take_more us i x q within is).1 (inl both.0), both.1)),
      λ both. elim ((Contains-take_more us i x q within is).0 both.0) [
        | inl before ↦ subst (λ (l : List Unknown). Contains l u) (sym (at_others q apart)) ((known u q).1 (before, both.1))
        | inr same ↦ absurd (apart same)
      ],
    )
  ]

list_by : (b : Bool) (us : List Unknown) (o : Option (List Unknown)) → list_or_none (cond b (Some us) o) ≡ cond b us (list_or_none o)
list_by true us o = refl
list_by false us o = refl

pub targets_put : (targets : Targets) (u : Unknown) (us : List Unknown) (q : Unknown) → targets_at (with_targets targets u us) q ≡ cond (unknown_eq q u) us (targets_at targets q)
targets_put targets u us q =
    ap list_or_none (lookup-insert_entry unknown_eq laws-law u us q targets) ∙ list_by (unknown_eq q u) us (lookup (unknown_eq q) targets)

-- ---- what a post-solution's points contribute to is there

abbrev AreBounded : TableValue → Effect → Type 0
AreBounded t e = BoundsAt t e.target e.value

bound_there : (o : Option Value) (v : Value) → CoversValue o v → IsSome o
bound_there None v bound = absurd bound
bound_there (Some x) v bound = refl

targets_there : (t : TableValue) (es : List Effect) (v : Unknown) → All (AreBounded t) es → Contains (map (λ (e : Effect). e.target) es) v → IsThere t v
targets_there t [] v all one = absurd (Contains-nil v one)
targets_there t (e ∷ es) v all one = elim (Contains-cases e.target v (map (λ (x : Effect). x.target) es) one) [
  | inl same ↦ subst (λ (u : Unknown). IsThere t u) (sym same) (bound_there (value_at t e.target) e.value (All-head (AreBounded t) e es all))
  | inr later ↦ targets_there t es v (All-tail (AreBounded t) e es all) later
]

suc_zero : (n : ℕ) → suc n ≡ 0 → ⊥
suc_zero n is = omega arith

pub affects_there : (p : Program) (t : TableValue) → IsPostSolution p t → (u v : Unknown) → Affects p t u v → IsThere t v
affects_there p t post (Point f key zero) v affects = absurd (Contains-nil v affects.1)
affects_there p t post (Point f key (suc node)) v affects = targets_there t _ v (post.satisfied f key (suc node) affects.0 (suc_zero node)).effects affects.1
affects_there p t post (Global g) v affects = absurd (Contains-nil v affects.1)

-- ---- what a right side gives

pub inner_turns : (t : TableValue) (u : Unknown) → IsInner u → IsThere t u → CanTurn t u
inner_turns t (Point f key zero) inner there = absurd inner
inner_turns t (Point f key (suc node)) inner there = there
inner_turns t (Global g) inner there = absurd inner

pub reads_inner : (p : Program) (t : TableValue) (u : Unknown) → IsInner u → (contribution_at p t u).reads ≡ read_by p t u
reads_inner p t (Point f key zero) inner = absurd inner
reads_inner p t (Point f key (suc node)) inner = refl
reads_inner p t (Global g) inner = absurd inner

pub targets_inner : (p : Program) (t : TableValue) (u : Unknown) → IsInner u → map (λ (e : Effect). e.target) (contribution_at p t u).effects ≡ targets_of p t u
targets_inner p t (Point f key zero) inner = absurd inner
targets_inner p t (Point f key (suc node)) inner = refl
targets_inner p t (Global g) inner = absurd inner

pub reads_none : (p : Program) (t : TableValue) (u : Unknown) → (IsInner u → ⊥) → read_by p t u ≡ []
reads_none p t (Point f key zero) other = refl
reads_none p t (Point f key (suc node)) other = absurd (other tt)
reads_none p t (Global g) other = refl

pub targets_none : (p : Program) (t : TableValue) (u : Unknown) → (IsInner u → ⊥) → targets_of p t u ≡ []
targets_none p t (Point f key zero) other = refl
targets_none p t (Point f key (suc node)) other = absurd (other tt)
targets_none p t (Global g) other = refl

-- ---- the unknown at a place of the list

pub item_there : (t : TableValue) (us items : List Unknown) → IsPermutation (keys_of t) us → items ≡ us → (i : ℕ) (u : Unknown) → i < length items → u ≡ get_or items i u → IsThere t u
item_there t us items same is i u within at = (listed t us same u).0 (subst (λ (l : List Unknown). Contains l u) is (i, within, sym at))

-- ---- all are noted

module _ (t : TableValue) (us items : List Unknown) (same : IsPermutation (keys_of t) us) (is : items ≡ us) (i : ℕ) (past : length items ≤ i) where
  pub all_there : (q : Unknown) → Contains (take i items) q ↔ IsThere t q
  all_there q =
      let all = subst (λ (l : List Unknown). Contains (take i items) q ↔ Contains l q) is (Contains-take_all items i q past) in
      let listed_one = listed t us same q in
      (λ one. listed_one.0 (all.0 one), λ there. all.1 (listed_one.1 there))

  pub all_read : (p : Program) (reads : Unknown → List Unknown) → ((u q : Unknown) → Contains (reads q) u ↔ (Contains (take i items) q × Contains (read_by p t q) u)) → (u q : Unknown) → Contains (reads q) u ↔ Reads p t q u
  all_read p reads known u q = (
    λ one. (let both = (known u q).0 one in (some_of_there (value_at t q) ((all_there q).0 both.0), both.1)),
    λ both. (known u q).1 ((all_there q).1 (there_of_some (value_at t q) both.0), both.1),
  )

  pub all_affected : (p : Program) (targets : Unknown → List Unknown) → ((v u : Unknown) → Contains (targets u) v ↔ (Contains (take i items) u × Contains (targets_of p t u) v)) → (u v : Unknown) → Contains (targets u) v ↔ Affects p t u v
  all_affected p targets known u v = (
    λ one. (let both = (known v u).0 one in ((all_there u).0 both.0, both.1)),
    λ both. (known v u).1 ((all_there u).1 both.0, both.1),
  )

-- ---- the nodes of a start

pub numbered_zero : (p : Program) (f : ℕ) (key : Key) (node : ℕ) (v : Unknown) → node ≤ 0 → IsNumberedNode p (Point f key node) v ↔ ((n : ℕ) × (n < length (nodes_at p f)) × (v ≡ Point f key n))
numbered_zero p f key zero v none = (λ one. one, λ one. one)
numbered_zero p f key (suc node) v none = absurd (omega arith)

pub numbered_other : (p : Program) (f : ℕ) (key : Key) (node : ℕ) (v : Unknown) → 0 < node → IsNumberedNode p (Point f key node) v → ⊥
numbered_other p f key zero v some one = omega arith
numbered_other p f key (suc node) v some one = one

pub nodes_known : (p : Program) (f : ℕ) (g : FuncGraph) (n : ℕ) → slice_get p.funcs f ≡ Some g → n ≡ length g.nodes → n ≡ length (nodes_at p f)
nodes_known p f g n at is = is ∙ ap (λ (o : Option FuncGraph). length (nodes_of_function o)) (sym at)

module _ {New Old A B : Type 0} where
  pub right_part : New ↔ (Old ⊎ A) → B ↔ A → New ↔ (Old ⊎ B)
  right_part n m = (
    λ new. elim (n.0 new) [ inl old ↦ inl old | inr a ↦ inr (m.1 a) ],
    λ either. elim either [ inl old ↦ n.1 (inl old) | inr b ↦ n.1 (inr (m.0 b)) ],
  )

module _ {New Mid Old : Type 0} (f : ℕ) (key : Key) (i : ℕ) (v : Unknown) where
  pub points_more : New ↔ (Mid ⊎ (v ≡ Point f key i)) → Mid ↔ (Old ⊎ ((n : ℕ) × (n < i) × (v ≡ Point f key n))) → New ↔ (Old ⊎ ((n : ℕ) × (n < i + 1) × (v ≡ Point f key n)))
  points_more a known = (
    λ one. elim (a.0 one) [
      | inl before ↦ elim (known.0 before) [ inl first ↦ inl first | inr found ↦ (let below : found.0 < i = found.1 in inr (found.0, omega arith, found.2)) ]
      | inr same ↦ inr (i, omega arith, same)
    ],
    λ either. elim either [
      | inl first ↦ a.1 (inl (known.1 (inl first)))
      | inr found ↦ elim (cases_lt found.0 i) [
        | inl before ↦ a.1 (inl (known.1 (inr (found.0, before, found.2))))
        | inr after ↦
            let below : found.0 < i + 1 = found.1 in
            let here : found.0 ≡ i = omega arith in
            a.1 (inr (found.2 ∙ ap (λ (k : ℕ). Point f key k) here))
      ]
    ],
  )
