-- The lists of nodes, as a vertex is added to one.
use Rattle.std.proofs.Common.{◌≡◌, ◌≢◌, inl, inr, ℕ, zero, suc, ◌+◌, ◌<◌, Bool, true, false, cond, ◌&&◌, nat_eq, List, [], ◌∷◌, ◌++◌, Option, None, Some, length, set, take, get_or, slice_get, refl, sym, ap, subst, ◌∙◌, arith}
use Rattle.std.specs.Prelude.{IsSomeAnd, filter, if◌then◌else◌}
use Rattle.std.specs.Global.{Vec}
use Rattle.std.proofs.lemmas.Bool.{cases_eq}
use Rattle.std.proofs.lemmas.Bool.Decides.{nat_tests}
use Rattle.std.proofs.lemmas.List.{append-nil}
use Rattle.std.proofs.lemmas.Option.{get_or_from_slice_get, slice_get_read}
use Rattle.constraint_sys.proofs.Ordered.{take_read}
use Rattle.arg_graph.specs.Graphs.{HasRoom, row_for, row_in, row_of, vertices_or_none}
use Rattle.arg_graph.specs.Vertices.{is_at}
use Rattle.arg_graph.specs.declared.vertex.Vertex.{Vertex}

module _ {X : Type 0} where
  get_set_same : (xs : List X) (n : ℕ) (x : X) → n < length xs → slice_get (set xs n x) n ≡ Some x
  get_set_same [] n x within = absurd (omega arith)
  get_set_same (y ∷ ys) zero x within = refl
  get_set_same (y ∷ ys) (suc n) x within = get_set_same ys n x (omega arith)

  get_set_other : (xs : List X) (n m : ℕ) (x : X) → m ≢ n → slice_get (set xs n x) m ≡ slice_get xs m
  get_set_other [] n m x other = refl
  get_set_other (y ∷ ys) zero zero x other = absurd (other refl)
  get_set_other (y ∷ ys) zero (suc m) x other = refl
  get_set_other (y ∷ ys) (suc n) zero x other = refl
  get_set_other (y ∷ ys) (suc n) (suc m) x other = get_set_other ys n m x (λ same. other (ap suc same))

  length_set : (xs : List X) (n : ℕ) (x : X) → length (set xs n x) ≡ length xs
  length_set [] n x = refl
  length_set (y ∷ ys) zero x = refl
  length_set (y ∷ ys) (suc n) x = ap suc (length_set ys n x)

  within_if_some : (xs : List X) (n : ℕ) (x : X) → slice_get xs n ≡ Some x → n < length xs
  within_if_some [] n x is = cc is
  within_if_some (y ∷ ys) zero x is = omega arith
  within_if_some (y ∷ ys) (suc n) x is = (let rest = within_if_some ys n x is in omega (arith, rest))

own_number : (n : ℕ) → nat_eq n n ≡ true
own_number n = grind (arith, nat_tests)

off_number : (n m : ℕ) → m ≢ n → nat_eq n m ≡ false
off_number n m other = grind (arith, nat_tests)

only_if : (b : Bool) → b ≡ false → (v : Vertex) (vs : List Vertex) → vs ≡ vs ++ (if b then v ∷ [] else [])
only_if b is v vs = rw is (sym (append-nil vs))

off_second : (b : Bool) → (b && false) ≡ false
off_second true = refl
off_second false = refl

-- the row of a function, where there is a list for a node of it
pub room_read : (rows : List (Vec (List Vertex))) (f node : ℕ) (row : Vec (List Vertex)) → HasRoom rows f node → row ≡ get_or rows f row → (slice_get rows f ≡ Some row) × (node < length row.items)
room_read rows f node row room is = by (slice_get rows f) refl room
  where
    by : (o : Option (Vec (List Vertex))) → slice_get rows f ≡ o → IsSomeAnd o (λ (r : Vec (List Vertex)). node < length r.items) → (slice_get rows f ≡ Some row) × (node < length row.items)
    by None at inside = absurd inside
    by (Some r) at inside =
        let same : row ≡ r = is ∙ get_or_from_slice_get rows f r row at in
        (at ∙ ap Some (sym same), subst (λ (x : Vec (List Vertex)). node < length x.items) (sym same) inside)

module _ (rows : List (Vec (List Vertex))) (v : Vertex) (row more : Vec (List Vertex)) (old new : List Vertex) (at : slice_get rows v.func ≡ Some row) (inside : v.node < length row.items)
    (old_is : old ≡ get_or row.items v.node old) (more_is : more.items ≡ set row.items v.node new) (new_is : new ≡ old ++ v ∷ []) where
  here : row_for more.items v.node ≡ row_for row.items v.node ++ v ∷ []
  here =
      ap (λ (l : List (List Vertex)). row_for l v.node) more_is ∙ ap vertices_or_none (get_set_same row.items v.node new inside) ∙ new_is
      ∙ ap (λ (l : List Vertex). l ++ v ∷ []) (sym (ap vertices_or_none (slice_get_read row.items (length row.items) v.node old refl inside old_is)))

  elsewhere : (node : ℕ) → node ≢ v.node → row_for more.items node ≡ row_for row.items node
  elsewhere node other = ap (λ (l : List (List Vertex)). row_for l node) more_is ∙ ap vertices_or_none (get_set_other row.items v.node node new other)

  in_row : (node : ℕ) → row_for more.items node ≡ row_for row.items node ++ (if is_at v.func node v then v ∷ [] else [])
  in_row node = elim (cases_eq node v.node) [
    | inl same ↦
        (let test : is_at v.func v.node v ≡ true = rw (own_number v.func, own_number v.node) refl in
        subst (λ (k : ℕ). row_for more.items k ≡ row_for row.items k ++ (if is_at v.func k v then v ∷ [] else [])) (sym same)
        (here ∙ ap (λ (b : Bool). row_for row.items v.node ++ (if b then v ∷ [] else [])) (sym test)))
    | inr other ↦
        (let test : is_at v.func node v ≡ false = rw (off_number v.node node other) (off_second (nat_eq v.func v.func)) in
        elsewhere node other ∙ only_if (is_at v.func node v) test v (row_for row.items node))
  ]

  pub added : (f node : ℕ) → row_of (set rows v.func more) f node ≡ row_of rows f node ++ (if is_at f node v then v ∷ [] else [])
  added f node = elim (cases_eq f v.func) [
    | inl same ↦
        subst (λ (k : ℕ). row_of (set rows v.func more) k node ≡ row_of rows k node ++ (if is_at k node v then v ∷ [] else [])) (sym same)
        (ap (λ (o : Option (Vec (List Vertex))). row_in o node) (get_set_same rows v.func more (within_if_some rows v.func row at)) ∙ in_row node
        ∙ ap (λ (o : Option (Vec (List Vertex))). row_in o node ++ (if is_at v.func node v then v ∷ [] else [])) (sym at))
    | inr other ↦
        (let test : is_at f node v ≡ false = rw (off_number v.func f other) refl in
        ap (λ (o : Option (Vec (List Vertex))). row_in o node) (get_set_other rows v.func f more other) ∙ only_if (is_at f node v) test v (row_of rows f node))
  ]

  pub room_kept : (f node : ℕ) → HasRoom rows f node → HasRoom (set rows v.func more) f node
  room_kept f node room = elim (cases_eq f v.func) [
    | inl same ↦
        (let long : length more.items ≡ length row.items = ap (λ (l : List (List Vertex)). length l) more_is ∙ length_set row.items v.node new in
        let inner : node < length row.items = subst (λ (o : Option (Vec (List Vertex))). IsSomeAnd o (λ (r : Vec (List Vertex)). node < length r.items)) (ap (slice_get rows) same ∙ at) room in
        subst (λ (o : Option (Vec (List Vertex))). IsSomeAnd o (λ (r : Vec (List Vertex)). node < length r.items)) (sym (ap (slice_get (set rows v.func more)) same ∙ get_set_same rows v.func more (within_if_some rows v.func row at)))
        (omega (arith, long, inner)))
    | inr other ↦ subst (λ (o : Option (Vec (List Vertex))). IsSomeAnd o (λ (r : Vec (List Vertex)). node < length r.items)) (sym (get_set_other rows v.func f more other)) room
  ]

-- ---- vertices at a node, one vertex more
filter-push : (test : Vertex → Bool) (vs : List Vertex) (v : Vertex) → filter test (vs ++ v ∷ []) ≡ filter test vs ++ cond (test v) (v ∷ []) []
filter-push test [] v = refl
filter-push test (x ∷ xs) v = by (test x) (filter-push test xs v)
  where
    by : (b : Bool) → filter test (xs ++ v ∷ []) ≡ filter test xs ++ cond (test v) (v ∷ []) []
        → cond b (x ∷ filter test (xs ++ v ∷ [])) (filter test (xs ++ v ∷ [])) ≡ cond b (x ∷ filter test xs) (filter test xs) ++ cond (test v) (v ∷ []) []
    by true rest = ap (λ (l : List Vertex). x ∷ l) rest
    by false rest = rest

pub at_node_next : (f node : ℕ) (vs : List Vertex) (i : ℕ) (v : Vertex) → i < length vs → v ≡ get_or vs i v
    → filter (is_at f node) (take (i + 1) vs) ≡ filter (is_at f node) (take i vs) ++ (if is_at f node v then v ∷ [] else [])
at_node_next f node vs i v within is = ap (filter (is_at f node)) (take_read vs i v within is) ∙ filter-push (is_at f node) (take i vs) v

-- ---- rows without vertices
pub empty_more : (rows : List (List Vertex)) → ((node : ℕ) → row_for rows node ≡ []) → (node : ℕ) → row_for (rows ++ [] ∷ []) node ≡ []
empty_more [] none zero = refl
empty_more [] none (suc node) = refl
empty_more (r ∷ rs) none zero = none 0
empty_more (r ∷ rs) none (suc node) = empty_more rs (λ n. none (suc n)) node

pub row_more : (rows : List (Vec (List Vertex))) (row : Vec (List Vertex)) → ((node : ℕ) → row_for row.items node ≡ []) → ((f node : ℕ) → row_of rows f node ≡ []) → (f node : ℕ) → row_of (rows ++ row ∷ []) f node ≡ []
row_more [] row none all zero node = none node
row_more [] row none all (suc f) node = refl
row_more (r ∷ rs) row none all zero node = all 0 node
row_more (r ∷ rs) row none all (suc f) node = row_more rs row none (λ g. all (suc g)) f node

pub room_more : (rows : List (Vec (List Vertex))) (row : Vec (List Vertex)) (f node : ℕ) → HasRoom rows f node → HasRoom (rows ++ row ∷ []) f node
room_more [] row f node room = absurd (by f room)
  where
    by : (f : ℕ) → HasRoom [] f node → ⊥
    by zero none = none
    by (suc f) none = none
room_more (r ∷ rs) row zero node room = room
room_more (r ∷ rs) row (suc f) node room = room_more rs row f node room

pub room_last : (rows : List (Vec (List Vertex))) (row : Vec (List Vertex)) (node : ℕ) → node < length row.items → HasRoom (rows ++ row ∷ []) (length rows) node
room_last [] row node inside = inside
room_last (r ∷ rs) row node inside = room_last rs row node inside
