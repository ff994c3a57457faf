-- A loop that fills a column, and vertices whose intervals are ordered.
use Rattle.std.proofs.Common.{◌≡◌, ◌∙◌, sym, ap, subst, inl, inr, ℕ, ◌+◌, ◌<◌, ◌≤◌, ◌≤ℤ◌, List, [], ◌∷◌, ◌++◌, map, length, drop, get_or, Some, append_assoc, arith}
use Rattle.std.specs.Prelude.{Contains, slice_get}
use Rattle.std.proofs.lemmas.Bool.{cases_lt}
use Rattle.std.proofs.lemmas.List.{at_drop_more}
use Rattle.std.proofs.lemmas.Option.{get_or_from_slice_get, slice_get-get_or}
use Rattle.interval_dom.specs.Bounds.{Bounds}
use Rattle.constraint_sys.specs.Table.{TableValue}
use Rattle.arg_graph.specs.declared.vertex.Vertex.{Vertex}
use Rattle.breakpoint_eval.specs.Columns.{high_at, low_at, slot_at}

pub pushed : {X Y : Type 0} (f : X → Y) (xs : List X) (i : ℕ) (x : X) (old new : List Y) (y : Y) → i < length xs → x ≡ get_or xs i x → y ≡ f x → new ≡ old ++ y ∷ [] → old ++ map f (drop i xs) ≡ map f xs
    → new ++ map f (drop (i + 1) xs) ≡ map f xs
pushed {X} {Y} f xs i x old new y within is fx grown before =
    let e : drop i xs ≡ x ∷ drop (i + 1) xs = at_drop_more (λ (ys : List X). ys) xs i x within ∙ ap (λ (z : X). z ∷ drop (i + 1) xs) (sym is) in
    ap (λ (l : List Y). l ++ map f (drop (i + 1) xs)) grown ∙ append_assoc old (y ∷ []) (map f (drop (i + 1) xs))
    ∙ ap (λ (z : Y). old ++ z ∷ map f (drop (i + 1) xs)) fx ∙ sym (ap (λ (l : List X). old ++ map f l) e) ∙ before

-- the low end of the slot's interval isn't above the high end
abbrev pub IsOrdered : TableValue → ℕ → Vertex → Type 0
IsOrdered t slot v = low_at t slot v ≤ℤ high_at t slot v

abbrev pub AreOrdered : TableValue → ℕ → List Vertex → ℕ → Type 0
AreOrdered t slot vs i = (k : ℕ) → k < i → (v : Vertex) → slice_get vs k ≡ Some v → low_at t slot v ≤ℤ high_at t slot v

pub ordered_more : (t : TableValue) (slot : ℕ) (vs : List Vertex) (i : ℕ) (item : Vertex) (b : Bounds) → item ≡ get_or vs i item → b ≡ slot_at t slot item → b.lo ≤ℤ b.hi → AreOrdered t slot vs i → AreOrdered t slot vs (i + 1)
ordered_more t slot vs i item b is at ends before k below v here = elim (cases_lt k i) [
  | inl earlier ↦ before k earlier v here
  | inr later ↦
      (let same : k ≡ i = omega arith in
      let found : get_or vs i item ≡ v = get_or_from_slice_get vs i v item (subst (λ (n : ℕ). slice_get vs n ≡ Some v) same here) in
      subst (IsOrdered t slot) (is ∙ found) (subst (λ (x : Bounds). x.lo ≤ℤ x.hi) at ends))
]

pub ordered_all : (t : TableValue) (slot : ℕ) (vs : List Vertex) (i : ℕ) → length vs ≤ i → AreOrdered t slot vs i → (v : Vertex) → Contains vs v → low_at t slot v ≤ℤ high_at t slot v
ordered_all t slot vs i all ordered v (k, within, is) = ordered k (omega arith) v (slice_get-get_or vs k v within ∙ ap (λ (x : Vertex). Some x) is)
