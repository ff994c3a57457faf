-- Replays: they go on, keep what a turn keeps, and have one result.
use Rattle.std.proofs.Common.{◌≡◌, ◌↔◌, inl, inr, List, [], ◌∷◌, ◌++◌, refl, sym, ap, ◌∙◌, subst}
use Rattle.std.specs.Prelude.{Contains}
use Rattle.std.specs.Ordering.{ordering_reverse}
use Rattle.std.specs.List.Sorted.{IsStrictlySortedBy}
use Rattle.std.specs.declared.cmp.Ordering.TheVariants.{Less, Equal, Greater}
use Rattle.std.proofs.lemmas.Cmp.{tied_itself}
use Rattle.std.proofs.lemmas.List.Elements.{All-contains}
use Rattle.std.proofs.lemmas.Map.Views.{All-after_first}
use Rattle.gob_tree.specs.Formed.{IsFormed}
use Rattle.gob_tree.specs.declared.graph.Program.{Program}
use Rattle.constraint_sys.specs.contracts.unknown.UnknownOrd.TheImpl.Laws.{total-law}
use Rattle.constraint_sys.specs.declared.unknown.Unknown.{Unknown}
use Rattle.constraint_sys.specs.declared.unknown.Unknown.TheVariants.{Point}
use Rattle.constraint_sys.specs.PostSolution.{IsPostSolution}
use Rattle.constraint_sys.specs.Sound.{IsSound, IsTurnable}
use Rattle.constraint_sys.specs.Table.{TableValue, unknown_cmp}
use Rattle.constraint_sys.specs.Turn.{IsAscending, IsDirtyAfter, Replays, Solving, Turns}
use Rattle.constraint_sys.proofs.Ordered.{Contains-cases, Contains-head, Contains-nil, Contains-tail}
use Rattle.constraint_sys.proofs.Turning.{IsSound-turned, IsTurnable-turned, nothing_in}

pub Replays-push : (p : Program) (old : Solving) (trace : List Unknown) (mid : Solving) (u : Unknown) (new : Solving) → Replays p old trace mid → Turns p mid u new → Replays p old (trace ++ u ∷ []) new
Replays-push p old [] mid u new replays turn = (new, subst (λ (s : Solving). Turns p s u new) replays turn, refl)
Replays-push p old (v ∷ trace) mid u new (next, first, replays) turn = (next, first, Replays-push p next trace mid u new replays turn)

pub IsSound-replayed : (p : Program) (old : Solving) (trace : List Unknown) (new : Solving) → IsFormed p → IsSound p old → Replays p old trace new → IsSound p new
IsSound-replayed p old [] new formed sound replays = subst (IsSound p) (sym replays) sound
IsSound-replayed p old (u ∷ trace) new formed sound (next, turn, replays) = IsSound-replayed p next trace new formed (IsSound-turned p old u next formed sound turn) replays

pub IsTurnable-replayed : (p : Program) (old : Solving) (trace : List Unknown) (new : Solving) → IsFormed p → IsTurnable p old → Replays p old trace new → IsTurnable p new
IsTurnable-replayed p old [] new formed turnable replays = subst (IsTurnable p) (sym replays) turnable
IsTurnable-replayed p old (u ∷ trace) new formed turnable (next, turn, replays) = IsTurnable-replayed p next trace new formed (IsTurnable-turned p formed old u next turnable turn) replays

-- with nothing dirty each point is satisfied
pub IsPostSolution-clean : (p : Program) (s : Solving) → IsSound p s → s.dirty ≡ [] → IsPostSolution p s.table
IsPostSolution-clean p s sound clean = record {
  roots = sound.roots;
  satisfied = λ f key node there inner. sound.satisfied f key node there inner (λ dirty. nothing_in (Point f key node) (subst (λ (l : List Unknown). Contains l (Point f key node)) clean dirty));
}

-- ---- two ascending lists of the same members are one
less_itself : (u : Unknown) → unknown_cmp u u ≡ Less → ⊥
less_itself u less = let tied : Less ≡ Equal = sym less ∙ tied_itself total-law u in cc tied

less_both : (u v : Unknown) → unknown_cmp u v ≡ Less → unknown_cmp v u ≡ Less → ⊥
less_both u v first second =
    let flipped : Less ≡ Greater = sym first ∙ total-law.antisymm u v ∙ ap ordering_reverse second in
    cc flipped

above : (x : Unknown) (xs : List Unknown) → IsAscending (x ∷ xs) → (y : Unknown) → Contains xs y → unknown_cmp x y ≡ Less
above x xs ascending y one = All-contains (λ (q : Unknown). unknown_cmp x q ≡ Less) xs y (All-after_first unknown_cmp x xs ascending) one

pub rest_ascends : (x : Unknown) (xs : List Unknown) → IsAscending (x ∷ xs) → IsAscending xs
unfolding IsStrictlySortedBy
rest_ascends x xs ascending = ascending.1

first_same : (x y : Unknown) (xs ys : List Unknown) → IsAscending (x ∷ xs) → IsAscending (y ∷ ys) → ((q : Unknown) → Contains (x ∷ xs) q ↔ Contains (y ∷ ys) q) → x ≡ y
first_same x y xs ys left right same = elim (Contains-cases y x ys ((same x).0 (Contains-head x xs))) [
  | inl is ↦ is
  | inr later ↦ elim (Contains-cases x y xs ((same y).1 (Contains-head y ys))) [
    | inl is ↦ sym is
    | inr other ↦ absurd (less_both x y (above x xs left y other) (above y ys right x later))
  ]
]

rest_member : (x : Unknown) (xs ys : List Unknown) → IsAscending (x ∷ xs) → ((q : Unknown) → Contains (x ∷ xs) q → Contains (x ∷ ys) q) → (q : Unknown) → Contains xs q → Contains ys q
rest_member x xs ys left same q one = elim (Contains-cases x q ys (same q (Contains-tail x q xs one))) [
  | inl is ↦ absurd (less_itself x (subst (λ (y : Unknown). unknown_cmp x y ≡ Less) is (above x xs left q one)))
  | inr later ↦ later
]

pub same_ascending : (xs ys : List Unknown) → IsAscending xs → IsAscending ys → ((q : Unknown) → Contains xs q ↔ Contains ys q) → xs ≡ ys
same_ascending [] [] left right same = refl
same_ascending [] (y ∷ ys) left right same = absurd (Contains-nil y ((same y).1 (Contains-head y ys)))
same_ascending (x ∷ xs) [] left right same = absurd (Contains-nil x ((same x).0 (Contains-head x xs)))
same_ascending (x ∷ xs) (y ∷ ys) left right same =
    let first = first_same x y xs ys left right same in
    let aligned : IsAscending (x ∷ ys) = subst (λ (z : Unknown). IsAscending (z ∷ ys)) (sym first) right in
    let rest = same_ascending xs ys (rest_ascends x xs left) (rest_ascends y ys right) (λ q. (
      rest_member x xs ys left (λ r one. subst (λ (z : Unknown). Contains (z ∷ ys) r) (sym first) ((same r).0 one)) q,
      rest_member x ys xs aligned (λ r one. (same r).1 (subst (λ (z : Unknown). Contains (z ∷ ys) r) first one)) q,
    )) in
    λ i. first i ∷ rest i

-- ---- a turn has one result, and so has a replay
pub Turns-one : (p : Program) (old : Solving) (u : Unknown) (one other : Solving) → Turns p old u one → Turns p old u other → one ≡ other
Turns-one p old u one other first second =
    let table : one.table ≡ other.table = first.table ∙ sym second.table in
    let dirty : one.dirty ≡ other.dirty = same_ascending one.dirty other.dirty first.ascending second.ascending (λ q. (
      λ h. (second.dirty q).1 (subst (λ (t : TableValue). IsDirtyAfter p old u t q) table ((first.dirty q).0 h)),
      λ h. (first.dirty q).1 (subst (λ (t : TableValue). IsDirtyAfter p old u t q) (sym table) ((second.dirty q).0 h)),
    )) in
    λ i. record { table = table i; dirty = dirty i }

pub Replays-one : (p : Program) (old : Solving) (trace : List Unknown) (one other : Solving) → Replays p old trace one → Replays p old trace other → one ≡ other
Replays-one p old [] one other first second = first ∙ sym second
Replays-one p old (u ∷ trace) one other (mid, turn, rest) (next, turned, later) =
    let same : mid ≡ next = Turns-one p old u mid next turn turned in
    Replays-one p next trace one other (subst (λ (s : Solving). Replays p s trace one) same rest) later
