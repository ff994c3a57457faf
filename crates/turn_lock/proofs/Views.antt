-- Facts about all views of a table, after one of them changed.
use Rattle.std.proofs.Common.{◌≡◌, ◌≢◌, ℕ, zero, suc, List, [], ◌∷◌, set, Bool, true, false, sym, refl, ap, ◌∙◌, subst, ⊎_elim}
use mathlib.Core.Option.{some, some-injective, some-ne-none}
use lib.ListN.{get_elem?}
use Rattle.atomic_table.proofs.Lists.{at_set}
use Rattle.turn_lock.specs.declared.view.Place.{Place}
use Rattle.turn_lock.specs.declared.view.Place.TheVariants.{Outside, Waiting, Inside, Spent}
use Rattle.turn_lock.specs.declared.view.View.{View}
use Rattle.turn_lock.specs.Turn.{is_drawn, ticket_of, has_turn}

pub false_of_not : (b : Bool) → (b ≡ true → ⊥) → b ≡ false
false_of_not true h = absurd (h refl)
false_of_not false h = refl

-- whoever has the turn has a ticket
pub drawn_of_turn : (p : Place) → has_turn p ≡ true → is_drawn p ≡ true
drawn_of_turn Outside e = absurd (cc (e))
drawn_of_turn (Waiting n) e = refl
drawn_of_turn (Inside n) e = refl
drawn_of_turn Spent e = absurd (cc (e))

pub set_there : {A : Type 0} (l : List A) (i : ℕ) (a b : A) → get_elem? l i ≡ some b → get_elem? (set l i a) i ≡ some a
set_there [] i a b e = absurd (some-ne-none b (sym e))
set_there (x ∷ xs) zero a b e = refl
set_there (x ∷ xs) (suc i) a b e = set_there xs i a b e

module _ {E : Type 0} where
  -- what holds of the new view, and of each other view, holds of all
  pub all_views : (K : View E → Type 0) (vs : List (View E)) (id : ℕ) (w : View E) → K w → ((j : ℕ) (v : View E) → j ≢ id → get_elem? vs j ≡ some v → K v)
      → (j : ℕ) (v : View E) → get_elem? (set vs id w) j ≡ some v → K v
  all_views K vs id w mine others j v e = ⊎_elim (λ (t : (j ≡ id) × (w ≡ v)). subst K t.1 mine) (λ (t : (j ≢ id) × (get_elem? vs j ≡ some v)). others j v t.0 t.1) (at_set vs id j w v e)

  -- two views at one place are one
  pub one_view : (vs : List (View E)) (i j : ℕ) (v w : View E) → get_elem? vs i ≡ some v → get_elem? vs j ≡ some w → i ≡ j → v ≡ w
  one_view vs i j v w p q e = some-injective v w (sym p ∙ (ap (get_elem? vs) e ∙ q))

  abbrev pub Apart : List (View E) → Type 0
  Apart vs = (i j : ℕ) (v w : View E) → get_elem? vs i ≡ some v → get_elem? vs j ≡ some w → is_drawn v.place ≡ true → is_drawn w.place ≡ true → ticket_of v.place ≡ ticket_of w.place → i ≡ j

  -- tickets are apart after a view changed to one whose ticket no other has
  pub apart_set : (vs : List (View E)) (id : ℕ) (w : View E) → Apart vs
      → ((j : ℕ) (v : View E) → j ≢ id → get_elem? vs j ≡ some v → is_drawn v.place ≡ true → is_drawn w.place ≡ true → ticket_of w.place ≡ ticket_of v.place → ⊥)
      → Apart (set vs id w)
  apart_set vs id w old other i j x y p q dx dy e =
      ⊎_elim
      (λ (t : (i ≡ id) × (w ≡ x)). ⊎_elim
      (λ (u : (j ≡ id) × (w ≡ y)). t.0 ∙ sym u.0)
      (λ (u : (j ≢ id) × (get_elem? vs j ≡ some y)). absurd (other j y u.0 u.1 dy (ap (λ (z : View E). is_drawn z.place) t.1 ∙ dx) (ap (λ (z : View E). ticket_of z.place) t.1 ∙ e)))
      (at_set vs id j w y q))
      (λ (t : (i ≢ id) × (get_elem? vs i ≡ some x)). ⊎_elim
      (λ (u : (j ≡ id) × (w ≡ y)). absurd (other i x t.0 t.1 dx (ap (λ (z : View E). is_drawn z.place) u.1 ∙ dy) (ap (λ (z : View E). ticket_of z.place) u.1 ∙ sym e)))
      (λ (u : (j ≢ id) × (get_elem? vs j ≡ some y)). old i j x y t.1 u.1 dx dy e)
      (at_set vs id j w y q))
      (at_set vs id i w x p)
