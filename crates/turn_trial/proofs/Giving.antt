-- What may be given back, and what the pass has then.
use Rattle.std.proofs.Common.{◌≡◌, ℕ, Bool, true, false, true≢false, List, [], ◌∷◌, ◌++◌, length, Option, Some, None, IfSome, IfNone, MatchBool, slice_get, refl, sym, ap, ◌∙◌, subst, inl, inr, arith}
use Rattle.std.specs.List.{Contains}
use Rattle.std.proofs.lemmas.List.Elements.{Contains-append_left, Contains-append_right}
use Rattle.std.proofs.lemmas.Option.{slice_get_within, get_or_from_slice_get}
use mathlib.Core.List.{IsPrefix}
use Rattle.turn_lock.specs.declared.logged.Role.TheVariants.{Hand}
use Rattle.turn_lock.specs.Known.{Known, MayGive}
use Rattle.turn_lock.proofs.Prefixes.{prefix_get}
use Rattle.turn_trial.specs.declared.notes.Note.{Note}
use Rattle.turn_trial.specs.declared.notes.Note.TheVariants.{Opened, Closed}
use Rattle.turn_trial.specs.Trial.{kind_of, IsNew, HasOpened, HasServed}

-- a hand may give the notes back with one more, which opens a new session
pub gives_opened : (p : Known Note) (notes notes' : List Note) (r : Option ℕ) → p.role ≡ Hand → p.seen ≡ notes
    → IfSome r (λ s. notes' ≡ notes ++ Opened s ∷ []) → IfSome r (λ s. IsNew s notes) → IfNone r (notes' ≡ notes) → MayGive kind_of p notes'
gives_opened p notes notes' (Some s) hand seen more new same = inr (
  Opened s,
  more ∙ ap (λ l. l ++ Opened s ∷ []) (sym seen),
  record {
    role = sym hand;
    first = λ n b k f at about.
        let number : s ≡ n = cc (b.0.1) in
        new k f (subst (λ l. slice_get l k ≡ Some f) seen at) (about.0 ∙ hand, about.1 ∙ ap Some (sym number));
    later = λ n about no. absurd (true≢false no);
  },
)
gives_opened p notes notes' None hand seen more new same = inl (same ∙ sym seen)

slice_get_last : {A : Type 0} (xs : List A) (x : A) → slice_get (xs ++ x ∷ []) (length xs) ≡ Some x
slice_get_last [] x = refl
slice_get_last (y ∷ xs) x = slice_get_last xs x

last_contains : (xs : List ℕ) (n : ℕ) → Contains (xs ++ n ∷ []) n
last_contains xs n = Contains-append_right xs (n ∷ []) n (0, omega arith, refl)

pub has_opened : (p q : Known Note) (notes' : List Note) (r : Option ℕ) → q.seen ≡ notes' → IfSome r (λ s. notes' ≡ p.seen ++ Opened s ∷ [])
    → ((e : Note) → notes' ≡ p.seen ++ e ∷ [] → q.mine ≡ p.mine ++ length p.seen ∷ []) → IfSome r (λ s. HasOpened s q)
has_opened p q notes' (Some s) seen more own = record {
  first = length p.seen;
  opened = subst (λ l. slice_get l (length p.seen) ≡ Some (Opened s)) (sym (seen ∙ more)) (slice_get_last p.seen (Opened s));
  own = subst (λ l. Contains l (length p.seen)) (sym (own (Opened s) more)) (last_contains p.mine (length p.seen));
}
has_opened p q notes' None seen more own = tt

-- a pass that goes on still has what it opened
pub still_opened : (s : ℕ) (p q : Known Note) → IsPrefix p.seen q.seen → q.mine ≡ p.mine → HasOpened s p → HasOpened s q
still_opened s p q longer same h = record {
  first = h.first;
  opened = prefix_get p.seen q.seen h.first (Opened s) longer h.opened;
  own = subst (λ l. Contains l h.first) (sym same) h.own;
}

pub opened_there : (s : ℕ) (p : Known Note) → HasOpened s p → Contains p.seen (Opened s)
opened_there s p h = (h.first, slice_get_within p.seen h.first (Opened s) h.opened, get_or_from_slice_get p.seen h.first (Opened s) (Opened s) h.opened)

-- the hand that opened a session may give the notes back with its closing
pub gives_closed : (s : ℕ) (p : Known Note) (notes notes' : List Note) (b : Bool) → p.role ≡ Hand → p.seen ≡ notes → HasOpened s p → MatchBool b (notes' ≡ notes ++ Closed s ∷ []) (notes' ≡ notes) → MayGive kind_of p notes'
gives_closed s p notes notes' true hand seen h more = inr (
  Closed s,
  more ∙ ap (λ l. l ++ Closed s ∷ []) (sym seen),
  record {
    role = sym hand;
    first = λ n b. absurd (true≢false (sym b.1));
    later = λ n about no. (h.first, Opened s, h.own, h.opened, (about, refl));
  },
)
gives_closed s p notes notes' false hand seen h same = inl (same ∙ sym seen)

pub has_served : (s : ℕ) (p q : Known Note) (notes' : List Note) (b : Bool) → b ≡ true → q.seen ≡ notes' → HasOpened s p → MatchBool b (notes' ≡ p.seen ++ Closed s ∷ []) (notes' ≡ p.seen)
    → ((e : Note) → notes' ≡ p.seen ++ e ∷ [] → q.mine ≡ p.mine ++ length p.seen ∷ []) → HasServed s q
has_served s p q notes' true right seen h more own =
    let all : q.seen ≡ p.seen ++ Closed s ∷ [] = seen ∙ more in
    let mine : q.mine ≡ p.mine ++ length p.seen ∷ [] = own (Closed s) more in record {
      first = h.first;
      last = length p.seen;
      opened = prefix_get p.seen q.seen h.first (Opened s) (Closed s ∷ [], sym all) h.opened;
      closed = subst (λ l. slice_get l (length p.seen) ≡ Some (Closed s)) (sym all) (slice_get_last p.seen (Closed s));
      own_first = subst (λ l. Contains l h.first) (sym mine) (Contains-append_left p.mine (length p.seen ∷ []) h.first h.own);
      own_last = subst (λ l. Contains l (length p.seen)) (sym mine) (last_contains p.mine (length p.seen));
    }
has_served s p q notes' false wrong seen h more own = absurd (true≢false (sym wrong))
