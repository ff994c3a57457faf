use Rattle.std.proofs.Common.{◌≡◌, ◌↔◌, inl, inr, ℕ, List, length, sym, subst}
use Rattle.std.specs.Prelude.{Contains}
use Rattle.std.specs.List.{IsDistinct}
use Rattle.std.specs.Map.{keys_of}
use Rattle.constraint_sys.specs.declared.unknown.Unknown.{Unknown}
use Rattle.constraint_sys.specs.Arising.{IsInner, IsNewAt}
use Rattle.constraint_sys.specs.Table.{TableValue, unknown_eq}
use Rattle.constraint_sys.specs.Turn.{IsBrought}
use Rattle.constraint_sys.proofs.Awakening.{Brought-new}
use Rattle.constraint_sys.proofs.Fellows.{on_ok}
use Rattle.constraint_sys.proofs.turns.prepare.Goals as goal

pub returns-clause-dirty : goal.returns-clause-dirty
returns-clause-dirty c = λ q.
    let t = c.args.table.now in
    let new = c.arise_each.new.table in
    let begins = c.arise_each.ensures.begins in
    let distinct : IsDistinct unknown_eq (keys_of new) = c.in_ok-push_brought.ensures.distinct in
    let whole = Brought-new t begins.0 q (subst (λ (s : TableValue). IsDistinct unknown_eq (keys_of s)) begins.1 distinct) in
    let placed : IsBrought t new q ↔ (IsInner q × IsNewAt (length t) new q) = subst (λ (s : TableValue). IsBrought t s q ↔ (IsInner q × IsNewAt (length t) s q)) (sym begins.1) whole in
    let brought : IsBrought t new q ↔ (IsInner q × IsNewAt c.len-len.result new q) = subst (λ (n : ℕ). IsBrought t new q ↔ (IsInner q × IsNewAt n new q)) (sym c.len-len.ensures.value) placed in
    let pushed = c.in_ok-push_brought.ensures.more q in
    let same : c.as_slice.result.now ≡ c.push_brought.new.more.items = c.as_slice.ensures.value in
    on_ok c.exchange.result _ _ (λ swap. (
      λ one. elim (swap.0 one) [
        | inl waits ↦ inl waits
        | inr m ↦ elim (pushed.0 (subst (λ (l : List Unknown). Contains l q) same m)) [ inl awake ↦ inr (inr awake) | inr node ↦ inr (inl (brought.1 node)) ]
      ],
      λ due. swap.1 (elim due [
        | inl waits ↦ inl waits
        | inr x ↦ inr (subst (λ (l : List Unknown). Contains l q) (sym same) (pushed.1 (elim x [ inl b ↦ inr (brought.0 b) | inr awake ↦ inl awake ])))
      ]),
    )) (c.exchange.ensures.ok q)
