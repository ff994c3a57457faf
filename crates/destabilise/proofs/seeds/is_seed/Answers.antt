use Rattle.std.proofs.Common.{◌≡◌, ◌↔◌, ℕ, true, List, Option, inl, inr, refl, sym, subst, ap, ◌∙◌, true≢false}
use Rattle.std.specs.Prelude.{IsTrue}
use Rattle.std.specs.Option.{option_copied}
use Rattle.constraint_sys.specs.Table.{value_at}
use Rattle.constraint_sys.specs.declared.unknown.Unknown.{Unknown}
use Rattle.constraint_sys.specs.declared.unknown.Unknown.TheVariants.{Point}
use Rattle.constraint_sys.specs.declared.value.Value.{Value}
use Rattle.destabilise.specs.Seeds.{HoldsUnmatched, IsSeed, IsUnreached, LacksMatch, locks_at}
use Rattle.destabilise.proofs.seeds.is_seed.Goals as goal

pub returns-then-knows_unmatched : goal.returns-then-knows_unmatched
returns-then-knows_unmatched c =
    let m = c.args.matching.now in
    let t = c.args.table.now in
    let p = Point c.in-Point.func c.in-Point.key c.in-Point.node in
    let seen : HoldsUnmatched c.as_slice-in-Point-2.result.now (locks_at (value_at t p)) = subst (λ (o : Option Value). HoldsUnmatched c.as_slice-in-Point-2.result.now (locks_at o)) (c.get.ensures ∙ ap (λ (u : Unknown). value_at t u) c.in-Point.is) (c.knows_unmatched.ensures.0 c.if-knows_unmatched.true) in
    let known : HoldsUnmatched m.mutexes (locks_at (value_at t p)) = subst (λ (ms : List (Option ℕ)). HoldsUnmatched ms (locks_at (value_at t p))) c.as_slice-in-Point-2.ensures seen in
    subst (λ (u : Unknown). IsTrue true ↔ IsSeed m c.args.from_main.now t u) (sym c.in-Point.is) (λ yes. inr (inr (inl known)), λ one. refl)

pub returns-else-knows_unmatched : goal.returns-else-knows_unmatched
returns-else-knows_unmatched c =
    let m = c.args.matching.now in
    let t = c.args.table.now in
    let from = c.args.from_main.now in
    let p = Point c.in-Point.func c.in-Point.key c.in-Point.node in
    let at : option_copied c.get.result ≡ value_at t p = c.get.ensures ∙ ap (λ (u : Unknown). value_at t u) c.in-Point.is in
    subst (λ (u : Unknown). IsTrue c.is_unreached.result ↔ IsSeed m from t u) (sym c.in-Point.is) (
      λ yes. inr (inr (inr (subst (λ (u : Unknown). IsUnreached from u) c.in-Point.is (c.is_unreached.ensures.0 yes)))),
      λ one. elim one [
        | inl lacks ↦ absurd (true≢false (sym (c.lacks_match.ensures.1 (subst (λ (ms : List (Option ℕ)). LacksMatch ms c.in-Point.func) (sym c.as_slice.ensures) lacks)) ∙ c.if-lacks_match.false))
        | inr others ↦ elim others [
          | inl context ↦ absurd (true≢false (sym (c.holds_unmatched.ensures.1 (subst (λ (ms : List (Option ℕ)). HoldsUnmatched ms c.in-Point.key.locks) (sym c.as_slice-in-Point.ensures) context)) ∙ c.if-holds_unmatched.false))
          | inr more ↦ elim more [
            | inl state ↦ absurd (true≢false (sym (c.knows_unmatched.ensures.1 (subst (λ (ms : List (Option ℕ)). HoldsUnmatched ms (locks_at (option_copied c.get.result))) (sym c.as_slice-in-Point-2.ensures) (subst (λ (o : Option Value). HoldsUnmatched m.mutexes (locks_at o)) (sym at) state))) ∙ c.if-knows_unmatched.false))
            | inr unreached ↦ c.is_unreached.ensures.1 (subst (λ (u : Unknown). IsUnreached from u) (sym c.in-Point.is) unreached)
          ]
        ]
      ],
    )
