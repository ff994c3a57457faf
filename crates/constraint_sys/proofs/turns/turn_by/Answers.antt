use Rattle.std.proofs.Common.{◌≡◌, ◌≢◌, ◌↔◌, ◌⊎◌, ℤ, List, sym, ap, ◌∙◌, subst}
use Rattle.std.specs.Prelude.{All, Contains}
use Rattle.state_dom.specs.ThresholdValues.{AreThresholdsOf}
use Rattle.constraint_sys.specs.Arising.{CanRaise, IsLike, arisen_in_each}
use Rattle.constraint_sys.specs.Table.{TableValue}
use Rattle.constraint_sys.specs.Turn.{IsBrought, raised_in_each, raises_of}
use Rattle.constraint_sys.specs.declared.value.Effect.{Effect}
use Rattle.constraint_sys.proofs.Arisen.{IsLike-arisen, raised_arisen}
use Rattle.constraint_sys.proofs.Made.{Turns-made}
use Rattle.constraint_sys.proofs.Turning.{CanRaise-turn}
use Rattle.constraint_sys.proofs.turns.turn_by.Goals as goal

pub begin-requires-clause-fit : goal.begin-requires-clause-fit
begin-requires-clause-fit c =
    let p = c.args.program.now in
    let t = c.args.table.now in
    let u = c.args.u.now in
    let is : c.as_slice-list.result.now ≡ raises_of p t u = c.as_slice-list.ensures ∙ c.requires.plan in
    subst (λ (es : List Effect). All (CanRaise p t) es) (sym is) (CanRaise-turn p c.requires.formed t c.requires.shaped u c.requires.there)

pub raise_each-requires : goal.raise_each-requires
raise_each-requires c =
    let p = c.args.program.now in
    let t = c.args.table.now in
    let u = c.args.u.now in
    let es = c.as_slice-list.result.now in
    let is : es ≡ raises_of p t u = c.as_slice-list.ensures ∙ c.requires.plan in
    let can : All (CanRaise p t) es = subst (λ (l : List Effect). All (CanRaise p t) l) (sym is) (CanRaise-turn p c.requires.formed t c.requires.shaped u c.requires.there) in
    record { alike = subst (λ (s : TableValue). All (IsLike s) es) (sym c.in_ok-begin.ensures.table) (IsLike-arisen p t es c.requires.shaped can) }

pub returns-clause-turned : goal.returns-clause-turned
returns-clause-turned c =
    let p = c.args.program.now in
    let t = c.args.table.now in
    let u = c.args.u.now in
    let es = c.as_slice-list.result.now in
    let dirty = c.args.dirty.now in
    let awake = c.args.awake.items in
    let is : es ≡ raises_of p t u = c.as_slice-list.ensures ∙ c.requires.plan in
    let arisen : c.begin.new.table ≡ arisen_in_each p t (raises_of p t u) = c.in_ok-begin.ensures.table ∙ ap (arisen_in_each p t) is in
    let final : c.raise_each.new.table ≡ raised_in_each p t (raises_of p t u) =
    c.raise_each.ensures p (subst (λ (marks : List ℤ). AreThresholdsOf p marks) (sym c.thresholds.ensures) c.requires.system.thresholds)
    ∙ (λ i. raised_in_each p (arisen i) (is i))
    ∙ raised_arisen p t (raises_of p t u) in
    Turns-made p t dirty c.begin.new.dirty awake u c.raise_each.new.table c.requires.is_dirty final
    (λ q. subst (λ (s : TableValue). Contains c.begin.new.dirty q ↔ (((Contains dirty q) × (q ≢ u)) ⊎ (IsBrought t s q ⊎ Contains awake q))) arisen (c.in_ok-begin.ensures.dirty q))
    c.requires.readers
    c.requires.all_readers
    c.in_ok-begin.ensures.ascending
