use Rattle.std.proofs.Common.{◌≡◌, ◌↔◌, Bool, false, List, sym, subst, ap, true≢false, ◌∙◌, refl}
use Rattle.std.specs.Prelude.{Contains, IsTrue}
use Rattle.constraint_sys.specs.Contribution.{outcome_of}
use Rattle.constraint_sys.specs.Reading.{HasCommon}
use Rattle.constraint_sys.specs.declared.unknown.Unknown.{Unknown}
use Rattle.constraint_sys.specs.declared.unknown.Unknown.TheVariants.{Point}
use Rattle.constraint_sys.specs.declared.value.Outcome.{Outcome}
use Rattle.constraint_sys.proofs.ReadBy.{common_rest, common_start, edge_may_read}
use Rattle.constraint_sys.proofs.readers.edge_reads_any.Goals as goal

lacks : (b : Bool) (A : Type 0) → IsTrue b ↔ A → b ≡ false → A → ⊥
lacks b A tells off a = true≢false (sym (tells.1 a) ∙ off)

pub returns-then-has_unknown : goal.returns-then-has_unknown
returns-then-has_unknown c = (
  λ _. common_start c.args.rose.now (Point c.args.func c.args.key.now c.args.edge.now.from) (outcome_of c.args.program.now c.args.table.now c.args.func c.args.key.now c.args.edge.now).reads
      (subst (λ (u : Unknown). Contains c.args.rose.now u) c.point.ensures (c.has_unknown.ensures.0 c.if-has_unknown.true)),
  λ _. refl,
)

pub returns-then-not-may_read_any : goal.returns-then-not-may_read_any
returns-then-not-may_read_any c =
    let rose = c.args.rose.now in
    let start = Point c.args.func c.args.key.now c.args.edge.now.from in
    let reads = (outcome_of c.args.program.now c.args.table.now c.args.func c.args.key.now c.args.edge.now).reads in
    let off : Contains rose start → ⊥ = λ one. lacks c.has_unknown.result (Contains rose c.point.result) c.has_unknown.ensures c.if-has_unknown.false (subst (λ (u : Unknown). Contains rose u) (sym c.point.ensures) one) in (
      λ no. absurd (true≢false (sym no)),
      λ both.
          (let rest = (common_rest rose start reads off).0 both in
          absurd (lacks c.may_read_any.result _ c.may_read_any.ensures c.if-not-may_read_any.true (rest.0, rest.1, edge_may_read c.args.program.now c.args.table.now c.args.func c.args.key.now c.args.edge.now rest.0 rest.2))),
    )

pub returns : goal.returns
returns c =
    let rose = c.args.rose.now in
    let start = Point c.args.func c.args.key.now c.args.edge.now.from in
    let o = outcome_of c.args.program.now c.args.table.now c.args.func c.args.key.now c.args.edge.now in
    let off : Contains rose start → ⊥ = λ one. lacks c.has_unknown.result (Contains rose c.point.result) c.has_unknown.ensures c.if-has_unknown.false (subst (λ (u : Unknown). Contains rose u) (sym c.point.ensures) one) in
    let reads : c.as_slice.result.now ≡ o.reads = c.as_slice.ensures ∙ ap (λ (x : Outcome). x.reads) c.in_ok-outcome.ensures in
    let rest = common_rest rose start o.reads off in
    let found : IsTrue c.has_common.result ↔ HasCommon rose o.reads = subst (λ (l : List Unknown). IsTrue c.has_common.result ↔ HasCommon rose l) reads c.has_common.ensures in
    (λ yes. rest.1 (found.0 yes), λ both. found.1 (rest.0 both))
